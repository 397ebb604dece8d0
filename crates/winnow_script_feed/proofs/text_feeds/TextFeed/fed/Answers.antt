use Rattle.std.proofs.Common.{ap, arith}
use Rattle.winnow_script_feed.specs.Inputs.{text_input, joined}
use Rattle.winnow_script_feed.specs.Feeding.{bytes_fed}
use Rattle.winnow_script_feed.proofs.lemmas.InputLemmas.{texts-input}
use Rattle.winnow_script_feed.proofs.lemmas.FeedLemmas.{fed}
use Rattle.winnow_script_feed.proofs.text_feeds.TextFeed.fed.Goals as goal

pub returns-clause-fed : goal.returns-clause-fed
returns-clause-fed c = λ pieces h.
    let e = fed text_input texts-input (joined pieces) c.args.self.now h.stands in
    omega (arith, e, ap bytes_fed c.self.view_is, c.len.ensures, c.self.inside.kept.bytes.ok.0)
