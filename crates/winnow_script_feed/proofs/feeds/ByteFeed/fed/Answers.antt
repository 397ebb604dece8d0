use Rattle.std.proofs.Common.{ap, arith}
use Rattle.winnow_script_feed.specs.Inputs.{byte_input, joined}
use Rattle.winnow_script_feed.specs.Feeding.{bytes_fed}
use Rattle.winnow_script_feed.proofs.lemmas.InputLemmas.{bytes-input}
use Rattle.winnow_script_feed.proofs.lemmas.FeedLemmas.{fed}
use Rattle.winnow_script_feed.proofs.feeds.ByteFeed.fed.Goals as goal

pub returns-clause-fed : goal.returns-clause-fed
returns-clause-fed c = λ pieces h.
    let e = fed byte_input bytes-input (joined pieces) c.args.self.now h.stands in
    omega (arith, e, ap bytes_fed c.self.view_is, c.len.ensures, c.self.inside.kept.ok.0)
