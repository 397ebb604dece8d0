use Rattle.std.proofs.Common.{◌≡◌, ap, ◌∙◌, length, arith}
use Rattle.winnow_script_feed.specs.Inputs.{byte_input}
use Rattle.winnow_script_feed.specs.Feeding.{FeedState}
use Rattle.winnow_script_feed.proofs.lemmas.InputLemmas.{bytes-input}
use Rattle.winnow_script_feed.proofs.lemmas.FeedLemmas.{Fits-held}
use Rattle.winnow_script_feed.proofs.feeds.ByteFeed.held.Goals as goal

pub returns : goal.returns
returns c = λ pieces h.
    let e : c.len.result ≡ length c.args.self.now.kept = omega (arith, c.len.ensures, c.self.inside.kept.ok.0, ap (λ (f : FeedState). length f.kept) c.self.view_is) in
    e ∙ Fits-held byte_input bytes-input c.args.self.now pieces h
