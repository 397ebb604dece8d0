use Rattle.std.proofs.Common.{◌≡◌, ap, ◌∙◌, length, arith}
use Rattle.winnow_script_feed.specs.Inputs.{text_input}
use Rattle.winnow_script_feed.specs.Feeding.{FeedState}
use Rattle.winnow_script_feed.proofs.lemmas.InputLemmas.{texts-input}
use Rattle.winnow_script_feed.proofs.lemmas.FeedLemmas.{Fits-held}
use Rattle.winnow_script_feed.proofs.text_feeds.TextFeed.held.Goals as goal

pub returns : goal.returns
returns c = λ pieces h.
    let e : c.len.result ≡ length c.args.self.now.kept = omega (arith, c.len.ensures, c.self.inside.kept.bytes.ok.0, ap (λ (f : FeedState). length f.kept) c.self.view_is) in
    e ∙ Fits-held text_input texts-input c.args.self.now pieces h
