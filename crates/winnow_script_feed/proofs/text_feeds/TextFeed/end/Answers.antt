use Rattle.std.proofs.Common.{◌≤◌, ap, ◌∙◌, sym, length, arith, refl}
use Rattle.std.specs.String.{string_bytes}
use Rattle.winnow_stream.specs.Text.{text_source}
use Rattle.winnow_stream.proofs.lemmas.TextLemmas.{width-text_source}
use Rattle.winnow_script_feed.specs.Inputs.{text_input, text_reading, joined}
use Rattle.winnow_script_feed.specs.Feeding.{FeedState}
use Rattle.winnow_script_feed.proofs.lemmas.KeepingLemmas.{IsRunOver-loose}
use Rattle.winnow_script_feed.proofs.lemmas.FeedLemmas.{finished}
use Rattle.winnow_script_feed.proofs.text_feeds.TextFeed.end.Goals as goal

pub advance-requires-clause-ready : goal.advance-requires-clause-ready
advance-requires-clause-ready c =
    let i = c.self.invariant in
    let is = sym c.complete.ensures.same ∙ c.new-rest.ensures.input in
    record {
      stands = rw (c.complete.ensures.complete, is, c.as_str.ensures.value) (text_source i.input, IsRunOver-loose text_reading (text_source i.input) (text_source (string_bytes c.self.inside.kept)) c.self.inside.run i.stands.stands);
      fits = rw is (omega (arith, width-text_source c.as_str.result.now c.as_str.utf8, ap length c.as_str.ensures.value, i.fits));
      room = i.room;
    }

pub returns : goal.returns
returns c = λ pieces h.
    let old : FeedState = record { run = c.self.inside.run; kept = (string_bytes c.self.inside.kept) } in
    let before = rw (← c.self.view_is) at h in
    let is = sym c.complete.ensures.same ∙ c.new-rest.ensures.input in
    let a = c.advance.ensures in
    let loose = IsRunOver-loose text_reading (text_source (joined pieces)) (text_source (string_bytes c.self.inside.kept)) c.self.inside.run before.stands.stands in
    let after = (rw (c.complete.ensures.complete, is, c.as_str.ensures.value) at a.stands) (text_source (joined pieces)) loose in
    let done : length c.advance.new.progress.script.now ≤ length c.advance.new.progress.told.items = omega (arith, a.done c.complete.ensures.complete, c.advance.new.progress.told.ok.0) in
    rw (← c.self.view_is) (finished text_input old pieces (text_source (string_bytes c.self.inside.kept)) c.advance.new.progress before after.0 a.on.adds a.on.script done _ refl refl)
