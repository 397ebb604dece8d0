use Rattle.std.proofs.Common.{◌≤◌, ap, ◌∙◌, sym, length, arith, refl}
use Rattle.winnow_stream.specs.Source.{units}
use Rattle.winnow_stream.specs.Units.{width-units}
use Rattle.winnow_script_feed.specs.Inputs.{byte_input, byte_reading, joined}
use Rattle.winnow_script_feed.specs.Feeding.{FeedState}
use Rattle.winnow_script_feed.proofs.lemmas.KeepingLemmas.{IsRunOver-loose}
use Rattle.winnow_script_feed.proofs.lemmas.FeedLemmas.{finished}
use Rattle.winnow_script_feed.proofs.feeds.ByteFeed.end.Goals as goal

pub advance-requires-clause-ready : goal.advance-requires-clause-ready
advance-requires-clause-ready c =
    let i = c.self.invariant in
    let is = sym c.complete.ensures.same ∙ c.new-rest.ensures.input in
    record {
      stands = rw (c.complete.ensures.complete, is, c.as_slice.ensures.value) (units i.input, IsRunOver-loose byte_reading (units i.input) (units c.self.inside.kept.items) c.self.inside.run i.stands.stands);
      fits = rw is (omega (arith, width-units c.as_slice.result.now, ap length c.as_slice.ensures.value, i.fits));
      room = i.room;
    }

pub returns : goal.returns
returns c = λ pieces h.
    let old : FeedState = record { run = c.self.inside.run; kept = c.self.inside.kept.items } in
    let before = rw (← c.self.view_is) at h in
    let is = sym c.complete.ensures.same ∙ c.new-rest.ensures.input in
    let a = c.advance.ensures in
    let loose = IsRunOver-loose byte_reading (units (joined pieces)) (units c.self.inside.kept.items) c.self.inside.run before.stands.stands in
    let after = (rw (c.complete.ensures.complete, is, c.as_slice.ensures.value) at a.stands) (units (joined pieces)) loose in
    let done : length c.advance.new.progress.script.now ≤ length c.advance.new.progress.told.items = omega (arith, a.done c.complete.ensures.complete, c.advance.new.progress.told.ok.0) in
    rw (← c.self.view_is) (finished byte_input old pieces (units c.self.inside.kept.items) c.advance.new.progress before after.0 a.on.adds a.on.script done _ refl refl)
