use Rattle.std.proofs.lemmas.Result.{IfOk-from_err}
use Rattle.std.proofs.Common.{◌≤◌, ◌+◌, ◌++◌, ap, ◌∙◌, length, sym, arith, refl}
use Rattle.std.proofs.lemmas.List.{length-append}
use Rattle.std.proofs.lemmas.Option.{slice_get_within}
use Rattle.winnow_stream.specs.Front.{back}
use Rattle.winnow_script_feed.specs.Inputs.{byte_input, joined}
use Rattle.winnow_script_feed.specs.Feeding.{FeedState, bytes_fed}
use Rattle.winnow_script_feed.proofs.lemmas.InputLemmas.{bytes-input}
use Rattle.winnow_script_feed.proofs.lemmas.FeedLemmas.{grow, least-anywhere, TookPiece, taken, taken-room, skips, Fits-fed, Fits-skipped, came-out}
use Rattle.winnow_stream.specs.Source.{units}
use Rattle.winnow_stream.specs.Units.{width-units}
use Rattle.winnow_script_feed.proofs.feeds.ByteFeed.feed.Goals as goal

pub take_in-unneeded-requires-clause-more : goal.take_in-unneeded-requires-clause-more
take_in-unneeded-requires-clause-more c = c.new.ensures.flag

pub take_in-unneeded-requires-clause-ready : goal.take_in-unneeded-requires-clause-ready
take_in-unneeded-requires-clause-ready c =
    let i = c.self.invariant in
    let old : FeedState = record { run = c.self.inside.run; kept = c.self.inside.kept.items } in
    let e = c.as_slice.ensures.value ∙ c.in_ok-extend_from_slice.ensures.items in
    record {
      stands = rw c.new.ensures.input (units (i.input ++ c.args.piece.now), grow byte_input bytes-input i.input c.args.piece.now c.as_slice.result.now old refl (c.as_slice.ensures.value ∙ c.in_ok-extend_from_slice.ensures.items) i.stands);
      fits = rw c.new.ensures.input (omega (arith, width-units c.as_slice.result.now, ap length e, length-append c.self.inside.kept.items c.args.piece.now, ap bytes_fed c.self.view_is, c.requires));
      room = i.room;
    }

pub take_in-unneeded-requires-clause-least : goal.take_in-unneeded-requires-clause-least
take_in-unneeded-requires-clause-least c =
    let old : FeedState = record { run = c.self.inside.run; kept = c.self.inside.kept.items } in
    least-anywhere byte_input bytes-input old c.self.invariant.stands.least (omega (arith, c.if-self-before.false, c.len-before.ensures, c.self.inside.run.told.ok.0))

pub take_in-unneeded-requires-clause-knows : goal.take_in-unneeded-requires-clause-knows
take_in-unneeded-requires-clause-knows c = c.self.invariant.knows

pub forget_bytes-requires : goal.forget_bytes-requires
forget_bytes-requires c = rw (← c.as_slice.ensures.value) (rw c.new.ensures.input at c.take_in-unneeded.ensures.takes.offset)

pub invariant_of-self-2 : goal.invariant_of-self-2
invariant_of-self-2 c =
    let i = c.self.invariant in
    let old : FeedState = record { run = c.self.inside.run; kept = c.self.inside.kept.items } in
    let new : FeedState = record { run = c.take_in-unneeded.new.progress; kept = c.forget_bytes.new.kept.items } in
    let t = c.take_in-unneeded.ensures in
    let is = c.new.ensures.input in
    let left = c.forget_bytes.ensures.source ∙ ap (λ x. back (units x) c.take_in-unneeded.result) (sym c.as_slice.ensures.value) in
    let took : TookPiece byte_input old new c.args.piece.now = record {
      xs = c.as_slice.result.now;
      unneeded = c.take_in-unneeded.result;
      is_piece = refl;
      is_kept = refl;
      joins = c.as_slice.ensures.value ∙ c.in_ok-extend_from_slice.ensures.items;
      left = left;
      takes = rw is at t.takes;
    } in
    record {
      input = i.input ++ c.args.piece.now;
      stands = (taken byte_input bytes-input old new c.args.piece.now took i.input i.stands).0;
      rests = λ _. (taken byte_input bytes-input old new c.args.piece.now took i.input i.stands).1;
      room = t.piece.room;
      fits = omega (arith, taken-room byte_input bytes-input old new c.args.piece.now took i.input i.stands, ap bytes_fed c.self.view_is, c.requires);
      knows = t.knows;
    }

pub returns-clause-fits : goal.returns-clause-fits
returns-clause-fits c = λ pieces h.
    let old : FeedState = record { run = c.self.inside.run; kept = c.self.inside.kept.items } in
    let new : FeedState = record { run = c.take_in-unneeded.new.progress; kept = c.forget_bytes.new.kept.items } in
    let before = rw (← c.self.view_is) at h in
    let t = c.take_in-unneeded.ensures in
    let is = c.new.ensures.input in
    let left = c.forget_bytes.ensures.source ∙ ap (λ x. back (units x) c.take_in-unneeded.result) (sym c.as_slice.ensures.value) in
    let took : TookPiece byte_input old new c.args.piece.now = record {
      xs = c.as_slice.result.now;
      unneeded = c.take_in-unneeded.result;
      is_piece = refl;
      is_kept = refl;
      joins = c.as_slice.ensures.value ∙ c.in_ok-extend_from_slice.ensures.items;
      left = left;
      takes = rw is at t.takes;
    } in
    let after = taken byte_input bytes-input old new c.args.piece.now took (joined pieces) before.stands in
    Fits-fed byte_input bytes-input old new pieces c.args.piece.now before refl t.piece.script after.0 after.1 t.piece.adds t.piece.pieces t.piece.tried

pub returns-clause-came : goal.returns-clause-came
returns-clause-came c = λ pieces h.
    let old : FeedState = record { run = c.self.inside.run; kept = c.self.inside.kept.items } in
    let new : FeedState = record { run = c.take_in-unneeded.new.progress; kept = c.forget_bytes.new.kept.items } in
    let before = rw (← c.self.view_is) at h in
    let t = c.take_in-unneeded.ensures in
    let told = c.take_in-unneeded.new.progress.told.ok.0 in
    rw (← c.self.view_is) (came-out byte_input bytes-input old new pieces c.args.piece.now _ before (returns-clause-fits c pieces h) t.piece.script (omega (arith, c.len.ensures, c.len-before.ensures, t.piece.told, c.self.inside.run.told.ok.0, told)))

pub returns-clause-grows : goal.returns-clause-grows
returns-clause-grows c =
    let i = c.self.invariant in
    let old : FeedState = record { run = c.self.inside.run; kept = c.self.inside.kept.items } in
    let new : FeedState = record { run = c.take_in-unneeded.new.progress; kept = c.forget_bytes.new.kept.items } in
    let t = c.take_in-unneeded.ensures in
    let is = c.new.ensures.input in
    let left = c.forget_bytes.ensures.source ∙ ap (λ x. back (units x) c.take_in-unneeded.result) (sym c.as_slice.ensures.value) in
    let took : TookPiece byte_input old new c.args.piece.now = record {
      xs = c.as_slice.result.now;
      unneeded = c.take_in-unneeded.result;
      is_piece = refl;
      is_kept = refl;
      joins = c.as_slice.ensures.value ∙ c.in_ok-extend_from_slice.ensures.items;
      left = left;
      takes = rw is at t.takes;
    } in
    taken-room byte_input bytes-input old new c.args.piece.now took i.input i.stands ∙ ap (λ f. bytes_fed f + length c.args.piece.now) c.self.view_is

pub invariant_of-self : goal.invariant_of-self
invariant_of-self c =
    let i = c.self.invariant in
    let old : FeedState = record { run = c.self.inside.run; kept = c.self.inside.kept.items } in
    let done : length c.self.inside.run.script.now ≤ length c.self.inside.run.told.items = omega (arith, c.if-self-before.true, c.len-before.ensures, c.self.inside.run.told.ok.0) in
    record {
      input = i.input ++ c.args.piece.now;
      stands = skips byte_input bytes-input old i.input c.args.piece.now _ refl i.stands done refl refl refl refl refl refl;
      rests = λ _ s e. absurd (omega (arith, slice_get_within c.self.inside.run.script.now (length c.self.inside.run.told.items) s e, done));
      room = record { told = i.room.told; marks = i.room.marks; made = i.room.made; counted = i.room.counted };
      fits = omega (arith, c.requires, ap bytes_fed c.self.view_is);
      knows = i.knows;
    }

pub returns-then-self-before-clause-fits : goal.returns-then-self-before-clause-fits
returns-then-self-before-clause-fits c = λ pieces h.
    let old : FeedState = record { run = c.self.inside.run; kept = c.self.inside.kept.items } in
    let done : length c.self.inside.run.script.now ≤ length c.self.inside.run.told.items = omega (arith, c.if-self-before.true, c.len-before.ensures, c.self.inside.run.told.ok.0) in
    let before = rw (← c.self.view_is) at h in
    Fits-skipped byte_input bytes-input old _ pieces c.args.piece.now before refl done refl refl (skips byte_input bytes-input old (joined pieces) c.args.piece.now _ refl before.stands done refl refl refl refl refl refl) c.saturating_add-self-inside.ensures refl

pub returns-then-self-before-clause-came : goal.returns-then-self-before-clause-came
returns-then-self-before-clause-came c = λ pieces h.
    let old : FeedState = record { run = c.self.inside.run; kept = c.self.inside.kept.items } in
    let before = rw (← c.self.view_is) at h in
    rw (← c.self.view_is) (came-out byte_input bytes-input old _ pieces c.args.piece.now 0 before (returns-then-self-before-clause-fits c pieces h) refl (omega arith))

-- if memory is refused, there is no value and nothing to promise of it
pub returns-in_err-extend_from_slice-clause-fits : goal.returns-in_err-extend_from_slice-clause-fits
returns-in_err-extend_from_slice-clause-fits c = IfOk-from_err _ _ c.from_residual.ensures.0

pub returns-in_err-extend_from_slice-clause-came : goal.returns-in_err-extend_from_slice-clause-came
returns-in_err-extend_from_slice-clause-came c = IfOk-from_err _ _ c.from_residual.ensures.0

pub returns-in_err-extend_from_slice-clause-grows : goal.returns-in_err-extend_from_slice-clause-grows
returns-in_err-extend_from_slice-clause-grows c = IfOk-from_err _ _ c.from_residual.ensures.0
