use Rattle.std.proofs.Common.{◌+◌, ◌++◌, Some, map, ap, ◌∙◌, sym, arith, refl}
use Rattle.winnow_stream.specs.Source.{width}
use Rattle.winnow_script_attempt.specs.Looks.{under}
use Rattle.winnow_script_feed.specs.JoinedInput.{steps_left}
use Rattle.winnow_script_feed.specs.Reach.{needed_place}
use Rattle.winnow_script_feed.proofs.lemmas.JoinedInputLemmas.{IsRunOver-same}
use Rattle.winnow_script_feed.proofs.lemmas.KeepingLemmas.{least-from, unneeded-offset, IsRunOver-needed, least-still}
use Rattle.winnow_script_feed.proofs.lemmas.NamingLemmas.{KnowsMarks-on}
use Rattle.winnow_script_feed.proofs.reach.take_in.Goals as goal

pub advance-requires-clause-ready : goal.advance-requires-clause-ready
advance-requires-clause-ready g c =
    let r = c.requires.ready in
    record {
      stands = (r.stands.0, rw c.requires.more (IsRunOver-same _ _ _ _ _ r.stands.1 _ refl refl refl refl refl refl));
      fits = r.fits;
      room = record { told = r.room.told; marks = r.room.marks; made = r.room.made; counted = r.room.counted };
    }

pub place_needed-least-requires-clause-least : goal.place_needed-least-requires-clause-least
place_needed-least-requires-clause-least g c = λ same.
    let a = c.advance.ensures.on in
    let told = c.args.progress.now.told.ok.0 in
    least-still c.args.progress.now c.advance.new.progress _ (c.requires.least _) a.script a.base a.still (omega (arith, same, c.len-before.ensures, told))

pub place_needed-least-requires-clause-knows : goal.place_needed-least-requires-clause-knows
place_needed-least-requires-clause-knows g c =
    let on = c.advance.ensures.on in
    let told = c.args.progress.now.told.ok.0 in
    let later = c.advance.new.progress.told.ok.0 in
    KnowsMarks-on _ _ _ _ c.requires.knows _ _ _ on.makes.more (ap (λ s. s.now) on.script) on.makes.marks (omega (arith, on.told, told, later))

pub overflow_sub-unneeded : goal.overflow_sub-unneeded
overflow_sub-unneeded g c =
    let h = c.requires.ready.stands.1 in
    let after = c.advance.ensures.stands c.requires.ready.stands.0 (rw c.requires.more (IsRunOver-same _ _ _ _ _ h _ refl refl refl refl refl refl)) in
    least-from _ _ _ _ (rw c.requires.more at after.0) _ _ (ap (λ n. c.advance.new.progress.base + n) c.eof_offset.ensures) c.place_needed-least.ensures.least

pub returns-clause-takes : goal.returns-clause-takes
returns-clause-takes g c =
    let start = c.requires.ready.stands in
    let end = ap (λ n. c.advance.new.progress.base + n) c.eof_offset.ensures in
    let least = c.place_needed-least.ensures.least in
    let on = c.advance.ensures.on in
    let after = c.advance.ensures.stands start.0 (rw c.requires.more (IsRunOver-same _ _ _ _ _ start.1 _ refl refl refl refl refl refl)) in
    let low = least-from _ _ _ _ (rw c.requires.more at after.0) _ _ end least in
    record {
      stands = λ all h.
          let then = c.advance.ensures.stands all (rw c.requires.more (IsRunOver-same _ _ _ _ _ h _ refl refl refl refl refl refl)) in
          (IsRunOver-needed _ _ _ _ (rw c.requires.more at then.0) _ _ end least _ refl refl refl refl refl refl, then.1);
      offset = unneeded-offset _ _ _ _ (rw c.requires.more at after.0) _ _ end least;
      base = omega (arith, low, on.base);
      least = least ∙ ap (λ n. needed_place n c.advance.new.progress.place c.advance.new.progress.marks.items (steps_left c.advance.new.progress)) (end ∙ ap (λ b. b + width (g.S.Stream.remaining c.args.kept)) on.base);
    }

pub returns-clause-piece : goal.returns-clause-piece
returns-clause-piece g c =
    let on = c.advance.ensures.on in
    record {
      script = on.script;
      pieces = on.pieces ∙ c.saturating_add-progress.ensures;
      adds = record { more = on.adds.more; told = on.adds.told ∙ ap (λ n. c.args.progress.now.told.items ++ map (under (Some n)) on.adds.more) (sym on.pieces) };
      tried = c.advance.ensures.tried;
      told = on.told;
      room = record { told = on.room.told; marks = on.room.marks; made = on.room.made; counted = on.room.counted };
    }
