use Rattle.std.proofs.Common.{◌≡◌, ℕ, ◌≤◌, ◌<◌, ◌+◌, ◌^◌, Bool, true, false, List, [], ◌∷◌, ◌++◌, cond, get_or, length, length-append, append-nil, vec_len, Some, sym, ap, ◌∙◌, arith, subst, refl}
use Rattle.std.specs.Prelude.{slice_get}
use Rattle.std.proofs.Math.Nat.{le_trans}
use Rattle.std.proofs.lemmas.Bool.{true≢false}
use Rattle.std.proofs.lemmas.Option.{same_Some}
use Rattle.winnow_stream.specs.Source.{width}
use Rattle.winnow_stream.specs.Front.{back}
use Rattle.winnow_script_attempt.specs.Looks.{piece_reading}
use Rattle.winnow_script_run.specs.Definite.{is_definite}
use Rattle.winnow_script_attempt.specs.Settled.{IsSettled}
use Rattle.winnow_script_attempt.specs.Looks.{look_of}
use Rattle.winnow_sets.specs.declared.char_set.CharSet.{CharSet}
use Rattle.winnow_script_run.specs.declared.search_steps.SearchStep.{SearchStep}
use Rattle.winnow_script_feed.specs.declared.progress.Progress.{Progress}
use Rattle.winnow_script_feed.specs.JoinedInput.{next_step}
use Rattle.winnow_script_feed.specs.ToldAnswers.{capped}
use Rattle.winnow_script_feed.proofs.lemmas.JoinedInputLemmas.{next-is, base-le, kept-offset, kept-rest, kept-room, rest-back, IsRunOver-waits, IsRunOver-answered, AddsAnswers-none, AddsMarks-none}
use Rattle.winnow_script_feed.proofs.progress.attempt_next.Goals as goal

-- facts about numbers alone, so that no goal below has to read all that is known there
lt-within : (a b c : ℕ) → a < b → b ≤ c → a < c
lt-within a b c l h = omega arith

le-lt-within : (a b c d : ℕ) → a ≤ b → b < c → c ≤ d → a < d
le-lt-within a b c d l m h = omega arith

-- equal lists have the same length
same-lengths : {X : Type 0} (m n : ℕ) (xs ys : List X) → m ≡ length xs → n ≡ length ys → xs ≡ ys
    → m ≡ n
same-lengths m n xs ys e f same = e ∙ ap length same ∙ sym f

one-longer : {X : Type 0} (m n : ℕ) (xs ys : List X) (x : X) → m ≡ length xs → n ≡ length ys
    → xs ≡ ys ++ x ∷ [] → m ≡ n + 1
one-longer m n xs ys x e f more = omega (arith, e, f, ap length more, length-append ys (x ∷ []))

not-longer : {X : Type 0} (xs ys : List X) (x : X) → length xs ≡ length ys → xs ≡ ys ++ x ∷ [] → ⊥
not-longer xs ys x same more = omega (arith, same, ap length more, length-append ys (x ∷ []))

le-from-same : (m n : ℕ) → m ≡ n → m ≤ n
le-from-same m n e = omega arith

le-from-more : (m n : ℕ) → n ≡ m + 1 → m ≤ n
le-from-more m n e = omega arith

plus-none : (m n : ℕ) → m ≡ n → m ≡ n + 0
plus-none m n e = omega arith

made-more : (a b m n : ℕ) → a ≤ m → b ≤ a + 1 → n ≡ m + 1 → b ≤ n
made-more a b m n made one more = omega arith

capped-fits : (t n : ℕ) → t ≡ capped n → t < 2 ^ 64
capped-fits t n e = omega arith

-- the marks after a step are those before it and one more, or none
marks-after : (old new : List ℕ) (at : ℕ) (makes : Bool) → new ≡ cond makes (old ++ at ∷ []) old
    → (more : List ℕ) × (new ≡ old ++ more)
marks-after old new at true e = (at ∷ [], e)
marks-after old new at false e = ([], e ∙ sym (append-nil old))

-- the step at the number of answers is the next step
next-here : {T L : Type 0} (p : Progress T L) (i : ℕ) (x : SearchStep CharSet L)
    → i ≡ vec_len p.told → vec_len p.told ≡ length p.told.items
    → vec_len p.told < length p.script.now → x ≡ get_or p.script.now i x → next_step p ≡ Some x
next-here p i x e ok left is = next-is p i x (e ∙ ok) (rw e left) is

pub overflow_sub-progress : goal.overflow_sub-progress
overflow_sub-progress g c =
    let next = next-here c.args.progress.now c.len.result c.index-script-len.result c.len.ensures c.args.progress.now.told.ok.0 c.requires.left c.index-script-len.is in
    base-le _ _ _ _ _ c.requires.ready.stands.1 _ next

pub next_slice-requires-clause-offset : goal.next_slice-requires-clause-offset
next_slice-requires-clause-offset g c =
    let next = next-here c.args.progress.now c.len.result c.index-script-len.result c.len.ensures c.args.progress.now.told.ok.0 c.requires.left c.index-script-len.is in
    kept-offset _ _ _ _ _ c.requires.ready.stands.1 _ next

pub attempt_step-requires-clause-room : goal.attempt_step-requires-clause-room
attempt_step-requires-clause-room g c =
    let next = next-here c.args.progress.now c.len.result c.index-script-len.result c.len.ensures c.args.progress.now.told.ok.0 c.requires.left c.index-script-len.is in
    let h = c.requires.ready.stands.1 in
    let e = ap width (c.next_slice.ensures.remains ∙ kept-rest _ _ _ _ _ h _ next) in
    omega (arith, e, kept-room _ _ _ _ _ h _ next, c.requires.ready.fits)

pub attempt_step-requires-clause-settled : goal.attempt_step-requires-clause-settled
attempt_step-requires-clause-settled g c =
    let next = next-here c.args.progress.now c.len.result c.index-script-len.result c.len.ensures c.args.progress.now.told.ok.0 c.requires.left c.index-script-len.is in
    let h = c.requires.ready.stands.1 in
    let k = piece_reading g.S.Token.AsChar.code g.S.Stream.counts_shortage g.S.Kept.write g.L.AsBStr.text_bytes in
    let e = c.next_slice.ensures.remains ∙ kept-rest _ _ _ _ _ h _ next in
    subst (λ r. IsSettled k c.index-script-len.result r c.args.progress.now.settled) (sym e) (h.settled _ next)

pub returns-in-Waits-clause-stands : goal.returns-in-Waits-clause-stands
returns-in-Waits-clause-stands g c = λ all h.
    let next = next-here c.args.progress.now c.len.result c.index-script-len.result c.len.ensures c.args.progress.now.told.ok.0 c.requires.left c.index-script-len.is in
    let k = piece_reading g.S.Token.AsChar.code g.S.Stream.counts_shortage g.S.Kept.write g.L.AsBStr.text_bytes in
    let e = c.next_slice.ensures.remains ∙ kept-rest _ _ _ _ _ h _ next in
    let settled = subst (λ r. IsSettled k c.index-script-len.result r c.in-Waits.settled) e c.in-Waits.ensures.attempts.2 in
    IsRunOver-waits _ _ _ _ _ h _ next _ refl c.in-Waits.ensures.attempts.3 refl refl refl settled

pub returns-in-Waits-clause-waits : goal.returns-in-Waits-clause-waits
returns-in-Waits-clause-waits g c = λ _. (
  sym (g.met.S.Kept.keeps_flag _ _ c.next_slice.ensures.kept) ∙ c.in-Waits.ensures.attempts.0,
  λ all h s is.
      let next = next-here c.args.progress.now c.len.result c.index-script-len.result c.len.ensures c.args.progress.now.told.ok.0 c.requires.left c.index-script-len.is in
      let k = piece_reading g.S.Token.AsChar.code g.S.Stream.counts_shortage g.S.Kept.write g.L.AsBStr.text_bytes in
      let step = c.index-script-len.result in
      let e = c.next_slice.ensures.remains ∙ kept-rest _ _ _ _ _ h _ next in
      let b = rest-back _ _ _ _ _ h _ next in
      let same = same_Some _ _ (sym next ∙ ap (λ t. slice_get c.args.progress.now.script.now (length t)) (sym c.in-Waits.ensures.attempts.3) ∙ is) in
      sym (ap (is_definite k step) (e ∙ sym b) ∙ ap (λ x. is_definite k x (back all c.args.progress.now.place)) same) ∙ c.in-Waits.ensures.attempts.1,
)

pub returns-in-Answered-clause-stands : goal.returns-in-Answered-clause-stands
returns-in-Answered-clause-stands g c = λ all h.
    let next = next-here c.args.progress.now c.len.result c.index-script-len.result c.len.ensures c.args.progress.now.told.ok.0 c.requires.left c.index-script-len.is in
    let k = piece_reading g.S.Token.AsChar.code g.S.Stream.counts_shortage g.S.Kept.write g.L.AsBStr.text_bytes in
    let step = c.index-script-len.result in
    let p = c.args.progress.now in
    let e = c.next_slice.ensures.remains ∙ kept-rest _ _ _ _ _ h _ next in
    let mark = g.met.S.Kept.keeps_flag _ _ c.next_slice.ensures.kept in
    let seen = look_of k p.place c.deref.result.now (g.S.Stream.remaining c.next_slice.new.self) step in
    let look = ap (λ ms. look_of k p.place ms (g.S.Stream.remaining c.next_slice.new.self) step) c.deref.ensures.value
    ∙ ap (λ r. look_of k p.place p.marks.items r step) e in
    let is = c.in-Answered.ensures.attempts.1 in
    let marks = c.push_mark.ensures.items ∙ ap (λ s. cond s.marks (p.marks.items ++ p.place ∷ []) p.marks.items) is in
    IsRunOver-answered _ _ _ _ _ h _ next _ c.args.piece seen (λ more. sym (ap (is_definite k step) e) ∙ c.in-Answered.ensures.attempts.0 (mark ∙ more)) look refl refl c.in-Answered.ensures.attempts.2 (ap (λ s. s.place) is) marks c.nothing-progress.ensures

pub bounds-script-len : goal.bounds-script-len
bounds-script-len g c = rw c.len.ensures c.requires.left

pub next_slice-requires-clause-valid : goal.next_slice-requires-clause-valid
next_slice-requires-clause-valid g c = c.requires.valid

pub attempt_step-requires-clause-valid : goal.attempt_step-requires-clause-valid
attempt_step-requires-clause-valid g c = c.next_slice.ensures.valid

pub attempt_step-requires-clause-told_room : goal.attempt_step-requires-clause-told_room
attempt_step-requires-clause-told_room g c = lt-within _ _ _ c.requires.left c.requires.ready.room.told

pub push_mark-requires : goal.push_mark-requires
push_mark-requires g c = le-lt-within _ _ _ _ c.requires.ready.room.made c.requires.left c.requires.ready.room.marks

pub returns-in-Waits-clause-tried : goal.returns-in-Waits-clause-tried
returns-in-Waits-clause-tried g c = c.saturating_add-progress.ensures

pub returns-in-Answered-clause-waits : goal.returns-in-Answered-clause-waits
returns-in-Answered-clause-waits g c = λ none. absurd (true≢false none)

pub returns-in-Answered-clause-tried : goal.returns-in-Answered-clause-tried
returns-in-Answered-clause-tried g c = c.saturating_add-progress.ensures

pub returns-in-Waits-clause-on : goal.returns-in-Waits-clause-on
returns-in-Waits-clause-on g c =
    let room = c.requires.ready.room in
    let same = same-lengths _ _ _ _ c.attempt_step.new.told.ok.0 c.args.progress.now.told.ok.0 c.in-Waits.ensures.attempts.3 in
    record {
      script = refl;
      base = refl;
      pieces = refl;
      adds = AddsAnswers-none _ _ _ c.in-Waits.ensures.attempts.3;
      makes = AddsMarks-none _ _ refl;
      still = λ _. (refl, refl);
      told = le-from-same _ _ (sym same);
      room = record {
        told = le_trans room.told c.in-Waits.ensures.capacity;
        marks = room.marks;
        made = le_trans room.made (le-from-same _ _ (sym same));
        counted = capped-fits _ _ c.saturating_add-progress.ensures;
      };
    }

pub returns-in-Waits-clause-count : goal.returns-in-Waits-clause-count
returns-in-Waits-clause-count g c = plus-none _ _ (same-lengths _ _ _ _ c.attempt_step.new.told.ok.0 c.args.progress.now.told.ok.0 c.in-Waits.ensures.attempts.3)

pub returns-in-Answered-clause-on : goal.returns-in-Answered-clause-on
returns-in-Answered-clause-on g c =
    let room = c.requires.ready.room in
    let k = piece_reading g.S.Token.AsChar.code g.S.Stream.counts_shortage g.S.Kept.write g.L.AsBStr.text_bytes in
    let seen = look_of k c.args.progress.now.place c.deref.result.now (g.S.Stream.remaining c.next_slice.new.self) c.index-script-len.result in
    let more = one-longer _ _ _ _ _ c.attempt_step.new.told.ok.0 c.args.progress.now.told.ok.0 c.in-Answered.ensures.attempts.2 in
    let marks = marks-after _ _ _ _ c.push_mark.ensures.items in
    record {
      script = refl;
      base = refl;
      pieces = refl;
      adds = record { more = seen.answer ∷ []; told = c.in-Answered.ensures.attempts.2 };
      makes = record { more = marks.0; marks = marks.1 };
      still = λ e. absurd (not-longer _ _ _ e c.in-Answered.ensures.attempts.2);
      told = le-from-more _ _ more;
      room = record {
        told = le_trans room.told c.in-Answered.ensures.capacity;
        marks = le_trans room.marks c.push_mark.ensures.capacity;
        made = made-more _ _ _ _ room.made c.push_mark.ensures.len more;
        counted = capped-fits _ _ c.saturating_add-progress.ensures;
      };
    }

pub returns-in-Answered-clause-count : goal.returns-in-Answered-clause-count
returns-in-Answered-clause-count g c = one-longer _ _ _ _ _ c.attempt_step.new.told.ok.0 c.args.progress.now.told.ok.0 c.in-Answered.ensures.attempts.2
