use Rattle.std.proofs.Common.{Bool, true, false, cond, ℕ, ◌+◌, ◌-◌, ◌≡◌, ◌≤◌, ◌<◌, ◌^◌, sym, ap, ◌∙◌, arith, length, refl}
use Rattle.std.proofs.Math.Nat.{le_refl}
use Rattle.std.proofs.lemmas.Bool.{true≢false, false≢true, lt-ltb, le-ltb}
use Rattle.std.proofs.lemmas.Option.{slice_get_within}
use Rattle.winnow_script_feed.specs.ToldAnswers.{capped}
use Rattle.winnow_script_feed.proofs.lemmas.JoinedInputLemmas.{AddsAnswers-none, AddsMarks-none, GoesOn-more}
use Rattle.winnow_script_feed.proofs.progress.advance.Goals as goal

-- Facts about numbers alone, so that no goal below has to read all that is known there. There are
-- `o` answers at first, `a` before the step and `b` after it; a vector's own length is `m` or `n`;
-- the script has `s` steps.
smaller : (s s' n m i : ℕ) → s' ≡ s → m ≡ n + 1 → i ≡ n → i < s → s' - m < s - n
smaller s s' n m i same one at left = omega arith

le-lengths : (m n o a : ℕ) → m ≤ n → m ≡ o → n ≡ a → o ≤ a
le-lengths m n o a l e f = omega arith

one-more : (m n a b : ℕ) → m ≡ n + 1 → n ≡ a → m ≡ b → b ≡ a + 1
one-more m n a b one e f = omega arith

no-more : (m n a b : ℕ) → m ≡ n → n ≡ a → m ≡ b → b ≡ a
no-more m n a b same e f = omega arith

lt-from : (i n s : ℕ) → i ≡ n → i < s → n < s
lt-from i n s at left = omega arith

le-from : (i n s : ℕ) → i ≡ n → s ≤ i → s ≤ n
le-from i n s at over = omega arith

left-after : (i n a b s s' : ℕ) → i ≡ n → n ≡ a → i < s → b ≡ a → s' ≡ s → b < s'
left-after i n a b s s' at e left same script = omega arith

over-after : (i n a s : ℕ) → i ≡ n → n ≡ a → s ≤ i → s ≤ a
over-after i n a s at e over = omega arith

past : (i n a s : ℕ) → i ≡ n → n ≡ a → s ≤ i → a < s → ⊥
past i n a s at e over left = omega arith

-- an answer that came counts one more, and one that did not counts none
counted-one : (m n : ℕ) (r : Bool) → m ≡ n + cond r 1 0 → r ≡ true → m ≡ n + 1
counted-one m n true e h = e
counted-one m n false e h = absurd (false≢true h)

counted-none : (m n : ℕ) (r : Bool) → m ≡ n + cond r 1 0 → r ≡ false → m ≡ n
counted-none m n true e h = absurd (true≢false h)
counted-none m n false e h = omega arith

-- the count of attempts, after no step, one more step, a waiting step, and all steps
tried-none : (u o : ℕ) → u < 2 ^ 64 → u ≡ capped (u + (o - o))
tried-none u o fits = omega arith

tried-one : (u v w o a b : ℕ) → v ≡ capped (u + (a - o)) → w ≡ capped (v + 1) → o ≤ a → b ≡ a + 1
    → w ≡ capped (u + (b - o))
tried-one u v w o a b before step l one = omega arith

tried-last : (u v w o a b : ℕ) → v ≡ capped (u + (a - o)) → w ≡ capped (v + 1) → b ≡ a
    → w ≡ capped (u + (b - o) + 1)
tried-last u v w o a b before step same = omega arith

tried-all : (v n : ℕ) → v ≡ capped n → v ≡ capped (n + 0)
tried-all v n e = omega arith

pub loop-progress-init : goal.loop-progress-init
loop-progress-init g c = record {
  stands = λ all h. h;
  on = record {
    script = refl;
    base = refl;
    pieces = refl;
    adds = AddsAnswers-none _ _ _ refl;
    makes = AddsMarks-none _ _ refl;
    still = λ same. (refl, refl);
    told = le_refl _;
    room = c.requires.ready.room;
  };
  tried = tried-none _ _ c.requires.ready.room.counted;
}

pub attempt_next-requires-clause-valid : goal.attempt_next-requires-clause-valid
attempt_next-requires-clause-valid g c = c.requires.valid

pub attempt_next-requires-clause-left : goal.attempt_next-requires-clause-left
attempt_next-requires-clause-left g c = lt-from _ _ _ c.len.ensures c.loop-progress-test.true

pub attempt_next-requires-clause-ready : goal.attempt_next-requires-clause-ready
attempt_next-requires-clause-ready g c =
    let i = c.loop-progress.invariant in
    let r = c.requires.ready in
    record {
      stands = (r.stands.0, i.stands _ r.stands.1);
      fits = rw i.on.base r.fits;
      room = i.on.room;
    }

pub loop-progress-smaller : goal.loop-progress-smaller
loop-progress-smaller g c =
    let e = c.attempt_next.ensures in
    let count = counted-one _ _ _ e.count c.if-not-attempt_next.false in
    smaller _ _ _ _ _ (ap (λ s. length s.now) e.on.script) count c.len.ensures c.loop-progress-test.true

pub loop-progress-preserved : goal.loop-progress-preserved
loop-progress-preserved g c =
    let i = c.loop-progress.invariant in
    let e = c.attempt_next.ensures in
    let came = counted-one _ _ _ e.count c.if-not-attempt_next.false in
    let grew = one-more _ _ _ _ came c.loop-progress.progress.told.ok.0 c.attempt_next.new.progress.told.ok.0 in
    let l = le-lengths _ _ _ _ i.on.told c.args.progress.now.told.ok.0 c.loop-progress.progress.told.ok.0 in
    record {
      stands = λ all h. e.stands all (i.stands all h);
      on = GoesOn-more _ _ _ _ i.on e.on l (omega (arith, grew));
      tried = tried-one _ _ _ _ _ _ i.tried e.tried l grew;
    }

-- ---- a step waits

pub returns-then-not-attempt_next-clause-stands : goal.returns-then-not-attempt_next-clause-stands
returns-then-not-attempt_next-clause-stands g c = λ all h.
    let before = c.loop-progress.invariant.stands all h in
    (c.attempt_next.ensures.stands all before, (c.attempt_next.ensures.waits c.if-not-attempt_next.true).1 all before)

pub returns-then-not-attempt_next-clause-done : goal.returns-then-not-attempt_next-clause-done
returns-then-not-attempt_next-clause-done g c = λ none. absurd (false≢true (sym none ∙ (c.attempt_next.ensures.waits c.if-not-attempt_next.true).0))

pub returns-then-not-attempt_next-clause-on : goal.returns-then-not-attempt_next-clause-on
returns-then-not-attempt_next-clause-on g c =
    let i = c.loop-progress.invariant in
    let e = c.attempt_next.ensures in
    let same = no-more _ _ _ _ (counted-none _ _ _ e.count c.if-not-attempt_next.true) c.loop-progress.progress.told.ok.0 c.attempt_next.new.progress.told.ok.0 in
    let l = le-lengths _ _ _ _ i.on.told c.args.progress.now.told.ok.0 c.loop-progress.progress.told.ok.0 in
    GoesOn-more _ _ _ _ i.on e.on l (omega (arith, same))

pub returns-then-not-attempt_next-clause-tried : goal.returns-then-not-attempt_next-clause-tried
returns-then-not-attempt_next-clause-tried g c =
    let i = c.loop-progress.invariant in
    let e = c.attempt_next.ensures in
    let same = no-more _ _ _ _ (counted-none _ _ _ e.count c.if-not-attempt_next.true) c.loop-progress.progress.told.ok.0 c.attempt_next.new.progress.told.ok.0 in
    let left = left-after _ _ _ _ _ _ c.len.ensures c.loop-progress.progress.told.ok.0 c.loop-progress-test.true same (ap (λ s. length s.now) e.on.script) in
    rw (lt-ltb _ _ left) (tried-last _ _ _ _ _ _ i.tried e.tried same)

-- ---- no step remains

pub returns-clause-stands : goal.returns-clause-stands
returns-clause-stands g c = λ all h. (
  c.loop-progress.invariant.stands all h,
  λ s is. absurd (past _ _ _ _ c.len.ensures c.loop-progress.progress.told.ok.0 c.loop-progress-test.false (slice_get_within c.loop-progress.progress.script.now (length c.loop-progress.progress.told.items) s is)),
)

pub returns-clause-done : goal.returns-clause-done
returns-clause-done g c = λ _. le-from _ _ _ c.len.ensures c.loop-progress-test.false

pub returns-clause-on : goal.returns-clause-on
returns-clause-on g c = c.loop-progress.invariant.on

pub returns-clause-tried : goal.returns-clause-tried
returns-clause-tried g c =
    let over = over-after _ _ _ _ c.len.ensures c.loop-progress.progress.told.ok.0 c.loop-progress-test.false in
    rw (le-ltb _ _ over) (tried-all _ _ c.loop-progress.invariant.tried)
