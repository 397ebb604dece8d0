-- A script of one `Take`: its answer is the slice of that width of the list.
use Rattle.std.proofs.Common.{◌≡◌, ℕ, ◌+◌, ◌-◌, Bool, true, List, [], ◌∷◌, Option, Some, None, refl, ap, subst, arith}
use Rattle.std.specs.Prelude.{IsTrue, IfOk, Result, Ok, Err, is_some}
use Rattle.std.specs.Global.{Vec}
use Rattle.winnow_stream.specs.declared.needed.Needed.{Needed}
use Rattle.winnow_stream.specs.Source.{Source}
use Rattle.winnow_stream.specs.Front.{is_offset, front_count, back}
use Rattle.winnow_script_run.specs.declared.script.Answer.{Answer}
use Rattle.winnow_script_run.specs.declared.script.Answer.TheVariants as answer
use Rattle.winnow_script_run.specs.declared.script.Step.TheVariants as step
use Rattle.winnow_script_run.specs.Script.{StandsFor, slice_answer, AreAnswers}

-- nothing is before what follows the front of width 0
back-zero : {T : Type 0} (all : Source T) → back all 0 ≡ all
back-zero [] = refl
back-zero (x ∷ xs) = refl

module _ {T S : Type 0} (is_slice : S → Source T → ℕ → Type 0) (all : Source T) (n : ℕ) where
  -- the answer that stands for a `Take` of a valid offset
  one-slice : (count : Option ℕ) (given : Answer T S (Vec (ℕ × T)) Needed) → is_some count ≡ true
      → StandsFor is_slice all (slice_answer 0 n count) given
      → (s : S) × (given ≡ answer.Slice s) × is_slice s all n
  one-slice None given some h = absurd (cc)
  one-slice (Some k) given some h = (
    h.0,
    h.1,
    let e : (0 + n) - 0 ≡ n = omega arith in subst (λ m. is_slice h.0 all m) e (subst (λ r. is_slice h.0 r ((0 + n) - 0)) (back-zero all) h.2),
  )

  -- the answers of a script of one `Take` of a valid offset
  pub one-take : {C : Type 0} (may_answer : C → T → Bool → Type 0) (counts_shortage : Bool)
      (out : List (Answer T S (Vec (ℕ × T)) Needed)) → IsTrue (is_offset all n)
      → AreAnswers may_answer is_slice counts_shortage all (step.Take n ∷ []) out
      → (s : S) × (out ≡ answer.Slice s ∷ []) × is_slice s all n
  one-take may_answer counts_shortage [] offset h = absurd h
  one-take may_answer counts_shortage (g ∷ []) offset h =
      let one = one-slice (front_count all n) g offset (h.0 (λ c t. true) tt) in
      (one.0, ap (λ x. x ∷ []) one.1, one.2)
  one-take may_answer counts_shortage (g ∷ (more ∷ gs)) offset h = absurd (h.1)

-- what holds of the slice of a front holds of the answers of a script that takes that front
pub taken-ok : {C T S E : Type 0}
    (result : Result (Vec (Answer T S (Vec (ℕ × T)) Needed)) E)
    (P : Vec (Answer T S (Vec (ℕ × T)) Needed) → Type 0) (may_answer : C → T → Bool → Type 0)
    (is_slice : S → Source T → ℕ → Type 0) (counts_shortage : Bool) (all : Source T) (n : ℕ)
    → IsTrue (is_offset all n)
    → IfOk result (λ out. AreAnswers may_answer is_slice counts_shortage all (step.Take n ∷ []) out.items)
    → ((out : Vec (Answer T S (Vec (ℕ × T)) Needed)) (s : S) → out.items ≡ answer.Slice s ∷ []
    → is_slice s all n → P out) → IfOk result P
taken-ok (Ok out) P may_answer is_slice counts_shortage all n offset h on =
    let one = one-take is_slice all n may_answer counts_shortage out.items offset h in
    on out one.0 one.1 one.2
taken-ok (Err e) P may_answer is_slice counts_shortage all n offset h on = tt
