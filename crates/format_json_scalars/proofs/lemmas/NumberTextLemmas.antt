-- Numbers that are those of their own texts.
use Rattle.std.proofs.Common.{◌≡◌, ℕ, Bool, true, false, List, Option, Some, None, ap, sym, ◌∙◌, subst, refl}
use Rattle.std.specs.Prelude.{ℤ}
use Rattle.std.specs.Bool.{Decides}
use Rattle.std.specs.Int.{w64}
use Rattle.std.specs.Option.{option_eq}
use Rattle.std.specs.Ordering.{int_eq}
use Rattle.std.proofs.lemmas.Bool.Decides.{Decides-int_eq}
use Rattle.std.proofs.lemmas.Option.{same_Some}
use Rattle.winnow_count.specs.Reading.{IsSomeExactly, ReadsSigned}
use Rattle.format_json_scalars.specs.Numbers.{IsNumber, Tells}
use Rattle.format_json_scalars.specs.Meanings.{IsWritten}
use Rattle.format_json_scalars.specs.declared.numbers.Number.{Number}

-- two values that are given exactly where a fact holds are the same
pub some-once : {V : Type 0} (R : V → Type 0) (o p : Option V) → IsSomeExactly R o
    → IsSomeExactly R p → o ≡ p
some-once R None None f g = refl
some-once R (Some v) p f g = sym ((g v).1 ((f v).0 refl))
some-once R None (Some v) f g = (f v).1 ((g v).0 refl)

-- a test that decides a fact tells it
tells-by : (r : Bool) (P : Type 0) → Decides r P → Tells r P
tells-by true P d = d.0 refl
tells-by false P d = λ p. cc (d.1 p)

-- the test of two integers that may be missing decides whether they are equal
decides-integers : (o p : Option ℤ) → Decides (option_eq int_eq o p) (o ≡ p)
decides-integers None None = (λ e. refl, λ e. refl)
decides-integers None (Some y) = (λ e. cc e, λ e. cc e)
decides-integers (Some x) None = (λ e. cc e, λ e. cc e)
decides-integers (Some x) (Some y) =
    let one = Decides-int_eq x y in (λ e. ap Some (one.0 e), λ e. one.1 (same_Some x y e))

-- where the text is a number, the test of the integer tells whether the number is that of its text
pub tells-written : (number : Number) (text : List ℕ) (integer : Option ℤ) (r : Bool)
    → text ≡ number.text.items → IsNumber text → IsSomeExactly (ReadsSigned w64 text) integer
    → r ≡ option_eq int_eq number.integer integer → Tells r (IsWritten number)
tells-written number text integer r same is some e =
    let exact = subst (λ l. IsSomeExactly (ReadsSigned w64 l) integer) same some in
    let test = decides-integers number.integer integer in
    tells-by r (IsWritten number) (
      λ yes. (subst IsNumber same is, (refl, subst (IsSomeExactly (ReadsSigned w64 number.text.items)) (sym (test.0 (sym e ∙ yes))) exact)),
      λ holds. e ∙ test.1 (some-once (ReadsSigned w64 number.text.items) number.integer integer holds.1.1 exact),
    )
