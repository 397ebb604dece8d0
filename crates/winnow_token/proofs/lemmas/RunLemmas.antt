-- The tokens that parsers of tokens take.
use Rattle.std.proofs.Common.{◌≡◌, ℕ, ◌<◌, Bool, true, false, [], ◌∷◌, ◌++◌, length, drop, take, subst, Option, Some, None, refl, ap, sym, ◌∙◌, arith}
use Rattle.std.specs.Prelude.{IfSome}
use Rattle.std.proofs.lemmas.Option.{none-some, same_Some}
use Rattle.winnow_stream.specs.Source.{Source, width, first_token, held_front, HasPositiveWidths}
use Rattle.winnow_stream.specs.Location.{location_behind}
use Rattle.winnow_stream.proofs.lemmas.HeldLemmas.{append-held_front, back-held_front, HoldsAll-held_front, next-held_front}
use Rattle.winnow_parser.specs.Outcome.{Ahead, Backtracks, Cuts, Outcome, Gives, Fails, Moves}
use Rattle.winnow_token.specs.TakeWhile.{TakesWhile}
use Rattle.winnow_token.specs.OneOf.{IsOneOf}
use Rattle.winnow_token.specs.Run.{IsRun}

-- ---- The tokens that a set holds, with no greatest count

module _ {S T : Type 0} (is_slice : S → Source T → ℕ → Type 0) (holds : T → Bool) {least : ℕ} {greatest : Option ℕ} (partial : Bool) (a b : Ahead T) (n : ℕ) (counts : (least ≡ n) × (greatest ≡ None)) where
  -- the same meaning, with the counts replaced by equal ones
  counted : (v : Outcome S T) → TakesWhile is_slice holds least greatest partial a v
      → TakesWhile is_slice holds n None partial a v
  counted v h =
      subst (λ l. TakesWhile is_slice holds l None partial a v) counts.0 (subst (λ g. TakesWhile is_slice holds least g partial a v) counts.1 h)

  -- the tokens that `TakesWhile` takes are a run
  pub held-run : (s : S) → HasPositiveWidths a.tokens
      → TakesWhile is_slice holds least greatest partial a (Gives s b) → IsRun holds n a b
  held-run s wide given =
      let h = counted (Gives s b) given in
      let held = held_front holds a.tokens in
      let rest : b.tokens ≡ drop (length held) a.tokens = ap (λ p. p.tokens) h.1 ∙ back-held_front holds a.tokens wide in
      record {
        over = record {
          taken = held;
          whole = sym (append-held_front holds a.tokens) ∙ ap (λ t. held ++ t) (sym rest);
          place = ap (λ p. p.location) h.1;
        };
        held = HoldsAll-held_front holds a.tokens;
        enough = h.2;
        ends = λ x e. next-held_front holds a.tokens x (ap first_token (sym rest) ∙ e);
      }

  -- where `TakesWhile` backtracks, fewer tokens are held than the least count
  pub held-few : TakesWhile is_slice holds least greatest partial a (Fails (Backtracks b))
      → length (held_front holds a.tokens) < n
  held-few h = (counted (Fails (Backtracks b)) h).1

  -- `TakesWhile` never cuts without a greatest count
  pub held-never-cuts : ¬ (TakesWhile is_slice holds least greatest partial a (Fails (Cuts b)))
  held-never-cuts h = let e = (counted (Fails (Cuts b)) h).1 in cc

-- where the longest held front is empty, the first token is not held
pub held-none : {T : Type 0} (holds : T → Bool) (r : Source T) (x : T)
    → length (held_front holds r) < 1 → first_token r ≡ Some x → holds x ≡ false
held-none holds r x few e =
    let none : length (held_front holds r) ≡ 0 = omega (arith, few) in
    next-held_front holds r x (ap (λ n. first_token (drop n r)) none ∙ e)

-- ---- One token

module _ {T : Type 0} where
  -- the first token stands in front of the rest
  one-step : (r : Source T) (x : T) → first_token r ≡ Some x
      → (n : ℕ) × ((r ≡ (x, n) ∷ drop 1 r) × (width (take 1 r) ≡ width ((x, n) ∷ [])))
  one-step [] x e = absurd (none-some _ e)
  one-step (y ∷ ys) x e = (y.1, (ap (λ z. (z, y.1) ∷ ys) (same_Some _ _ e), refl))

  -- without a first token there is no token
  any-step : (r : Source T) → IfSome (first_token r) (λ x. true ≡ false) → r ≡ []
  any-step [] h = refl
  any-step (x ∷ xs) h = absurd (cc)

module _ {T : Type 0} (partial : Bool) (a b : Ahead T) where
  -- the token that `IsOneOf` takes is the first
  pub one_of-taken : (holds : T → Bool) (x : T) → IsOneOf holds partial a (Gives x b)
      → (n : ℕ) × ((m : Moves a b) × (m.taken ≡ (x, n) ∷ []))
  one_of-taken holds x h =
      let one = one-step a.tokens x h.0 in (
        one.0,
        (
          record {
            taken = (x, one.0) ∷ [];
            whole = one.1.0 ∙ ap (λ t. (x, one.0) ∷ t) (sym (ap (λ p. p.tokens) h.2));
            place = ap (λ p. p.location) h.2 ∙ ap (location_behind a.location) one.1.1;
          },
          refl,
        ),
      )

  -- a parser of any token backtracks only at the end
  pub any-none : IsOneOf (λ _. true) partial a (Fails (Backtracks b)) → a.tokens ≡ []
  any-none h = any-step a.tokens h.0
