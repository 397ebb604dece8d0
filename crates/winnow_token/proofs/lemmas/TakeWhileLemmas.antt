-- The longest front of held tokens, found by its width or by counting.
use Rattle.std.specs.Prelude.{IsTrue, IfSome, nat_le, nat_lt, nat_eq, not, unwrap_or, is_some}
use Rattle.std.proofs.Common.{◌≡◌, ℕ, ◌≤◌, Bool, true, false, ◌&&◌, length, take, Option, Some, None, refl, ap, ap₂, sym, ◌∙◌, subst, arith, leb-true, zero-add, length-take}
use Rattle.std.proofs.lemmas.Bool.Decides.{nat_tests}
use Rattle.winnow_stream.specs.Source.{Source, width, HasPositiveWidths, held_front, first_offset}
use Rattle.winnow_stream.specs.Front.{is_offset, front, back}
use Rattle.winnow_stream.specs.Location.{location_behind}
use Rattle.winnow_stream.proofs.lemmas.FrontLemmas.{width-front, is_offset-whole, front_count-place, front-place}
use Rattle.winnow_stream.proofs.lemmas.HeldLemmas.{width-held_front, front-held_front}
use Rattle.winnow_parser.specs.Outcome.{Ahead, Gives, after}
use Rattle.winnow_token.specs.TakeWhile.{TakesWhile, held_within, may_grow, IsFound}
use Rattle.winnow_token.proofs.lemmas.CountLemmas.{all, all_back, length-front_le}

-- a test that agrees with a comparison in both directions is that comparison
same_test : (b : Bool) (m n : ℕ) → (IsTrue b → m ≤ n) × (m ≤ n → IsTrue b) → b ≡ nat_le m n
same_test true m n h = let l : m ≤ n = h.0 refl in grind (arith, nat_tests, l)
same_test false m n h = grind (arith, nat_tests, h.1)

-- a conjunction with `true` is its other part
pub and_true : (b : Bool) → b ≡ (b && true)
and_true true = refl
and_true false = refl

-- a conjunction with a false part is false
pub and_false : (b c : Bool) → c ≡ false → (b && c) ≡ false
and_false true c h = h
and_false false c h = refl

module _ {T : Type 0} (r : Source T) (positive : HasPositiveWidths r) where
  -- the offset that was found, or the end if none was found, is an offset
  pub offset_or_end : (found : Option ℕ) (room : ℕ) → room ≡ width r
      → IfSome found (λ n. IsTrue (is_offset r n)) → IsTrue (is_offset r (unwrap_or found room))
  offset_or_end None room e h = subst (λ n. is_offset r n ≡ true) (sym e) (is_offset-whole r positive)
  offset_or_end (Some n) room e h = h

  -- a front ends where the input does exactly if its width is the whole width
  ends : (w room : ℕ) → room ≡ width r → is_offset r w ≡ true
      → nat_eq w room ≡ nat_le (length r) (length (front r w))
  ends w room e o =
      let there : w ≡ width r → length (front r w) ≡ length r = all r w positive o in
      let back : length (front r w) ≡ length r → w ≡ width r = all_back r w o in
      grind (arith, nat_tests, there, back, e, length-front_le r w)

  -- the front up to the first token that is not held is the one of `TakesWhile`
  pub IsFound-width : (holds : T → Bool) (least w room : ℕ) (enough : Bool) → room ≡ width r
      → is_offset r w ≡ true → w ≡ unwrap_or (first_offset (λ x. not (holds x)) r) room
      → ((IsTrue enough → least ≤ length (front r w))
      × (least ≤ length (front r w) → IsTrue enough))
      → IsFound holds least None r w enough (nat_eq w room)
  IsFound-width holds least w room enough e o f h =
      let found = first_offset (λ x. not (holds x)) r in
      let wide : w ≡ width (held_front holds r) = f ∙ ap (unwrap_or found) (e ∙ sym (zero-add (width r))) ∙ width-held_front holds 0 r ∙ zero-add _ in
      record {
        held = ap (front r) wide ∙ front-held_front holds r positive;
        has_enough = same_test enough least (length (front r w)) h;
        can_grow = ends w room e o ∙ and_true (nat_le (length r) (length (front r w)));
      }

  -- the width of counted tokens is an offset
  pub is_offset-counted : (count w : ℕ) → count ≤ length r → w ≡ width (take count r)
      → is_offset r w ≡ true
  is_offset-counted count w l e = subst (λ n. is_offset r n ≡ true) (sym e) (ap is_some (front_count-place r count positive l))

  -- the front of that width has those tokens
  front-counted : (count w : ℕ) → count ≤ length r → w ≡ width (take count r)
      → front r w ≡ take count r
  front-counted count w l e = ap (front r) e ∙ front-place r count positive l

  -- a front that was counted up to a greatest count is the one of `TakesWhile`
  pub IsFound-counted : (holds : T → Bool) (least greatest count w : ℕ) (grows : Bool)
      → count ≤ length r → w ≡ width (take count r)
      → take count r ≡ held_within (Some greatest) holds r
      → grows ≡ (nat_eq w (width r) && nat_lt count greatest)
      → IsFound holds least (Some greatest) r w (nat_le least count) grows
  IsFound-counted holds least greatest count w grows l e h g =
      let same = front-counted count w l e in
      let number : length (front r w) ≡ count = omega (arith, ap length same, length-take count r, l) in
      record {
        held = same ∙ h;
        has_enough = ap (nat_le least) (sym number);
        can_grow = g ∙ ap (λ b. b && nat_lt count greatest) (ends w (width r) refl (is_offset-counted count w l e))
            ∙ ap (λ n. nat_le (length r) (length (front r w)) && nat_lt n greatest) (sym number);
      }

-- from a front that was found to `TakesWhile`
module _ {S T : Type 0} (is_slice : S → Source T → ℕ → Type 0) (holds : T → Bool) (least : ℕ) (greatest : Option ℕ) (a : Ahead T) where
  -- taking a front that has enough tokens, and that no more input lengthens, is what `TakesWhile`
  -- means
  pub gives_found : (end : ℕ) (enough grows partial : Bool) (s : S) (location : Option ℕ)
      (rest : Source T) → is_offset a.tokens end ≡ true
      → IsFound holds least greatest a.tokens end enough grows → enough ≡ true
      → (partial && grows) ≡ false → is_slice s a.tokens end
      → location ≡ location_behind a.location end → rest ≡ back a.tokens end
      → TakesWhile is_slice holds least greatest partial a
      (Gives s (record { location = location; tokens = rest }))
  gives_found end enough grows partial s location rest o f e p slice l t =
      let wide : width (held_within greatest holds a.tokens) ≡ end = ap width (sym f.held) ∙ width-front a.tokens end o in
      let tests : nat_le least (length (front a.tokens end)) ≡ true = sym f.has_enough ∙ e in (
        subst (is_slice s a.tokens) (sym wide) slice,
        ap₂ (λ x y. record { location = x; tokens = y }) l t ∙ ap (after a) (sym wide),
        subst (λ r. least ≤ length r) f.held (leb-true _ _ tests),
        subst (λ r. (partial && may_grow greatest r a.tokens) ≡ false) f.held (ap (λ g. partial && g) (sym f.can_grow) ∙ p),
      )
