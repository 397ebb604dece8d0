-- The tokens up to the first that a set does not hold.
use Rattle.std.proofs.Common.{◌≡◌, ℕ, ◌+◌, ◌≤◌, Bool, true, false, cond, List, [], ◌∷◌, length, take, drop, ◌++◌, Option, Some, None, refl, ap, sym, ◌∙◌, arith, take-append-drop}
use Rattle.std.specs.Prelude.{not, unwrap_or}
use Rattle.std.proofs.lemmas.Option.{none-some, same_Some}
use Rattle.winnow_stream.specs.Source.{width, HasPositiveWidths, first_token, first_held, offsets_from, held_front, HoldsAll}
use Rattle.winnow_stream.specs.Front.{is_offset, front, back}
use Rattle.winnow_stream.proofs.lemmas.FrontLemmas.{is_offset-HasFront, front-place, back-place}

module _ {A : Type 0} (holds : A → Bool) where
  -- the step for one token, by whether the set holds it
  width-step : (b : Bool) (x : A × ℕ) (front : List (A × ℕ)) (n w : ℕ) (later : Option ℕ)
      → unwrap_or later (n + x.1 + w) ≡ n + x.1 + width front
      → unwrap_or (cond (not b) (Some n) later) (n + (x.1 + w)) ≡ n + width (cond b (x ∷ front) [])
  width-step true x front n w later e = let a : n + (x.1 + w) ≡ n + x.1 + w = omega arith in let c : n + x.1 + width front ≡ n + (x.1 + width front) = omega arith in ap (unwrap_or later) a ∙ e ∙ c
  width-step false x front n w later e = omega arith

  -- the offset of the first token that is not held, or the whole width, is the width of the held
  -- front
  pub width-held_front : (n : ℕ) (r : List (A × ℕ))
      → unwrap_or (first_held (λ x. not (holds x)) (offsets_from n r)) (n + width r)
      ≡ n + width (held_front holds r)
  width-held_front n [] = refl
  width-held_front n (x ∷ xs) = width-step (holds x.0) x (held_front holds xs) n (width xs) _ (width-held_front (n + x.1) xs)

  -- each token of the held front is held
  held-step : (b : Bool) (x : A × ℕ) (front : List (A × ℕ)) → holds x.0 ≡ b → HoldsAll holds front
      → HoldsAll holds (cond b (x ∷ front) [])
  held-step true x front e h = (e, h)
  held-step false x front e h = tt

  -- the set holds each token of the held front
  pub HoldsAll-held_front : (r : List (A × ℕ)) → HoldsAll holds (held_front holds r)
  HoldsAll-held_front [] = tt
  HoldsAll-held_front (x ∷ xs) = held-step (holds x.0) x (held_front holds xs) refl (HoldsAll-held_front xs)

  -- the step of `next-held_front`
  next-step : (b : Bool) (x : A × ℕ) (xs front : List (A × ℕ)) (y : A) → holds x.0 ≡ b
      → (first_token (drop (length front) xs) ≡ Some y → holds y ≡ false)
      → first_token (drop (length (cond b (x ∷ front) [])) (x ∷ xs)) ≡ Some y → holds y ≡ false
  next-step true x xs front y e later h = later h
  next-step false x xs front y e later h = ap holds (sym (same_Some _ _ h)) ∙ e

  -- the token after the held front is not held
  pub next-held_front : (r : List (A × ℕ)) (y : A)
      → first_token (drop (length (held_front holds r)) r) ≡ Some y → holds y ≡ false
  next-held_front [] y h = absurd (none-some _ h)
  next-held_front (x ∷ xs) y h = next-step (holds x.0) x xs (held_front holds xs) y refl (next-held_front xs y) h

  -- the step of `take-held_front`
  take-step : (b : Bool) (x : A × ℕ) (xs front : List (A × ℕ)) → take (length front) xs ≡ front
      → take (length (cond b (x ∷ front) [])) (x ∷ xs) ≡ cond b (x ∷ front) []
  take-step true x xs front e = ap (λ t. x ∷ t) e
  take-step false x xs front e = refl

  -- the held front is as many tokens of the list as it has
  pub take-held_front : (r : List (A × ℕ))
      → take (length (held_front holds r)) r ≡ held_front holds r
  take-held_front [] = refl
  take-held_front (x ∷ xs) = take-step (holds x.0) x xs (held_front holds xs) (take-held_front xs)

  -- the step of `length-held_front`
  length-step : (b : Bool) (x : A × ℕ) (xs front : List (A × ℕ)) → length front ≤ length xs
      → length (cond b (x ∷ front) []) ≤ length (x ∷ xs)
  length-step true x xs front l = omega (arith, l)
  length-step false x xs front l = omega arith

  -- the held front is no longer than the list
  length-held_front : (r : List (A × ℕ)) → length (held_front holds r) ≤ length r
  length-held_front [] = omega arith
  length-held_front (x ∷ xs) = length-step (holds x.0) x xs (held_front holds xs) (length-held_front xs)

  -- the width of the held front is an offset
  pub is_offset-held_front : (r : List (A × ℕ)) → HasPositiveWidths r
      → is_offset r (width (held_front holds r)) ≡ true
  is_offset-held_front r h = is_offset-HasFront r _ h (length (held_front holds r), (length-held_front r, ap width (take-held_front r)))

  -- what follows that width is what follows the held tokens
  pub back-held_front : (r : List (A × ℕ)) → HasPositiveWidths r
      → back r (width (held_front holds r)) ≡ drop (length (held_front holds r)) r
  back-held_front r h = ap (λ t. back r (width t)) (sym (take-held_front r)) ∙ back-place r (length (held_front holds r)) h (length-held_front r)

  -- the front of the width of the held tokens is the held tokens
  pub front-held_front : (r : List (A × ℕ)) → HasPositiveWidths r
      → front r (width (held_front holds r)) ≡ held_front holds r
  front-held_front r h = ap (λ t. front r (width t)) (sym (take-held_front r)) ∙ front-place r (length (held_front holds r)) h (length-held_front r) ∙ take-held_front r

  -- held tokens before one that is not held are exactly the held front
  pub held_front-append : (text rest : List (A × ℕ)) → HoldsAll holds text
      → ((x : A) → first_token rest ≡ Some x → holds x ≡ false)
      → held_front holds (text ++ rest) ≡ text
  held_front-append [] [] all next = refl
  held_front-append [] (x ∷ xs) all next = ap (λ b. cond b (x ∷ held_front holds xs) []) (next x.0 refl)
  held_front-append (x ∷ text) rest all next = ap (λ b. cond b (x ∷ held_front holds (text ++ rest)) []) all.0 ∙ ap (λ t. x ∷ t) (held_front-append text rest all.1 next)

  -- the held front and what follows it are the whole
  pub append-held_front : (r : List (A × ℕ))
      → held_front holds r ++ drop (length (held_front holds r)) r ≡ r
  append-held_front r =
      let n : ℕ = length (held_front holds r) in
      ap (λ t. t ++ drop n r) (sym (take-held_front r)) ∙ take-append-drop n r

  -- the step of `all-held_front`
  all-step : (b : Bool) (x : A × ℕ) (xs front : List (A × ℕ)) → holds x.0 ≡ b
      → (first_token (drop (length front) xs) ≡ None → HoldsAll holds xs)
      → first_token (drop (length (cond b (x ∷ front) [])) (x ∷ xs)) ≡ None
      → HoldsAll holds (x ∷ xs)
  all-step true x xs front e later h = (e, later h)
  all-step false x xs front e later h = absurd (none-some _ (sym h))

  -- if nothing follows the held front, every token is held
  pub all-held_front : (r : List (A × ℕ))
      → first_token (drop (length (held_front holds r)) r) ≡ None → HoldsAll holds r
  all-held_front [] h = tt
  all-held_front (x ∷ xs) h = all-step (holds x.0) x xs (held_front holds xs) refl (all-held_front xs) h

-- what follows the held front
abbrev behind : {A : Type 0} → (A → Bool) → List (A × ℕ) → List (A × ℕ)
behind holds r = drop (length (held_front holds r)) r

-- taking over a set within another, and then over the other, leaves what the other alone leaves
module _ {A : Type 0} (holds also : A → Bool) (within : (x : A) → holds x ≡ true → also x ≡ true) where
  -- a token that the other set holds is passed
  behind-cons : (x : A × ℕ) (xs : List (A × ℕ)) → also x.0 ≡ true
      → behind also (x ∷ xs) ≡ behind also xs
  behind-cons x xs e = ap (λ b. drop (length (cond b (x ∷ held_front also xs) [])) (x ∷ xs)) e

  -- the step of `behind-held_front`
  further-step : (b : Bool) (x : A × ℕ) (xs front : List (A × ℕ)) → holds x.0 ≡ b
      → behind also (drop (length front) xs) ≡ behind also xs
      → behind also (drop (length (cond b (x ∷ front) [])) (x ∷ xs)) ≡ behind also (x ∷ xs)
  further-step true x xs front h e = e ∙ sym (behind-cons x xs (within x.0 h))
  further-step false x xs front h e = refl

  -- `held_law` for the two sets
  pub behind-held_front : (r : List (A × ℕ)) → behind also (behind holds r) ≡ behind also r
  behind-held_front [] = refl
  behind-held_front (x ∷ xs) = further-step (holds x.0) x xs (held_front holds xs) refl (behind-held_front xs)
