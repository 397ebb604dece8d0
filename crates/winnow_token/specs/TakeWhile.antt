-- The tokens up to the first that a set does not hold, as many as the counts allow.
use Rattle.std.specs.Prelude.{◌≡◌, ℕ, zero, ◌+◌, ◌-◌, ◌<◌, ◌≤◌, suc, nat_le, nat_lt, Bool, true, false, ◌&&◌, cond, ◌⊎◌, [], ◌∷◌, ◌++◌, length, take, Option, Some, None, IsTrue, IsFalse}
use Rattle.std.proofs.Common.{refl, ap, sym, ◌∙◌, subst, inl, inr, arith, length-append}
use Rattle.std.proofs.lemmas.Bool.Decides.{nat_tests, eqb_tells}
use Rattle.winnow_stream.specs.Source.{Source, width, held_front}
use Rattle.winnow_stream.specs.Front.{is_offset, front}
use Rattle.winnow_stream.specs.Shortage.{needed}
use Rattle.winnow_stream.specs.Longer.{SlicesStay}
use Rattle.winnow_stream.proofs.lemmas.FrontLemmas.{is_offset-cons}
use Rattle.winnow_stream.proofs.lemmas.MovingLemmas.{MovesOn-front}
use Rattle.winnow_count.specs.CountRange.{is_up_to}
use Rattle.winnow_parser.specs.Outcome.{Backtracks, Cuts, Needs, Refuses, Gives, Fails, Meaning, Moves, after}
use Rattle.winnow_parser.specs.Laws.{longer, IsStable, IsFinal, IsOnward, IsParser}
use Rattle.winnow_parser.specs.Parts.{Moves-still}
use Rattle.winnow_parser.specs.Taken.{after-longer}

-- the first tokens, up to the greatest count, if there is one
abbrev pub up_to : {T : Type 0} → Option ℕ → Source T → Source T
up_to None r = r
up_to (Some greatest) r = take greatest r

-- the longest front whose tokens a set holds, with at most the greatest count of tokens
abbrev pub held_within : {T : Type 0} → Option ℕ → (T → Bool) → Source T → Source T
held_within greatest holds r = up_to greatest (held_front holds r)

-- n is less than the greatest count, if there is one
abbrev pub is_below : Option ℕ → ℕ → Bool
is_below None n = true
is_below (Some greatest) n = nat_lt n greatest

-- more input may lengthen the front: it ends where the input does, and the greatest count is not
-- reached
abbrev pub may_grow : {T : Type 0} → Option ℕ → Source T → Source T → Bool
may_grow greatest front all = nat_le (length all) (length front) && is_below greatest (length front)

-- the slice of the longest front whose tokens a set holds, with at most the greatest count of
-- tokens, if it has at least the least count; where more input may lengthen the front, one more
-- token is needed. Where the least count is above the greatest, no number of tokens is allowed, and
-- the parser cuts at once
abbrev pub TakesWhile : {S T : Type 0} → (S → Source T → ℕ → Type 0) → (T → Bool) → ℕ → Option ℕ
    → Meaning S T
TakesWhile is_slice holds least greatest partial a (Gives s b) = let held = held_within greatest holds a.tokens in
    is_slice s a.tokens (width held) × (b ≡ after a (width held)) × (least ≤ length held) × IsFalse (partial && may_grow greatest held a.tokens)
TakesWhile is_slice holds least greatest partial a (Fails (Backtracks b)) = let held = held_within greatest holds a.tokens in
    (b ≡ a) × (length held < least) × IsTrue (is_up_to greatest least) × IsFalse (partial && may_grow greatest held a.tokens)
TakesWhile is_slice holds least greatest partial a (Fails (Cuts b)) = (b ≡ a) × IsFalse (is_up_to greatest least)
TakesWhile is_slice holds least greatest partial a (Fails (Needs n)) = let held = held_within greatest holds a.tokens in
    (n ≡ needed 1) × IsTrue (is_up_to greatest least) × IsTrue (partial && may_grow greatest held a.tokens)
TakesWhile is_slice holds least greatest partial a (Fails Refuses) = ⊥

-- the front of this width is the one of `TakesWhile`, with whether it has enough tokens and whether
-- more input may lengthen it
pub record IsFound {T : Type 0} (holds : T → Bool) (least : ℕ) (greatest : Option ℕ) (r : Source T) (end : ℕ) (enough grows : Bool) : Type 0 where
  pub held : front r end ≡ held_within greatest holds r
  pub has_enough : enough ≡ nat_le least (length (front r end))
  pub can_grow : grows ≡ may_grow greatest (front r end) r

-- ---- A front that ends before the input does, or at the greatest count, stays when more follows

-- the greatest count is reached
abbrev IsReached : Option ℕ → ℕ → Type 0
IsReached None n = ⊥
IsReached (Some greatest) n = greatest ≤ n

-- the front ends before the input does, or at the greatest count
abbrev EndsWithin : {T : Type 0} → Option ℕ → Source T → Source T → Type 0
EndsWithin greatest front all = (length front < length all) ⊎ IsReached greatest (length front)

-- a front that more input cannot lengthen ends before the input does, or at the greatest count
ends_within : {T : Type 0} (greatest : Option ℕ) (front all : Source T)
    → may_grow greatest front all ≡ false → EndsWithin greatest front all
ends_within None front all h = inl (grind (arith, nat_tests, h))
ends_within (Some n) front all h = grind (arith, nat_tests, h)

-- the converse of `ends_within`
ends_within-back : {T : Type 0} (greatest : Option ℕ) (front all : Source T)
    → EndsWithin greatest front all → may_grow greatest front all ≡ false
ends_within-back None front all (inl h) = grind (arith, nat_tests, h)
ends_within-back None front all (inr h) = absurd h
ends_within-back (Some n) front all h = grind (arith, nat_tests, h)

-- a conjunction with a false part is false
and-false : (b c : Bool) → c ≡ false → (b && c) ≡ false
and-false true c h = h
and-false false c h = refl

module _ {T : Type 0} (holds : T → Bool) where
  -- one step of `held_front-longer`
  held-step : (b : Bool) (x : T × ℕ) (front longer : Source T) (n : ℕ)
      → (length front < n → longer ≡ front) → length (cond b (x ∷ front) []) < suc n
      → cond b (x ∷ longer) [] ≡ cond b (x ∷ front) []
  held-step true x front longer n e h = ap (λ r. x ∷ r) (e (omega (arith, h)))
  held-step false x front longer n e h = refl

  -- a front that ends before the input does is the same when more follows
  held_front-longer : (r more : Source T) → length (held_front holds r) < length r
      → held_front holds (r ++ more) ≡ held_front holds r
  held_front-longer [] more h = absurd (omega (arith, h))
  held_front-longer (x ∷ xs) more h = held-step (holds x.0) x (held_front holds xs) (held_front holds (xs ++ more)) (length xs) (held_front-longer xs more) h

  -- one step of `cut_front-longer`
  cut-step : (b : Bool) (x : T × ℕ) (front longer : Source T) (g n : ℕ)
      → ((length (take g front) < n) ⊎ (g ≤ length (take g front)) → take g longer ≡ take g front)
      → (length (take (suc g) (cond b (x ∷ front) [])) < suc n)
      ⊎ (suc g ≤ length (take (suc g) (cond b (x ∷ front) [])))
      → take (suc g) (cond b (x ∷ longer) []) ≡ take (suc g) (cond b (x ∷ front) [])
  cut-step true x front longer g n e (inl h) = ap (λ r. x ∷ r) (e (inl (omega (arith, h))))
  cut-step true x front longer g n e (inr h) = ap (λ r. x ∷ r) (e (inr (omega (arith, h))))
  cut-step false x front longer g n e h = refl

  -- the same for a front that a greatest count cuts off
  cut_front-longer : (g : ℕ) (r more : Source T)
      → (length (take g (held_front holds r)) < length r)
      ⊎ (g ≤ length (take g (held_front holds r)))
      → take g (held_front holds (r ++ more)) ≡ take g (held_front holds r)
  cut_front-longer zero r more h = refl
  cut_front-longer (suc g) [] more (inl h) = absurd (omega (arith, h))
  cut_front-longer (suc g) [] more (inr h) = absurd (omega (arith, h))
  cut_front-longer (suc g) (x ∷ xs) more h = cut-step (holds x.0) x (held_front holds xs) (held_front holds (xs ++ more)) g (length xs) (cut_front-longer g xs more) h

  -- the same, whether there is a greatest count or not
  within-longer : (greatest : Option ℕ) (r more : Source T)
      → EndsWithin greatest (held_within greatest holds r) r
      → held_within greatest holds (r ++ more) ≡ held_within greatest holds r
  within-longer None r more (inl h) = held_front-longer r more h
  within-longer None r more (inr h) = absurd h
  within-longer (Some g) r more h = cut_front-longer g r more h

  -- a front that ends before the input does, or at the greatest count, still does when more follows
  ends-longer : (greatest : Option ℕ) (front r more : Source T) → EndsWithin greatest front r
      → EndsWithin greatest front (r ++ more)
  ends-longer greatest front r more (inl h) = inl (omega (arith, h, length-append r more))
  ends-longer greatest front r more (inr h) = inr h

  -- one step of `is_offset-held`
  offset-step : (b : Bool) (x : T × ℕ) (xs front : Source T) → is_offset xs (width front) ≡ true
      → is_offset (x ∷ xs) (width (cond b (x ∷ front) [])) ≡ true
  offset-step true x xs front h =
      let w : ℕ = width front in
      let d : (x.1 + w) - x.1 ≡ w = omega arith in
      let l : nat_le x.1 (x.1 + w) ≡ true = grind (arith, nat_tests) in
      let e : (nat_le x.1 (x.1 + w) && is_offset xs ((x.1 + w) - x.1)) ≡ true = rw l (rw d h) in
      elim (eqb_tells (x.1 + w) 0) [
        | inl p ↦ is_offset-cons x xs (x.1 + w) ∙ rw p.0 refl
        | inr p ↦ is_offset-cons x xs (x.1 + w) ∙ rw p.0 e
      ]
  offset-step false x xs front h = refl

  -- the width of the longest held front is an offset
  is_offset-held : (r : Source T) → is_offset r (width (held_front holds r)) ≡ true
  is_offset-held [] = refl
  is_offset-held (x ∷ xs) = offset-step (holds x.0) x xs (held_front holds xs) (is_offset-held xs)

  -- one step of `is_offset-cut`
  offset-cut : (b : Bool) (x : T × ℕ) (xs front : Source T) (g : ℕ)
      → is_offset xs (width (take g front)) ≡ true
      → is_offset (x ∷ xs) (width (take (suc g) (cond b (x ∷ front) []))) ≡ true
  offset-cut true x xs front g h = offset-step true x xs (take g front) h
  offset-cut false x xs front g h = refl

  -- the width of that front is an offset, too, where a greatest count cuts it off
  is_offset-cut : (g : ℕ) (r : Source T) → is_offset r (width (take g (held_front holds r))) ≡ true
  is_offset-cut zero [] = refl
  is_offset-cut zero (x ∷ xs) = refl
  is_offset-cut (suc g) [] = refl
  is_offset-cut (suc g) (x ∷ xs) = offset-cut (holds x.0) x xs (held_front holds xs) g (is_offset-cut g xs)

  -- the width of the front of `TakesWhile` is an offset
  pub is_offset-within : (greatest : Option ℕ) (r : Source T)
      → is_offset r (width (held_within greatest holds r)) ≡ true
  is_offset-within None r = is_offset-held r
  is_offset-within (Some g) r = is_offset-cut g r

  -- a front that more input cannot lengthen stays the same when more follows, and more input still
  -- cannot lengthen it
  pub within-stays : (greatest : Option ℕ) (r more : Source T)
      → may_grow greatest (held_within greatest holds r) r ≡ false
      → (held_within greatest holds (r ++ more) ≡ held_within greatest holds r)
      × (may_grow greatest (held_within greatest holds (r ++ more)) (r ++ more) ≡ false)
  within-stays greatest r more h =
      let held = held_within greatest holds r in
      let ends = ends_within greatest held r h in
      let same = within-longer greatest r more ends in
      (same, subst (λ front. may_grow greatest front (r ++ more) ≡ false) (sym same) (ends_within-back greatest held (r ++ more) (ends-longer greatest held r more ends)))

-- ---- The laws

module _ {S T : Type 0} (is_slice : S → Source T → ℕ → Type 0) (stay : SlicesStay is_slice) (holds : T → Bool) (least : ℕ) (greatest : Option ℕ) where
  -- a settled answer of `TakesWhile` stays when more input follows
  held-stable : IsStable (TakesWhile is_slice holds least greatest)
  held-stable more partial a (Gives s b) settled h =
      let held = held_within greatest holds a.tokens in
      let stays = within-stays holds greatest a.tokens more h.3 in
      let same = stays.0 in
      let offset = is_offset-within holds greatest a.tokens in (
        subst (λ front. is_slice s (a.tokens ++ more) (width front)) (sym same) (stay s a.tokens more (width held) offset h.0),
        ap (longer more) h.1 ∙ sym (after-longer more a (width held) offset) ∙ ap (λ front. after (longer more a) (width front)) (sym same),
        subst (λ front. least ≤ length front) (sym same) h.2,
        and-false partial _ stays.1,
      )
  held-stable more partial a (Fails (Backtracks b)) settled h =
      let stays = within-stays holds greatest a.tokens more h.3 in
      (ap (longer more) h.0, subst (λ front. length front < least) (sym stays.0) h.1, h.2, and-false partial _ stays.1)
  held-stable more partial a (Fails (Cuts b)) settled h = (ap (longer more) h.0, h.1)
  held-stable more partial a (Fails (Needs n)) settled h = absurd settled
  held-stable more partial a (Fails Refuses) settled h = absurd settled

  -- `TakesWhile` needs nothing more where nothing more may follow
  held-final : IsFinal (TakesWhile is_slice holds least greatest)
  held-final a n h = let e = h.2 in cc

  -- `TakesWhile` only moves the stream on
  held-onward : IsOnward (TakesWhile is_slice holds least greatest)
  held-onward partial a (Gives s b) h =
      subst (Moves a) (sym h.1) (MovesOn-front a.location a.tokens (width (held_within greatest holds a.tokens)) (is_offset-within holds greatest a.tokens))
  held-onward partial a (Fails (Backtracks b)) h = Moves-still a b (sym h.0)
  held-onward partial a (Fails (Cuts b)) h = Moves-still a b (sym h.0)
  held-onward partial a (Fails (Needs n)) h = tt
  held-onward partial a (Fails Refuses) h = tt

  -- `TakesWhile` keeps the laws of a parser
  pub IsParser-TakesWhile : IsParser (TakesWhile is_slice holds least greatest)
  IsParser-TakesWhile = record { stable = held-stable; final = held-final; onward = held-onward }
