-- Counting tokens one by one, as long as a set holds them.
use Rattle.std.specs.Prelude.{Option, None}
use Rattle.std.specs.Iterator.{Yields}
use Rattle.std.proofs.Common.{◌≡◌, ℕ, zero, suc, ◌+◌, ◌<◌, ◌≤◌, Bool, true, false, cond, List, [], ◌∷◌, length, get_or, take, drop, Some, refl, ap, sym, ◌∙◌, subst, arith, take_all, length-take}
use Rattle.std.proofs.lemmas.Iterator.{YieldsList}
use Rattle.std.proofs.lemmas.Iterator.Consumers.{YieldsList-turn, YieldsList-end}
use Rattle.std.proofs.lemmas.Option.{none-some, same_Some}
use Rattle.winnow_stream.specs.Source.{Source, width, first_token, offsets, offsets_from, held_front, HoldsAll}
use Rattle.winnow_stream.proofs.lemmas.FirstTokenLemmas.{length-offsets, offsets-at}

-- the token of item k of the offsets is the one after k tokens
token-at : {T : Type 0} (r : Source T) (n k : ℕ) (d : ℕ × T) → k < length r
    → first_token (drop k r) ≡ Some (get_or (offsets_from n r) k d).1
token-at [] n k d l = absurd (omega arith)
token-at (x ∷ xs) n zero d l = refl
token-at (x ∷ xs) n (suc k) d l = token-at xs (n + x.1) k d (omega arith)

-- the item stands after k tokens: its offset and its token
pub record IsItem {T : Type 0} (r : Source T) (k : ℕ) (item : ℕ × T) : Type 0 where
  pub before_end : k < length r
  pub place : item.0 ≡ width (take k r)
  pub token : first_token (drop k r) ≡ Some item.1

module _ {S T : Type 0} {steps : S → Option (ℕ × T) → S → Type 0} {s : S} (r : Source T) (road : YieldsList steps (λ x. x) s (offsets r)) (yielded : List (ℕ × T)) (t : S) (y : Yields steps s yielded t) (k : ℕ) (count : k ≡ length yielded) (answer : Option (ℕ × T)) (u : S) where
  -- the item that an iterator gives after k others stands after k tokens
  pub next-item : (item : ℕ × T) → answer ≡ Some item → steps t answer u → IsItem r k item
  next-item item e p =
      let turn = YieldsList-turn road yielded t y answer u item e p in
      let within : k < length r = omega (arith, turn.0, count, length-offsets r 0) in
      let at : item ≡ get_or (offsets r) k item = subst (λ n. item ≡ get_or (offsets r) n item) (sym count) turn.1 in
      record {
        before_end = within;
        place = ap (λ i. i.0) at ∙ offsets-at r 0 k item within ∙ omega arith;
        token = token-at r 0 k item within ∙ ap (λ i. Some i.1) (sym at);
      }

  -- where the iterator gives no further item, all tokens were read
  pub no-item : answer ≡ None → steps t answer u → k ≡ length r
  no-item e p = omega (arith, (YieldsList-end road yielded t y answer u e p).1, count, length-offsets r 0)

module _ {T : Type 0} (holds : T → Bool) where
  -- one more held token keeps all of them held
  pub held-more : (r : Source T) (k : ℕ) (x : T) → HoldsAll holds (take k r)
      → first_token (drop k r) ≡ Some x → holds x ≡ true → HoldsAll holds (take (suc k) r)
  held-more [] k x h e t = tt
  held-more (y ∷ ys) zero x h e t = (ap holds (same_Some _ _ e) ∙ t, tt)
  held-more (y ∷ ys) (suc k) x h e t = (h.0, held-more ys k x h.1 e t)

  -- where the next token is not held, the longest held front ends before it
  stops : (r : Source T) (k : ℕ) (x : T) → HoldsAll holds (take k r)
      → first_token (drop k r) ≡ Some x → holds x ≡ false → held_front holds r ≡ take k r
  stops [] zero x h e f = absurd (none-some _ e)
  stops [] (suc k) x h e f = absurd (none-some _ e)
  stops (y ∷ ys) zero x h e f = ap (λ b. cond b (y ∷ held_front holds ys) []) (ap holds (same_Some _ _ e) ∙ f)
  stops (y ∷ ys) (suc k) x h e f = ap (λ b. cond b (y ∷ held_front holds ys) []) h.0 ∙ ap (λ t. y ∷ t) (stops ys k x h.1 e f)

  -- the first k tokens, if all are held, are the first k of the longest held front
  pub cut : (r : Source T) (k : ℕ) → HoldsAll holds (take k r)
      → take k r ≡ take k (held_front holds r)
  cut r zero h = refl
  cut [] (suc k) h = refl
  cut (y ∷ ys) (suc k) h = ap (λ t. y ∷ t) (cut ys k h.1) ∙ sym (ap (λ b. take (suc k) (cond b (y ∷ held_front holds ys) [])) h.0)

  -- where all tokens are held, the longest held front is all of them
  whole : (r : Source T) → HoldsAll holds r → held_front holds r ≡ r
  whole [] h = refl
  whole (y ∷ ys) h = ap (λ b. cond b (y ∷ held_front holds ys) []) h.0 ∙ ap (λ t. y ∷ t) (whole ys h.1)

  -- a longest held front within the greatest count is not cut off
  within : (r : Source T) (k greatest : ℕ) → k ≤ greatest → held_front holds r ≡ take k r
      → take k r ≡ take greatest (held_front holds r)
  within r k greatest l e =
      sym (take_all greatest (take k r) (omega (arith, length-take k r, l))) ∙ ap (take greatest) (sym e)

  -- counting that stops at a token that is not held has found the front
  pub within-stops : (r : Source T) (k greatest : ℕ) (x : T) → k ≤ greatest
      → HoldsAll holds (take k r) → first_token (drop k r) ≡ Some x → holds x ≡ false
      → take k r ≡ take greatest (held_front holds r)
  within-stops r k greatest x l h e f = within r k greatest l (stops r k x h e f)

  -- counting that stops at the end has found the front
  pub within-whole : (r : Source T) (k greatest : ℕ) → k ≤ greatest → length r ≤ k
      → HoldsAll holds (take k r) → take k r ≡ take greatest (held_front holds r)
  within-whole r k greatest l n h =
      let all = take_all k r n in
      within r k greatest l (whole r (subst (HoldsAll holds) all h) ∙ sym all)
