-- The replies that open arrays lack, in the order of a program's vector.
use Rattle.std.proofs.Common.{◌≡◌, ℕ, ◌+◌, ◌-◌, ◌<◌, List, [], ◌∷◌, ◌++◌, length, get_or, set, reverse, refl, ap, sym, ◌∙◌, inl, inr, arith}
use Rattle.std.specs.Prelude.{◌⊎◌, Option, None, Some}
use Rattle.std.specs.Option.{option_to_list}
use Rattle.std.proofs.lemmas.List.{append-nil, reverse-append, reverse-reverse, length-append}
use Rattle.std.proofs.Math.Seq.{get_or-append_seam, set-append_seam}
use Rattle.format_resp_events.specs.OpenArrays.{after_reply, after_array}

-- a list is empty, or ends with a number
last-cases : (ys xs : List ℕ) → reverse xs ≡ ys
    → (xs ≡ []) ⊎ ((front : List ℕ) × ((y : ℕ) × (xs ≡ front ++ y ∷ [])))
last-cases [] xs e = inl (sym (reverse-reverse xs) ∙ ap reverse e)
last-cases (y ∷ ys) xs e =
    inr (reverse ys, (y, sym (reverse-reverse xs) ∙ ap reverse e ∙ reverse-append (y ∷ []) ys))

-- the last number is the first in reverse
pub last-first : (front : List ℕ) (y : ℕ) → reverse (front ++ y ∷ []) ≡ y ∷ reverse front
last-first front y = reverse-append front (y ∷ [])

-- the place of the last number
last-place : (front : List ℕ) (y : ℕ) → length (front ++ y ∷ []) - 1 ≡ length front
last-place front y = omega (arith, length-append front (y ∷ []))

-- the last number is less by 1 after a reply
pub reply-last : (xs : List ℕ) → 0 < length xs
    → reverse (set xs (length xs - 1) (get_or xs (length xs - 1) 0 - 1)) ≡ after_reply (reverse xs)
reply-last xs some = elim (last-cases (reverse xs) xs refl) [
  | inl none ↦ absurd (omega (arith, some, ap length none))
  | inr (front, (y, e)) ↦
      let whole = front ++ y ∷ [] in
      let at = ap (λ n. get_or whole n 0) (last-place front y) ∙ get_or-append_seam front y [] 0 in
      ap (λ l. reverse (set l (length l - 1) (get_or l (length l - 1) 0 - 1))) e
      ∙ ap (λ n. reverse (set whole n (get_or whole (length whole - 1) 0 - 1))) (last-place front y)
      ∙ ap (λ z. reverse (set whole (length front) (z - 1))) at
      ∙ ap reverse (set-append_seam front y [] (y - 1)) ∙ last-first front (y - 1)
      ∙ sym (ap (λ l. after_reply (reverse l)) e ∙ ap after_reply (last-first front y))
]

-- after a reply nothing changes if no array is open
pub reply-none : (xs : List ℕ) → length xs ≡ 0 → reverse xs ≡ after_reply (reverse xs)
reply-none [] e = refl
reply-none (x ∷ xs) e = absurd (cc e)

-- a list of no length is empty
none-long : (xs : List ℕ) → length xs ≡ 0 → xs ≡ []
none-long [] e = refl
none-long (x ∷ xs) e = absurd (cc e)

-- without the last number the rest is a reply further
pub array-last : (popped : Option ℕ) (xs rest : List ℕ) → xs ≡ rest ++ option_to_list popped
    → (popped ≡ None → length rest ≡ 0) → after_reply (reverse rest) ≡ after_array (reverse xs)
array-last None xs rest e none =
    let empty = none-long rest (none refl) in
    ap (λ l. after_reply (reverse l)) empty
    ∙ sym (ap (λ l. after_array (reverse l)) (e ∙ append-nil rest ∙ empty))
array-last (Some x) xs rest e none =
    sym (ap (λ l. after_array (reverse l)) e ∙ ap after_array (last-first rest x))
