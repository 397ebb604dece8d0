-- The search for the first token that passes, item by item. `next` is the item that was returned
-- last, and `later` are the items after it.
use Rattle.std.proofs.Common.{◌≡◌, ℕ, zero, suc, ◌+◌, ◌<◌, Bool, true, false, cond, List, [], ◌∷◌, length, get_or, take, drop, ◌++◌, refl, ap, sym, ◌∙◌, subst, arith, Some, None}
use Rattle.std.proofs.Math.Seq.{take-append_seam, drop-append_seam}
use Rattle.std.proofs.lemmas.List.{append-nil, append_assoc}
use Rattle.std.specs.Prelude.{Option, IfSome}
use Rattle.std.specs.Iterator.{Count, IsFinite, size, MakesProgress, AlwaysYields}
use Rattle.winnow_stream.specs.Source.{first_held, first_token, offsets_from, width, RefusesAll, AcceptsFirst}

-- all items that are not yet looked at
abbrev pub ahead : {B : Type 0} → Option B → List B → List B
ahead None later = []
ahead (Some x) later = x ∷ later

module _ {S B : Type 0} (steps : S → Option B → S → Type 0) (can : S → Type 0) (left : S → Count) where
  -- the iterator may be called, ends, and yields these items
  abbrev pub Yields : List B → S → Type 0
  Yields later s = AlwaysYields steps (λ x. x) s later × can s × IsFinite (left s)

  -- the iterator returned `next`, and then yields `later`
  abbrev pub Gave : Option B → List B → S → Type 0
  Gave next later s = IfSome next (λ _. Yields later s)

  -- a call of the iterator gives the first item, and leaves one that yields the others
  pub ahead-next : (ys : List B) (s t : S) (next : Option B) → Yields ys s → steps s next t
      → MakesProgress can left s next t
      → (later : List B) × ((ys ≡ ahead next later) × Gave next later t)
  ahead-next [] s t None y p m = ([], (refl, tt))
  ahead-next [] s t (Some x) y p m = absurd (y.0 x t p)
  ahead-next (z ∷ zs) s t None y p m = absurd (y.0.0 t p)
  ahead-next (z ∷ zs) s t (Some x) y p m =
      let k = y.0.1 x t p in
      let n = m.on y.2 in
      (zs, (ap (λ w. w ∷ zs) (sym k.0), (k.1, n.0, n.1)))

-- the measure of the loop: one more than the number of items left, while there is a next item
abbrev pub left_with : {S B : Type 0} → (S → Count) → Option B → S → ℕ
left_with left None s = 0
left_with left (Some x) s = suc (size (left s))

module _ {S B : Type 0} (can : S → Type 0) (left : S → Count) where
  -- each call makes the measure smaller, so the loop ends
  pub left_with-next : (s t : S) (next : Option B) → IsFinite (left s)
      → MakesProgress can left s next t → left_with left next t < suc (size (left s))
  left_with-next s t None f m = omega arith
  left_with-next s t (Some x) f m = let n = m.on f in omega (arith, n.2)

module _ {A : Type 0} (q : A → Bool) (x : ℕ × A) (later : List (ℕ × A)) where
  -- the first item passes or not: the search finds it, or goes on among the later ones
  pub held-hit : true ≡ q x.1 → Some x.0 ≡ first_held q (x ∷ later)
  held-hit p = ap (λ b. cond b (Some x.0) (first_held q later)) p

  pub held-miss : false ≡ q x.1 → first_held q (x ∷ later) ≡ first_held q later
  held-miss p = sym (ap (λ b. cond b (Some x.0) (first_held q later)) p)

-- ---- the offset of an item

-- there is one offset for each token
pub length-offsets : {A : Type 0} (r : List (A × ℕ)) (n : ℕ) → length (offsets_from n r) ≡ length r
length-offsets [] n = refl
length-offsets (x ∷ xs) n = ap suc (length-offsets xs (n + x.1))

-- the offset of item i is the width of the tokens before it
pub offsets-at : {A : Type 0} (r : List (A × ℕ)) (n i : ℕ) (d : ℕ × A) → i < length r
    → (get_or (offsets_from n r) i d).0 ≡ n + width (take i r)
offsets-at [] n i d h = absurd (omega arith)
offsets-at (x ∷ xs) n zero d h = omega arith
offsets-at (x ∷ xs) n (suc i) d h = let e = offsets-at xs (n + x.1) i d (omega arith) in omega (arith, e)

-- ---- the tokens that were looked at, and those ahead

-- equal lists have equal tails
later_same : {B : Type 0} {x y : B} {xs ys : List B} → x ∷ xs ≡ y ∷ ys → xs ≡ ys
later_same e = cc

module _ {A : Type 0} (answers : A → Bool → Type 0) where
  -- the tokens that were looked at were refused, and the items ahead are those of the other tokens
  abbrev pub HasRefused : List (A × ℕ) → List (ℕ × A) → Type 0
  HasRefused r items = (before after : List (A × ℕ)) × ((r ≡ before ++ after) × RefusesAll answers before × (items ≡ offsets_from (width before) after))

  -- tokens that are refused, and one more that is, are all refused
  RefusesAll-append : (xs : List (A × ℕ)) (y : A × ℕ) → RefusesAll answers xs → answers y.0 false
      → RefusesAll answers (xs ++ y ∷ [])
  RefusesAll-append [] y h a = (a, tt)
  RefusesAll-append (x ∷ xs) y h a = (h.0, RefusesAll-append xs y h.1 a)

  -- the width of tokens and one more
  width-last : (xs : List (A × ℕ)) (y : A × ℕ) → width (xs ++ y ∷ []) ≡ width xs + y.1
  width-last [] y = omega arith
  width-last (x ∷ xs) y = let e = width-last xs y in omega (arith, e)

  -- at the start of the loop, no token has been looked at
  pub none_refused : (r : List (A × ℕ)) → HasRefused r (offsets_from 0 r)
  none_refused r = ([], r, (refl, tt, refl))

  -- the invariant holds of equal items
  pub refused_same : (r : List (A × ℕ)) (items others : List (ℕ × A)) → items ≡ others
      → HasRefused r items → HasRefused r others
  refused_same r items others e h = subst (HasRefused r) e h

  -- at the end of the items, all tokens were refused
  pub refused_all : (r : List (A × ℕ)) → HasRefused r [] → RefusesAll answers r
  refused_all r (before, [], (e, h, i)) = subst (λ xs. RefusesAll answers xs) (sym (e ∙ append-nil before)) h
  refused_all r (before, (y ∷ ys), (e, h, i)) = absurd (cc)

  -- a refused item joins the refused tokens
  pub refused_more : (r : List (A × ℕ)) (x : ℕ × A) (later : List (ℕ × A))
      → HasRefused r (x ∷ later) → answers x.1 false → HasRefused r later
  refused_more r x later (before, [], (e, h, i)) a = absurd (cc)
  refused_more r x later (before, (y ∷ ys), (e, h, i)) a =
      let same : x.1 ≡ y.0 = cc in (
        before ++ y ∷ [],
        ys,
        (
          e ∙ sym (append_assoc before (y ∷ []) ys),
          RefusesAll-append before y h (subst (λ t. answers t false) same a),
          later_same i ∙ ap (λ n. offsets_from n ys) (sym (width-last before y)),
        ),
      )

  -- an item that passes, after refused ones, is the first that passes
  pub accepted : (r : List (A × ℕ)) (x : ℕ × A) (later : List (ℕ × A)) → HasRefused r (x ∷ later)
      → answers x.1 true → AcceptsFirst answers r x.0
  accepted r x later (before, [], (e, h, i)) a = absurd (cc)
  accepted r x later (before, (y ∷ ys), (e, h, i)) a =
      let same : x.1 ≡ y.0 = cc in
      let at : x.0 ≡ width before = cc in
      let t : take (length before) r ≡ before = ap (take (length before)) e ∙ take-append_seam before (y ∷ ys) in
      let d : drop (length before) r ≡ y ∷ ys = ap (drop (length before)) e ∙ drop-append_seam before (y ∷ ys) in (
        length before,
        (
          at ∙ sym (ap width t),
          subst (λ xs. RefusesAll answers xs) (sym t) h,
          (y.0, (ap first_token d, subst (λ u. answers u true) same a)),
        ),
      )
