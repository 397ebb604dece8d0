-- Fields one after the other, by their indices.
use Rattle.std.proofs.Common.{◌≡◌, ◌≢◌, ℕ, zero, suc, ◌+◌, ◌≤◌, ◌<◌, Bool, List, [], ◌∷◌, ◌++◌, ◌-◌, length, take, drop, map, get_or, refl, ap, sym, ◌∙◌, subst, arith, append_assoc}
use Rattle.std.specs.Prelude.{None, Some, ◌==◌, if◌then◌else◌, IsUtf8}
use Rattle.std.specs.List.{flat_map, sum_by}
use Rattle.std.proofs.lemmas.Bool.{ne_eqb}
use Rattle.std.proofs.lemmas.List.{append-nil, take_all, take-append-drop}
use Rattle.std.proofs.lemmas.List.Sums.{sum_by-cons}
use Rattle.csv.specs.Records.{Row, cut_from, text_of, fields_of, field_at, AllText}
use Rattle.wb_base.specs.Positions.{line_feeds}
use Rattle.wb_csv.specs.Progress.{feeds_of}
use Rattle.wb_csv.proofs.lemmas.FeedLemmas.{feeds-append}
use Rattle.wb_csv.specs.Lines.{joined, pick}

-- ---- The field with an index

-- one that is there
pub pick-some : (values : List (List ℕ)) (n : ℕ) (value : List ℕ) → field_at values n ≡ Some value
    → value ≡ pick values n
unfolding field_at
pick-some [] n value e = let f = e in cc
pick-some (v ∷ values) zero value e = let f : Some v ≡ Some value = e in cc
pick-some (v ∷ values) (suc n) value e = pick-some values n value e

-- one that is not
pub pick-none : (values : List (List ℕ)) (n : ℕ) → field_at values n ≡ None → [] ≡ pick values n
unfolding field_at
pick-none [] n e = refl
pick-none (v ∷ values) zero e = let f : Some v ≡ None = e in cc
pick-none (v ∷ values) (suc n) e = pick-none values n e

-- ---- Commas

module _ {A : Type 0} (f : A → List ℕ) (d : A) where
  -- the texts after the first, and one more
  tail-next : (values : List A) (n : ℕ) → n < length values
      → flat_map (λ (next : List ℕ). 44 ∷ next) (take (suc n) (map f values))
      ≡ flat_map (λ (next : List ℕ). 44 ∷ next) (take n (map f values)) ++ 44 ∷ f (get_or values n d)
  tail-next [] n l = absurd (omega (arith, l))
  tail-next (v ∷ values) zero l = append-nil (44 ∷ f v)
  tail-next (v ∷ values) (suc n) l =
      ap (λ t. (44 ∷ f v) ++ t) (tail-next values n (omega (arith, l)))
      ∙ sym (append_assoc (44 ∷ f v) (flat_map (λ (next : List ℕ). 44 ∷ next) (take n (map f values))) (44 ∷ f (get_or values n d)))

  -- the texts with commas between them, and one more
  joined-next : (values : List A) (n : ℕ) → n < length values
      → joined (take (suc n) (map f values))
      ≡ joined (take n (map f values)) ++ ((if n == 0 then [] else 44 ∷ []) ++ f (get_or values n d))
  joined-next [] n l = absurd (omega (arith, l))
  joined-next (v ∷ values) zero l = append-nil (f v)
  joined-next (v ∷ values) (suc n) l =
      let other : suc n ≢ 0 = λ e. omega (arith, e) in
      ap (λ t. f v ++ t) (tail-next values n (omega (arith, l)))
      ∙ sym (append_assoc (f v) (flat_map (λ (next : List ℕ). 44 ∷ next) (take n (map f values))) (44 ∷ f (get_or values n d)))
      ∙ ap (λ (b : Bool). joined (take (suc n) (map f (v ∷ values))) ++ ((if b then [] else 44 ∷ []) ++ f (get_or values n d))) (sym (ne_eqb (suc n) 0 other))

  -- what is appended for one field more
  pub push-next : (values : List A) (n : ℕ) (start now new : List ℕ) → n < length values
      → now ≡ start ++ joined (take n (map f values))
      → new ≡ now ++ ((if n == 0 then [] else 44 ∷ []) ++ f (get_or values n d))
      → new ≡ start ++ joined (take (n + 1) (map f values))
  push-next values n start now new l was is =
      let more = (if n == 0 then [] else 44 ∷ []) ++ f (get_or values n d) in
      let next : suc n ≡ n + 1 = omega arith in
      is ∙ ap (λ t. t ++ more) was ∙ append_assoc start (joined (take n (map f values))) more
      ∙ ap (λ t. start ++ t) (sym (joined-next values n l)) ∙ ap (λ k. start ++ joined (take k (map f values))) next

  -- a change of each item keeps the length
  length-map : (values : List A) → length (map f values) ≡ length values
  length-map [] = refl
  length-map (v ∷ values) = ap suc (length-map values)

  -- all fields
  pub push-all : (values : List A) (n : ℕ) (start now : List ℕ) → length values ≤ n
      → now ≡ start ++ joined (take n (map f values)) → now ≡ start ++ joined (map f values)
  push-all values n start now l was =
      was ∙ ap (λ t. start ++ joined t) (take_all n (map f values) (omega (arith, l, length-map values)))

-- two changes of each item are one
pub map-twice : {A B C : Type 0} (f : B → C) (g : A → B) (xs : List A)
    → map f (map g xs) ≡ map (λ x. f (g x)) xs
map-twice f g [] = refl
map-twice f g (x ∷ xs) = ap (λ ys. f (g x) ∷ ys) (map-twice f g xs)

-- ---- Text

-- each field of text is UTF-8
pub text-at : (values : List (List ℕ)) (n : ℕ) → n < length values → AllText values
    → IsUtf8 (pick values n)
unfolding AllText
text-at [] n l all = absurd (omega (arith, l))
text-at (v ∷ values) zero l all = all.0
text-at (v ∷ values) (suc n) l all = text-at values n (omega (arith, l)) all.1

-- the fields below an index, and one more
text-step : (values : List (List ℕ)) (n : ℕ) → n < length values → AllText (take n values)
    → IsUtf8 (pick values n) → AllText (take (suc n) values)
unfolding AllText
text-step [] n l all one = absurd (omega (arith, l))
text-step (v ∷ values) zero l all one = (one, tt)
text-step (v ∷ values) (suc n) l all one = (all.0, text-step values n (omega (arith, l)) all.1 one)

pub text-next : (values : List (List ℕ)) (n : ℕ) → n < length values → AllText (take n values)
    → IsUtf8 (pick values n) → AllText (take (n + 1) values)
text-next values n l all one =
    let next : suc n ≡ n + 1 = omega arith in
    subst (λ k. AllText (take k values)) next (text-step values n l all one)

-- all fields
pub text-all : (values : List (List ℕ)) (n : ℕ) → length values ≤ n → AllText (take n values)
    → AllText values
text-all values n l all = subst AllText (take_all n values l) all

-- none so far
pub text-empty : AllText []
unfolding AllText
text-empty = tt

-- ---- Line feeds

-- without line feeds, no part has any
part-feeds : (m n : ℕ) (bytes : List ℕ) → line_feeds bytes ≡ 0
    → line_feeds (take n (drop m bytes)) ≡ 0
part-feeds m n bytes none =
    let rest = drop m bytes in
    omega (arith, none, ap line_feeds (take-append-drop m bytes), feeds-append (take m bytes) rest, ap line_feeds (take-append-drop n rest), feeds-append (take n rest) (drop n rest))

-- and no field
cut-feeds : (start : ℕ) (ends bytes : List ℕ) → line_feeds bytes ≡ 0
    → sum_by line_feeds (cut_from start ends bytes) ≡ 0
unfolding cut_from
cut-feeds start [] bytes none = refl
cut-feeds start (end ∷ ends) bytes none =
    omega (arith, part-feeds start (end - start) bytes none, cut-feeds end ends bytes none, sum_by-cons line_feeds (take (end - start) (drop start bytes)) (cut_from end ends bytes))

-- so the record takes one
pub no-feeds : (row : Row) → line_feeds (text_of row) ≡ 0 → 1 ≡ feeds_of (fields_of row)
no-feeds row none = omega (arith, cut-feeds 0 row.ends row.bytes none)
