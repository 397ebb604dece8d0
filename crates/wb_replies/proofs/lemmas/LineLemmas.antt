-- The lines that show a list of entries.
use Rattle.std.proofs.Common.{◌≡◌, ℕ, suc, ◌+◌, ◌<◌, ◌≤◌, List, [], ◌∷◌, ◌++◌, length, map, take, get_or, ap, sym, ◌∙◌, refl, arith, append_assoc, add-zero, zero-add}
use Rattle.std.proofs.lemmas.List.{append-nil, length-map, length-take-le, map_more}
use Rattle.std.specs.Prelude.{decimal}
use Rattle.wb_replies.specs.Lines.{list_shown, entry_start, entries, widened, line_of}

-- the entries with one more
entries-more : (mark : ℕ) (margin : List ℕ) (width i : ℕ) (xs : List (List ℕ → List ℕ)) (x : List ℕ
    → List ℕ)
    → entries mark margin width i (xs ++ x ∷ [])
    ≡ entries mark margin width i xs ++ entry_start mark margin width (i + length xs) ++ x (widened margin (width + 2))
entries-more mark margin width i [] x =
    append-nil (entry_start mark margin width i ++ x (widened margin (width + 2)))
    ∙ ap (λ n. entry_start mark margin width n ++ x (widened margin (width + 2))) (sym (add-zero i))
entries-more mark margin width i (y ∷ ys) x =
    let first = entry_start mark margin width i ++ y (widened margin (width + 2)) in
    let next : i + 1 + length ys ≡ i + suc (length ys) = omega arith in
    ap (λ t. first ++ t) (entries-more mark margin width (i + 1) ys x)
    ∙ sym (append_assoc first (entries mark margin width (i + 1) ys ++ entry_start mark margin width (i + 1 + length ys)) (x (widened margin (width + 2))))
    ∙ ap (λ t. t ++ x (widened margin (width + 2))) (sym (append_assoc first (entries mark margin width (i + 1) ys) (entry_start mark margin width (i + 1 + length ys))))
    ∙ ap (λ n. first ++ entries mark margin width (i + 1) ys ++ entry_start mark margin width n ++ x (widened margin (width + 2))) next

-- the entries up to the next index are those before, and the next
pub entries-next : {T : Type 0} (show : T → List ℕ → List ℕ) (mark : ℕ) (margin : List ℕ)
    (width : ℕ) (items : List T) (i : ℕ) (d : T) → i < length items
    → entries mark margin width 0 (map show (take (i + 1) items))
    ≡ entries mark margin width 0 (map show (take i items)) ++ entry_start mark margin width i ++ show (get_or items i d) (widened margin (width + 2))
entries-next show mark margin width items i d h =
    let le : i ≤ length items = omega (arith, h) in
    let count : 0 + length (map show (take i items)) ≡ i =
    zero-add (length (map show (take i items))) ∙ length-map (take i items) show ∙ length-take-le i items le in
    ap (entries mark margin width 0) (map_more show items i d h)
    ∙ entries-more mark margin width 0 (map show (take i items)) (show (get_or items i d))
    ∙ ap (λ n. entries mark margin width 0 (map show (take i items)) ++ entry_start mark margin width n ++ show (get_or items i d) (widened margin (width + 2))) count

-- bytes that are appended one after the other are appended together
pub appends-entry : (base so_far first rest old mid new : List ℕ) → old ≡ base ++ so_far
    → mid ≡ old ++ first → new ≡ mid ++ rest → new ≡ base ++ (so_far ++ first ++ rest)
appends-entry base so_far first rest old mid new p q r =
    r ∙ ap (λ m. m ++ rest) q ∙ ap (λ o. o ++ first ++ rest) p
    ∙ ap (λ t. t ++ rest) (append_assoc base so_far first) ∙ append_assoc base (so_far ++ first) rest

-- how a list is shown that has entries
list_shown-some : (mark : ℕ) (empty margin : List ℕ) (shows : List (List ℕ → List ℕ))
    → 0 < length shows
    → list_shown mark empty margin shows ≡ entries mark margin (length (decimal (length shows))) 0 shows
list_shown-some mark empty margin [] h = absurd (omega (arith, h))
list_shown-some mark empty margin (show ∷ shows) h = refl

module _ {T : Type 0} (show : T → List ℕ → List ℕ) (mark : ℕ) (empty margin : List ℕ) (items : List T) where
  -- how a list of items is shown that has some
  pub list_shown-entries : (width : ℕ) → 0 < length items → width ≡ length (decimal (length items))
      → list_shown mark empty margin (map show items)
      ≡ entries mark margin width 0 (map show items)
  list_shown-entries width h e =
      let same = length-map items show in
      let some : 0 < length (map show items) = omega (arith, same, h) in
      list_shown-some mark empty margin (map show items) some
      ∙ ap (λ n. entries mark margin (length (decimal n)) 0 (map show items)) same
      ∙ ap (λ w. entries mark margin w 0 (map show items)) (sym e)

  -- how a list of items is shown that has none
  pub list_shown-empty : items ≡ []
      → list_shown mark empty margin (map show items) ≡ line_of [] empty
  list_shown-empty e = ap (λ xs. list_shown mark empty margin (map show xs)) e

-- a list of no length is empty
pub no-length : {A : Type 0} (xs : List A) → length xs ≡ 0 → xs ≡ []
no-length [] e = refl
no-length (x ∷ xs) e = absurd (omega (arith, e))
