-- The first record that has another number of fields.
use Rattle.std.proofs.Common.{◌≡◌, ◌≢◌, ℕ, suc, ◌<◌, List, [], ◌∷◌, length, get_or, take, drop, ap, sym, ◌∙◌, subst, arith, drop-cons}
use Rattle.std.specs.Prelude.{Some, vec_len}
use Rattle.format_csv.specs.Widths.{RowVec, first_width, HaveWidth, IsFirstUneven}

-- the number of fields of the record at index 0
pub first-width : (rows : List RowVec) (row : RowVec) → 0 < length rows → row ≡ get_or rows 0 row
    → vec_len row ≡ first_width rows
first-width [] row l e = absurd (omega (arith, l))
first-width (x ∷ rows) row l e = ap (λ r. vec_len r) e

-- a record of another width after records of the first one's
pub uneven-at : (rows : List RowVec) (n width : ℕ) (row : RowVec) → n < length rows
    → row ≡ get_or rows n row → width ≡ first_width rows → HaveWidth width (take n rows)
    → vec_len row ≢ width → IsFirstUneven rows (Some n)
uneven-at rows n width row l e w h other = (
  subst (λ m. HaveWidth m (take n rows)) w h,
  (row, (drop (suc n) rows, (drop-cons rows n row l ∙ ap (λ r. r ∷ drop (suc n) rows) (sym e), λ f. other (f ∙ sym w)))),
)
