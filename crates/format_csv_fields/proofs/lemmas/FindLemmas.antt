-- Lemmas on the results of looking for a field within a limit.
use Rattle.std.specs.Prelude.{Bool, true, false, drop, ◌⊎◌}
use Rattle.std.proofs.Common.{◌≡◌, ℕ, ◌+◌, ◌≤◌, ◌<◌, List, [], ◌∷◌, length, take, refl, inl, inr, ap, sym, subst, arith, length-drop, take-append-drop, drop_of_length-le}
use Rattle.format_csv.specs.FillingFields.{BeginsField, IsUnclosedField}
use Rattle.format_csv_fields.specs.declared.looking.Text.{Text}
use Rattle.format_csv_fields.specs.declared.looking.Text.TheVariants.{Plain, Quoted, Open}
use Rattle.format_csv_fields.specs.declared.finding.Found.{Found}
use Rattle.format_csv_fields.specs.declared.finding.Found.TheVariants.{Field, NeedsMore, Damaged, TooLong}
use Rattle.format_csv_fields.specs.FieldAhead.{IsUnfinished, IsDamagedBefore}
use Rattle.format_csv_fields.specs.Looking.{IsText, IsValue}
use Rattle.format_csv_fields.specs.Finding.{FindsAfter, Finds}
use Rattle.format_csv_fields.proofs.lemmas.AheadLemmas.{just-text, just-length, begins-just, unfinished, unclosed, broken, damaged-end, text-least, open-least}

-- a rest that is empty or CR alone has at most one byte
at-most-one : (s : List ℕ) → (s ≡ []) ⊎ (s ≡ 13 ∷ []) → length s ≤ 1
at-most-one s (inl e) = omega (arith, ap length e)
at-most-one s (inr e) = omega (arith, ap length e)

module _ (ended : Bool) (limit : ℕ) (bytes v : List ℕ) (text : Text) (n : ℕ) (l : n ≤ length bytes) (is : IsValue bytes text v) (field : BeginsField v bytes (drop n bytes)) where
  -- the result for the rest after a text is the result for the text
  pub finds : (found : Found) → FindsAfter ended limit bytes n found
      → Finds ended limit bytes text found
  finds (Field e m) (short, after, within, ends) = (
    within,
    (
      v,
      (
        is,
        (
          just-text ended v bytes (drop n bytes) (drop m bytes) e field ends,
          (
            omega (arith, short, l, length-drop n bytes, just-length ended v bytes (drop n bytes) (drop m bytes) e field ends),
            begins-just ended v bytes (drop n bytes) (drop m bytes) e field ends,
          ),
        ),
      ),
    ),
  )
  finds NeedsMore (short, going, o) = (
    subst (λ b. IsUnfinished b bytes) (sym going) (unfinished v bytes (drop n bytes) field o),
    omega (arith, short, l, length-drop n bytes, at-most-one (drop n bytes) o),
  )
  finds (Damaged m) (short, same, (some, cannot)) = (
    omega (arith, same, l),
    subst (λ k. IsDamagedBefore ended bytes (drop k bytes)) (sym same) (broken ended v bytes (drop n bytes) field some cannot),
  )
  finds TooLong long = (
    omega (arith, long, l),
    λ more may t w e rest h.
        omega (arith, long, l, length-drop n bytes, text-least v bytes (drop n bytes) more t w rest e field h),
  )

-- the text of plain bytes is the field with which the bytes begin
pub finds-plain : (ended : Bool) (limit : ℕ) (bytes : List ℕ) (n : ℕ) (found : Found)
    → IsText bytes (Plain n) → FindsAfter ended limit bytes n found → Finds ended limit bytes (Plain n) found
finds-plain ended limit bytes n found (l, each, ends, other) h =
    finds ended limit bytes (take n bytes) (Plain n) n l refl
    (inr (each, sym (take-append-drop n bytes), ends, other)) found h

-- the text between quotes is the field with which the bytes begin
pub finds-quoted : (ended : Bool) (limit : ℕ) (bytes : List ℕ) (n : ℕ) (doubles : Bool)
    (found : Found) → IsText bytes (Quoted n doubles) → FindsAfter ended limit bytes (n + 1) found
    → Finds ended limit bytes (Quoted n doubles) found
finds-quoted ended limit bytes n doubles found (l, quote, (v, (is, quotes))) h =
    finds ended limit bytes v (Quoted n doubles) (n + 1) l is (inl is) found h

module _ (limit : ℕ) (bytes : List ℕ) (doubles : Bool) (h : IsText bytes (Open doubles)) where
  -- a text that no quote closes is a field that is not closed
  torn : IsUnclosedField bytes
  torn = (h.0, (h.1.0, (h.1.1.0, h.1.1.1)))

  -- it may be too long
  pub open-long : (ended : Bool) → limit < length bytes
      → Finds ended limit bytes (Open doubles) TooLong
  open-long ended long =
      (long, λ more may t w e rest h. omega (arith, long, open-least bytes more t w rest e torn h))

  -- at the end of the input it is malformed there
  pub open-ended : (ended : Bool) → ended ≡ true
      → Finds ended limit bytes (Open doubles) (Damaged (length bytes))
  open-ended ended e =
      subst (λ b. Finds b limit bytes (Open doubles) (Damaged (length bytes))) (sym e)
      (omega arith, damaged-end bytes (drop (length bytes) bytes) torn (drop_of_length-le bytes (omega arith)))

  -- else more is needed
  pub open-more : (ended : Bool) → ended ≡ false → length bytes ≤ limit
      → Finds ended limit bytes (Open doubles) NeedsMore
  open-more ended e short =
      subst (λ b. Finds b limit bytes (Open doubles) NeedsMore) (sym e) (unclosed bytes torn, omega (arith, short))
