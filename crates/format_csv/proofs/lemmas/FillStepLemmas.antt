-- Lemmas on a step of a fill, which reads a field and the byte after it.
use Rattle.std.specs.Prelude.{Bool, true, false, not, drop, Some, None}
use Rattle.std.proofs.Common.{◌≡◌, ◌≢◌, ℕ, ◌+◌, ◌≤◌, List, [], ◌∷◌, ◌++◌, length, refl, inl, inr, ap, sym, ◌∙◌, subst, arith, length-drop, drop_of_length-le}
use Rattle.std.proofs.lemmas.List.{drop-drop}
use Rattle.format_csv.specs.Language.{EndsRecord}
use Rattle.format_csv.specs.FillingFields.{BeginsField, IsUnclosedField, FillsField}
use Rattle.format_csv.specs.Filling.{Follows, Fills, BeginsJust, IsDamagedBefore}
use Rattle.format_csv.specs.declared.filling.Follow.TheVariants.{Comma, End, Open, Broken}
use Rattle.format_csv.specs.declared.filling.Found.TheVariants.{Record, NeedsMore, Damaged}
use Rattle.format_csv.proofs.lemmas.FillGoneLemmas.{Gone, gone-comma}
use Rattle.format_csv.proofs.lemmas.FillLemmas.{filled, unfinished, unclosed, broken, damaged-end}

module _ (bytes r s : List ℕ) (fields new : List (List ℕ)) (at n : ℕ) (er : r ≡ drop at bytes) (es : s ≡ drop (at + n) bytes) (gone : Gone bytes (drop at bytes) fields) (fills : FillsField r fields (Some n) new) where
  -- the remaining bytes begin with the field
  field : BeginsField fills.0 (drop at bytes) (drop (at + n) bytes)
  field =
      subst (λ t. BeginsField fills.0 (drop at bytes) t) (drop-drop n at bytes)
      (subst (λ t. BeginsField fills.0 t (drop n t)) er fills.1.2)

  -- the field ends at most at the end of the bytes
  pub within : at ≤ length bytes → at + n ≤ length bytes
  within l = omega (arith, fills.1.0, ap length er, length-drop at bytes, l)

  -- if a comma follows, one more field is read
  pub goes-on : (ended : Bool) → Follows ended s Comma → Gone bytes (drop (at + n + 1) bytes) new
  goes-on ended h =
      let comma : drop (at + n) bytes ≡ 44 ∷ drop (at + n + 1) bytes =
      sym es ∙ h ∙ ap (λ t. 44 ∷ t) (ap (drop 1) es ∙ drop-drop 1 (at + n) bytes) in
      subst (λ ws. Gone bytes (drop (at + n + 1) bytes) ws) (sym fills.1.1)
      (gone-comma bytes (drop at bytes) (drop (at + n) bytes) (drop (at + n + 1) bytes) fills.0 fields field comma gone)

  -- the comma is within the bytes
  pub after-comma : (ended : Bool) → at ≤ length bytes → Follows ended s Comma
      → at + n + 1 ≤ length bytes
  after-comma ended l h = omega (arith, ap length h, ap length es, length-drop (at + n) bytes, within l)

  -- the bytes of a record with its end are not empty
  some-bytes : (ended : Bool) (rest : List ℕ) → (ended ≡ true → bytes ≢ [])
      → EndsRecord (not ended) s rest
      → bytes ≢ []
  some-bytes true rest some h none = some refl none
  some-bytes false rest some (inl e) none =
      absurd (omega (arith, ap length e, ap length es, length-drop (at + n) bytes, ap length none))
  some-bytes false rest some (inr (inl e)) none =
      absurd (omega (arith, ap length e, ap length es, length-drop (at + n) bytes, ap length none))
  some-bytes false rest some (inr (inr e)) none = let x : true ≡ false = e.2 in cc

  -- if an end of the record follows, the record is filled
  pub ends : (ended : Bool) (m : ℕ) → (ended ≡ true → bytes ≢ []) → at ≤ length bytes
      → Follows ended s (End m) → Fills ended bytes (Record (at + n + m)) new
  ends ended m some l h = (
    omega (arith, h.0, ap length es, length-drop (at + n) bytes, within l),
    subst (λ ws. BeginsJust ended bytes ws (drop (at + n + m) bytes)) (sym fills.1.1)
        (subst (λ t. BeginsJust ended bytes (fields ++ fills.0 ∷ []) t) (ap (drop m) es ∙ drop-drop m (at + n) bytes)
        (filled ended bytes (drop at bytes) s (drop m s) fills.0 fields (some-bytes ended (drop m s) some h.1) (subst (λ t. BeginsField fills.0 (drop at bytes) t) (sym es) field) h.1 gone)),
  )

  -- if nothing or CR alone follows, more is needed
  pub opens : (ended : Bool) → Follows ended s Open → Fills ended bytes NeedsMore new
  opens ended h =
      subst (λ b. Fills b bytes NeedsMore new) (sym h.0)
      (unfinished bytes (drop at bytes) s fills.0 fields (subst (λ t. BeginsField fills.0 (drop at bytes) t) (sym es) field) h.1 gone)

  -- if another byte follows, the record is malformed at it
  pub breaks : (ended : Bool) → at ≤ length bytes → Follows ended s Broken
      → Fills ended bytes (Damaged (at + n)) new
  breaks ended l h = (
    within l,
    subst (λ t. IsDamagedBefore ended bytes t) es
        (broken ended bytes (drop at bytes) s fills.0 fields (subst (λ t. BeginsField fills.0 (drop at bytes) t) (sym es) field) h.0 h.1 gone),
  )

module _ (bytes r : List ℕ) (fields new : List (List ℕ)) (at : ℕ) (er : r ≡ drop at bytes) (gone : Gone bytes (drop at bytes) fields) (fills : FillsField r fields None new) where
  -- if a closing quote is missing and more may follow, more is needed
  pub opens-quoted : (ended : Bool) → ended ≡ false → Fills ended bytes NeedsMore new
  opens-quoted ended e =
      subst (λ b. Fills b bytes NeedsMore new) (sym e) (unclosed bytes (drop at bytes) fields (subst IsUnclosedField er fills) gone)

  -- if a closing quote is missing at the end of the input, the record is malformed at the end
  pub ends-quoted : (ended : Bool) → ended ≡ true → Fills ended bytes (Damaged (length bytes)) new
  ends-quoted ended e =
      subst (λ b. Fills b bytes (Damaged (length bytes)) new) (sym e)
      (omega arith, damaged-end bytes (drop at bytes) (drop (length bytes) bytes) fields (subst IsUnclosedField er fills) (drop_of_length-le bytes (omega arith)) gone)
