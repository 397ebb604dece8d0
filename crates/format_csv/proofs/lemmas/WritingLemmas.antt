-- What is written spells the record, and is read back.
use Rattle.std.proofs.Common.{◌≡◌, ℕ, ◌+◌, ◌≤◌, Bool, true, false, List, [], ◌∷◌, ◌++◌, length, inl, inr, ap, sym, ◌∙◌, refl, arith, append_assoc}
use Rattle.std.specs.Prelude.{◌||◌, not, cond}
use Rattle.std.specs.List.{flat_map, list_any}
use Rattle.std.specs.declared.vec.Vec.{Vec}
use Rattle.std.specs.declared.alloc.Global.{Global}
use Rattle.format_lemmas.specs.Bytes.{Each}
use Rattle.format_lemmas.proofs.lemmas.ByteLemmas.{some}
use Rattle.format_csv.specs.Fields.{is_special, is_plain, doubled, SpellsField}
use Rattle.format_csv.specs.Language.{SpellsMore}
use Rattle.format_csv.specs.Writing.{values_in, written_field, written_record, IsReadBack}

-- where neither of two holds, each does not hold
or-false : (b c : Bool) → (b || c) ≡ false → (b ≡ false) × (c ≡ false)
or-false true c h = absurd (cc)
or-false false c h = (refl, h)

-- where no byte is special, each is plain
none-special : (bytes : List ℕ) → list_any is_special bytes ≡ false → Each is_plain bytes
none-special [] h = tt
none-special (b ∷ bs) h =
    let both = or-false (is_special b) (list_any is_special bs) h in (ap not both.0, none-special bs both.1)

-- the step of `field-written`
field-step : (value : List ℕ) (b : Bool) → list_any is_special value ≡ b
    → SpellsField value (cond b (34 ∷ (doubled value ++ 34 ∷ [])) value)
field-step value true e = inr refl
field-step value false e = inl (none-special value e, refl)

-- a field that is written spells its value
field-written : (value : List ℕ) → SpellsField value (written_field value)
field-written value = field-step value (list_any is_special value) refl

-- fields that are written after commas spell their values
more-written : (values : List (List ℕ))
    → SpellsMore values (flat_map (λ next. 44 ∷ written_field next) values)
more-written [] = refl
more-written (value ∷ values) =
    (written_field value, (flat_map (λ next. 44 ∷ written_field next) values, (refl, field-written value, more-written values)))

-- a record that is written is read back, no matter what follows it
pub read-back : (row : List (Vec ℕ Global)) → 1 ≤ length row
    → IsReadBack (values_in row) (written_record (values_in row) ++ 13 ∷ 10 ∷ [])
read-back [] l partial rest = absurd (omega (arith, l))
read-back (first ∷ fields) l partial rest =
    let values = values_in fields in
    let text = written_record (first.items ∷ values) in
    let whole : (text ++ 13 ∷ 10 ∷ []) ++ rest ≡ text ++ 13 ∷ 10 ∷ rest = append_assoc text (13 ∷ 10 ∷ []) rest in (
      λ e. some text (10 ∷ rest) 13 (sym whole ∙ e),
      (
        text,
        (
          13 ∷ 10 ∷ rest,
          (
            whole,
            (written_field first.items, (flat_map (λ next. 44 ∷ written_field next) values, (refl, field-written first.items, more-written values))),
            inl refl,
          ),
        ),
      ),
    )
