-- What is written of records with commas between their fields.
use Rattle.std.proofs.Common.{◌≡◌, ℕ, true, List, [], ◌∷◌, ◌++◌, refl, ap, ◌∙◌, subst}
use Rattle.std.specs.Prelude.{Option, None, Some, IfSome, Result, Ok, Err, OnOk, map}
use Rattle.std.specs.List.{flat_map}
use Rattle.std.specs.Io.KnownBytes.{Appends}
use Rattle.std.proofs.lemmas.List.Folds.{flat_map-map}
use Rattle.format_csv.specs.Marks.{HasText}
use Rattle.format_csv.specs.Writing.{written_field, written_record}
use Rattle.wb_base.specs.Exchanging.{exchanged}
use Rattle.wb_base.proofs.lemmas.ExchangeLemmas.{same}
use Rattle.wb_csv.specs.Lines.{exchanged_by, field_by, field_of, joined, chosen, line_by, line_of}
use Rattle.wb_csv.specs.Copying.{lines_of, CopiesInput}
use Rattle.wb_csv.specs.Plain.{IsPlain, plain_lines, CopiesPlain}
use Rattle.wb_csv.specs.declared.settings.Settings.{Settings}
use Rattle.wb_csv.specs.declared.failure.Failure.{Failure}

-- with a comma as delimiter no byte takes another's place
pub comma-same : (s : Settings) (bytes : List ℕ) → s.delimiter ≡ 44 → exchanged_by s bytes ≡ bytes
comma-same s bytes is = ap (λ d. exchanged 44 d bytes) is ∙ same 44 bytes

module _ (s : Settings) (plain : IsPlain s) where
  -- a field is written as the format writes it
  field-plain : (value : List ℕ) → field_of s value ≡ written_field value
  field-plain value =
      ap (λ l. field_by l (exchanged_by s value)) plain.0 ∙ ap written_field (comma-same s value plain.2)

  -- and so are fields
  fields-plain : (values : List (List ℕ)) → map (field_of s) values ≡ map written_field values
  fields-plain [] = refl
  fields-plain (value ∷ values) =
      ap (λ t. t ∷ map (field_of s) values) (field-plain value)
      ∙ ap (λ ts. written_field value ∷ ts) (fields-plain values)

  -- a record is written as the format writes it
  line-plain : (row : List (List ℕ)) → line_of s row ≡ written_record row ++ 10 ∷ []
  line-plain row =
      ap (λ l. line_by l (map (field_of s) (chosen s.columns.items row))) plain.0
      ∙ ap (λ c. joined (map (field_of s) (chosen c row)) ++ 10 ∷ []) plain.1
      ∙ ap (λ ts. joined ts ++ 10 ∷ []) (fields-plain row)
      ∙ ap (λ t. t ++ 10 ∷ []) (joined-written row)
    where
      joined-written : (values : List (List ℕ))
          → joined (map written_field values) ≡ written_record values
      joined-written [] = refl
      joined-written (value ∷ values) =
          ap (λ t. written_field value ++ t) (flat_map-map (λ next. 44 ∷ next) written_field values)

  -- and so are records
  pub lines-plain : (rows : List (List (List ℕ))) → lines_of s rows ≡ plain_lines rows
  lines-plain [] = refl
  lines-plain (row ∷ rows) =
      ap (λ t. t ++ flat_map (line_of s) rows) (line-plain row)
      ∙ ap (λ t. (written_record row ++ 10 ∷ []) ++ t) (lines-plain rows)

  -- what is copied, in the words of the format
  pub copies-plain : (input : List ℕ) (held now : Option (List ℕ)) → CopiesInput s input held now
      → CopiesPlain input held now
  copies-plain input held now (text, (has, (rows, (are, fit, wrote, short)))) =
      (text, (subst (λ bytes. HasText true bytes text) (comma-same s input plain.2) has, (rows, (are, subst (λ bs. Appends held now bs) (lines-plain rows) wrote))))

-- the same, if the input is known
pub known-plain : (s : Settings) (input held now : Option (List ℕ))
    (result : Result (Unit {0}) Failure)
    → ((bytes : List ℕ) → CopiesInput s bytes held now → CopiesPlain bytes held now)
    → OnOk result (IfSome input (λ bytes. CopiesInput s bytes held now))
    → OnOk result (IfSome input (λ bytes. CopiesPlain bytes held now))
known-plain s None held now (Ok done) law h = tt
known-plain s (Some bytes) held now (Ok done) law h = law bytes h
known-plain s input held now (Err failure) law h = tt
