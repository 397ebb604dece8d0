-- Records one after the other.
use Rattle.std.proofs.Common.{◌≡◌, ◌≢◌, ℕ, ◌<◌, ◌≤◌, false, List, [], ◌∷◌, ◌++◌, length, inl, inr, ap, sym, ◌∙◌, subst, refl, arith, length-append}
use Rattle.std.specs.Prelude.{◌⊎◌}
use Rattle.std.proofs.lemmas.List.{map_push}
use Rattle.format_csv.specs.Language.{EndsRecord, RecordAhead}
use Rattle.format_csv.specs.Answers.{values_of}
use Rattle.format_csv.specs.Damage.{BreaksOff, IsUnclosed}
use Rattle.format_csv.specs.Widths.{RowVec}
use Rattle.format_csv.specs.Tables.{rows_in, AreRecords, IsDamagedAt}

-- one more record after some
pub records-more : (bytes : List ℕ) (rows : List (List (List ℕ))) (row : List (List ℕ))
    (more rest : List ℕ)
    → AreRecords bytes rows more → RecordAhead false more row rest → AreRecords bytes (rows ++ row ∷ []) rest
records-more bytes [] row more rest e h = (rest, (subst (λ b. RecordAhead false b row rest) (sym e) h, refl))
records-more bytes (r ∷ rows) row more rest h k = (h.0, (h.1.0, records-more h.0 rows row more rest h.1.1 k))

-- something that is not nothing has a length
some-length : (xs : List ℕ) → xs ≢ [] → 0 < length xs
some-length [] n = absurd (n refl)
some-length (x ∷ xs) n = omega arith

-- the step of `record-shorter`
end-shorter : (bytes text more rest : List ℕ) → bytes ≢ [] → bytes ≡ text ++ more
    → EndsRecord false more rest → length rest < length bytes
end-shorter bytes text more rest some e (inl f) = omega (arith, ap length e, length-append text more, ap length f)
end-shorter bytes text more rest some e (inr (inl f)) = omega (arith, ap length e, length-append text more, ap length f)
end-shorter bytes text more rest some e (inr (inr f)) = omega (arith, some-length bytes some, ap length f.1)

-- what follows a record is shorter
pub record-shorter : (bytes rest : List ℕ) (row : List (List ℕ)) → RecordAhead false bytes row rest
    → length rest < length bytes
record-shorter bytes rest row (some, (text, (more, (e, spells, ends)))) = end-shorter bytes text more rest some e ends

-- what follows some records is no longer than all
pub records-within : (bytes rest : List ℕ) (rows : List (List (List ℕ)))
    → AreRecords bytes rows rest → length rest ≤ length bytes
records-within bytes rest [] e = omega (arith, ap length e)
records-within bytes rest (row ∷ rows) h = omega (arith, record-shorter bytes h.0 row h.1.0, records-within h.0 rest rows h.1.1)

-- where a record is cut, it is damaged at the rest
pub cut-damaged : (bytes rest : List ℕ)
    → BreaksOff false bytes rest ⊎ (IsUnclosed bytes × (rest ≡ []) × (false ≡ false))
    → IsDamagedAt bytes rest
cut-damaged bytes rest (inl h) = inl h
cut-damaged bytes rest (inr h) = inr (h.0, h.1)

-- the rest of a damaged record is no longer than what it begins
pub damaged-within : (bytes rest : List ℕ) → IsDamagedAt bytes rest → length rest ≤ length bytes
damaged-within bytes rest (inl h) = omega (arith, ap length h.1.1.0, length-append h.1.0 rest)
damaged-within bytes rest (inr h) = omega (arith, ap length h.1)

-- one more record is the last of a list
pub rows-push : (items : List RowVec) (all : List RowVec) (row : RowVec) → all ≡ items ++ row ∷ []
    → rows_in all ≡ rows_in items ++ values_of row ∷ []
rows-push items all row e = ap rows_in e ∙ map_push values_of items row
