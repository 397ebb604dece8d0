-- Lemmas on the records whose fields were read.
use Rattle.std.specs.Prelude.{Bool, true, false}
use Rattle.std.proofs.Common.{◌≡◌, ℕ, List, [], ◌∷◌, ◌++◌, refl, sym, ◌∙◌, subst}
use Rattle.std.proofs.lemmas.List.{append-nil}
use Rattle.winnow_reader.specs.Reading.{MayFollow}
use Rattle.winnow_reader.specs.SameValues.{IsThrough}
use Rattle.format_csv.specs.Tables.{AreRecords}
use Rattle.format_csv.specs.RowReader.{HasRead as HasReadRows}
use Rattle.format_csv_fields.specs.FieldState.{FieldState}
use Rattle.format_csv_fields.specs.Reading.{AreRead, IsWithin, HasRead}

-- before the first field of a record, the records are those of a reader of records
pub rows-read : (f : FieldState) (input : List ℕ) (rows : List (List (List ℕ)))
    → HasRead f input rows [] → HasReadRows f.state input rows
rows-read f input rows h = record {
  reads = λ more may.
      let a = h.reads more may in subst (λ rest. AreRecords (input ++ more) rows rest) a.1.1 a.1.0;
  fed = h.fed;
}

-- if no comma came before, no field of a record was read
none-within : (within : Bool) (fields : List (List ℕ)) → IsWithin within fields → within ≡ false
    → fields ≡ []
none-within within [] h e = refl
none-within within (w ∷ ws) h e = absurd (let x : true ≡ false = sym h ∙ e in cc)

-- nothing may follow the end
none-follows : (ended : Bool) → ended ≡ true → MayFollow ended [] false
none-follows true e = (refl, refl)
none-follows false e = tt

-- at the end the records are all records of the input
pub rows-all : (f : FieldState) (input : List ℕ) (rows : List (List (List ℕ)))
    (fields : List (List ℕ)) → HasRead f input rows fields → IsThrough f.state → f.within ≡ false
    → AreRecords input rows []
rows-all f input rows fields h through outside =
    let none = none-within f.within fields h.within outside in
    let a = subst (λ fs. AreRead (input ++ []) rows fs (f.state.ahead ++ [])) none (h.reads [] (none-follows f.state.ended through.0)) in
    subst (λ rest. AreRecords input rows rest) (a.1.1 ∙ append-nil f.state.ahead ∙ through.1)
    (subst (λ xs. AreRecords xs rows a.0) (append-nil input) a.1.0)
