-- How records are written.
use Rattle.std.specs.Prelude.{ℕ, Bool, if◌then◌else◌, List, [], ◌∷◌, ◌++◌, map}
use Rattle.std.specs.List.{flat_map, list_any}
use Rattle.std.specs.declared.vec.Vec.{Vec}
use Rattle.std.specs.declared.alloc.Global.{Global}
use Rattle.format_csv.specs.Fields.{is_special, doubled}
use Rattle.format_csv.specs.Language.{RecordAhead}

-- the values of some fields
abbrev pub values_in : List (Vec ℕ Global) → List (List ℕ)
values_in fields = map (λ field. field.items) fields

-- a field is written between quotes where it has a quote, a comma, CR or LF, and as it is elsewhere
abbrev pub written_field : List ℕ → List ℕ
written_field value = if list_any is_special value then 34 ∷ (doubled value ++ 34 ∷ []) else value

-- a record is written as its fields are, with commas between them
abbrev pub written_record : List (List ℕ) → List ℕ
written_record [] = []
written_record (value ∷ values) = written_field value ++ flat_map (λ next. 44 ∷ written_field next) values

-- before each continuation, the bytes begin with a record of these values, and the continuation
-- remains
abbrev pub IsReadBack : List (List ℕ) → List ℕ → Type 0
IsReadBack values bytes = (partial : Bool) (rest : List ℕ) → RecordAhead partial (bytes ++ rest) values rest
