-- What the calls for a record write.
use Rattle.std.specs.Prelude.{ℕ, true, List, [], ◌∷◌, ◌++◌, map}
use Rattle.std.specs.List.{flat_map}
use Rattle.std.proofs.Common.{◌≡◌, refl, ap, sym, ◌∙◌}
use Rattle.std.proofs.lemmas.List.{append_assoc}
use Rattle.format_csv.specs.Writing.{written_field, written_record}
use Rattle.woldbraid_writers.specs.Records.{Field, End, Table, after_entries, entries_of, ended_table}

-- a record that goes on, after these bytes
abbrev going_table : List ℕ → Table
going_table text = record { text = text; goes_on = true }

-- the fields after the first, with a comma before each
abbrev others : List (List ℕ) → List ℕ
others fields = flat_map (λ next. 44 ∷ written_field next) fields

-- what the calls write for the fields after the first, and for the end
goes-on : (text : List ℕ) (fields : List (List ℕ))
    → after_entries (going_table text) (map Field fields ++ End ∷ []) ≡ ended_table (text ++ (others fields ++ 13 ∷ 10 ∷ []))
unfolding after_entries
goes-on text [] = refl
goes-on text (field ∷ fields) =
    let one = 44 ∷ written_field field in
    goes-on (text ++ one) fields
    ∙ ap ended_table (append_assoc text one (others fields ++ 13 ∷ 10 ∷ []) ∙ ap (λ l. text ++ l) (sym (append_assoc one (others fields) (13 ∷ 10 ∷ []))))

-- what the calls write for a record
pub record-written : (text field : List ℕ) (fields : List (List ℕ))
    → after_entries (ended_table text) (entries_of (field ∷ fields)) ≡ ended_table (text ++ (written_record (field ∷ fields) ++ 13 ∷ 10 ∷ []))
unfolding after_entries
record-written text field fields =
    let one = written_field field in
    goes-on (text ++ one) fields
    ∙ ap ended_table (append_assoc text one (others fields ++ 13 ∷ 10 ∷ []) ∙ ap (λ l. text ++ l) (sym (append_assoc one (others fields) (13 ∷ 10 ∷ []))))
