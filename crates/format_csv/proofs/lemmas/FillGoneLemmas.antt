-- The fields that a fill has read so far: each has a comma after it.
use Rattle.std.specs.Prelude.{Bool}
use Rattle.std.proofs.Common.{◌≡◌, ℕ, List, [], ◌∷◌, ◌++◌, ap, sym, ◌∙◌, subst, refl, append_assoc}
use Rattle.std.proofs.lemmas.List.{append-nil}
use Rattle.format_csv.specs.Language.{SpellsMore, SpellsRecord}
use Rattle.format_csv.proofs.lemmas.FieldLemmas.{field-spelled}
use Rattle.format_csv.specs.FillingFields.{BeginsField}
use Rattle.format_csv.proofs.lemmas.FillFieldLemmas.{Spelled, field-more, peel}

-- `Gone` says that the bytes spell these fields with a comma after each, then comes the rest; each
-- record of the bytes with a continuation begins with these fields
pub record Gone (bytes rest : List ℕ) (fields : List (List ℕ)) : Type 0 where
  pub front : List ℕ
  pub whole : bytes ≡ front ++ rest
  pub spells : (values : List (List ℕ)) (text : List ℕ) → SpellsRecord values text
      → SpellsRecord (fields ++ values) (front ++ text)
  pub only : (partial : Bool) (more after : List ℕ) (values : List (List ℕ))
      → Spelled partial (bytes ++ more) values after
      → (left : List (List ℕ)) × ((values ≡ fields ++ left) × Spelled partial (rest ++ more) left after)

-- before the first field no field is read, and all bytes remain
pub gone-none : (bytes : List ℕ) → Gone bytes bytes []
gone-none bytes = record {
  front = [];
  whole = refl;
  spells = λ values text h. h;
  only = λ partial more after values h. (values, (refl, h));
}

-- fields, a comma and further fields are the spelling of all these fields
comma-more : (values : List (List ℕ)) (text : List ℕ) → SpellsRecord values text
    → SpellsMore values (44 ∷ text)
comma-more [] text h = absurd h
comma-more (w ∷ ws) text (t, (m, (e, spells, more))) = (t, (m, (ap (λ u. 44 ∷ u) e, spells, more)))

-- appending three lists in either order of brackets gives the same list
three : (a b c d : List ℕ) → (a ++ (b ++ c)) ++ d ≡ a ++ (b ++ (c ++ d))
three a b c d = append_assoc a (b ++ c) d ∙ ap (λ t. a ++ t) (append_assoc b c d)

-- if a field and a comma stand at the rest, the fill has read one more field
pub gone-comma : (bytes r s x v : List ℕ) (fields : List (List ℕ)) → BeginsField v r s
    → s ≡ 44 ∷ x → Gone bytes r fields → Gone bytes x (fields ++ v ∷ [])
gone-comma bytes r s x v fields field comma gone =
    let one = field-spelled v r s field in
    let t = one.0 in record {
      front = gone.front ++ (t ++ 44 ∷ []);
      whole = gone.whole ∙ ap (λ u. gone.front ++ u) (one.1.0 ∙ ap (λ u. t ++ u) comma) ∙ sym (three gone.front t (44 ∷ []) x);
      spells = λ values text h.
          subst (λ ws. SpellsRecord ws ((gone.front ++ (t ++ 44 ∷ [])) ++ text)) (sym (append_assoc fields (v ∷ []) values))
          (subst (λ u. SpellsRecord (fields ++ v ∷ values) u) (sym (three gone.front t (44 ∷ []) text))
          (gone.spells (v ∷ values) (t ++ 44 ∷ text) (t, (44 ∷ text, (refl, one.1.1, comma-more values text h)))));
      only = λ partial more after values h.
          let left = gone.only partial more after values h in
          let far = peel partial v (r ++ more) (s ++ more) (x ++ more) after left.0 (field-more v r s more (λ none. let y = sym comma ∙ none in cc) field) (ap (λ u. u ++ more) comma) left.1.1 in
          (far.0, (left.1.0 ∙ ap (λ ws. fields ++ ws) far.1.0 ∙ sym (append_assoc fields (v ∷ []) far.0), far.1.1));
    }

-- if a field and an end of a record stand at the rest, all fields with this one are a record
pub gone-field : (bytes r s v : List ℕ) (fields : List (List ℕ)) → BeginsField v r s
    → Gone bytes r fields
    → (text : List ℕ) × ((bytes ≡ text ++ s) × SpellsRecord (fields ++ v ∷ []) text)
gone-field bytes r s v fields field gone =
    let one = field-spelled v r s field in (
      gone.front ++ one.0,
      (
        gone.whole ∙ ap (λ u. gone.front ++ u) one.1.0 ∙ sym (append_assoc gone.front one.0 s),
        gone.spells (v ∷ []) one.0 (one.0, ([], (sym (append-nil one.0), one.1.1, refl))),
      ),
    )
