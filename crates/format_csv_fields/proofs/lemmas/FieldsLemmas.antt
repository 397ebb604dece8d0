-- Lemmas on fields with a comma after each.
use Rattle.std.specs.Prelude.{Bool, false}
use Rattle.std.proofs.Common.{◌≡◌, ◌≢◌, ℕ, List, [], ◌∷◌, ◌++◌, refl, inl, inr, ap, sym, ◌∙◌, subst, append_assoc}
use Rattle.std.proofs.lemmas.List.{append-nil}
use Rattle.format_lemmas.specs.Bytes.{StartsWith}
use Rattle.format_lemmas.proofs.lemmas.ByteLemmas.{some}
use Rattle.format_csv.specs.Fields.{SpellsField}
use Rattle.format_csv.specs.Language.{SpellsMore, SpellsRecord}
use Rattle.format_csv.specs.Tables.{HasNoRecord, IsDamagedAt}
use Rattle.format_csv.specs.FillingFields.{BeginsField}
use Rattle.format_csv.proofs.lemmas.FillFieldLemmas.{Spelled, peel}
use Rattle.format_csv_fields.specs.declared.after.Ending.TheVariants.{Comma, Record}
use Rattle.format_csv_fields.specs.FieldAhead.{HasField, IsBrokenAt}
use Rattle.format_csv_fields.specs.Reading.{AreFields}
use Rattle.format_csv_fields.proofs.lemmas.AheadLemmas.{spelled-begins}

-- one more field with a comma after it
pub fields-more : (bytes r t rest v : List ℕ) (fields : List (List ℕ)) → AreFields bytes fields r
    → r ≡ t ++ 44 ∷ rest → SpellsField v t → AreFields bytes (fields ++ v ∷ []) rest
fields-more bytes r t rest v [] e same spells = (t, (rest, (e ∙ same, spells, refl)))
fields-more bytes r t rest v (w ∷ ws) (text, (more, (e, first, others))) same spells =
    (text, (more, (e, first, fields-more more r t rest v ws others same spells)))

-- fields are fields of longer bytes
pub fields-append : (bytes r x : List ℕ) (fields : List (List ℕ)) → AreFields bytes fields r
    → AreFields (bytes ++ x) fields (r ++ x)
fields-append bytes r x [] e = ap (λ t. t ++ x) e
fields-append bytes r x (w ∷ ws) (text, (more, (e, first, others))) =
    (text, (more ++ x, (ap (λ t. t ++ x) e ∙ append_assoc text (44 ∷ more) x, first, fields-append more r x ws others)))

-- fields with commas and one more field spell a record, or the rest of one
abbrev SpellsThen : List ℕ → List ℕ → List (List ℕ) → Type 0
SpellsThen bytes m values =
    (text : List ℕ)
    × ((bytes ≡ text ++ m) × (SpellsRecord values text × SpellsMore values (44 ∷ text)))

-- fields with commas, and one more field, spell the record of all these fields
then-field : (bytes r t m v : List ℕ) (fields : List (List ℕ)) → AreFields bytes fields r
    → r ≡ t ++ m → SpellsField v t → SpellsThen bytes m (fields ++ v ∷ [])
then-field bytes r t m v [] e same spells =
    (t, (e ∙ same, ((t, ([], (sym (append-nil t), spells, refl))), (t, ([], (ap (λ u. 44 ∷ u) (sym (append-nil t)), spells, refl))))))
then-field bytes r t m v (w ∷ ws) (text, (more, (e, first, others))) same spells =
    let far = then-field more r t m v ws others same spells in (
      text ++ 44 ∷ far.0,
      (
        e ∙ ap (λ u. text ++ 44 ∷ u) far.1.0 ∙ sym (append_assoc text (44 ∷ far.0) m),
        ((text, (44 ∷ far.0, (refl, first, far.1.1.1))), (text, (44 ∷ far.0, (refl, first, far.1.1.1)))),
      ),
    )

-- so the bytes spell a record before what follows that field
pub fields-record : (bytes r t m v : List ℕ) (fields : List (List ℕ)) → AreFields bytes fields r
    → r ≡ t ++ m → SpellsField v t
    → (text : List ℕ) × ((bytes ≡ text ++ m) × SpellsRecord (fields ++ v ∷ []) text)
fields-record bytes r t m v fields h same spells =
    let far = then-field bytes r t m v fields h same spells in (far.0, (far.1.0, far.1.1.0))

-- bytes that begin with a field and a comma are not empty
pub fields-some : (bytes r w : List ℕ) (ws : List (List ℕ)) → AreFields bytes (w ∷ ws) r
    → bytes ≢ []
fields-some bytes r w ws (text, (more, (e, first, others))) none = some text more 44 (sym e ∙ none)

-- each record of the bytes begins with these fields, and the rest spells its other fields
pub fields-only : (partial : Bool) (bytes r after : List ℕ) (fields values : List (List ℕ))
    → AreFields bytes fields r → Spelled partial bytes values after
    → (left : List (List ℕ)) × ((values ≡ fields ++ left) × Spelled partial r left after)
fields-only partial bytes r after [] values e h =
    (values, (refl, subst (λ b. Spelled partial b values after) e h))
fields-only partial bytes r after (w ∷ ws) values (text, (more, (e, first, others))) h =
    let one = peel partial w bytes (44 ∷ more) more after values (subst (λ b. BeginsField w b (44 ∷ more)) (sym e) (spelled-begins w text more first)) refl h in
    let far = fields-only partial more r after ws one.0 others one.1.1 in
    (far.0, (one.1.0 ∙ ap (λ ys. w ∷ ys) far.1.0, far.1.1))

-- bytes that spell fields before an end of a record begin with a field and its ending
spelled-field : (partial : Bool) (r after : List ℕ) (values : List (List ℕ))
    → Spelled partial r values after → HasField partial r
spelled-field partial r after [] (text, (last, (e, none, ends))) = absurd none
spelled-field partial r after (v ∷ []) (text, (last, (e, (t, (m, (f, spells, none))), ends))) =
    (t, (v, (Record, (after, (last, (e ∙ ap (λ u. u ++ last) (f ∙ ap (λ u. t ++ u) none ∙ append-nil t), spells, ends))))))
spelled-field partial r after (v ∷ w ∷ ws) (text, (last, (e, (t, (m, (f, spells, (u, (n, (g, next, more)))))), ends))) =
    (t, (v, (Comma, ((u ++ n) ++ last, (44 ∷ ((u ++ n) ++ last), (e ∙ ap (λ x. x ++ last) (f ∙ ap (λ x. t ++ x) g) ∙ append_assoc t (44 ∷ (u ++ n)) last, spells, refl))))))

-- if no field and ending come after the fields, the bytes begin with no record
pub fields-none : (bytes r : List ℕ) (fields : List (List ℕ)) → AreFields bytes fields r
    → ¬ (HasField false r) → HasNoRecord bytes
fields-none bytes r fields h none = λ row after record-ahead.
    let left = fields-only false bytes r after fields row h record-ahead.1 in
    none (spelled-field false r after left.0 left.1.1)

-- bytes that start with a comma are a comma and the rest
comma-first : (s : List ℕ) → StartsWith 44 s → (x : List ℕ) × (s ≡ 44 ∷ x)
comma-first [] h = absurd h
comma-first (b ∷ s) h = (s, ap (λ c. c ∷ s) h)

-- if the field after the fields is malformed, so is the record
pub fields-damaged : (bytes r s : List ℕ) (fields : List (List ℕ)) → AreFields bytes fields r
    → IsBrokenAt r s → IsDamagedAt bytes s
fields-damaged bytes r s fields h (inl (t, (v, (e, spells, cannot)))) =
    let far = fields-record bytes r t s v fields h e spells in
    inl (fields ++ v ∷ [], (far.0, (far.1.0, far.1.1, λ starts. let x = comma-first s starts in cannot Comma x.0 x.1, λ after. cannot Record after)))
fields-damaged bytes r s fields h (inr (v, (spells, none))) =
    let far = fields-record (bytes ++ 34 ∷ []) (r ++ 34 ∷ []) (r ++ 34 ∷ []) [] v fields (fields-append bytes r (34 ∷ []) fields h) (sym (append-nil (r ++ 34 ∷ []))) spells in
    inr ((fields ++ v ∷ [], subst (SpellsRecord (fields ++ v ∷ [])) (sym (far.1.0 ∙ append-nil far.0)) far.1.1), none)
