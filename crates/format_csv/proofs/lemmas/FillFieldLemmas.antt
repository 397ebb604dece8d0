-- Lemmas on one field: the field that is read is the first of each record that the bytes spell.
use Rattle.std.specs.Prelude.{Bool}
use Rattle.std.proofs.Common.{◌≡◌, ◌≢◌, ℕ, List, [], ◌∷◌, ◌++◌, inl, inr, ap, sym, ◌∙◌, subst, refl, append_assoc}
use Rattle.format_lemmas.specs.Bytes.{StartsWith, Starts}
use Rattle.format_lemmas.proofs.lemmas.ByteLemmas.{tails, begins}
use Rattle.format_csv.specs.Fields.{is_plain, doubled, SpellsField}
use Rattle.format_csv.specs.Language.{SpellsMore, SpellsRecord, EndsRecord}
use Rattle.format_csv.proofs.lemmas.FieldLemmas.{field-once, open-not}
use Rattle.format_csv.proofs.lemmas.RecordLemmas.{more-stop, ends-no-comma}
use Rattle.format_csv.specs.FillingFields.{BeginsField, IsUnclosedField}

-- the bytes are the spelling of these fields, an end of a record, and the rest
abbrev pub Spelled : Bool → List ℕ → List (List ℕ) → List ℕ → Type 0
Spelled partial bytes values after = (text : List ℕ) × ((last : List ℕ)
    × ((bytes ≡ text ++ last) × SpellsRecord values text × EndsRecord partial last after))

-- ---- More bytes after a rest

-- nonempty bytes that do not start with a byte do not start with it when a continuation is appended
not-starts : (n : ℕ) (s more : List ℕ) → s ≢ [] → ¬ (StartsWith n s) → ¬ (StartsWith n (s ++ more))
not-starts n [] more some h = absurd (some refl)
not-starts n (b ∷ s) more some h = h

-- nonempty bytes that do not start with a plain byte do not when a continuation is appended
not-plain : (s more : List ℕ) → s ≢ [] → ¬ (Starts is_plain s) → ¬ (Starts is_plain (s ++ more))
not-plain [] more some h = absurd (some refl)
not-plain (b ∷ s) more some h = h

-- a list is not empty if the list that is appended to it is not
some-before : (v s : List ℕ) → s ≢ [] → v ++ s ≢ []
some-before [] s some e = some e
some-before (b ∷ v) s some e = cc

-- a field with a nonempty rest is also a field of the bytes with a continuation
pub field-more : (v r s more : List ℕ) → s ≢ [] → BeginsField v r s
    → BeginsField v (r ++ more) (s ++ more)
field-more v r s more some (inl (e, n)) =
    inl (ap (λ t. t ++ more) e ∙ ap (λ t. 34 ∷ t) (append_assoc (doubled v) (34 ∷ s) more), not-starts 34 s more some n)
field-more v r s more some (inr (each, e, n, m)) = inr (
  each,
  ap (λ t. t ++ more) e ∙ append_assoc v s more,
  not-plain s more some n,
  not-starts 34 r more (λ none. some-before v s some (sym e ∙ none)) m,
)

-- ---- The first field of a record

-- if the bytes spell fields, the first is the field that is read, and its rest spells the others
first-field : (partial : Bool) (v w r s t m last after : List ℕ) (ws : List (List ℕ))
    → BeginsField v r s → r ≡ (t ++ m) ++ last → SpellsField w t → SpellsMore ws m
    → EndsRecord partial last after → (v ≡ w) × (s ≡ m ++ last)
first-field partial v w r s t m last after ws h e spells more ends =
    field-once partial v w t (m ++ last) s spells (more-stop partial ws m last after more ends)
    (subst (λ x. BeginsField v x s) (e ∙ append_assoc t m last) h)

-- if the rest of the first field starts with a comma, there are other fields
left-after : (partial : Bool) (x m last after : List ℕ) (ws : List (List ℕ)) → 44 ∷ x ≡ m ++ last
    → SpellsMore ws m → EndsRecord partial last after → Spelled partial x ws after
left-after partial x m last after [] e none ends =
    absurd (ends-no-comma partial last after ends (begins 44 last x (ap (λ t. t ++ last) (sym none) ∙ sym e)))
left-after partial x m last after (w ∷ ws) e (t, (n, (f, spells, more))) ends =
    (t ++ n, (last, (tails 44 44 _ _ (e ∙ ap (λ u. u ++ last) f), (t, (n, (refl, spells, more))), ends)))

-- if a comma follows a field, each record has this field and the fields after the comma
pub peel : (partial : Bool) (v r s x after : List ℕ) (left : List (List ℕ)) → BeginsField v r s
    → s ≡ 44 ∷ x → Spelled partial r left after
    → (others : List (List ℕ)) × ((left ≡ v ∷ others) × Spelled partial x others after)
peel partial v r s x after [] h comma (text, (last, (e, none, ends))) = absurd none
peel partial v r s x after (w ∷ ws) h comma (text, (last, (e, (t, (m, (f, spells, more))), ends))) =
    let one = first-field partial v w r s t m last after ws h (e ∙ ap (λ u. u ++ last) f) spells more ends in
    (ws, (ap (λ y. y ∷ ws) (sym one.0), left-after partial x m last after ws (sym comma ∙ one.1) more ends))

-- if the rest of the first field does not start with a comma, there are no other fields
none-after : (partial : Bool) (s m last after : List ℕ) (ws : List (List ℕ)) → ¬ (StartsWith 44 s)
    → s ≡ m ++ last → SpellsMore ws m → EndsRecord partial last after
    → (ws ≡ []) × EndsRecord partial s after
none-after partial s m last after [] n e none ends =
    (refl, subst (λ t. EndsRecord partial t after) (sym (e ∙ ap (λ u. u ++ last) none)) ends)
none-after partial s m last after (w ∷ ws) n e (t, (k, (f, spells, more))) ends =
    absurd (n (begins 44 s ((t ++ k) ++ last) (e ∙ ap (λ u. u ++ last) f)))

-- if no comma follows a field, each record has this field alone and ends after it
pub last-field : (partial : Bool) (v r s after : List ℕ) (left : List (List ℕ))
    → BeginsField v r s → ¬ (StartsWith 44 s) → Spelled partial r left after
    → (left ≡ v ∷ []) × EndsRecord partial s after
last-field partial v r s after [] h n (text, (last, (e, none, ends))) = absurd none
last-field partial v r s after (w ∷ ws) h n (text, (last, (e, (t, (m, (f, spells, more))), ends))) =
    let one = first-field partial v w r s t m last after ws h (e ∙ ap (λ u. u ++ last) f) spells more ends in
    let rest = none-after partial s m last after ws n one.1 more ends in
    (ap (λ y. y ∷ ws) (sym one.0) ∙ ap (λ ys. v ∷ ys) rest.0, rest.1)

-- bytes with a field that is not closed spell no record
pub open-none : (partial : Bool) (r after : List ℕ) (left : List (List ℕ)) → IsUnclosedField r
    → Spelled partial r left after → ⊥
open-none partial r after [] h (text, (last, (e, none, ends))) = none
open-none partial r after (w ∷ ws) h (text, (last, (e, (t, (m, (f, spells, more))), ends))) =
    open-not partial w t (m ++ last) spells (more-stop partial ws m last after more ends)
    (subst IsUnclosedField (e ∙ ap (λ u. u ++ last) f ∙ append_assoc t m last) h)
