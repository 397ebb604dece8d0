-- Lemmas on the results of a fill: a record, more is needed, or damage.
use Rattle.std.specs.Prelude.{◌⊎◌, not, Bool, true, false}
use Rattle.std.proofs.Common.{◌≡◌, ◌≢◌, ℕ, List, [], ◌∷◌, ◌++◌, inl, inr, ap, sym, ◌∙◌, subst, refl, append_assoc, arith}
use Rattle.std.proofs.lemmas.List.{append-nil}
use Rattle.winnow_reader.specs.Reading.{MayFollow}
use Rattle.format_lemmas.specs.Bytes.{StartsWith}
use Rattle.format_lemmas.proofs.lemmas.ByteLemmas.{heads, tails}
use Rattle.format_csv.specs.Language.{SpellsRecord, EndsRecord, RecordAhead}
use Rattle.format_csv.specs.Tables.{HasNoRecord, IsDamagedAt}
use Rattle.format_csv.proofs.lemmas.RecordLemmas.{ends-once, ends-no-comma, open-spelled}
use Rattle.format_csv.proofs.lemmas.AnswerLemmas.{fields-begun, end-begun}
use Rattle.format_csv.specs.FillingFields.{BeginsField, IsUnclosedField}
use Rattle.format_csv.specs.Filling.{CannotFollow, BeginsJust, IsUnfinished, IsDamagedBefore}
use Rattle.format_csv.proofs.lemmas.FillFieldLemmas.{Spelled, field-more, last-field, open-none}
use Rattle.format_csv.proofs.lemmas.FillGoneLemmas.{Gone, gone-field}

-- ---- A record

-- an end of a record is also one with a continuation that may follow
ends-more : (ended : Bool) (s rest more : List ℕ) → EndsRecord (not ended) s rest
    → MayFollow ended more false → EndsRecord false (s ++ more) (rest ++ more)
ends-more ended s rest more (inl e) may = inl (ap (λ t. t ++ more) e)
ends-more ended s rest more (inr (inl e)) may = inr (inl (ap (λ t. t ++ more) e))
ends-more true s rest more (inr (inr (e, f, p))) may =
    inr (inr (ap (λ t. t ++ more) e ∙ may.0, ap (λ t. t ++ more) f ∙ may.0, refl))
ends-more false s rest more (inr (inr (e, f, p))) may = absurd (let x : true ≡ false = p in cc)

-- a field before an end of a record is also one with a continuation that may follow
field-ends : (ended : Bool) (v r s rest more : List ℕ) → BeginsField v r s
    → EndsRecord (not ended) s rest → MayFollow ended more false
    → BeginsField v (r ++ more) (s ++ more)
field-ends ended v r s rest more h (inl e) may = field-more v r s more (λ none. let x = sym e ∙ none in cc) h
field-ends ended v r s rest more h (inr (inl e)) may = field-more v r s more (λ none. let x = sym e ∙ none in cc) h
field-ends true v r s rest more h (inr (inr (e, f, p))) may =
    subst (λ t. BeginsField v (r ++ t) (s ++ t)) (sym may.0)
    (subst (λ u. BeginsField v u (s ++ [])) (sym (append-nil r)) (subst (λ u. BeginsField v r u) (sym (append-nil s)) h))
field-ends false v r s rest more h (inr (inr (e, f, p))) may = absurd (let x : true ≡ false = p in cc)

-- nonempty bytes with a continuation are not empty
some-more : (bytes more : List ℕ) → bytes ≢ [] → bytes ++ more ≢ []
some-more [] more some e = some refl
some-more (b ∷ bytes) more some e = cc

-- if the last field is read before an end of a record, the bytes begin with just this record
pub filled : (ended : Bool) (bytes r s rest v : List ℕ) (fields : List (List ℕ)) → bytes ≢ []
    → BeginsField v r s → EndsRecord (not ended) s rest → Gone bytes r fields
    → BeginsJust ended bytes (fields ++ v ∷ []) rest
filled ended bytes r s rest v fields some field ends gone =
    let whole = gone-field bytes r s v fields field gone in (
      (some, (whole.0, (s, (whole.1.0, whole.1.1, ends)))),
      λ more may.
          let far = ends-more ended s rest more ends may in (
            (some-more bytes more some, (whole.0, (s ++ more, (ap (λ t. t ++ more) whole.1.0 ∙ append_assoc whole.0 s more, whole.1.1, far)))),
            λ others after h.
                let left = gone.only false more after others h.1 in
                let last = last-field false v (r ++ more) (s ++ more) after left.0 (field-ends ended v r s rest more field ends may) (ends-no-comma false (s ++ more) (rest ++ more) far) left.1.1 in
                (left.1.0 ∙ ap (λ ws. fields ++ ws) last.0, ends-once false (s ++ more) after (rest ++ more) last.1 far),
          ),
    )

-- ---- More is needed

-- if nothing or CR alone follows a field, no end of a record follows it
not-ended : (s after : List ℕ) → (s ≡ []) ⊎ (s ≡ 13 ∷ []) → ¬ (EndsRecord true s after)
not-ended s after (inl e) (inl f) = let x = sym e ∙ f in cc
not-ended s after (inl e) (inr (inl f)) = let x = sym e ∙ f in cc
not-ended s after (inr e) (inl f) = let x = tails 13 13 [] (10 ∷ after) (sym e ∙ f) in cc
not-ended s after (inr e) (inr (inl f)) = omega (arith, heads 13 10 [] after (sym e ∙ f))
not-ended s after o (inr (inr f)) = let x : true ≡ false = f.2 in cc

-- if nothing or CR alone follows a field, no comma follows it
no-comma : (s : List ℕ) → (s ≡ []) ⊎ (s ≡ 13 ∷ []) → ¬ (StartsWith 44 s)
no-comma s (inl e) h = subst (StartsWith 44) e h
no-comma s (inr e) h = let x : 13 ≡ 44 = subst (StartsWith 44) e h in omega (arith, x)

-- each record of the bytes has the fields that are read, then further fields
ahead-left : (bytes r rest : List ℕ) (fields values : List (List ℕ)) → Gone bytes r fields
    → RecordAhead true bytes values rest → (left : List (List ℕ)) × Spelled true r left rest
ahead-left bytes r rest fields values gone h =
    let left = gone.only true [] rest values (subst (λ b. Spelled true b values rest) (sym (append-nil bytes)) h.1) in
    (left.0, subst (λ b. Spelled true b left.0 rest) (append-nil r) left.1.1)

-- if nothing or CR alone follows a field, the record is unfinished
pub unfinished : (bytes r s v : List ℕ) (fields : List (List ℕ)) → BeginsField v r s
    → (s ≡ []) ⊎ (s ≡ 13 ∷ []) → Gone bytes r fields → IsUnfinished false bytes
unfinished bytes r s v fields field o gone =
    let whole = gone-field bytes r s v fields field gone in (
      refl,
      end-begun (fields ++ v ∷ []) bytes whole.0 s whole.1.0 whole.1.1 o,
      λ values rest h.
          let left = ahead-left bytes r rest fields values gone h in
          not-ended s rest o (last-field true v r s rest left.0 field (no-comma s o) left.1).1,
    )

-- a field that is not closed, a quote and LF are a field and an end of a record
closed-record : (bytes r : List ℕ) (fields : List (List ℕ)) → IsUnclosedField r
    → Gone bytes r fields → (values : List (List ℕ)) × SpellsRecord values (bytes ++ 34 ∷ [])
closed-record bytes r fields torn gone =
    let one = open-spelled r torn in
    let last = r ++ 34 ∷ [] in (
      fields ++ one.0 ∷ [],
      subst (λ t. SpellsRecord (fields ++ one.0 ∷ []) t) (sym (ap (λ t. t ++ 34 ∷ []) gone.whole ∙ append_assoc gone.front r (34 ∷ [])))
          (gone.spells (one.0 ∷ []) last (last, ([], (sym (append-nil last), one.1, refl)))),
    )

-- if a field is not closed and more may follow, the record is unfinished
pub unclosed : (bytes r : List ℕ) (fields : List (List ℕ)) → IsUnclosedField r
    → Gone bytes r fields → IsUnfinished false bytes
unclosed bytes r fields torn gone = (
  refl,
  fields-begun bytes (34 ∷ [], closed-record bytes r fields torn gone),
  λ values rest h.
      let left = ahead-left bytes r rest fields values gone h in
      open-none true r rest left.0 torn left.1,
)

-- ---- Damage

-- if neither a comma nor an end of a record follows a field, the record is malformed after it
pub broken : (ended : Bool) (bytes r s v : List ℕ) (fields : List (List ℕ)) → BeginsField v r s
    → s ≢ [] → CannotFollow ended s → Gone bytes r fields → IsDamagedBefore ended bytes s
broken ended bytes r s v fields field some cannot gone = λ more may.
    let whole = gone-field bytes r s v fields field gone in (
      λ values after h.
          let left = gone.only false more after values h.1 in
          (cannot more may).1 after (last-field false v (r ++ more) (s ++ more) after left.0 (field-more v r s more some field) (cannot more may).0 left.1.1).1,
      inl (fields ++ v ∷ [], (whole.0, (ap (λ t. t ++ more) whole.1.0 ∙ append_assoc whole.0 s more, whole.1.1, (cannot more may).0, (cannot more may).1))),
    )

-- a field that is not closed extends to the end of the bytes
unclosed-end : (bytes r rest : List ℕ) (fields : List (List ℕ)) → IsUnclosedField r → rest ≡ []
    → Gone bytes r fields → HasNoRecord (bytes ++ []) × IsDamagedAt (bytes ++ []) (rest ++ [])
unclosed-end bytes r rest fields torn none gone = (
  λ values after h.
      let left = gone.only false [] after values h.1 in
      open-none false (r ++ []) after left.0 (subst IsUnclosedField (sym (append-nil r)) torn) left.1.1,
  inr (
    subst (λ b. (values : List (List ℕ)) × SpellsRecord values (b ++ 34 ∷ [])) (sym (append-nil bytes)) (closed-record bytes r fields torn gone),
    ap (λ t. t ++ []) none,
  ),
)

-- if a field is not closed at the end of the input, the record is malformed at the end
pub damaged-end : (bytes r rest : List ℕ) (fields : List (List ℕ)) → IsUnclosedField r → rest ≡ []
    → Gone bytes r fields → IsDamagedBefore true bytes rest
damaged-end bytes r rest fields torn none gone = λ more may.
    subst (λ t. HasNoRecord (bytes ++ t) × IsDamagedAt (bytes ++ t) (rest ++ t)) (sym may.0)
    (unclosed-end bytes r rest fields torn none gone)
