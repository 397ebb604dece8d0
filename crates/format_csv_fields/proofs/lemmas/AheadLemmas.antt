-- Lemmas on a field that is ahead, and on what follows it.
use Rattle.std.specs.Prelude.{Bool, true, false, not, ◌⊎◌}
use Rattle.std.proofs.Common.{◌≡◌, ◌≢◌, ℕ, ◌+◌, ◌≤◌, ◌<◌, List, [], ◌∷◌, ◌++◌, length, refl, inl, inr, ap, sym, ◌∙◌, subst, arith, append_assoc, length-append}
use Rattle.std.proofs.lemmas.List.{append-nil}
use Rattle.std.proofs.lemmas.Bool.Decides.{leb_tells}
use Rattle.winnow_reader.specs.Reading.{MayFollow}
use Rattle.format_lemmas.specs.Bytes.{Each, StartsWith}
use Rattle.format_lemmas.proofs.lemmas.ByteLemmas.{heads, tails, begins}
use Rattle.format_csv.specs.Fields.{is_plain, doubled, SpellsField}
use Rattle.format_csv.specs.FillingFields.{BeginsField, IsUnclosedField}
use Rattle.format_csv.proofs.lemmas.FieldLemmas.{StopsAt, field-spelled, field-once, open-not}
use Rattle.format_csv.proofs.lemmas.RecordLemmas.{more-stop, ends-no-comma, ends-once, open-spelled}
use Rattle.format_csv.proofs.lemmas.FillFieldLemmas.{field-more}
use Rattle.format_csv_fields.specs.declared.after.Ending.{Ending}
use Rattle.format_csv_fields.specs.declared.after.Ending.TheVariants.{Comma, Record}
use Rattle.format_csv_fields.specs.FieldAhead.{EndsField, FieldAhead, BeginsJust, IsUnfinished, IsDamagedBefore}

-- ---- Endings

-- a field may end before an ending
pub ending-stops : (partial : Bool) (ending : Ending) (more rest : List ℕ)
    → EndsField partial ending more rest → StopsAt partial more
ending-stops partial Comma more rest e =
    subst (StopsAt partial) (sym e) (λ n. omega (arith, n), λ n. cc, λ p n. cc)
ending-stops partial Record more rest ends = more-stop partial [] [] more rest refl ends

-- bytes begin with one ending
pub ending-once : (partial : Bool) (e f : Ending) (s x y : List ℕ) → EndsField partial e s x
    → EndsField partial f s y → (e ≡ f) × (x ≡ y)
ending-once partial Comma Comma s x y h k = (refl, tails 44 44 x y (sym h ∙ k))
ending-once partial Comma Record s x y h k = absurd (ends-no-comma partial s y k (begins 44 s x h))
ending-once partial Record Comma s x y h k = absurd (ends-no-comma partial s x h (begins 44 s y k))
ending-once partial Record Record s x y h k = (refl, ends-once partial s x y h k)

-- an ending is one with a continuation that may follow
ending-more : (ended : Bool) (e : Ending) (s rest more : List ℕ) → EndsField (not ended) e s rest
    → MayFollow ended more false → EndsField false e (s ++ more) (rest ++ more)
ending-more ended Comma s rest more h may = ap (λ t. t ++ more) h
ending-more ended Record s rest more (inl e) may = inl (ap (λ t. t ++ more) e)
ending-more ended Record s rest more (inr (inl e)) may = inr (inl (ap (λ t. t ++ more) e))
ending-more true Record s rest more (inr (inr (e, f, p))) may =
    inr (inr (ap (λ t. t ++ more) e ∙ may.0, ap (λ t. t ++ more) f ∙ may.0, refl))
ending-more false Record s rest more (inr (inr (e, f, p))) may = absurd (let x : true ≡ false = p in cc)

-- a field before an ending is one with a continuation that may follow
field-ending : (ended : Bool) (e : Ending) (v r s rest more : List ℕ) → BeginsField v r s
    → EndsField (not ended) e s rest → MayFollow ended more false
    → BeginsField v (r ++ more) (s ++ more)
field-ending ended Comma v r s rest more h e may = field-more v r s more (λ none. let x = sym e ∙ none in cc) h
field-ending ended Record v r s rest more h (inl e) may = field-more v r s more (λ none. let x = sym e ∙ none in cc) h
field-ending ended Record v r s rest more h (inr (inl e)) may = field-more v r s more (λ none. let x = sym e ∙ none in cc) h
field-ending true Record v r s rest more h (inr (inr (e, f, p))) may =
    subst (λ t. BeginsField v (r ++ t) (s ++ t)) (sym may.0)
    (subst (λ u. BeginsField v u (s ++ [])) (sym (append-nil r)) (subst (λ u. BeginsField v r u) (sym (append-nil s)) h))
field-ending false Record v r s rest more h (inr (inr (e, f, p))) may = absurd (let x : true ≡ false = p in cc)

-- a quote is not a plain byte, so plain bytes before a comma do not start with one
plain-starts : (value rest : List ℕ) → Each is_plain value → ¬ (StartsWith 34 (value ++ 44 ∷ rest))
plain-starts [] rest each h = omega (arith, h)
plain-starts (b ∷ value) rest each h =
    let x : false ≡ true = subst (λ c. is_plain c ≡ true) h each.0 in cc

-- bytes that are the text of a field and a comma begin with the field
pub spelled-begins : (value text more : List ℕ) → SpellsField value text
    → BeginsField value (text ++ 44 ∷ more) (44 ∷ more)
spelled-begins value text more (inl (each, e)) = inr (
  each,
  ap (λ t. t ++ 44 ∷ more) e,
  λ h. cc,
  subst (λ t. ¬ (StartsWith 34 (t ++ 44 ∷ more))) (sym e) (plain-starts value more each),
)
spelled-begins value text more (inr e) = inl (
  ap (λ t. t ++ 44 ∷ more) e ∙ ap (λ t. 34 ∷ t) (append_assoc (doubled value) (34 ∷ []) (44 ∷ more)),
  λ h. omega (arith, h),
)

-- the field with which bytes begin is the field ahead, and its rest begins with the ending
pub ahead-once : (partial : Bool) (v r s t w rest : List ℕ) (e : Ending) → BeginsField v r s
    → FieldAhead partial r t w e rest → (w ≡ v) × EndsField partial e s rest
ahead-once partial v r s t w rest e field (more, (whole, spells, ends)) =
    let one = field-once partial v w t more s spells (ending-stops partial e more rest ends) (subst (λ x. BeginsField v x s) whole field) in
    (sym one.0, subst (λ x. EndsField partial e x rest) (sym one.1) ends)

-- ---- A field and its ending

module _ (ended : Bool) (v r s rest : List ℕ) (e : Ending) (field : BeginsField v r s) (ends : EndsField (not ended) e s rest) where
  -- the text of the field
  pub just-text : List ℕ
  just-text = (field-spelled v r s field).0

  -- its length is that of the bytes before the rest
  pub just-length : length r ≡ length just-text + length s
  unfolding just-text
  just-length =
      ap length (field-spelled v r s field).1.0 ∙ length-append (field-spelled v r s field).0 s

  -- the bytes begin with just this field
  pub begins-just : BeginsJust ended r just-text v e rest
  unfolding just-text
  begins-just =
      let text = field-spelled v r s field in (
        (s, (text.1.0, text.1.1, ends)),
        λ more may.
            let far = ending-more ended e s rest more ends may in (
              (s ++ more, (ap (λ t. t ++ more) text.1.0 ∙ append_assoc text.0 s more, text.1.1, far)),
              λ t w f x h.
                  let one = ahead-once false v (r ++ more) (s ++ more) t w x f (field-ending ended e v r s rest more field ends may) h in
                  let same = ending-once false f e (s ++ more) x (rest ++ more) one.1 far in
                  (one.0, same.0, same.1),
            ),
      )

-- ---- More is needed

-- if nothing or CR alone follows a field, no ending follows it
not-ended : (e : Ending) (s after : List ℕ) → (s ≡ []) ⊎ (s ≡ 13 ∷ [])
    → ¬ (EndsField true e s after)
not-ended Comma s after (inl e) h = let x = sym e ∙ h in cc
not-ended Comma s after (inr e) h = omega (arith, heads 13 44 [] after (sym e ∙ h))
not-ended Record s after (inl e) (inl f) = let x = sym e ∙ f in cc
not-ended Record s after (inl e) (inr (inl f)) = let x = sym e ∙ f in cc
not-ended Record s after (inr e) (inl f) = let x = tails 13 13 [] (10 ∷ after) (sym e ∙ f) in cc
not-ended Record s after (inr e) (inr (inl f)) = omega (arith, heads 13 10 [] after (sym e ∙ f))
not-ended Record s after o (inr (inr f)) = let x : true ≡ false = f.2 in cc

-- some byte makes an ending of nothing or of CR alone
may-end : (s : List ℕ) → (s ≡ []) ⊎ (s ≡ 13 ∷ [])
    → (more : List ℕ) × ((e : Ending) × EndsField true e (s ++ more) [])
may-end s (inl e) = (44 ∷ [], (Comma, ap (λ t. t ++ 44 ∷ []) e))
may-end s (inr e) = (10 ∷ [], (Record, inl (ap (λ t. t ++ 10 ∷ []) e)))

-- if nothing or CR alone follows a field and more may follow, the field is unfinished
pub unfinished : (v r s : List ℕ) → BeginsField v r s → (s ≡ []) ⊎ (s ≡ 13 ∷ [])
    → IsUnfinished false r
unfinished v r s field o =
    let text = field-spelled v r s field in
    let end = may-end s o in (
      refl,
      (
        end.0,
        (text.0, (v, (end.1.0, ([], (s ++ end.0, (ap (λ t. t ++ end.0) text.1.0 ∙ append_assoc text.0 s end.0, text.1.1, end.1.1)))))),
      ),
      λ (t, (w, (e, (rest, h)))). not-ended e s rest o (ahead-once true v r s t w rest e field h).1,
    )

-- bytes with a field that is not closed begin with no field
open-none : (partial : Bool) (r t w rest : List ℕ) (e : Ending) → IsUnclosedField r
    → ¬ (FieldAhead partial r t w e rest)
open-none partial r t w rest e torn (more, (whole, spells, ends)) =
    open-not partial w t more spells (ending-stops partial e more rest ends) (subst IsUnclosedField whole torn)

-- if a field is not closed and more may follow, the field is unfinished
pub unclosed : (r : List ℕ) → IsUnclosedField r → IsUnfinished false r
unclosed r torn =
    let one = open-spelled r torn in (
      refl,
      (
        34 ∷ 44 ∷ [],
        (r ++ 34 ∷ [], (one.0, (Comma, ([], (44 ∷ [], (sym (append_assoc r (34 ∷ []) (44 ∷ [])), one.1, refl)))))),
      ),
      λ (t, (w, (e, (rest, h)))). open-none true r t w rest e torn h,
    )

-- ---- Damage

-- if no ending can follow a field, it is malformed after it
pub broken : (ended : Bool) (v r s : List ℕ) → BeginsField v r s → s ≢ []
    → ((more : List ℕ) → MayFollow ended more false → (e : Ending) (after : List ℕ)
    → ¬ (EndsField false e (s ++ more) after)) → IsDamagedBefore ended r s
broken ended v r s field some cannot = λ more may.
    let text = field-spelled v r s field in (
      λ (t, (w, (e, (rest, h)))).
          cannot more may e rest (ahead-once false v (r ++ more) (s ++ more) t w rest e (field-more v r s more some field) h).1,
      inl (text.0, (v, (ap (λ t. t ++ more) text.1.0 ∙ append_assoc text.0 s more, text.1.1, cannot more may))),
    )

-- if a field is not closed at the end of the input, it is malformed at the end
pub damaged-end : (r rest : List ℕ) → IsUnclosedField r → rest ≡ [] → IsDamagedBefore true r rest
damaged-end r rest torn none = λ more may.
    let one = open-spelled r torn in
    let same : r ++ more ≡ r = ap (λ t. r ++ t) may.0 ∙ append-nil r in (
      λ (t, (w, (e, (x, h)))). open-none false r t w x e torn (subst (λ b. FieldAhead false b t w e x) same h),
      inr (one.0, (subst (λ b. SpellsField one.0 (b ++ 34 ∷ [])) (sym same) one.1, ap (λ t. t ++ more) none ∙ may.0)),
    )

-- ---- Fields that are too long

-- a front of some bytes that is no longer than another front is a front of it
split : (t m r more : List ℕ) → t ++ m ≡ r ++ more → length t ≤ length r
    → (u : List ℕ) × ((r ≡ t ++ u) × (m ≡ u ++ more))
split [] m r more e l = (r, (refl, e))
split (x ∷ t) m [] more e l = absurd (omega (arith, l))
split (x ∷ t) m (y ∷ r) more e l =
    let h = split t m r more (tails x y _ _ e) (omega (arith, l)) in
    (h.0, (ap (λ b. b ∷ r) (sym (heads x y _ _ e)) ∙ ap (λ ys. x ∷ ys) h.1.0, h.1.1))

-- a field may end before nonempty bytes, if it may end before them and a continuation
stops-front : (u more : List ℕ) → u ≢ [] → StopsAt false (u ++ more) → StopsAt false u
stops-front [] more some h = absurd (some refl)
stops-front (b ∷ u) more some h = (h.0, h.1, λ p n. cc)

-- a field ahead whose text ends in the first bytes is a text of them
inside : (r more t w rest : List ℕ) (e : Ending) → FieldAhead false (r ++ more) t w e rest
    → length t < length r
    → (u : List ℕ) × ((r ≡ t ++ u) × SpellsField w t × StopsAt false u)
inside r more t w rest e (m, (whole, spells, ends)) l =
    let h = split t m r more (sym whole) (omega (arith, l)) in
    let some : h.0 ≢ [] = λ none. omega (arith, l, ap length h.1.0, length-append t h.0, ap length none) in
    (h.0, (h.1.0, spells, stops-front h.0 more some (subst (StopsAt false) h.1.1 (ending-stops false e m rest ends))))

-- with each continuation, the text of the field ahead has at least the bytes before the rest
pub text-least : (v r s more t w rest : List ℕ) (e : Ending) → BeginsField v r s
    → FieldAhead false (r ++ more) t w e rest → length r ≤ length t + length s
text-least v r s more t w rest e field h = elim (leb_tells (length r) (length t)) [
  | inr l ↦ let i = inside r more t w rest e h l.1 in
      let one = field-once false v w t i.0 s i.1.1 i.1.2 (subst (λ x. BeginsField v x s) i.1.0 field) in
      omega (arith, ap length i.1.0, length-append t i.0, ap length one.1)
  | inl l ↦ omega (arith, l.1)
]

-- with each continuation, the text of a field that is not closed has at least all bytes
pub open-least : (r more t w rest : List ℕ) (e : Ending) → IsUnclosedField r
    → FieldAhead false (r ++ more) t w e rest → length r ≤ length t
open-least r more t w rest e torn h = elim (leb_tells (length r) (length t)) [
  | inr l ↦ let i = inside r more t w rest e h l.1 in
      absurd (open-not false w t i.0 i.1.1 i.1.2 (subst IsUnclosedField i.1.0 torn))
  | inl l ↦ omega (arith, l.1)
]
