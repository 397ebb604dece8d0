-- Lemmas on the fields that a reader has read.
use Rattle.std.specs.Prelude.{Bool, true, false, not, min, take, drop, Result, Ok, Err}
use Rattle.std.proofs.Common.{◌≡◌, ◌≢◌, ℕ, ◌+◌, ◌-◌, ◌≤◌, ◌<◌, zero, suc, List, [], ◌∷◌, ◌++◌, length, refl, inl, inr, ap, sym, ◌∙◌, subst, arith, append_assoc, length-append, length-drop}
use Rattle.std.proofs.lemmas.List.{drop-drop}
use Rattle.winnow_reader.specs.Reading.{MayFollow}
use Rattle.winnow_reader.specs.State.{ReaderState, taken_by, pushed, ended_after, fed_of}
use Rattle.winnow_reader.specs.Skips.{skipped}
use Rattle.winnow_reader.specs.declared.next.Next.{Next}
use Rattle.winnow_reader.specs.declared.next.Next.TheVariants as next
use Rattle.format_csv.specs.declared.grammar.Row.{Row}
use Rattle.format_csv.proofs.lemmas.TableLemmas.{records-more}
use Rattle.format_csv_fields.specs.declared.after.Ending.{Ending}
use Rattle.format_csv_fields.specs.declared.after.Ending.TheVariants as ending
use Rattle.format_csv_fields.specs.declared.looking.Text.{Text}
use Rattle.format_csv_fields.specs.declared.finding.Found.TheVariants as found
use Rattle.format_csv_fields.specs.declared.field_reader.FieldError.{FieldError}
use Rattle.format_csv_fields.specs.declared.field_reader.FieldError.TheVariants as error
use Rattle.format_csv_fields.specs.FieldAhead.{FieldAhead, BeginsJust}
use Rattle.format_csv.proofs.lemmas.FillByteLemmas.{slice-from}
use Rattle.format_csv_fields.specs.declared.looking.Looked.{Looked}
use Rattle.format_csv_fields.specs.Looking.{IsValue, IsText, IsLooked, looked_at}
use Rattle.format_csv_fields.specs.Finding.{Finds}
use Rattle.format_csv_fields.specs.declared.finding.Found.{Found}
use Rattle.format_csv_fields.specs.declared.lending.Lent.{Lent}
use Rattle.format_csv_fields.specs.Lending.{lent_bytes, Lends}
use Rattle.format_csv_fields.specs.FieldState.{FieldState, new_reader, lends_nothing, fields_pushed, fields_ended}
use Rattle.format_csv_fields.specs.Reading.{AreFields, AreRead, IsWithin, HasRead, ReadsAlso, ReadsThrough, ReadsOn, is_comma, TakesField, FindsDamage, ReadsNext, TellsDamage}
use Rattle.format_csv_fields.proofs.lemmas.LookLemmas.{text-looked}
use Rattle.format_csv_fields.proofs.lemmas.FieldsLemmas.{fields-more, fields-record, fields-some, fields-none, fields-damaged}

-- a new reader has read no fields
pub read-none : (f : FieldState) (limit : ℕ) → f ≡ new_reader limit → HasRead f [] [] []
read-none f limit e =
    subst (λ g. HasRead g [] [] []) (sym e)
    (record { reads = λ more may. (more, (refl, refl)); fed = refl; within = refl })

-- after a piece is pushed, the reader has read the same fields of the longer input
pub read-piece : (old new : FieldState) (piece : List ℕ) → old.state.ended ≡ false
    → new ≡ fields_pushed old piece → ReadsAlso old piece new
read-piece old new piece going e = λ input rows fields h.
    subst (λ g. HasRead g (input ++ piece) rows fields) (sym e) (record {
      reads = λ more may.
          subst (λ xs. AreRead xs rows fields ((old.state.ahead ++ piece) ++ more)) (sym (append_assoc input piece more))
          (subst (λ ys. AreRead (input ++ (piece ++ more)) rows fields ys) (sym (append_assoc old.state.ahead piece more))
          (h.reads (piece ++ more) (subst (λ b. MayFollow b (piece ++ more) false) (sym going) tt)));
      fed = omega (arith, h.fed, length-append old.state.ahead piece, length-append input piece);
      within = h.within;
    })

-- a continuation that may follow after the end may also follow before it
may-before : (ended : Bool) (more : List ℕ) → MayFollow true more false → MayFollow ended more false
may-before true more may = may
may-before false more may = tt

-- after the end is noted, the reader has read the same fields
pub read-end : (old new : FieldState) → new ≡ fields_ended old → ReadsThrough old new
read-end old new e = λ input rows fields h.
    subst (λ g. HasRead g input rows fields) (sym e)
    (record { reads = λ more may. h.reads more (may-before old.state.ended more may); fed = h.fed; within = h.within })

-- ---- A field is read

-- after one more field, fields of a record were read
within-more : (within : Bool) (fields : List (List ℕ)) (v : List ℕ) → within ≡ true
    → IsWithin within (fields ++ v ∷ [])
within-more within [] v e = e
within-more within (w ∷ ws) v e = e

module _ (old new : FieldState) (e : Ending) (t : TakesField old e new) (input : List ℕ) (rows : List (List (List ℕ))) (fields : List (List ℕ)) (h : HasRead old input rows fields) where
  -- the new reader has the same continuations
  same-ended : new.state.ended ≡ old.state.ended
  same-ended = ap (λ (f : ReaderState Row). f.ended) t.state

  -- the joined input is as long
  same-fed : fed_of new.state ≡ length input
  same-fed =
      ap (λ (f : ReaderState Row). fed_of f) t.state ∙ omega (arith, t.bound, length-drop t.n old.state.ahead, h.fed)

  -- a continuation that may follow the new reader
  may-old : (more : List ℕ) → MayFollow new.state.ended more false
      → MayFollow old.state.ended more false
  may-old more may = subst (λ b. MayFollow b more false) same-ended may

  -- the field ahead of a continuation
  field-ahead : (more : List ℕ) → MayFollow new.state.ended more false
      → FieldAhead false (old.state.ahead ++ more) t.text new.field e (new.state.ahead ++ more)
  field-ahead more may = (t.begins.1 more (may-old more may)).0

  -- if no field of the record was read, some bytes are ahead
  begun-some : (ws : List (List ℕ)) (begun more : List ℕ) → IsWithin old.within ws
      → AreFields begun ws (old.state.ahead ++ more) → begun ≢ []
  begun-some [] begun more outside same = λ none.
      omega (arith, t.some outside, t.bound, length-append old.state.ahead more, ap length same, ap length none)
  begun-some (w ∷ ws) begun more inside same = fields-some begun (old.state.ahead ++ more) w ws same

-- a field before a comma is one more field of its record
read-comma : (old new : FieldState) → TakesField old ending.Comma new → (input : List ℕ)
    → (rows : List (List (List ℕ))) (fields : List (List ℕ)) → HasRead old input rows fields
    → HasRead new input rows (fields ++ new.field ∷ [])
read-comma old new t input rows fields h = record {
  reads = λ more may.
      let a = h.reads more (may-old old new ending.Comma t input rows fields h more may) in
      let f = field-ahead old new ending.Comma t input rows fields h more may in
      (a.0, (a.1.0, fields-more a.0 (old.state.ahead ++ more) t.text (new.state.ahead ++ more) new.field fields a.1.1 (f.1.0 ∙ ap (λ u. t.text ++ u) f.1.2) f.1.1));
  fed = same-fed old new ending.Comma t input rows fields h;
  within = within-more new.within fields new.field t.within;
}

-- a field before the end of its record completes the record
read-last : (old new : FieldState) → TakesField old ending.Record new → (input : List ℕ)
    → (rows : List (List (List ℕ))) (fields : List (List ℕ)) → HasRead old input rows fields
    → HasRead new input (rows ++ (fields ++ new.field ∷ []) ∷ []) []
read-last old new t input rows fields h = record {
  reads = λ more may.
      let a = h.reads more (may-old old new ending.Record t input rows fields h more may) in
      let f = field-ahead old new ending.Record t input rows fields h more may in
      let r = fields-record a.0 (old.state.ahead ++ more) t.text f.0 new.field fields a.1.1 f.1.0 f.1.1 in (
        new.state.ahead ++ more,
        (
          records-more (input ++ more) rows (fields ++ new.field ∷ []) a.0 (new.state.ahead ++ more) a.1.0
              (begun-some old new ending.Record t input rows fields h fields a.0 more h.within a.1.1, (r.0, (f.0, (r.1.0, r.1.1, f.1.2)))),
          refl,
        ),
      );
  fed = same-fed old new ending.Record t input rows fields h;
  within = t.within;
}

-- if nothing is taken, the reader has read the same fields
read-same : (old new : FieldState) → new ≡ lends_nothing old → (input : List ℕ)
    → (rows : List (List (List ℕ))) (fields : List (List ℕ)) → HasRead old input rows fields
    → HasRead new input rows fields
read-same old new e input rows fields h =
    subst (λ g. HasRead g input rows fields) (sym e) (record { reads = h.reads; fed = h.fed; within = h.within })

-- a call that satisfies `ReadsNext` satisfies `ReadsOn`
pub reads-on : (old new : FieldState) (result : Result (Next Ending) FieldError)
    → ReadsNext old result new → ReadsOn old result new
reads-on old new (Ok (next.Value ending.Comma)) t = λ input rows fields h. read-comma old new t input rows fields h
reads-on old new (Ok (next.Value ending.Record)) t = λ input rows fields h. read-last old new t input rows fields h
reads-on old new (Ok next.NeedsMore) (u, short, e) = λ input rows fields h. read-same old new e input rows fields h
reads-on old new (Ok next.Done) (through, outside, e) = λ input rows fields h. read-same old new e input rows fields h
reads-on old new (Err (error.Damaged place)) (u, e) = λ input rows fields h. read-same old new e input rows fields h
reads-on old new (Err (error.TooLong place)) (u, at, e) = λ input rows fields h. read-same old new e input rows fields h
reads-on old new (Err (error.Refused r)) e = λ input rows fields h. read-same old new e input rows fields h

-- a call that satisfies `ReadsNext` satisfies `TellsDamage`
pub tells-damage : (old new : FieldState) (result : Result (Next Ending) FieldError)
    → ReadsNext old result new → TellsDamage old result
tells-damage old new (Ok x) h = tt
tells-damage old new (Err (error.Damaged place)) ((rest, (fed, damage)), e) = λ input rows fields h. (
  rest,
  (
    omega (arith, h.fed, fed),
    λ more may.
        let a = h.reads more may in
        let d = damage more may in
        (a.0, (a.1.0, fields-none a.0 (old.state.ahead ++ more) fields a.1.1 d.0, fields-damaged a.0 (old.state.ahead ++ more) (rest ++ more) fields a.1.1 d.1)),
  ),
)
tells-damage old new (Err (error.TooLong place)) h = tt
tells-damage old new (Err (error.Refused r)) h = tt

-- ---- The states of the inner reader

-- taking nothing changes nothing, if nothing is wanted
taken-none : (f : ReaderState Row) → f.wanted ≡ 0 → taken_by f 0 ≡ f
taken-none f none =
    ap (λ p. record f { place = p; ahead = f.ahead; spent = f.spent + 0; wanted = 0 }) (let x : f.place + 0 ≡ f.place = omega arith in x)
    ∙ ap (λ s. record f { spent = s; wanted = 0 }) (let x : f.spent + 0 ≡ f.spent = omega arith in x)
    ∙ ap (λ w. record f { wanted = w }) (sym none)

-- taking some bytes and then others takes both
pub taken-twice : (f : ReaderState Row) (m n : ℕ) → taken_by f (m + n) ≡ taken_by (taken_by f m) n
taken-twice f m n =
    ap (λ p. record f { place = p; ahead = drop (m + n) f.ahead; spent = f.spent + (m + n); wanted = 0 }) (let x : f.place + (m + n) ≡ f.place + m + n = omega arith in x)
    ∙ ap (λ s. record f { place = f.place + m + n; ahead = drop (m + n) f.ahead; spent = s; wanted = 0 }) (let x : f.spent + (m + n) ≡ f.spent + m + n = omega arith in x)
    ∙ ap (λ a. record f { place = f.place + m + n; ahead = a; spent = f.spent + m + n; wanted = 0 }) (sym (drop-drop n m f.ahead))

module _ (f g h : ReaderState Row) (n k : ℕ) (l : n ≤ length f.ahead) (e : k ≡ min n (length f.ahead)) (skips : g ≡ skipped f k) where
  -- skipping what was taken takes it
  skip-takes : g ≡ taken_by f n
  skip-takes = skips ∙ ap (λ m. taken_by f m) (let x : k ≡ n = omega (arith, l, e) in x)

  -- after a piece the reader takes nothing of the bytes ahead, of which it had taken some
  pub pushed-state : (piece : List ℕ) → h ≡ pushed g piece
      → taken_by h 0 ≡ pushed (taken_by f n) piece
  pushed-state piece p =
      ap (λ x. taken_by x 0) (p ∙ ap (λ x. pushed x piece) skip-takes) ∙ taken-none (pushed (taken_by f n) piece) refl

-- a reader of fields after its inner reader notes the end
pub end-view : (old : FieldState) (f g : ReaderState Row) (at limit : ℕ) (within : Bool)
    (lent : Lent) (value : List ℕ)
    → record { state = taken_by f at; within = within; field = lent_bytes lent f.ahead value; limit = limit } ≡ old
    → g ≡ ended_after f
    → record { state = taken_by g at; within = within; field = lent_bytes lent g.ahead value; limit = limit } ≡ fields_ended old
end-view old f g at limit within lent value view e =
    ap (λ (x : ReaderState Row). record { state = taken_by x at; within = within; field = lent_bytes lent x.ahead value; limit = limit }) e
    ∙ ap (λ o. fields_ended o) view

-- a reader of fields after a piece is pushed to its inner reader
pub push-view : (old : FieldState) (f g h : ReaderState Row) (at k limit : ℕ) (within : Bool)
    (field piece : List ℕ)
    → record { state = taken_by f at; within = within; field = field; limit = limit } ≡ old
    → at ≤ length f.ahead → k ≡ min at (length f.ahead) → g ≡ skipped f k → h ≡ pushed g piece
    → record { state = taken_by h 0; within = within; field = []; limit = limit } ≡ fields_pushed old piece
push-view old f g h at k limit within field piece view l e skips p =
    ap (λ s. record { state = s; within = within; field = []; limit = limit }) (pushed-state f g h at k l e skips piece p)
    ∙ ap (λ o. fields_pushed o piece) view

-- ---- Results

-- a field that takes nothing is empty, and ends with the input
none-taken : (ended : Bool) (e : Ending) (bytes text value : List ℕ) (n : ℕ) → n ≡ 0
    → FieldAhead (not ended) bytes text value e (drop n bytes) → (ended ≡ true) × (bytes ≡ [])
none-taken ended ending.Comma bytes text value n none (m, (whole, spells, ends)) =
    absurd (omega (arith, none, ap length whole, length-append text m, ap length ends, length-drop n bytes))
none-taken ended ending.Record bytes text value n none (m, (whole, spells, inl ends)) =
    absurd (omega (arith, none, ap length whole, length-append text m, ap length ends, length-drop n bytes))
none-taken ended ending.Record bytes text value n none (m, (whole, spells, inr (inl ends))) =
    absurd (omega (arith, none, ap length whole, length-append text m, ap length ends, length-drop n bytes))
none-taken true ending.Record bytes text value n none (m, (whole, spells, inr (inr (ends, rest, p)))) =
    (refl, ap (λ k. drop k bytes) (sym none) ∙ rest)
none-taken false ending.Record bytes text value n none (m, (whole, spells, inr (inr (ends, rest, p)))) =
    absurd (let x : true ≡ false = p in cc)

-- so a field takes some bytes where a record begins before the end
some-taken : (ended within : Bool) (e : Ending) (bytes text value : List ℕ) (n : ℕ)
    → (within ≡ false → ended ≡ true → bytes ≢ [])
    → FieldAhead (not ended) bytes text value e (drop n bytes) → within ≡ false → 0 < n
some-taken ended within e bytes text value zero some h outside =
    let none = none-taken ended e bytes text value 0 refl h in absurd (some outside none.0 none.1)
some-taken ended within e bytes text value (suc n) some h outside = omega arith

-- a field that is found and lent is taken
pub takes-field : (old new : FieldState) (text : Text) (e : Ending) (n : ℕ)
    → Finds old.state.ended old.limit old.state.ahead text (found.Field e n)
    → ((field : List ℕ) → IsValue old.state.ahead text field → new.field ≡ field)
    → (old.within ≡ false → old.state.ended ≡ true → old.state.ahead ≢ [])
    → new.state ≡ taken_by old.state n → new.within ≡ is_comma e → new.limit ≡ old.limit
    → TakesField old e new
takes-field old new text e n (bound, (v, (is, (spelled, (short, begins))))) lends some state within limit = record {
  text = spelled;
  n = n;
  some = some-taken old.state.ended old.within e old.state.ahead spelled v n some begins.0;
  bound = bound;
  short = short;
  begins =
      subst (λ x. BeginsJust old.state.ended old.state.ahead spelled x e new.state.ahead) (sym (lends v is))
      (subst (λ x. BeginsJust old.state.ended old.state.ahead spelled v e x) (sym (ap (λ (f : ReaderState Row). f.ahead) state)) begins);
  state = state;
  within = within;
  limit = limit;
}

-- a reader that lent something takes the field that it takes if it lends nothing
pub takes-lent : (old new : FieldState) (e : Ending) → TakesField (lends_nothing old) e new
    → TakesField old e new
takes-lent old new e t = record {
  text = t.text;
  n = t.n;
  some = t.some;
  bound = t.bound;
  short = t.short;
  begins = t.begins;
  state = t.state;
  within = t.within;
  limit = t.limit;
}

-- a field that is found in the bytes ahead and lent of the kept bytes is taken
pub takes-kept : (old : FieldState) (f : ReaderState Row) (at limit : ℕ) (within w : Bool)
    (field : List ℕ)
    → record { state = taken_by f at; within = within; field = field; limit = limit } ≡ old
    → (kept value : List ℕ) (lent : Lent) → kept ≡ f.ahead → (text : Text) (e : Ending) (n : ℕ)
    → Finds old.state.ended old.limit old.state.ahead text (found.Field e n)
    → Lends (drop at kept) text lent kept value
    → (old.within ≡ false → old.state.ended ≡ true → old.state.ahead ≢ []) → w ≡ is_comma e
    → TakesField old e (record { state = taken_by f (at + n); within = w; field = lent_bytes lent f.ahead value; limit = limit })
takes-kept old f at limit within w field view kept value lent same text e n finds lends some comma =
    let new : FieldState = record { state = taken_by f (at + n); within = w; field = lent_bytes lent f.ahead value; limit = limit } in
    subst (λ (o : FieldState). Finds o.state.ended o.limit o.state.ahead text (found.Field e n)
    → (o.within ≡ false → o.state.ended ≡ true → o.state.ahead ≢ []) → TakesField o e new) view
    (λ finds some. takes-field (record { state = taken_by f at; within = within; field = field; limit = limit }) new text e n finds
    (λ v is. subst (λ k. lent_bytes lent k value ≡ v) same (lends v (subst (λ k. IsValue (drop at k) text v) (sym same) is)))
    some (taken-twice f at n) comma refl)
    finds some

-- what is found in the bytes of a reader is found in its state
pub finds-view : (f : FieldState) (ended : Bool) (limit : ℕ) (bytes : List ℕ)
    → ended ≡ f.state.ended
    → limit ≡ f.limit → bytes ≡ f.state.ahead → (text : Text) (found : Found)
    → Finds ended limit bytes text found → Finds f.state.ended f.limit f.state.ahead text found
finds-view f ended limit bytes a b c text found h =
    subst (λ x. Finds x f.limit f.state.ahead text found) a
    (subst (λ x. Finds ended x f.state.ahead text found) b
    (subst (λ x. Finds ended limit x text found) c h))

-- the slice of the kept bytes from an index on has the bytes ahead of a reader
slice-ahead : (kept ahead : List ℕ) (at : ℕ) → kept ≡ ahead
    → take (length kept - at) (drop at kept) ≡ drop at ahead
slice-ahead kept ahead at e = slice-from kept at ∙ ap (drop at) e

-- the bytes ahead are looked at as far as their text says
pub looked-ahead : (kept ahead : List ℕ) (at : ℕ) (text : Text) (l : Looked) → kept ≡ ahead
    → IsText (take (length kept - at) (drop at kept)) text
    → l ≡ looked_at (take (length kept - at) (drop at kept)) text → IsLooked (drop at ahead) l
looked-ahead kept ahead at text l e is same =
    subst (λ xs. IsLooked xs l) (slice-ahead kept ahead at e)
    (subst (IsLooked (take (length kept - at) (drop at kept))) (sym same) (text-looked (take (length kept - at) (drop at kept)) text is))

-- a malformed field is found at its place
pub finds-damage : (f : FieldState) (text : Text) (n place : ℕ)
    → Finds f.state.ended f.limit f.state.ahead text (found.Damaged n) → place ≡ f.state.place + n
    → FindsDamage f place
finds-damage f text n place (l, damage) e =
    (drop n f.state.ahead, (omega (arith, e, l, length-drop n f.state.ahead), damage))
