-- From the meanings of the parsers of a list of fields and of the end of a record to the words of
-- the format.
use Rattle.std.proofs.Common.{◌≡◌, ◌≢◌, ℕ, Bool, true, false, List, [], ◌∷◌, ◌++◌, map, length, None, inl, inr, ap, sym, ◌∙◌, subst, refl, arith, append_assoc}
use Rattle.std.specs.Prelude.{◌⊎◌, ◌==◌, ⊤}
use Rattle.std.specs.declared.vec.Vec.{Vec}
use Rattle.std.specs.declared.alloc.Global.{Global}
use Rattle.std.proofs.lemmas.List.{append-nil}
use Rattle.std.proofs.lemmas.List.Concat.{flat_map-append}
use Rattle.std.proofs.lemmas.Option.{none-some}
use Rattle.winnow_stream.specs.Source.{Source, HasPositiveWidths}
use Rattle.winnow_stream.specs.Longer.{SlicesStay}
use Rattle.winnow_stream.specs.SliceBytes.{SlicesHaveBytes}
use Rattle.winnow_parser.specs.Outcome.{Ahead, Failed, Backtracks, Cuts, Needs, Refuses, Gives, Fails, Meaning}
use Rattle.winnow_parser.specs.Laws.{IsParser}
use Rattle.winnow_parser.specs.Meanings.{IsPreceded, CutsErr}
use Rattle.winnow_token.specs.OneOf.{IsParser-IsOneOf}
use Rattle.winnow_combinator.specs.Repeat.{Taking, InTurn, FailsWith}
use Rattle.winnow_combinator.specs.Separated.{Chained}
use Rattle.format_lemmas.specs.Bytes.{Each, bytes_of, StartsWith}
use Rattle.format_lemmas.proofs.lemmas.ByteLemmas.{heads, tails, begins, none-left}
use Rattle.format_lemmas.proofs.lemmas.TokenLemmas.{positive-moved, byte-given, byte-missing}
use Rattle.format_csv.specs.Fields.{is_plain, twice, doubled, SpellsField}
use Rattle.format_csv.specs.Language.{SpellsMore, SpellsRecord, EndsRecord}
use Rattle.format_csv.specs.Meanings.{Byte, AnyField, FieldList, RecordEnd, IsParser-AnyField}
use Rattle.format_csv.specs.Answers.{values_of}
use Rattle.format_csv.specs.Damage.{IsUnclosed}
use Rattle.format_csv.proofs.lemmas.ByteLemmas.{doubled-others}
use Rattle.format_csv.proofs.lemmas.TokenLemmas.{taking-fails, after-positive}
use Rattle.format_csv.proofs.lemmas.FieldLemmas.{IsOpen, IsClosedOnly, FieldStands, FieldFails, StopsAt, field-spelled, field-once, IsRefusal, field-missed, field-given, field-fails}

-- ---- Ends

-- a field may end before the end of a record
ends-stop : (partial : Bool) (more after : List ℕ) → EndsRecord partial more after
    → StopsAt partial more
ends-stop partial more after (inl e) = subst (StopsAt partial) (sym e) (λ n. omega (arith, n), λ n. cc, λ p n. cc)
ends-stop partial more after (inr (inl e)) = subst (StopsAt partial) (sym e) (λ n. omega (arith, n), λ n. cc, λ p n. cc)
ends-stop partial more after (inr (inr (e, f, q))) = subst (StopsAt partial) (sym e) (λ n. n, λ n. n, λ p n. let x = sym q ∙ p in cc)

-- a record does not end at a comma
pub ends-no-comma : (partial : Bool) (more after : List ℕ) → EndsRecord partial more after
    → ¬ (StartsWith 44 more)
ends-no-comma partial more after (inl e) = subst (λ r. ¬ (StartsWith 44 r)) (sym e) (λ n. omega (arith, n))
ends-no-comma partial more after (inr (inl e)) = subst (λ r. ¬ (StartsWith 44 r)) (sym e) (λ n. omega (arith, n))
ends-no-comma partial more after (inr (inr e)) = subst (λ r. ¬ (StartsWith 44 r)) (sym e.0) (λ n. n)

-- a field may end before the other fields and the end of a record
pub more-stop : (partial : Bool) (ws : List (List ℕ)) (text more after : List ℕ)
    → SpellsMore ws text
    → EndsRecord partial more after → StopsAt partial (text ++ more)
more-stop partial [] text more after e ends = subst (λ t. StopsAt partial (t ++ more)) (sym e) (ends-stop partial more after ends)
more-stop partial (w ∷ ws) text more after (t, (m, (e, first, spells))) ends =
    subst (λ t. StopsAt partial (t ++ more)) (sym e) (λ n. omega (arith, n), λ n. cc, λ p n. cc)

-- a record ends in one way
pub ends-once : (partial : Bool) (r s t : List ℕ) → EndsRecord partial r s → EndsRecord partial r t
    → s ≡ t
ends-once partial r s t (inl e) (inl f) = tails 10 10 s t (tails 13 13 _ _ (sym e ∙ f))
ends-once partial r s t (inl e) (inr (inl f)) = absurd (omega (arith, heads 13 10 _ _ (sym e ∙ f)))
ends-once partial r s t (inl e) (inr (inr f)) = absurd (let x = sym e ∙ f.0 in cc)
ends-once partial r s t (inr (inl e)) (inl f) = absurd (omega (arith, heads 10 13 _ _ (sym e ∙ f)))
ends-once partial r s t (inr (inl e)) (inr (inl f)) = tails 10 10 s t (sym e ∙ f)
ends-once partial r s t (inr (inl e)) (inr (inr f)) = absurd (let x = sym e ∙ f.0 in cc)
ends-once partial r s t (inr (inr e)) (inl f) = absurd (let x = sym e.0 ∙ f in cc)
ends-once partial r s t (inr (inr e)) (inr (inl f)) = absurd (let x = sym e.0 ∙ f in cc)
ends-once partial r s t (inr (inr e)) (inr (inr f)) = e.1 ∙ sym f.1

-- a record does not end here
abbrev pub NoEnd : Bool → List ℕ → Type 0
NoEnd partial r = (after : List ℕ) → ¬ (EndsRecord partial r after)

-- no record ends where nothing stands and more may follow
no-end-empty : (partial : Bool) (r : List ℕ) → partial ≡ true → r ≡ [] → NoEnd partial r
no-end-empty partial r p e after (inl f) = let x = sym e ∙ f in cc
no-end-empty partial r p e after (inr (inl f)) = let x = sym e ∙ f in cc
no-end-empty partial r p e after (inr (inr f)) = let x = sym p ∙ f.2 in cc

-- nor where only CR stands
no-end-return : (partial : Bool) (r s : List ℕ) → r ≡ 13 ∷ s → ¬ (StartsWith 10 s) → NoEnd partial r
no-end-return partial r s e n after (inl f) = n (begins 10 s after (tails 13 13 _ _ (sym e ∙ f)))
no-end-return partial r s e n after (inr (inl f)) = omega (arith, heads 13 10 _ _ (sym e ∙ f))
no-end-return partial r s e n after (inr (inr f)) = let x = sym e ∙ f.0 in cc

-- nor where something stands that is neither LF nor CR
no-end-other : (partial : Bool) (r : List ℕ) → ¬ (StartsWith 10 r) → ¬ (StartsWith 13 r) → r ≢ []
    → NoEnd partial r
no-end-other partial r n m some after (inl f) = m (begins 13 r (10 ∷ after) f)
no-end-other partial r n m some after (inr (inl f)) = n (begins 10 r after f)
no-end-other partial r n m some after (inr (inr f)) = some f.0

-- nothing stands here, or CR alone, so that a record may still end
abbrev pub MayEnd : List ℕ → Type 0
MayEnd r = (r ≡ []) ⊎ (r ≡ 13 ∷ [])

module _ {S : Type 0} (is_slice : S → Source ℕ → ℕ → Type 0) (appends refusable : Type 0) (partial : Bool) where
  -- the bytes begin with the end that is returned
  pub end-given : (u : Unit {0}) (a b : Ahead ℕ)
      → RecordEnd is_slice appends refusable partial a (Gives u b)
      → EndsRecord partial (bytes_of a.tokens) (bytes_of b.tokens)
  end-given u a b (inl (inl (x, (f, h)))) = inr (inl (byte-given 10 partial a b x h))
  end-given u a b (inl (inr (c, (n, (x, (f, (m, (h, k)))))))) =
      inl (byte-given 13 partial a m x.0 h ∙ ap (λ r. 13 ∷ r) (byte-given 10 partial m b x.1 k))
  end-given u a b (inr (d, ((c, (n, m)), (x, (f, h))))) =
      let e = ap bytes_of h.0 in inr (inr (e, sym (ap (λ p. bytes_of p.tokens) h.2) ∙ e, h.1))

  -- an end fails where no record ends
  abbrev pub EndFails : Ahead ℕ → Failed ℕ → Type 0
  EndFails a (Backtracks b) = NoEnd partial (bytes_of a.tokens) × (b ≡ a)
  EndFails a (Cuts b) = ⊥
  EndFails a (Needs n) = (partial ≡ true) × NoEnd partial (bytes_of a.tokens) × MayEnd (bytes_of a.tokens)
  EndFails a Refuses = ⊤

  -- tokens without a byte among them are none
  some-bytes : (r : Source ℕ) → r ≢ [] → bytes_of r ≢ []
  some-bytes r n = λ e. n (none-left r e)

  -- where nothing stands and more may follow, more is needed
  needs-end : (a : Ahead ℕ) → a.tokens ≡ [] → partial ≡ true
      → (partial ≡ true) × NoEnd partial (bytes_of a.tokens) × MayEnd (bytes_of a.tokens)
  needs-end a e p = (p, no-end-empty partial (bytes_of a.tokens) p (ap bytes_of e), inl (ap bytes_of e))

  -- an end fails as `EndFails` says
  pub end-fails : (f : Failed ℕ) (a : Ahead ℕ)
      → RecordEnd is_slice appends refusable partial a (Fails f)
      → EndFails a f
  end-fails (Backtracks b) a (d, ((c, (n, inl m)), e)) =
      (no-end-other partial (bytes_of a.tokens) (byte-missing 10 partial a c n).0 (byte-missing 13 partial a d m).0 (some-bytes a.tokens e.0), sym e.1)
  end-fails (Backtracks b) a (d, ((c, (n, inr (x, (m, (h, k))))), e)) =
      (no-end-return partial (bytes_of a.tokens) (bytes_of m.tokens) (byte-given 13 partial a m x h) (byte-missing 10 partial m d k).0, sym e.1)
  end-fails (Cuts b) a (inl (inl h)) = h
  end-fails (Cuts b) a (inl (inr (c, (n, inl h)))) = h
  end-fails (Cuts b) a (inl (inr (c, (n, inr (x, (m, (h, k))))))) = k
  end-fails (Cuts b) a (inr (d, ((c, (n, m)), h))) = h
  end-fails (Needs i) a (inl (inl h)) = needs-end a h.0 h.1
  end-fails (Needs i) a (inl (inr (c, (n, inl h)))) = needs-end a h.0 h.1
  end-fails (Needs i) a (inl (inr (c, (n, inr (x, (m, (h, k))))))) = (
    k.1,
    no-end-return partial (bytes_of a.tokens) (bytes_of m.tokens) (byte-given 13 partial a m x h) (subst (λ r. ¬ (StartsWith 10 r)) (sym (ap bytes_of k.0)) (λ z. z)),
    inr (byte-given 13 partial a m x h ∙ ap (λ t. 13 ∷ bytes_of t) k.0),
  )
  end-fails (Needs i) a (inr (d, ((c, (n, m)), h))) = needs-end a h.0 h.1
  end-fails Refuses a h = tt

  -- where a record ends, only refused memory makes the end fail
  pub end-missed : (f : Failed ℕ) (a : Ahead ℕ) (after : List ℕ)
      → EndsRecord partial (bytes_of a.tokens) after
      → CutsErr (RecordEnd is_slice appends refusable) partial a (Fails f) → IsRefusal f
  end-missed (Backtracks b) a after ends h = h
  end-missed (Cuts b) a after ends (inl h) = (end-fails (Backtracks b) a h).0 after ends
  end-missed (Cuts b) a after ends (inr h) = end-fails (Cuts b) a h
  end-missed (Needs n) a after ends h = (end-fails (Needs n) a h).1 after ends
  end-missed Refuses a after ends h = tt

-- ---- Open fields

-- a field that is not closed is spelled once a quote is added
pub open-spelled : (r : List ℕ) → IsOpen r → (value : List ℕ) × SpellsField value (r ++ 34 ∷ [])
open-spelled r (t, (c, (e, others))) =
    let same : doubled t ++ c ≡ doubled (t ++ c) = ap (λ d. doubled t ++ d) (sym (doubled-others c others)) ∙ sym (flat_map-append twice t c) in
    (t ++ c, inr (ap (λ x. x ++ 34 ∷ []) e ∙ ap (λ x. 34 ∷ (x ++ 34 ∷ [])) same))

-- a field to which more may belong is spelled once some bytes are added
field-begun : (r : List ℕ) → IsOpen r ⊎ (IsClosedOnly r ⊎ Each is_plain r)
    → (more : List ℕ) × ((value : List ℕ) × SpellsField value (r ++ more))
field-begun r (inl is) = (34 ∷ [], open-spelled r is)
field-begun r (inr (inl (t, e))) = ([], (t, inr (append-nil r ∙ e)))
field-begun r (inr (inr h)) = ([], (r, inl (h, append-nil r)))

-- one more field after fields with commas before them
more-then : (ws : List (List ℕ)) (text value field : List ℕ) → SpellsMore ws text
    → SpellsField value field → SpellsMore (ws ++ value ∷ []) (text ++ 44 ∷ field)
more-then [] text value field e h = (field, ([], (ap (λ t. t ++ 44 ∷ field) e ∙ ap (λ t. 44 ∷ t) (sym (append-nil field)), h, refl)))
more-then (w ∷ ws) text value field (t, (m, (e, spells, more))) h =
    (t, (m ++ 44 ∷ field, (ap (λ t. t ++ 44 ∷ field) e ∙ ap (λ t. 44 ∷ t) (append_assoc t m (44 ∷ field)), spells, more-then ws m value field more h)))

-- ---- Lists of fields

-- with these bytes after them, the bytes spell a record
abbrev pub AreSpelled : List ℕ → List ℕ → Type 0
AreSpelled r more = (values : List (List ℕ)) × SpellsRecord values (r ++ more)

-- with some bytes after them, the bytes spell a record
abbrev pub AreBegun : List ℕ → Type 0
AreBegun r = (more : List ℕ) × AreSpelled r more

-- the values of some fields
abbrev items_of : List (Vec ℕ Global) → List (List ℕ)
items_of fields = map (λ field. field.items) fields

module _ {S : Type 0} (is_slice : S → Source ℕ → ℕ → Type 0) (bytes : S → List ℕ) (stay : SlicesStay is_slice) (have : SlicesHaveBytes is_slice bytes) (appends refusable : Type 0) (partial : Bool) where
  -- one more field: a comma and a field
  abbrev Next : Meaning (Vec ℕ Global) ℕ
  Next = IsPreceded (Byte 44) (AnyField is_slice bytes appends refusable)

  -- the field keeps the laws of a parser
  field-lawful : IsParser (AnyField is_slice bytes appends refusable)
  field-lawful = IsParser-AnyField is_slice bytes stay appends refusable

  -- one more field that is given stands after a comma
  next-given : (x : Vec ℕ Global) (a c : Ahead ℕ) → HasPositiveWidths a.tokens
      → Next partial a (Gives x c)
      → (r : List ℕ) × ((bytes_of a.tokens ≡ 44 ∷ r) × FieldStands x.items r (bytes_of c.tokens))
  next-given x a c wide (both, (is, (m, (h, k)))) =
      let wide_m = positive-moved a m ((IsParser-IsOneOf (λ token. 44 == token)).onward partial a (Gives both.0 m) h) wide in (
        bytes_of m.tokens,
        (
          byte-given 44 partial a m both.0 h,
          subst (λ x. FieldStands x.items (bytes_of m.tokens) (bytes_of c.tokens)) is (field-given is_slice bytes stay have partial appends refusable both.1 m c wide_m k),
        ),
      )

  -- a comma is missing, and so the failure is a backtrack or, at the end, wants more
  abbrev NoComma : List ℕ → Failed ℕ → Type 0
  NoComma r (Backtracks b) = ¬ (StartsWith 44 r)
  NoComma r (Cuts b) = ⊥
  NoComma r (Needs n) = (r ≡ []) × (partial ≡ true)
  NoComma r Refuses = ⊤

  -- a comma fails where none stands
  comma-fails : (f : Failed ℕ) (a : Ahead ℕ) → Byte 44 partial a (Fails f)
      → NoComma (bytes_of a.tokens) f
  comma-fails (Backtracks b) a h = (byte-missing 44 partial a b h).0
  comma-fails (Cuts b) a h = h
  comma-fails (Needs n) a h = (ap bytes_of h.0, h.1)
  comma-fails Refuses a h = tt

  -- one more field fails where no comma stands, or its field fails
  abbrev NextFails : List ℕ → Failed ℕ → Type 0
  NextFails r f = NoComma r f ⊎ ((s : List ℕ) × ((r ≡ 44 ∷ s) × FieldFails partial s f))

  -- one more field fails as `NextFails` says
  next-fails : (f : Failed ℕ) (a : Ahead ℕ) → HasPositiveWidths a.tokens
      → Taking Next partial a (Fails f) → NextFails (bytes_of a.tokens) f
  next-fails f a wide h = elim (taking-fails 44 field-lawful partial a wide f h) [
    | inl k ↦ inl (comma-fails f a k)
    | inr k ↦
        let wide_m = positive-moved a k.1.0 ((IsParser-IsOneOf (λ token. 44 == token)).onward partial a (Gives k.0 k.1.0) k.1.1.0) wide in
        inr (bytes_of k.1.0.tokens, (byte-given 44 partial a k.1.0 k.0 k.1.1.0, field-fails is_slice bytes stay have partial appends refusable f k.1.0 wide_m k.1.1.1))
  ]

  -- ---- What stands before a place

  -- fields in turn, each after a comma, are spelled ahead
  nexts-spelled : (xs : List (Vec ℕ Global)) (a b : Ahead ℕ) → HasPositiveWidths a.tokens
      → InTurn (Taking Next) partial xs a b
      → (text : List ℕ)
      × ((bytes_of a.tokens ≡ text ++ bytes_of b.tokens) × SpellsMore (items_of xs) text
      × HasPositiveWidths b.tokens)
  nexts-spelled [] a b wide e = ([], (ap (λ p. bytes_of p.tokens) e, refl, subst (λ p. HasPositiveWidths p.tokens) e wide))
  nexts-spelled (x ∷ xs) a b wide (c, ((h, less), turns)) =
      let one = next-given x a c wide h in
      let first = field-spelled x.items one.0 (bytes_of c.tokens) one.1.1 in
      let on = nexts-spelled xs c b (after-positive 44 field-lawful partial a wide x c h) turns in (
        44 ∷ (first.0 ++ on.0),
        (
          one.1.0 ∙ ap (λ r. 44 ∷ r) (first.1.0 ∙ ap (λ r. first.0 ++ r) on.1.0 ∙ sym (append_assoc first.0 on.0 (bytes_of b.tokens))),
          (first.0, (on.0, (refl, first.1.1, on.1.1))),
          on.1.2,
        ),
      )

  -- the first field is spelled ahead
  first-spelled : (x : Vec ℕ Global) (a b : Ahead ℕ) → HasPositiveWidths a.tokens
      → AnyField is_slice bytes appends refusable partial a (Gives x b)
      → (text : List ℕ)
      × ((bytes_of a.tokens ≡ text ++ bytes_of b.tokens) × SpellsField x.items text)
  first-spelled x a b wide h =
      field-spelled x.items (bytes_of a.tokens) (bytes_of b.tokens) (field-given is_slice bytes stay have partial appends refusable x a b wide h)

  -- the tokens after a field have positive widths
  field-positive : (x : Vec ℕ Global) (a b : Ahead ℕ) → HasPositiveWidths a.tokens
      → AnyField is_slice bytes appends refusable partial a (Gives x b) → HasPositiveWidths b.tokens
  field-positive x a b wide h = positive-moved a b (field-lawful.onward partial a (Gives x b) h) wide

  -- a list of fields that is given is spelled ahead, and no comma follows
  pub list-given : (row : Vec (Vec ℕ Global) Global) (a b : Ahead ℕ) → HasPositiveWidths a.tokens
      → FieldList is_slice bytes appends refusable partial a (Gives row b)
      → (text : List ℕ)
      × ((bytes_of a.tokens ≡ text ++ bytes_of b.tokens) × SpellsRecord (values_of row) text
      × ¬ (StartsWith 44 (bytes_of b.tokens)))
  list-given row a b wide (xs, (made, (both, (pre, (m, (h, (turns, least, inl e))))))) = absurd (none-some _ e)
  list-given row a b wide (xs, (made, (both, (pre, (m, (h, (turns, least, inr (below, (same, enough, (c, fails)))))))))) =
      let first = first-spelled both.0 a m wide h in
      let wide_m = field-positive both.0 a m wide h in
      let on = nexts-spelled both.1 m b wide_m turns in
      let spelled : SpellsRecord (items_of (both.0 ∷ both.1)) (first.0 ++ on.0) = (first.0, (on.0, (refl, first.1.1, on.1.1))) in (
        first.0 ++ on.0,
        (
          first.1.0 ∙ ap (λ r. first.0 ++ r) on.1.0 ∙ sym (append_assoc first.0 on.0 (bytes_of b.tokens)),
          subst (λ l. SpellsRecord (items_of l) (first.0 ++ on.0)) (pre ∙ sym made) spelled,
          elim (next-fails (Backtracks c) b on.1.2 fails) [
            | inl n ↦ n
            | inr k ↦ absurd k.1.1
          ],
        ),
      )

  -- a list of fields fails where a field is not closed, or where more may follow and complete it
  abbrev pub ListFails : Ahead ℕ → Failed ℕ → Type 0
  ListFails a (Backtracks b) = ⊥
  ListFails a (Cuts b) = IsUnclosed (bytes_of a.tokens) × (bytes_of b.tokens ≡ []) × (partial ≡ false)
  ListFails a (Needs n) = (partial ≡ true) × AreBegun (bytes_of a.tokens)
  ListFails a Refuses = ⊤

  -- a first field that some more bytes complete
  first-completed : (r more value : List ℕ) → SpellsField value (r ++ more) → AreSpelled r more
  first-completed r more value h = (value ∷ [], (r ++ more, ([], (sym (append-nil (r ++ more)), h, refl))))

  -- a later field that some more bytes complete
  next-completed : (value : List ℕ) (ws : List (List ℕ)) (r text others s more field : List ℕ)
      → r ≡ text ++ (others ++ 44 ∷ s) → SpellsField value text → SpellsMore ws others
      → SpellsField field (s ++ more) → AreSpelled r more
  next-completed value ws r text others s more field e first spelled h = (
    value ∷ (ws ++ field ∷ []),
    (
      text,
      (
        others ++ 44 ∷ (s ++ more),
        (
          ap (λ t. t ++ more) e ∙ append_assoc text (others ++ 44 ∷ s) more ∙ ap (λ t. text ++ t) (append_assoc others (44 ∷ s) more),
          first,
          more-then ws others field (s ++ more) spelled h,
        ),
      ),
    ),
  )

  -- a list of fields fails as `ListFails` says
  pub list-fails : (f : Failed ℕ) (a : Ahead ℕ) → HasPositiveWidths a.tokens
      → FieldList is_slice bytes appends refusable partial a (Fails f) → ListFails a f
  list-fails (Backtracks b) a wide (inl h) = field-fails is_slice bytes stay have partial appends refusable (Backtracks b) a wide h
  list-fails (Backtracks b) a wide (inr (x, (m, (h, (xs, (c, (turns, below, (few, k)))))))) = absurd (omega (arith, few))
  list-fails (Cuts b) a wide (inl h) =
      let fails = field-fails is_slice bytes stay have partial appends refusable (Cuts b) a wide h in
      let one = open-spelled (bytes_of a.tokens) fails.0 in
      (first-completed (bytes_of a.tokens) (34 ∷ []) one.0 one.1, fails.1, fails.2)
  list-fails (Cuts b) a wide (inr (x, (m, (h, (xs, (c, (turns, below, (few, k)))))))) =
      let first = first-spelled x a m wide h in
      let on = nexts-spelled xs m c (field-positive x a m wide h) turns in
      elim (next-fails (Cuts b) c on.1.2 k) [
        | inl n ↦ absurd n
        | inr o ↦
            let one = open-spelled o.0 o.1.1.0 in (
              next-completed x.items (items_of xs) (bytes_of a.tokens) first.0 on.0 o.0 (34 ∷ []) one.0 (first.1.0 ∙ ap (λ r. first.0 ++ r) (on.1.0 ∙ ap (λ r. on.0 ++ r) o.1.0)) first.1.1 on.1.1 one.1,
              o.1.1.1,
              o.1.1.2,
            )
      ]
  list-fails (Needs n) a wide (inl h) =
      let fails = field-fails is_slice bytes stay have partial appends refusable (Needs n) a wide h in
      let one = field-begun (bytes_of a.tokens) fails.1 in
      (fails.0, (one.0, first-completed (bytes_of a.tokens) one.0 one.1.0 one.1.1))
  list-fails (Needs n) a wide (inr (x, (m, (h, (xs, (c, (turns, below, (few, k)))))))) =
      let first = first-spelled x a m wide h in
      let on = nexts-spelled xs m c (field-positive x a m wide h) turns in
      elim (next-fails (Needs n) c on.1.2 k) [
        | inl o ↦ (
          o.1,
          (
            [],
            (
              x.items ∷ items_of xs,
              (first.0, (on.0, (append-nil (bytes_of a.tokens) ∙ first.1.0 ∙ ap (λ r. first.0 ++ r) (on.1.0 ∙ ap (λ r. on.0 ++ r) o.0 ∙ append-nil on.0), first.1.1, on.1.1))),
            ),
          ),
        )
        | inr o ↦
            let one = field-begun o.0 o.1.1.1 in (
              o.1.1.0,
              (
                one.0,
                next-completed x.items (items_of xs) (bytes_of a.tokens) first.0 on.0 o.0 one.0 one.1.0 (first.1.0 ∙ ap (λ r. first.0 ++ r) (on.1.0 ∙ ap (λ r. on.0 ++ r) o.1.0)) first.1.1 on.1.1 one.1.1,
              ),
            )
      ]
  list-fails Refuses a wide h = tt

  -- ---- No record is missed

  -- the fields that are left at a place, where the first ones are these, and what follows them
  abbrev AreLeft : List (List ℕ) → List (Vec ℕ Global) → List ℕ → List ℕ → Type 0
  AreLeft ws xs r more = (left : List (List ℕ)) × ((text : List ℕ) × ((ws ≡ items_of xs ++ left) × (r ≡ text ++ more) × SpellsMore left text))

  -- fields in turn are the first of those that are spelled ahead
  peel : (xs : List (Vec ℕ Global)) (ws : List (List ℕ)) (a b : Ahead ℕ) (text more after : List ℕ)
      → HasPositiveWidths a.tokens → EndsRecord partial more after
      → bytes_of a.tokens ≡ text ++ more → SpellsMore ws text → InTurn (Taking Next) partial xs a b
      → AreLeft ws xs (bytes_of b.tokens) more
  peel [] ws a b text more after wide ends e spells turns = (ws, (text, (refl, sym (ap (λ p. bytes_of p.tokens) turns) ∙ e, spells)))
  peel (x ∷ xs) [] a b text more after wide ends e none (c, ((h, less), turns)) =
      let one = next-given x a c wide h in
      absurd (ends-no-comma partial more after ends (begins 44 more one.0 (ap (λ t. t ++ more) (sym none) ∙ sym e ∙ one.1.0)))
  peel (x ∷ xs) (w ∷ ws) a b text more after wide ends e (t, (m, (split, first, spells))) (c, ((h, less), turns)) =
      let one = next-given x a c wide h in
      let whole : one.0 ≡ t ++ (m ++ more) =
      tails 44 44 _ _ (sym one.1.0 ∙ e ∙ ap (λ u. u ++ more) split) ∙ append_assoc t m more in
      let same = field-once partial x.items w t (m ++ more) (bytes_of c.tokens) first (more-stop partial ws m more after spells ends) (subst (λ r. FieldStands x.items r (bytes_of c.tokens)) whole one.1.1) in
      let on = peel xs ws c b m more after (after-positive 44 field-lawful partial a wide x c h) ends same.1 spells turns in
      (on.0, (on.1.0, (ap (λ l. l ∷ ws) (sym same.0) ∙ ap (λ l. x.items ∷ l) on.1.1.0, on.1.1.1, on.1.1.2)))

  -- where one more field backtracks, none is left
  none-left-over : (left : List (List ℕ)) (r text more after : List ℕ) (d : Ahead ℕ)
      → EndsRecord partial more after → r ≡ text ++ more → SpellsMore left text
      → NextFails r (Backtracks d) → (left ≡ []) × (r ≡ more)
  none-left-over [] r text more after d ends e none fails = (refl, e ∙ ap (λ t. t ++ more) none)
  none-left-over (w ∷ ws) r text more after d ends e (t, (m, (split, first, spells))) (inl n) = absurd (n (begins 44 r _ (e ∙ ap (λ u. u ++ more) split)))
  none-left-over (w ∷ ws) r text more after d ends e spells (inr k) = absurd k.1.1

  -- where a comma is missing and this is no backtrack, memory was refused
  comma-missed : (f : Failed ℕ) (left : List (List ℕ)) (r text more after : List ℕ)
      → EndsRecord partial more after → r ≡ text ++ more → SpellsMore left text
      → ((d : Ahead ℕ) → f ≢ Backtracks d) → NoComma r f → IsRefusal f
  comma-missed (Backtracks d) left r text more after ends e spells n k = n d refl
  comma-missed (Cuts d) left r text more after ends e spells n k = k
  comma-missed (Needs i) [] r text more after ends e none n k = no-end-empty partial more k.1 (sym (e ∙ ap (λ t. t ++ more) none) ∙ k.0) after ends
  comma-missed (Needs i) (w ∷ ws) r text more after ends e (t, (m, (split, first, spells))) n k = let x = sym k.0 ∙ e ∙ ap (λ u. u ++ more) split in cc
  comma-missed Refuses left r text more after ends e spells n k = tt

  -- where a field after a comma fails, memory was refused
  after-missed : (f : Failed ℕ) (left : List (List ℕ)) (r s text more after : List ℕ)
      → EndsRecord partial more after → r ≡ text ++ more → SpellsMore left text → r ≡ 44 ∷ s
      → FieldFails partial s f → IsRefusal f
  after-missed f [] r s text more after ends e none comma k =
      absurd (ends-no-comma partial more after ends (begins 44 more s (ap (λ t. t ++ more) (sym none) ∙ sym e ∙ comma)))
  after-missed f (w ∷ ws) r s text more after ends e (t, (m, (split, first, spells))) comma k =
      let whole : s ≡ t ++ (m ++ more) =
      tails 44 44 _ _ (sym comma ∙ e ∙ ap (λ u. u ++ more) split) ∙ append_assoc t m more in
      field-missed partial f w t (m ++ more) first (more-stop partial ws m more after spells ends) (subst (λ r. FieldFails partial r f) whole k)

  -- where one more field fails and does not backtrack, memory was refused
  left-missed : (f : Failed ℕ) (left : List (List ℕ)) (r text more after : List ℕ)
      → EndsRecord partial more after → r ≡ text ++ more → SpellsMore left text
      → ((d : Ahead ℕ) → f ≢ Backtracks d) → NextFails r f → IsRefusal f
  left-missed f left r text more after ends e spells n (inl k) = comma-missed f left r text more after ends e spells n k
  left-missed f left r text more after ends e spells n (inr k) = after-missed f left r k.0 text more after ends e spells k.1.0 k.1.1

  -- the record that is spelled ahead is the one that is given
  pub list-once : (row : Vec (Vec ℕ Global) Global) (ws : List (List ℕ)) (a b : Ahead ℕ)
      (text more after : List ℕ) → HasPositiveWidths a.tokens → bytes_of a.tokens ≡ text ++ more
      → SpellsRecord ws text → EndsRecord partial more after
      → FieldList is_slice bytes appends refusable partial a (Gives row b)
      → (values_of row ≡ ws) × (bytes_of b.tokens ≡ more)
  list-once row [] a b text more after wide e spells ends h = absurd spells
  list-once row (w ∷ ws) a b text more after wide e spells ends (xs, (made, (both, (pre, (m, (h, (turns, least, inl k))))))) = absurd (none-some _ k)
  list-once row (w ∷ ws) a b text more after wide e (t, (u, (split, first, spells))) ends (xs, (made, (both, (pre, (m, (h, (turns, least, inr (below, (same, enough, (c, fails)))))))))) =
      let whole : bytes_of a.tokens ≡ t ++ (u ++ more) = e ∙ ap (λ z. z ++ more) split ∙ append_assoc t u more in
      let stands = subst (λ r. FieldStands both.0.items r (bytes_of m.tokens)) whole (field-given is_slice bytes stay have partial appends refusable both.0 a m wide h) in
      let one = field-once partial both.0.items w t (u ++ more) (bytes_of m.tokens) first (more-stop partial ws u more after spells ends) stands in
      let wide_m = field-positive both.0 a m wide h in
      let left = peel both.1 ws m b u more after wide_m ends one.1 spells turns in
      let wide_b = (nexts-spelled both.1 m b wide_m turns).1.2 in
      let over = none-left-over left.0 (bytes_of b.tokens) left.1.0 more after c ends left.1.1.1 left.1.1.2 (next-fails (Backtracks c) b wide_b fails) in
      let all : ws ≡ items_of both.1 = left.1.1.0 ∙ ap (λ l. items_of both.1 ++ l) over.0 ∙ append-nil (items_of both.1) in (
        ap items_of (made ∙ sym pre) ∙ ap (λ v. v ∷ items_of both.1) one.0 ∙ ap (λ l. w ∷ l) (sym all),
        over.1,
      )

  -- the failure is a backtrack only where a value is lacking, so it is none where none is wanted
  no-backtrack : (f : Failed ℕ) (n : ℕ) → FailsWith 0 n f → (d : Ahead ℕ) → f ≢ Backtracks d
  no-backtrack (Backtracks b) n few d e = omega (arith, few)
  no-backtrack (Cuts b) n few d e = cc
  no-backtrack (Needs i) n few d e = cc
  no-backtrack Refuses n few d e = cc

  -- where a record is spelled ahead, only refused memory makes the list fail
  chain-missed : (f : Failed ℕ) (ws : List (List ℕ)) (a : Ahead ℕ) (text more after : List ℕ)
      → HasPositiveWidths a.tokens → bytes_of a.tokens ≡ text ++ more → SpellsRecord ws text
      → EndsRecord partial more after
      → Chained 1 None (Byte 44) (AnyField is_slice bytes appends refusable) partial a (Fails f)
      → IsRefusal f
  chain-missed f [] a text more after wide e spells ends h = absurd spells
  chain-missed f (w ∷ ws) a text more after wide e (t, (u, (split, first, spells))) ends (inl h) =
      let whole : bytes_of a.tokens ≡ t ++ (u ++ more) = e ∙ ap (λ z. z ++ more) split ∙ append_assoc t u more in
      field-missed partial f w t (u ++ more) first (more-stop partial ws u more after spells ends)
      (subst (λ r. FieldFails partial r f) whole (field-fails is_slice bytes stay have partial appends refusable f a wide h))
  chain-missed f (w ∷ ws) a text more after wide e (t, (u, (split, first, spells))) ends (inr (x, (m, (h, (xs, (c, (turns, below, (few, k)))))))) =
      let whole : bytes_of a.tokens ≡ t ++ (u ++ more) = e ∙ ap (λ z. z ++ more) split ∙ append_assoc t u more in
      let stands = subst (λ r. FieldStands x.items r (bytes_of m.tokens)) whole (field-given is_slice bytes stay have partial appends refusable x a m wide h) in
      let one = field-once partial x.items w t (u ++ more) (bytes_of m.tokens) first (more-stop partial ws u more after spells ends) stands in
      let wide_m = field-positive x a m wide h in
      let left = peel xs ws m c u more after wide_m ends one.1 spells turns in
      let wide_c = (nexts-spelled xs m c wide_m turns).1.2 in
      left-missed f left.0 (bytes_of c.tokens) left.1.0 more after ends left.1.1.1 left.1.1.2 (no-backtrack f (length xs) few) (next-fails f c wide_c k)

  -- if the bytes begin with a record, the parser of the list fails only if memory is refused
  pub list-missed : (f : Failed ℕ) (ws : List (List ℕ)) (a : Ahead ℕ) (text more after : List ℕ)
      → HasPositiveWidths a.tokens → bytes_of a.tokens ≡ text ++ more → SpellsRecord ws text
      → EndsRecord partial more after → FieldList is_slice bytes appends refusable partial a (Fails f)
      → IsRefusal f
  list-missed (Backtracks b) ws a text more after wide e spells ends h = chain-missed (Backtracks b) ws a text more after wide e spells ends h
  list-missed (Cuts b) ws a text more after wide e spells ends h = chain-missed (Cuts b) ws a text more after wide e spells ends h
  list-missed (Needs n) ws a text more after wide e spells ends h = chain-missed (Needs n) ws a text more after wide e spells ends h
  list-missed Refuses ws a text more after wide e spells ends h = tt
