-- Where a scan goes on, the record may still end well, and has not ended.
use Rattle.std.specs.Prelude.{◌==◌, Bool, cond, Option, Some, None, ◌⊎◌}
use Rattle.std.proofs.Common.{◌≡◌, ◌≢◌, ℕ, true, false, List, [], ◌∷◌, ◌++◌, refl, ap, sym, ◌∙◌, subst, inl, inr, arith, append_assoc}
use Rattle.std.proofs.lemmas.Bool.Decides.{nat_tests}
use Rattle.std.proofs.lemmas.Option.{none-some}
use Rattle.winnow_stream.specs.Source.{units}
use Rattle.winnow_stream.specs.Units.{HasPositiveWidths-units}
use Rattle.winnow_parser.specs.Outcome.{Ahead, Backtracks, Cuts, Needs, Refuses, Outcome, Gives, Fails}
use Rattle.format_lemmas.specs.Bytes.{Each, bytes_of}
use Rattle.format_lemmas.proofs.lemmas.ByteLemmas.{some, bytes-units}
use Rattle.winnow_reader.specs.Place.{bytes_at, IsByteSlice, SlicesStay-bytes}
use Rattle.winnow_scan.specs.Scanning.{IsOpen}
use Rattle.format_csv.specs.Fields.{is_plain, twice, doubled, SpellsField}
use Rattle.format_csv.specs.Language.{SpellsMore, SpellsRecord, EndsRecord, RecordAhead}
use Rattle.format_csv.specs.Answers.{values_of, IsBegun}
use Rattle.format_csv.specs.Reading.{RowInPieces}
use Rattle.format_csv.proofs.lemmas.AnswerLemmas.{answers}
use Rattle.format_csv.specs.declared.scan.RowState.{RowState}
use Rattle.format_csv.specs.declared.scan.RowState.TheVariants.{Start, Plain, Quoted, Closed, Return}
use Rattle.format_csv.specs.Scan.{after_field, in_plain, step, step_any, run}
use Rattle.format_csv.proofs.lemmas.ReaderLemmas.{have-bytes, gave, backtracked, cut}
use Rattle.format_csv.proofs.lemmas.ScanLemmas.{run-none, run-append, record-run}

-- the bytes are more fields, and the end of a record
record More (bytes : List ℕ) : Type 0 where
  pub values : List (List ℕ)
  pub text : List ℕ
  pub last : List ℕ
  pub whole : bytes ≡ text ++ last
  pub spells : SpellsMore values text
  pub ends : EndsRecord true last []

-- the bytes complete a record of which so much was scanned
abbrev Done : RowState → List ℕ → Type 0
Done Start bytes = (v : List ℕ) × ((t : List ℕ) × ((m : List ℕ) × ((bytes ≡ t ++ m) × SpellsField v t × More m)))
Done Plain bytes = (v : List ℕ) × ((m : List ℕ) × ((bytes ≡ v ++ m) × Each is_plain v × More m))
Done Quoted bytes = (v : List ℕ) × ((m : List ℕ) × ((bytes ≡ doubled v ++ 34 ∷ m) × More m))
Done Closed bytes = ((v : List ℕ) × ((m : List ℕ) × ((bytes ≡ 34 ∷ (doubled v ++ 34 ∷ m)) × More m))) ⊎ More bytes
Done Return bytes = bytes ≡ 10 ∷ []

-- LF ends a record
feed : More (10 ∷ [])
feed = record { values = []; text = []; last = 10 ∷ []; whole = refl; spells = refl; ends = inr (inl refl) }

-- CR before LF does
return-feed : (r : List ℕ) → r ≡ 10 ∷ [] → More (13 ∷ r)
return-feed r e = record { values = []; text = []; last = 13 ∷ r; whole = refl; spells = refl; ends = inl (ap (λ t. 13 ∷ t) e) }

-- a comma before fields makes them more
comma-fields : (r : List ℕ) → Done Start r → More (44 ∷ r)
comma-fields r (v, (t, (m, (e, spells, more)))) = record {
  values = v ∷ more.values;
  text = 44 ∷ (t ++ more.text);
  last = more.last;
  whole = ap (λ x. 44 ∷ x) (e ∙ ap (λ x. t ++ x) more.whole ∙ sym (append_assoc t more.text more.last));
  spells = (t, (more.text, (refl, spells, more.spells)));
  ends = more.ends;
}

-- a field without quotes may begin where one goes on
start-plain : (r : List ℕ) → Done Plain r → Done Start r
start-plain r (v, (m, (e, each, more))) = (v, (v, (m, (e, inl (each, refl), more))))

-- and may end at once
plain-more : (r : List ℕ) → More r → Done Plain r
plain-more r more = ([], (r, (refl, tt, more)))

-- a choice by a test
split : {A : Type 0} (b : Bool) (x y z : A) → cond b x y ≡ z
    → ((b ≡ true) × (x ≡ z)) ⊎ ((b ≡ false) × (y ≡ z))
split true x y z e = inl (refl, e)
split false x y z e = inr (refl, e)

-- the byte is the one of the test
byte-is : (n b : ℕ) → (n == b) ≡ true → n ≡ b
byte-is n b h = grind (arith, nat_tests, h)

-- states that are the same
same-state : (s t : RowState) → Some s ≡ Some t → s ≡ t
same-state s t e = cc

-- what completes the record after a byte after_field a field completes, with that byte, more fields
after_field-done : (b : ℕ) (other : Option RowState) (t : RowState) (r : List ℕ) → Done t r
    → after_field b other ≡ Some t → More (b ∷ r) ⊎ (other ≡ Some t)
after_field-done b other t r d e =
    elim (split (44 == b) (Some Start) (cond (13 == b) (Some Return) other) (Some t) e) [
      | inl h ↦ inl (subst (λ x. More (x ∷ r)) (byte-is 44 b h.0) (comma-fields r (subst (λ s. Done s r) (sym (same-state Start t h.1)) d)))
      | inr h ↦ elim (split (13 == b) (Some Return) other (Some t) h.1) [
        | inl k ↦ inl (subst (λ x. More (x ∷ r)) (byte-is 13 b k.0) (return-feed r (subst (λ s. Done s r) (sym (same-state Return t k.1)) d)))
        | inr k ↦ inr k.1
      ]
    ]

-- the same in a field without quotes
plain-done : (b : ℕ) (t : RowState) (r : List ℕ) → Done t r → in_plain b ≡ Some t
    → Done Plain (b ∷ r)
plain-done b t r d e =
    elim (after_field-done b (cond (is_plain b) (Some Plain) None) t r d e) [
      | inl more ↦ plain-more (b ∷ r) more
      | inr h ↦ elim (split (is_plain b) (Some Plain) None (Some t) h) [
        | inl k ↦ (let p = subst (λ s. Done s r) (sym (same-state Plain t k.1)) d in (b ∷ p.0, (p.1.0, (ap (λ x. b ∷ x) p.1.1.0, (k.0, p.1.1.1), p.1.1.2))))
        | inr k ↦ absurd (none-some _ k.1)
      ]
    ]

-- a byte between quotes
twice-other : (b : ℕ) → (34 == b) ≡ false → twice b ≡ b ∷ []
twice-other b e = ap (λ x. cond x (34 ∷ 34 ∷ []) (b ∷ [])) e

-- what completes the record after a byte completes it, with that byte, before
step-done : (s t : RowState) (b : ℕ) (r : List ℕ) → step s b ≡ Some t → Done t r → Done s (b ∷ r)
step-done Start t b r e d =
    elim (split (34 == b) (Some Quoted) (in_plain b) (Some t) e) [
      | inl h ↦ (let q = subst (λ s. Done s r) (sym (same-state Quoted t h.1)) d in
          subst (λ x. Done Start (x ∷ r)) (byte-is 34 b h.0)
          (q.0, (34 ∷ (doubled q.0 ++ 34 ∷ []), (q.1.0, (ap (λ x. 34 ∷ x) (q.1.1.0 ∙ sym (append_assoc (doubled q.0) (34 ∷ []) q.1.0)), inr refl, q.1.1.1)))))
      | inr h ↦ start-plain (b ∷ r) (plain-done b t r d h.1)
    ]
step-done Plain t b r e d = plain-done b t r d e
step-done Quoted t b r e d =
    elim (split (34 == b) (Some Closed) (Some Quoted) (Some t) e) [
      | inl h ↦ subst (λ x. Done Quoted (x ∷ r)) (byte-is 34 b h.0)
          (elim (subst (λ s. Done s r) (sym (same-state Closed t h.1)) d) [
            | inl q ↦ (34 ∷ q.0, (q.1.0, (ap (λ x. 34 ∷ x) q.1.1.0, q.1.1.1)))
            | inr more ↦ ([], (r, (refl, more)))
          ])
      | inr h ↦ (let q = subst (λ s. Done s r) (sym (same-state Quoted t h.1)) d in
          (b ∷ q.0, (q.1.0, (ap (λ x. b ∷ x) q.1.1.0 ∙ ap (λ x. x ++ (doubled q.0 ++ 34 ∷ q.1.0)) (sym (twice-other b h.0)) ∙ sym (append_assoc (twice b) (doubled q.0) (34 ∷ q.1.0)), q.1.1.1))))
    ]
step-done Closed t b r e d =
    elim (split (34 == b) (Some Quoted) (after_field b None) (Some t) e) [
      | inl h ↦ (let q = subst (λ s. Done s r) (sym (same-state Quoted t h.1)) d in
          subst (λ x. Done Closed (x ∷ r)) (byte-is 34 b h.0) (inl (q.0, (q.1.0, (ap (λ x. 34 ∷ x) q.1.1.0, q.1.1.1)))))
      | inr h ↦ elim (after_field-done b None t r d h.1) [ inl more ↦ inr more | inr k ↦ absurd (none-some _ k) ]
    ]
step-done Return t b r e d = absurd (none-some _ e)

-- some bytes complete it at once
some-done : (s : RowState) → (r : List ℕ) × Done s r
some-done Start = (10 ∷ [], start-plain (10 ∷ []) (plain-more (10 ∷ []) feed))
some-done Plain = (10 ∷ [], plain-more (10 ∷ []) feed)
some-done Quoted = (34 ∷ 10 ∷ [], ([], (10 ∷ [], (refl, feed))))
some-done Closed = (10 ∷ [], inr feed)
some-done Return = (10 ∷ [], refl)

-- a step, and what it leads to
run-step : (s : RowState) (o : Option RowState) (b : ℕ) (r : List ℕ) → step s b ≡ o
    → ((u : RowState) → o ≡ Some u → (more : List ℕ) × Done u (r ++ more)) → (t : RowState) → run o r ≡ Some t
    → (more : List ℕ) × Done s (b ∷ (r ++ more))
run-step s None b r e far t h = absurd (none-some t (sym (run-none r) ∙ h))
run-step s (Some u) b r e far t h =
    let d = far u refl in (d.0, step-done s u b (r ++ d.0) e d.1)

-- where a scan goes on, some bytes complete the record
run-done : (bytes : List ℕ) (s t : RowState) → run (Some s) bytes ≡ Some t
    → (more : List ℕ) × Done s (bytes ++ more)
run-done [] s t h = some-done s
run-done (b ∷ bytes) s t h =
    run-step s (step s b) b bytes refl
    (λ u e. run-done bytes u t (sym (ap (λ o. run o bytes) e) ∙ h)) t h

-- an end is something
last-some : (front last : List ℕ) → EndsRecord true last [] → front ++ last ≢ []
last-some front last (inl e) n = some front (10 ∷ []) 13 (sym (ap (λ x. front ++ x) e) ∙ n)
last-some front last (inr (inl e)) n = some front [] 10 (sym (ap (λ x. front ++ x) e) ∙ n)
last-some front last (inr (inr e)) n = let x : true ≡ false = e.2 in cc

-- where a scan goes on, a record is begun
pub begun : (bytes : List ℕ) (t : RowState) → run (Some Start) bytes ≡ Some t → IsBegun bytes
begun bytes t h =
    let d = run-done bytes Start t h in
    let v = d.1.0 in
    let text = d.1.1.0 in
    let more = d.1.1.1.1.2 in
    let whole = d.1.1.1.1.0 ∙ ap (λ x. text ++ x) more.whole ∙ sym (append_assoc text more.text more.last) in (
      d.0,
      (
        v ∷ more.values,
        (
          λ n. last-some (text ++ more.text) more.last more.ends (sym whole ∙ n),
          (text ++ more.text, (more.last, (whole, (text, (more.text, (refl, d.1.1.1.1.1, more.spells))), more.ends))),
        ),
      ),
    )

module _ (bytes : List ℕ) (t : RowState) (h : run (Some Start) bytes ≡ Some t) (place : ℕ) where
  -- where a scan goes on, no record stands
  no-record : (values : List (List ℕ)) (rest : List ℕ) → ¬ (RecordAhead true bytes values rest)
  no-record values rest stands = none-some t (sym (record-run bytes values rest stands) ∙ h)

  -- so the parser has neither a value nor a failure
  pub open-there : IsOpen RowInPieces (bytes_at place bytes)
  open-there (Gives row b) s m =
      no-record (values_of row) (bytes_of b.tokens)
      (subst (λ xs. RecordAhead true xs (values_of row) (bytes_of b.tokens)) (bytes-units bytes)
      (answers IsByteSlice (λ slice. slice.now) SlicesStay-bytes have-bytes ⊥ ⊥ true (bytes_at place bytes) b (gave row) (HasPositiveWidths-units bytes) m))
  open-there (Fails (Backtracks b)) s m =
      let e = (answers IsByteSlice (λ slice. slice.now) SlicesStay-bytes have-bytes ⊥ ⊥ true (bytes_at place bytes) b backtracked (HasPositiveWidths-units bytes) m).2 in
      let x : true ≡ false = e in cc
  open-there (Fails (Cuts b)) s m =
      (answers IsByteSlice (λ slice. slice.now) SlicesStay-bytes have-bytes ⊥ ⊥ true (bytes_at place bytes) b cut (HasPositiveWidths-units bytes) m).1 refl
      (subst IsBegun (sym (bytes-units bytes)) (begun bytes t h))
  open-there (Fails (Needs n)) s m = s
  open-there (Fails Refuses) s m = s

-- where a scan went on, and goes on over more
pub goes-on : (front more : List ℕ) (s t : RowState) → run (Some Start) front ≡ Some s
    → run (Some s) more ≡ Some t → run (Some Start) (front ++ more) ≡ Some t
goes-on front more s t h k = run-append (Some Start) front more ∙ ap (λ o. run o more) h ∙ k
