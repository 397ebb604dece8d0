-- The line feeds of records, and where lines begin.
use Rattle.std.proofs.Common.{◌≡◌, ◌≢◌, ℕ, ◌+◌, ◌≤◌, Bool, true, false, cond, List, [], ◌∷◌, ◌++◌, length, refl, ap, sym, ◌∙◌, subst, arith, inl, inr, append_assoc, length-append}
use Rattle.std.specs.Prelude.{◌⊎◌, ◌==◌}
use Rattle.std.specs.List.{fold, sum_by}
use Rattle.std.proofs.lemmas.List.Sums.{fold-append, sum_by-cons, sum_by-append, count_by-le-length}
use Rattle.std.proofs.lemmas.Bool.Decides.{nat_tests}
use Rattle.format_csv.specs.Fields.{twice, doubled, SpellsField}
use Rattle.format_csv.specs.Language.{SpellsMore, SpellsRecord, RecordAhead}
use Rattle.format_csv.specs.Tables.{AreRecords}
use Rattle.wb_base.specs.Positions.{line_feeds, next_column, after_feed}
use Rattle.wb_csv.specs.Progress.{feeds_of, feeds_in}

-- the weight of a byte in a count of line feeds
abbrev feed : ℕ → ℕ
feed byte = cond (byte == 10) 1 0

-- the line feeds of two texts
pub feeds-append : (xs ys : List ℕ) → line_feeds (xs ++ ys) ≡ line_feeds xs + line_feeds ys
feeds-append xs ys = sum_by-append feed xs ys

-- the line feeds of a text with a byte before it
feeds-cons : (x : ℕ) (xs : List ℕ) → line_feeds (x ∷ xs) ≡ feed x + line_feeds xs
feeds-cons x xs = sum_by-cons feed x xs

-- the step of `feeds-twice`
twice-step : (b : ℕ) (t : Bool) → (34 == b) ≡ t
    → line_feeds (cond t (34 ∷ 34 ∷ []) (b ∷ [])) ≡ feed b
twice-step b true e = grind (arith, nat_tests)
twice-step b false e = grind (arith, feeds-cons b [])

-- a byte between quotes has the line feeds of the byte
feeds-twice : (b : ℕ) → line_feeds (twice b) ≡ feed b
feeds-twice b = twice-step b (34 == b) refl

-- doubled quotes add no line feed
feeds-doubled : (bs : List ℕ) → line_feeds (doubled bs) ≡ line_feeds bs
feeds-doubled [] = refl
feeds-doubled (b ∷ bs) =
    omega (arith, feeds-append (twice b) (doubled bs), feeds-twice b, feeds-doubled bs, feeds-cons b bs)

-- the bytes that spell a field have its line feeds
feeds-field : (value text : List ℕ) → SpellsField value text → line_feeds text ≡ line_feeds value
feeds-field value text (inl (plain, e)) = ap line_feeds e
feeds-field value text (inr e) =
    ap line_feeds e ∙ omega (arith, feeds-cons 34 (doubled value ++ 34 ∷ []), feeds-append (doubled value) (34 ∷ []), feeds-cons 34 [], feeds-doubled value)

-- those of fields after commas have the fields' line feeds
feeds-more : (values : List (List ℕ)) (text : List ℕ) → SpellsMore values text
    → line_feeds text ≡ sum_by line_feeds values
feeds-more [] text e = ap line_feeds e
feeds-more (value ∷ values) text (one, (more, (e, spells, others))) =
    ap line_feeds e ∙ omega (arith, feeds-cons 44 (one ++ more), feeds-append one more, feeds-field value one spells, feeds-more values more others, sum_by-cons line_feeds value values)

-- and so have those of a record
feeds-record : (values : List (List ℕ)) (text : List ℕ) → SpellsRecord values text
    → line_feeds text ≡ sum_by line_feeds values
feeds-record [] text h = absurd h
feeds-record (value ∷ values) text (one, (more, (e, spells, others))) =
    ap line_feeds e ∙ omega (arith, feeds-append one more, feeds-field value one spells, feeds-more values more others, sum_by-cons line_feeds value values)

-- after a line feed a line begins
after-feed : (xs : List ℕ) → after_feed (xs ++ 10 ∷ []) ≡ 0
after-feed xs = fold-append next_column 0 xs (10 ∷ [])

-- where one begins, nothing else matters
pub after-begun : (xs ys : List ℕ) → after_feed xs ≡ 0 → after_feed (xs ++ ys) ≡ after_feed ys
after-begun xs ys e =
    fold-append next_column 0 xs ys ∙ ap (λ m. fold next_column m ys) e

-- the bytes of a record with its end, after which something follows: they end a line
record IsLine (bytes rest : List ℕ) (feeds : ℕ) : Type 0 where
  text : List ℕ
  whole : bytes ≡ text ++ rest
  counted : line_feeds text ≡ feeds
  begins : after_feed text ≡ 0

-- the line feeds of a text with an end after it
feeds-ended : (text : List ℕ) → line_feeds (text ++ 10 ∷ []) ≡ line_feeds text + 1
feeds-ended text = omega (arith, feeds-append text (10 ∷ []), feeds-cons 10 [])

-- the same with CR LF
feeds-both : (text : List ℕ) → line_feeds ((text ++ 13 ∷ []) ++ 10 ∷ []) ≡ line_feeds text + 1
feeds-both text = omega (arith, feeds-ended (text ++ 13 ∷ []), feeds-append text (13 ∷ []), feeds-cons 13 [])

-- a record that something follows ends a line
record-line : (bytes rest : List ℕ) (row : List (List ℕ)) → RecordAhead false bytes row rest
    → rest ≢ [] → IsLine bytes rest (feeds_of row)
record-line bytes rest row (some, (text, (more, (e, spells, inl f)))) n = record {
  text = (text ++ 13 ∷ []) ++ 10 ∷ [];
  whole =
      e ∙ ap (λ m. text ++ m) f ∙ sym (append_assoc text (13 ∷ []) (10 ∷ rest)) ∙ sym (append_assoc (text ++ 13 ∷ []) (10 ∷ []) rest);
  counted = omega (arith, feeds-both text, feeds-record row text spells);
  begins = after-feed (text ++ 13 ∷ []);
}
record-line bytes rest row (some, (text, (more, (e, spells, inr (inl f))))) n = record {
  text = text ++ 10 ∷ [];
  whole = e ∙ ap (λ m. text ++ m) f ∙ sym (append_assoc text (10 ∷ []) rest);
  counted = omega (arith, feeds-ended text, feeds-record row text spells);
  begins = after-feed text;
}
record-line bytes rest row (some, (text, (more, (e, spells, inr (inr f))))) n = absurd (n f.1)

-- records after which something follows end a line
pub record AreLines (bytes : List ℕ) (rows : List (List (List ℕ))) (rest : List ℕ) : Type 0 where
  pub text : List ℕ
  pub whole : bytes ≡ text ++ rest
  pub counted : line_feeds text ≡ feeds_in rows
  pub begins : after_feed text ≡ 0

-- something is not nothing
append-some : (xs ys : List ℕ) → ys ≢ [] → xs ++ ys ≢ []
append-some [] ys n e = n e
append-some (x ∷ xs) ys n e = let f : x ∷ (xs ++ ys) ≡ [] = e in cc

-- the records before the last something end a line
pub rows-lines : (bytes : List ℕ) (rows : List (List (List ℕ))) (rest : List ℕ)
    → AreRecords bytes rows rest → rest ≢ [] → AreLines bytes rows rest
rows-lines bytes [] rest e n = record { text = []; whole = e; counted = refl; begins = refl }
rows-lines bytes (row ∷ rows) rest (more, (stands, others)) n =
    let far = rows-lines more rows rest others n in
    let line = record-line bytes more row stands (λ e. append-some far.text rest n (sym far.whole ∙ e)) in
    record {
      text = line.text ++ far.text;
      whole = line.whole ∙ ap (λ m. line.text ++ m) far.whole ∙ sym (append_assoc line.text far.text rest);
      counted =
          omega (arith, feeds-append line.text far.text, line.counted, far.counted, sum_by-cons feeds_of row rows);
      begins = after-begun line.text far.text line.begins ∙ far.begins;
    }

-- the line feeds of a text are no more than its bytes
pub feeds-within : (xs : List ℕ) → line_feeds xs ≤ length xs
feeds-within xs = count_by-le-length (λ byte. byte == 10) xs

-- a record takes at least its line feeds, but for the one at its end where the input ends
record-within : (bytes rest : List ℕ) (row : List (List ℕ)) → RecordAhead false bytes row rest
    → (feeds_of row + length rest ≤ length bytes)
    ⊎ ((rest ≡ []) × (feeds_of row ≤ length bytes + 1))
record-within bytes rest row (some, (text, (more, (e, spells, inl f)))) =
    inl (omega (arith, ap length e, length-append text more, ap length f, feeds-within text, feeds-record row text spells))
record-within bytes rest row (some, (text, (more, (e, spells, inr (inl f))))) =
    inl (omega (arith, ap length e, length-append text more, ap length f, feeds-within text, feeds-record row text spells))
record-within bytes rest row (some, (text, (more, (e, spells, inr (inr f))))) =
    inr (f.1, omega (arith, ap length e, length-append text more, feeds-within text, feeds-record row text spells))

-- of nothing no record is read
nothing-read : (rows : List (List (List ℕ))) (rest : List ℕ) → AreRecords [] rows rest
    → feeds_in rows + length rest ≡ 0
nothing-read [] rest e = omega (arith, ap length e)
nothing-read (row ∷ rows) rest (more, ((some, stands), others)) = absurd (some refl)

-- the step of `rows-within`
within-step : (bytes more rest : List ℕ) (row : List (List ℕ)) (rows : List (List (List ℕ)))
    → AreRecords more rows rest → feeds_in rows + length rest ≤ length more + 1
    → (feeds_of row + length more ≤ length bytes) ⊎ ((more ≡ []) × (feeds_of row ≤ length bytes + 1))
    → feeds_in (row ∷ rows) + length rest ≤ length bytes + 1
within-step bytes more rest row rows others far (inl l) =
    omega (arith, sum_by-cons feeds_of row rows)
within-step bytes more rest row rows others far (inr (e, l)) =
    omega (arith, sum_by-cons feeds_of row rows, nothing-read rows rest (subst (λ m. AreRecords m rows rest) e others))

-- records have no more line feeds than bytes, but for one
pub rows-within : (bytes : List ℕ) (rows : List (List (List ℕ))) (rest : List ℕ)
    → AreRecords bytes rows rest → feeds_in rows + length rest ≤ length bytes + 1
rows-within bytes [] rest e = omega (arith, ap length e)
rows-within bytes (row ∷ rows) rest (more, (stands, others)) =
    within-step bytes more rest row rows others (rows-within more rows rest others) (record-within bytes more row stands)
