-- What a reader of bytes in pieces has read of records, in the words of the format.
use Rattle.std.proofs.Common.{◌≡◌, ◌≢◌, ℕ, ◌+◌, Bool, true, false, List, [], ◌∷◌, ◌++◌, length, inl, inr, ap, sym, ◌∙◌, subst, refl, arith}
use Rattle.std.proofs.lemmas.List.{append-nil}
use Rattle.std.proofs.lemmas.Option.{same_Some}
use Rattle.std.specs.Prelude.{Result, Ok, Err}
use Rattle.winnow_stream.specs.Source.{units, width, HasPositiveWidths}
use Rattle.winnow_stream.specs.Units.{width-units, HasPositiveWidths-units}
use Rattle.winnow_stream.specs.SliceBytes.{SlicesHaveBytes}
use Rattle.winnow_stream.proofs.lemmas.FrontLemmas.{width-append}
use Rattle.winnow_stream.specs.declared.needed.Needed.{Needed}
use Rattle.winnow_error.specs.declared.failure.Failure.{Failure}
use Rattle.winnow_error.specs.declared.failure.Failure.TheVariants.{Backtrack, Cut}
use Rattle.winnow_parser.specs.Outcome.{Ahead, Backtracks, Cuts, Gives, Fails, Moves}
use Rattle.winnow_parser.specs.Laws.{IsParser}
use Rattle.winnow_reader.specs.Place.{bytes_at, IsByteSlice, SlicesStay-bytes}
use Rattle.winnow_reader.specs.State.{ReaderState}
use Rattle.winnow_reader.specs.Reading.{Reads, MayFollow, HasRead}
use Rattle.winnow_reader.specs.Answering.{StopsAt, FailsAt, IdlesAt}
use Rattle.winnow_reader.specs.SameValues.{IsThrough}
use Rattle.format_lemmas.specs.Bytes.{bytes_of}
use Rattle.format_lemmas.proofs.lemmas.TokenLemmas.{positive-moved}
use Rattle.format_lemmas.proofs.lemmas.ByteLemmas.{bytes-units}
use Rattle.format_csv.specs.Language.{RecordAhead}
use Rattle.format_csv.specs.Answers.{values_of}
use Rattle.format_csv.specs.Meanings.{IsParser-OneRow}
use Rattle.format_csv.specs.Widths.{RowVec}
use Rattle.format_csv.specs.Tables.{rows_in, AreRecords, HasNoRecord, IsDamagedAt}
use Rattle.format_csv.specs.Reading.{RowInPieces, BeginsWith, FindsDamage}
use Rattle.format_csv.proofs.lemmas.TableLemmas.{record-shorter, cut-damaged}
use Rattle.format_csv.proofs.lemmas.AnswerLemmas.{answers, gives-each}

-- `RowInPieces` keeps the laws of a parser
lawful : IsParser RowInPieces
lawful = IsParser-OneRow IsByteSlice (λ slice. slice.now) SlicesStay-bytes ⊥ ⊥

-- the slices of a reader's stream have the bytes of what was taken
pub have-bytes : SlicesHaveBytes IsByteSlice (λ slice. slice.now)
have-bytes s r n o h = h

-- the answers that decide, with an error that holds nothing
abbrev pub RowAnswer : Type 0
RowAnswer = Result RowVec (Failure (Unit {0}) Needed)

abbrev pub gave : RowVec → RowAnswer
gave row = Ok row

abbrev pub backtracked : RowAnswer
backtracked = Err (Backtrack tt)

abbrev pub cut : RowAnswer
cut = Err (Cut tt)

-- ---- Values

-- the bytes begin with the record that is returned
given-ahead : (row : RowVec) (a b : Ahead ℕ) → HasPositiveWidths a.tokens
    → RowInPieces false a (Gives row b)
    → RecordAhead false (bytes_of a.tokens) (values_of row) (bytes_of b.tokens)
given-ahead row a b wide h =
    answers IsByteSlice (λ slice. slice.now) SlicesStay-bytes have-bytes ⊥ ⊥ false a b (gave row) wide h

-- records that are read one after the other stand so
reads-records : (rows : List RowVec) (a b : Ahead ℕ) → HasPositiveWidths a.tokens
    → Reads RowInPieces false a rows b
    → AreRecords (bytes_of a.tokens) (rows_in rows) (bytes_of b.tokens)
reads-records [] a b wide e = ap (λ p. bytes_of p.tokens) e
reads-records (row ∷ rows) a b wide (c, (h, less, more)) =
    let wide_c = positive-moved a c (lawful.onward false a (Gives row c) h) wide in
    (bytes_of c.tokens, (given-ahead row a c wide h, reads-records rows c b wide_c more))

-- no matter what follows, what was read are the records that the input begins with
pub read-records : {R : Type 0} (f : ReaderState R) (input : List ℕ) (rows : List RowVec)
    → HasRead (λ r. RowInPieces) f input rows → BeginsWith f input rows
read-records f input rows h more may =
    let far = reads-records rows (bytes_at 0 (input ++ more)) (bytes_at f.place (f.ahead ++ more)) (HasPositiveWidths-units (input ++ more)) (h.reads more false may) in
    subst (λ xs. AreRecords xs (rows_in rows) (f.ahead ++ more)) (bytes-units (input ++ more))
    (subst (λ ys. AreRecords (bytes_of (units (input ++ more))) (rows_in rows) ys) (bytes-units (f.ahead ++ more)) far)

-- nothing may follow
pub none-follows : (ended : Bool) → MayFollow ended [] false
none-follows false = tt
none-follows true = (refl, refl)

-- no value takes nothing
pub never-idle : {R : Type 0} (f : ReaderState R) (place : ℕ)
    → ¬ (IdlesAt (λ r. RowInPieces) f place)
never-idle f place (e, (row, h)) =
    let a = bytes_at place (f.ahead ++ []) in
    let stands = given-ahead row a a (HasPositiveWidths-units (f.ahead ++ [])) (h [] false (none-follows f.ended)) in
    omega (arith, record-shorter (bytes_of a.tokens) (bytes_of a.tokens) (values_of row) stands)

-- ---- Failures

-- if the parser of a record fails, the bytes begin with none
stops-missed : (a b : Ahead ℕ) → HasPositiveWidths a.tokens → StopsAt RowInPieces false a b
    → HasNoRecord (bytes_of a.tokens)
stops-missed a b wide (inl h) ws after stands =
    gives-each IsByteSlice (λ slice. slice.now) SlicesStay-bytes have-bytes ⊥ ⊥ false a b backtracked wide h ws after stands
stops-missed a b wide (inr h) ws after stands =
    gives-each IsByteSlice (λ slice. slice.now) SlicesStay-bytes have-bytes ⊥ ⊥ false a b cut wide h ws after stands

-- where a record fails and something remains, it is damaged
stops-damaged : (a b : Ahead ℕ) → HasPositiveWidths a.tokens → StopsAt RowInPieces false a b
    → ¬ (bytes_of a.tokens ≡ []) → IsDamagedAt (bytes_of a.tokens) (bytes_of b.tokens)
stops-damaged a b wide (inl h) some =
    absurd (some (answers IsByteSlice (λ slice. slice.now) SlicesStay-bytes have-bytes ⊥ ⊥ false a b backtracked wide h).0)
stops-damaged a b wide (inr h) some =
    cut-damaged (bytes_of a.tokens) (bytes_of b.tokens) ((answers IsByteSlice (λ slice. slice.now) SlicesStay-bytes have-bytes ⊥ ⊥ false a b cut wide h).0)

-- where a record fails, the stream moved on
stops-moved : (a b : Ahead ℕ) → StopsAt RowInPieces false a b → Moves a b
stops-moved a b (inl h) = lawful.onward false a (Fails (Backtracks b)) h
stops-moved a b (inr h) = lawful.onward false a (Fails (Cuts b)) h

-- where a stream moved on, its place and what remains make up the same
place-moved : (place there : ℕ) (xs ys : List ℕ) → Moves (bytes_at place xs) (bytes_at there ys)
    → place + length xs ≡ there + length ys
place-moved place there xs ys m =
    omega (arith, same_Some _ _ m.place, ap width m.whole, width-append m.taken (units ys), width-units xs, width-units ys)

-- a line end alone is a record of one empty field
empty-record : RecordAhead false (10 ∷ []) ([] ∷ []) []
empty-record = (
  λ e. let f = e in cc,
  ([], (10 ∷ [], (refl, ([], ([], (refl, inl (tt, refl), refl))), inr (inl refl)))),
)

-- if the bytes ahead begin with no record on any continuation and more may follow, there are some
pub some-ahead : (ended : Bool) (ahead : List ℕ)
    → ((more : List ℕ) → MayFollow ended more false → HasNoRecord (ahead ++ more))
    → ¬ ((ended ≡ true) × (ahead ≡ [])) → ahead ≢ []
some-ahead true ahead missed n e = n (refl, e)
some-ahead false ahead missed n e =
    let alone : HasNoRecord (10 ∷ []) = subst (λ xs. HasNoRecord (xs ++ 10 ∷ [])) e (missed (10 ∷ []) tt) in
    alone ([] ∷ []) [] empty-record

-- something, and what follows it, is something
pub append-some : (xs more : List ℕ) → xs ≢ [] → xs ++ more ≢ []
append-some [] more n e = n refl
append-some (x ∷ xs) more n e = let f : x ∷ (xs ++ more) ≡ [] = e in cc

module _ {R : Type 0} (f : ReaderState R) (place : ℕ) (fails : FailsAt (λ r. RowInPieces) f place) where
  -- if a reader fails, the bytes ahead begin with no record on any continuation
  fails-missed : (more : List ℕ) → MayFollow f.ended more false → HasNoRecord (f.ahead ++ more)
  fails-missed more may =
      subst HasNoRecord (bytes-units (f.ahead ++ more))
      (stops-missed (bytes_at f.place (f.ahead ++ more)) (bytes_at place (fails.0 ++ more)) (HasPositiveWidths-units (f.ahead ++ more)) (fails.1 more false may))

  -- and what does is damaged at the place that the reader gives
  fails-broken : f.ahead ≢ [] → (more : List ℕ) → MayFollow f.ended more false
      → IsDamagedAt (f.ahead ++ more) (fails.0 ++ more)
  fails-broken some more may =
      let a = bytes_at f.place (f.ahead ++ more) in
      let b = bytes_at place (fails.0 ++ more) in
      let damaged = stops-damaged a b (HasPositiveWidths-units (f.ahead ++ more)) (fails.1 more false may) (λ e. append-some f.ahead more some (sym (bytes-units (f.ahead ++ more)) ∙ e)) in
      subst (λ xs. IsDamagedAt xs (fails.0 ++ more)) (bytes-units (f.ahead ++ more))
      (subst (λ ys. IsDamagedAt (bytes_of a.tokens) ys) (bytes-units (fails.0 ++ more)) damaged)

  -- that place is where as much follows as remains
  fails-place : f.place + length f.ahead ≡ place + length fails.0
  fails-place =
      let moved = stops-moved (bytes_at f.place (f.ahead ++ [])) (bytes_at place (fails.0 ++ [])) (fails.1 [] false (none-follows f.ended)) in
      subst (λ xs. f.place + length xs ≡ place + length fails.0) (append-nil f.ahead)
      (subst (λ ys. f.place + length (f.ahead ++ []) ≡ place + length ys) (append-nil fails.0) (place-moved f.place place (f.ahead ++ []) (fails.0 ++ []) moved))

  -- where a reader fails and is not through, it finds damage
  pub fails-damaged : ¬ (IsThrough f) → FindsDamage f place
  fails-damaged n =
      let some = some-ahead f.ended f.ahead fails-missed n in
      (fails.0, (fails-place, λ more may. (fails-missed more may, fails-broken some more may)))
