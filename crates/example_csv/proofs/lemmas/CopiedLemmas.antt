-- What was copied of a text, as its pieces counts.
use Rattle.std.proofs.Common.{◌≡◌, ℕ, ◌+◌, ◌<◌, ◌^◌, Bool, true, false, List, [], ◌++◌, refl, ap, sym, ◌∙◌, subst, append_assoc}
use Rattle.std.specs.Prelude.{Option, Result, Ok, Err, OnOk, IfErr}
use Rattle.std.specs.Io.KnownBytes.{Appends}
use Rattle.std.proofs.lemmas.List.{append-nil}
use Rattle.std.proofs.lemmas.Grind.{flat_map-append}
use Rattle.winnow.specs.State.{ReaderState, pushed, ended_after, fed_of}
use Rattle.winnow.specs.Reading.{MayFollow, ReadsAlso, ReadsThrough}
use Rattle.format_csv.proofs.lemmas.ReaderLemmas.{none-follows}
use Rattle.format_csv.specs.Answers.{values_of}
use Rattle.format_csv.specs.Widths.{RowVec}
use Rattle.format_csv.specs.Tables.{rows_in, AreRecords}
use Rattle.format_csv.specs.Reading.{RowInPieces}
use Rattle.format_csv.specs.declared.grammar.Row.{Row}
use Rattle.example_csv.specs.Lines.{line_of}
use Rattle.example_csv.specs.Copying.{lines_of, HasCounted, Copies, IsFailureOf, IsBegun, WritesOn, StopsWith, CopiesAll, CopiesUntil, TellsText}
use Rattle.example_csv.specs.declared.progress.Progress.{Progress}
use Rattle.example_csv.specs.declared.failure.Failure.{Failure}
use Rattle.example_csv.proofs.lemmas.KnownLemmas.{appends-more}
use Rattle.example_csv.proofs.lemmas.CopyLemmas.{Begins, counted-pushed, counted-ended}

-- the lines of records, and of more after them
lines-append : (rows more : List RowVec) → lines_of (rows ++ more) ≡ lines_of rows ++ lines_of more
lines-append rows more = flat_map-append (λ (r : RowVec). line_of (values_of r)) rows more

-- nothing follows the end
none-after : (ended : Bool) → MayFollow ended [] false
none-after false = tt
none-after true = (refl, refl)

module _ {R : Type 0} where
  -- what was begun is begun with a piece
  pub begun-pushed : (f g : ReaderState R) (p : Progress) (piece : List ℕ) → IsBegun f p
      → g ≡ pushed f piece → ReadsAlso (λ r. RowInPieces) f piece g → fed_of g + 1 < 2 ^ 64
      → IsBegun g p
  begun-pushed f g p piece begun e reads fits =
      (begun.0 ++ piece, (begun.1.0, counted-pushed f g p begun.0 piece begun.1.0 begun.1.1 e reads fits))

  -- and at the end
  pub begun-ended : (f g : ReaderState R) (p : Progress) → IsBegun f p → g ≡ ended_after f
      → ReadsThrough (λ r. RowInPieces) f g → IsBegun g p
  begun-ended f g p begun e reads =
      (begun.0, (begun.1.0, counted-ended f g p begun.0 begun.1.0 begun.1.1 e reads))

  -- and once records are written
  pub begun-written : (f g : ReaderState R) (p q : Progress) (held now : Option (List ℕ))
      → IsBegun f p → WritesOn f p held g q now → IsBegun g q
  begun-written f g p q held now begun writes =
      let w = writes begun.0 begun.1.0 begun.1.1 in (begun.0, (begun.1.0 ++ w.0, w.1.0))

  module _ (input : List ℕ) (held now new : Option (List ℕ)) (f g k : ReaderState R)
      (p q : Progress) (piece : List ℕ) (copies : Copies input held now f p)
      (e : g ≡ pushed f piece) (reads : ReadsAlso (λ r. RowInPieces) f piece g)
      (fits : fed_of g + 1 < 2 ^ 64) where
    counts : HasCounted g p (input ++ piece) copies.rows
    counts = counted-pushed f g p input piece copies.rows copies.counts e reads fits

    -- the records that are there with a piece are copied
    pub copies-piece : WritesOn g p now k q new → k.ended ≡ g.ended
        → Copies (input ++ piece) held new k q
    copies-piece writes ended =
        let w = writes (input ++ piece) copies.rows counts in record {
          rows = copies.rows ++ w.0;
          counts = w.1.0;
          wrote = subst (λ bs. Appends held new bs) (sym (lines-append copies.rows w.0)) (appends-more held now new (lines_of copies.rows) (lines_of w.0) copies.wrote w.1.1);
          goes_on = ended ∙ ap (λ (g : ReaderState R). g.ended) e ∙ copies.goes_on;
        }

    -- if these end with a failure, the copy does, whatever follows
    pub stops-piece : (failure : Failure) (rest : List ℕ) → StopsWith g p now failure new
        → CopiesUntil (input ++ (piece ++ rest)) failure held new
    stops-piece failure rest stops told =
        let s = stops told (input ++ piece) copies.rows counts in
        let goes : g.ended ≡ false = ap (λ (g : ReaderState R). g.ended) e ∙ copies.goes_on in (
          copies.rows ++ s.0,
          (
            subst (λ bs. Appends held new bs) (sym (lines-append copies.rows s.0)) (appends-more held now new (lines_of copies.rows) (lines_of s.0) copies.wrote s.1.0),
            subst (λ b. IsFailureOf b (copies.rows ++ s.0) failure) (append_assoc input piece rest) (s.1.1 rest (subst (λ b. MayFollow b rest false) (sym goes) tt)),
          ),
        )

module _ (begins : Begins) (input : List ℕ) (held now new : Option (List ℕ))
    (f g k : ReaderState Row) (p q : Progress) (copies : Copies input held now f p) (e : g ≡ ended_after f)
    (reads : ReadsThrough (λ r. RowInPieces) f g) where
  counted : HasCounted g p input copies.rows
  counted = counted-ended f g p input copies.rows copies.counts e reads

  -- at the end all is copied
  copies-end : WritesOn g p now k q new → k.ahead ≡ [] → CopiesAll input held new
  copies-end writes none =
      let w = writes input copies.rows counted in
      let rows = copies.rows ++ w.0 in
      let all = begins k input rows w.1.0.read [] (none-follows k.ended) in (
        rows,
        (
          subst (λ b. AreRecords b (rows_in rows) []) (append-nil input) (subst (λ a. AreRecords (input ++ []) (rows_in rows) (a ++ [])) none all),
          w.1.0.even,
          subst (λ bs. Appends held new bs) (sym (lines-append copies.rows w.0)) (appends-more held now new (lines_of copies.rows) (lines_of w.0) copies.wrote w.1.1),
        ),
      )

  -- or until the failure
  stops-end : (failure : Failure) → StopsWith g p now failure new
      → CopiesUntil input failure held new
  stops-end failure stops told =
      let s = stops told input copies.rows counted in (
        copies.rows ++ s.0,
        (
          subst (λ bs. Appends held new bs) (sym (lines-append copies.rows s.0)) (appends-more held now new (lines_of copies.rows) (lines_of s.0) copies.wrote s.1.0),
          subst (λ b. IsFailureOf b (copies.rows ++ s.0) failure) (append-nil input) (s.1.1 [] (none-after g.ended)),
        ),
      )

  -- what the end returns is told of the text
  pub tells-end : (result : Result (Unit {0}) Failure)
      → OnOk result (WritesOn g p now k q new) → OnOk result (g.ended ≡ true → k.ahead ≡ [])
      → IfErr result (λ failure. StopsWith g p now failure new) → TellsText input held new result
  tells-end (Ok done) writes through stops =
      copies-end writes (through (ap (λ (g : ReaderState Row). g.ended) e))
  tells-end (Err failure) writes through stops = stops-end failure stops

-- what is said of an answer's value follows from what is said of it
pub on-ok : {T E P Q : Type 0} (r : Result T E) → (P → Q) → OnOk r P → OnOk r Q
on-ok (Ok x) f h = f h
on-ok (Err e) f h = tt

-- and from two such
pub on-both : {T E P Q S : Type 0} (r : Result T E) → (P → Q → S) → OnOk r P → OnOk r Q → OnOk r S
on-both (Ok x) f h k = f h k
on-both (Err e) f h k = tt

-- and so does what is said of its error
pub if-err : {T E : Type 0} {P Q : E → Type 0} (r : Result T E) → ((e : E) → P e → Q e)
    → IfErr r P → IfErr r Q
if-err (Ok x) f h = tt
if-err (Err e) f h = f e h
