-- What was copied of a text, as its pieces come.
use Rattle.std.proofs.Common.{◌≡◌, ℕ, ◌+◌, ◌<◌, ◌^◌, true, false, List, [], ◌++◌, ap, sym, ◌∙◌, subst, append_assoc}
use Rattle.std.specs.Prelude.{Option, Result, Ok, Err, OnOk, IfErr}
use Rattle.std.specs.Io.KnownBytes.{Appends}
use Rattle.std.proofs.lemmas.List.{append-nil}
use Rattle.std.proofs.lemmas.Grind.{flat_map-append}
use Rattle.winnow_reader.specs.State.{ReaderState, pushed, ended_after, fed_of}
use Rattle.winnow_reader.specs.Reading.{MayFollow}
use Rattle.format_csv.specs.Tables.{AreRecords}
use Rattle.format_csv.specs.RowReader.{ReadsAlso, ReadsThrough}
use Rattle.format_csv.specs.declared.grammar.Row.{Row}
use Rattle.format_csv.proofs.lemmas.ReaderLemmas.{none-follows}
use Rattle.wb_base.proofs.lemmas.KnownLemmas.{appends-more}
use Rattle.wb_csv.specs.Lines.{line_of}
use Rattle.wb_csv.specs.Copying.{lines_of, HasCounted, Copies, IsFailureOf, IsBegun, ReadsLines, StopsAfter, WritesOn, StopsWith, CopiesAll, CopiesUntil, TellsText, AreShort}
use Rattle.wb_csv.specs.declared.settings.Settings.{Settings}
use Rattle.wb_csv.specs.declared.progress.Progress.{Progress}
use Rattle.wb_csv.specs.declared.failure.Failure.{Failure}
use Rattle.wb_csv.proofs.lemmas.ReadLemmas.{counted-pushed, counted-ended}

module _ (s : Settings) where
  -- the lines of records, and of more after them
  lines-append : (rows more : List (List (List ℕ)))
      → lines_of s (rows ++ more) ≡ lines_of s rows ++ lines_of s more
  lines-append rows more = flat_map-append (line_of s) rows more

  -- what is written after the lines of records, if it is the lines of more
  lines-more : (rows more : List (List (List ℕ))) (text : List ℕ) (held now new : Option (List ℕ))
      → Appends held now (lines_of s rows) → Appends now new text → text ≡ lines_of s more
      → Appends held new (lines_of s (rows ++ more))
  lines-more rows more text held now new wrote appends e =
      subst (λ bs. Appends held new bs) (ap (λ t. lines_of s rows ++ t) e ∙ sym (lines-append rows more))
      (appends-more held now new (lines_of s rows) text wrote appends)

  -- what was begun is begun with a piece
  pub begun-pushed : (f g : ReaderState Row) (p : Progress) (piece : List ℕ) → IsBegun s f p
      → f.ended ≡ false → g ≡ pushed f piece → ReadsAlso f piece g → fed_of g + 1 < 2 ^ 64 → IsBegun s g p
  begun-pushed f g p piece begun goes e reads short =
      (begun.0 ++ piece, (begun.1.0, counted-pushed s f g p begun.0 piece begun.1.0 begun.1.1 goes e reads short))

  -- and at the end
  pub begun-ended : (f g : ReaderState Row) (p : Progress) → IsBegun s f p → g ≡ ended_after f
      → ReadsThrough f g → IsBegun s g p
  begun-ended f g p begun e reads =
      (begun.0, (begun.1.0, counted-ended s f g p begun.0 begun.1.0 begun.1.1 e reads))

  -- and once records are written
  pub begun-written : (f g : ReaderState Row) (p q : Progress) (held now : Option (List ℕ))
      → IsBegun s f p → WritesOn s f p held g q now → IsBegun s g q
  begun-written f g p q held now begun writes =
      let w = writes.1.0 begun.0 begun.1.0 begun.1.1 in (begun.0, (begun.1.0 ++ w.0, w.1.0))

  module _ (input : List ℕ) (held now new : Option (List ℕ)) (f g k : ReaderState Row)
      (p q : Progress) (piece : List ℕ) (copies : Copies s input held now f p)
      (e : g ≡ pushed f piece) (reads : ReadsAlso f piece g) (short : fed_of g + 1 < 2 ^ 64) where
    counts : HasCounted s g p (input ++ piece) copies.rows
    counts = counted-pushed s f g p input piece copies.rows copies.counts copies.goes_on e reads short

    -- the records that are there with a piece are copied
    pub copies-piece : WritesOn s g p now k q new → k.ended ≡ g.ended
        → Copies s (input ++ piece) held new k q
    copies-piece (text, (was, appends)) ended =
        let w = was (input ++ piece) copies.rows counts in record {
          rows = copies.rows ++ w.0;
          counts = w.1.0;
          wrote = lines-more copies.rows w.0 text held now new copies.wrote appends w.1.1;
          goes_on = ended ∙ ap (λ (g : ReaderState Row). g.ended) e ∙ copies.goes_on;
        }

    -- if these end with a failure, the copy does, whatever follows
    pub stops-piece : (failure : Failure) (rest : List ℕ) → StopsWith s g p now failure new
        → CopiesUntil s (input ++ (piece ++ rest)) failure held new
    stops-piece failure rest stops told =
        let st = stops told in
        let w = st.1.0 told (input ++ piece) copies.rows counts in
        let goes : g.ended ≡ false = ap (λ (g : ReaderState Row). g.ended) e ∙ copies.goes_on in (
          copies.rows ++ w.0,
          (
            lines-more copies.rows w.0 st.0 held now new copies.wrote st.1.1 w.1.0,
            subst (λ b. IsFailureOf s b (copies.rows ++ w.0) failure) (append_assoc input piece rest) (w.1.1 rest (subst (λ b. MayFollow b rest false) (sym goes) tt)),
          ),
        )

  module _ (input : List ℕ) (held now new : Option (List ℕ)) (f g k : ReaderState Row)
      (p q : Progress) (copies : Copies s input held now f p) (e : g ≡ ended_after f)
      (reads : ReadsThrough f g) where
    counted : HasCounted s g p input copies.rows
    counted = counted-ended s f g p input copies.rows copies.counts e reads

    -- at the end all is copied
    copies-end : WritesOn s g p now k q new → k.ahead ≡ [] → CopiesAll s input held new
    copies-end (text, (was, appends)) none =
        let w = was input copies.rows counted in
        let rows = copies.rows ++ w.0 in
        let all = w.1.0.read.reads [] (none-follows k.ended) in (
          rows,
          (
            subst (λ b. AreRecords b rows []) (append-nil input) (subst (λ a. AreRecords (input ++ []) rows (a ++ [])) none all),
            w.1.0.fits,
            lines-more copies.rows w.0 text held now new copies.wrote appends w.1.1,
            subst (λ b. AreShort s.limit b rows []) (append-nil input)
                (subst (λ a. AreShort s.limit (input ++ []) rows (a ++ [])) none (w.1.0.shorts [] (none-follows k.ended))),
          ),
        )

    -- or until the failure
    stops-end : (failure : Failure) → StopsWith s g p now failure new
        → CopiesUntil s input failure held new
    stops-end failure stops told =
        let st = stops told in
        let w = st.1.0 told input copies.rows counted in (
          copies.rows ++ w.0,
          (
            lines-more copies.rows w.0 st.0 held now new copies.wrote st.1.1 w.1.0,
            subst (λ b. IsFailureOf s b (copies.rows ++ w.0) failure) (append-nil input) (w.1.1 [] (none-follows g.ended)),
          ),
        )

    -- what the end returns is told of the text
    pub tells-end : (result : Result (Unit {0}) Failure)
        → OnOk result (WritesOn s g p now k q new) → OnOk result (g.ended ≡ true → k.ahead ≡ [])
        → IfErr result (λ failure. StopsWith s g p now failure new) → TellsText s input held new result
    tells-end (Ok done) writes through stops =
        copies-end writes (through (ap (λ (g : ReaderState Row). g.ended) e))
    tells-end (Err failure) writes through stops = stops-end failure stops

-- what is said of settings is said of equal ones
module _ (s t : Settings) (same : s ≡ t) (f g : ReaderState Row) (p : Progress) (held now : Option (List ℕ)) where
  pub writes-same : (q : Progress) → WritesOn s f p held g q now → WritesOn t f p held g q now
  writes-same q writes = subst (λ r. WritesOn r f p held g q now) same writes

  pub stops-same : (failure : Failure) → StopsWith s f p held failure now
      → StopsWith t f p held failure now
  stops-same failure stops = subst (λ r. StopsWith r f p held failure now) same stops

pub begun-same : (s t : Settings) → s ≡ t → (f : ReaderState Row) (p : Progress)
    → IsBegun s f p → IsBegun t f p
begun-same s t same f p begun = subst (λ r. IsBegun r f p) same begun

-- what is said of an answer's value follows from what is said of it
pub on-ok : {T E P Q : Type 0} (r : Result T E) → (P → Q) → OnOk r P → OnOk r Q
on-ok (Ok x) f h = f h
on-ok (Err e) f h = tt

-- what holds anyway holds of it
pub any-ok : {T E P : Type 0} (r : Result T E) → P → OnOk r P
any-ok (Ok x) p = p
any-ok (Err e) p = tt

-- and from two such
pub on-both : {T E P Q S : Type 0} (r : Result T E) → (P → Q → S) → OnOk r P → OnOk r Q → OnOk r S
on-both (Ok x) f h k = f h k
on-both (Err e) f h k = tt

-- and from three
pub on-three : {T E P Q S U : Type 0} (r : Result T E) → (P → Q → S → U) → OnOk r P → OnOk r Q
    → OnOk r S → OnOk r U
on-three (Ok x) f h k l = f h k l
on-three (Err e) f h k l = tt

-- and so does what is said of its error
pub if-err : {T E : Type 0} {P Q : E → Type 0} (r : Result T E) → ((e : E) → P e → Q e)
    → IfErr r P → IfErr r Q
if-err (Ok x) f h = tt
if-err (Err e) f h = f e h

-- the lines of the records that are ahead, once they are written
module _ (s : Settings) (f g : ReaderState Row) (p q : Progress) (text : List ℕ)
    (held now : Option (List ℕ)) (appends : Appends held now text) where
  pub writes-read : (result : Result (Unit {0}) Failure) → OnOk result (ReadsLines s f p g q text)
      → OnOk result (WritesOn s f p held g q now)
  writes-read result reads = on-ok result (λ r. (text, (r, appends))) reads

  pub stops-read : (result : Result (Unit {0}) Failure)
      → IfErr result (λ failure. StopsAfter s f p failure text)
      → IfErr result (λ failure. StopsWith s f p held failure now)
  stops-read result stops = if-err result (λ failure r told. (text, (r, appends))) stops
