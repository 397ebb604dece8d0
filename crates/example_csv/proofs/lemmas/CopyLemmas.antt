-- What was read and written, as one record more comes.
use Rattle.std.proofs.Common.{◌≡◌, ℕ, ◌+◌, ◌≤◌, ◌<◌, ◌^◌, List, [], ◌∷◌, ◌++◌, length, refl, ap, sym, ◌∙◌, subst, arith, append_assoc, length-drop, length-append}
use Rattle.std.specs.Prelude.{Option, Some, vec_len}
use Rattle.std.proofs.lemmas.List.{append-nil}
use Rattle.std.proofs.lemmas.List.Elements.{All-push}
use Rattle.std.proofs.lemmas.List.Sums.{sum_by_push}
use Rattle.std.proofs.lemmas.Grind.{flat_map-append}
use Rattle.std.specs.Io.KnownBytes.{Keeps, Appends}
use Rattle.winnow.specs.State.{ReaderState, pushed, ended_after, taken_by, fed_of}
use Rattle.winnow.specs.Reading.{HasRead, ReadsAlso, ReadsThrough}
use Rattle.format_csv.proofs.lemmas.ReaderLemmas.{none-follows}
use Rattle.format_csv.specs.Answers.{values_of}
use Rattle.format_csv.specs.Widths.{RowVec, first_width, HaveWidth}
use Rattle.format_csv.specs.Reading.{RowInPieces, BeginsWith}
use Rattle.format_csv.specs.declared.grammar.Row.{Row}
use Rattle.example_csv.specs.Positions.{feeds_of}
use Rattle.example_csv.specs.Lines.{line_of}
use Rattle.example_csv.specs.Copying.{lines_of, width_of, HasCounted, FitsWidth, IsBegun, WritesOn}
use Rattle.example_csv.specs.declared.progress.Progress.{Progress}
use Rattle.example_csv.proofs.lemmas.KnownLemmas.{appends-keeps, appends-more}
use Rattle.example_csv.proofs.lemmas.FeedLemmas.{rows-within}

-- the law of readers of records: the values that were read are the records that the input begins
-- with
abbrev pub Begins : Type 0
Begins = (f : ReaderState Row) (input : List ℕ) (rows : List RowVec)
    → HasRead (λ r. RowInPieces) f input rows → BeginsWith f input rows

-- the width of the first record, with one more of that width
width-push : (rows : List RowVec) (row : RowVec) (old new : Option ℕ) → old ≡ width_of rows
    → FitsWidth old (vec_len row) → new ≡ Some (vec_len row) → new ≡ width_of (rows ++ row ∷ [])
width-push [] row old new e fits is = is
width-push (r ∷ rows) row old new e fits is =
    is ∙ ap (λ n. Some n) (subst (λ o. FitsWidth o (vec_len row)) e fits)

-- records of one width, with one more of it
even-push : (rows : List RowVec) (row : RowVec) (old : Option ℕ) → old ≡ width_of rows
    → FitsWidth old (vec_len row) → HaveWidth (first_width rows) rows
    → HaveWidth (first_width (rows ++ row ∷ [])) (rows ++ row ∷ [])
even-push [] row old e fits even = All-push (λ (r : RowVec). vec_len r ≡ vec_len row) [] row (λ k d l. absurd (omega (arith, l))) refl
even-push (r ∷ rows) row old e fits even =
    All-push (λ (q : RowVec). vec_len q ≡ vec_len r) (r ∷ rows) row even (subst (λ o. FitsWidth o (vec_len row)) e fits)

-- the lines of one record more
lines-push : (rows : List RowVec) (row : RowVec)
    → lines_of (rows ++ row ∷ []) ≡ lines_of rows ++ line_of (values_of row)
lines-push rows row =
    flat_map-append (λ (r : RowVec). line_of (values_of r)) rows (row ∷ []) ∙ ap (λ l. lines_of rows ++ l) (append-nil (line_of (values_of row)))

module _ {R : Type 0} where
  -- with a piece more the same was read
  pub counted-pushed : (f g : ReaderState R) (p : Progress) (input piece : List ℕ)
      (rows : List RowVec)
      → HasCounted f p input rows → g ≡ pushed f piece → ReadsAlso (λ r. RowInPieces) f piece g
      → fed_of g + 1 < 2 ^ 64 → HasCounted g p (input ++ piece) rows
  counted-pushed f g p input piece rows h e reads fits = record {
    read = reads input rows h.read;
    fed = ap fed_of e ∙ omega (arith, h.fed, length-append f.ahead piece, length-append input piece);
    fits = fits;
    feeds = h.feeds;
    width = h.width;
    even = h.even;
  }

  -- at the end the same was read
  pub counted-ended : (f g : ReaderState R) (p : Progress) (input : List ℕ) (rows : List RowVec)
      → HasCounted f p input rows → g ≡ ended_after f → ReadsThrough (λ r. RowInPieces) f g
      → HasCounted g p input rows
  counted-ended f g p input rows h e reads = record {
    read = reads input rows h.read;
    fed = ap fed_of e ∙ h.fed;
    fits = subst (λ n. n + 1 < 2 ^ 64) (sym (ap fed_of e)) h.fits;
    feeds = h.feeds;
    width = h.width;
    even = h.even;
  }

  -- where another length is wanted, the same was read
  counted-same : (f g : ReaderState R) (p : Progress) (input : List ℕ) (rows : List RowVec)
      → HasCounted f p input rows → fed_of g ≡ fed_of f → HasRead (λ r. RowInPieces) g input rows
      → HasCounted g p input rows
  counted-same f g p input rows h e read = record {
    read = read;
    fed = e ∙ h.fed;
    fits = subst (λ n. n + 1 < 2 ^ 64) (sym e) h.fits;
    feeds = h.feeds;
    width = h.width;
    even = h.even;
  }

  -- what is ahead after a record, and where it begins
  fed-taken : (f g : ReaderState R) (n : ℕ) → n ≤ length f.ahead → g ≡ taken_by f n
      → fed_of g ≡ fed_of f
  fed-taken f g n l e = ap fed_of e ∙ omega (arith, l, length-drop n f.ahead)

  -- with a record more, that was read too
  counted-value : (f g : ReaderState R) (p q : Progress) (input : List ℕ) (rows : List RowVec)
      (row : RowVec) (n : ℕ)
      → HasCounted f p input rows → HasRead (λ r. RowInPieces) g input (rows ++ row ∷ [])
      → n ≤ length f.ahead → g ≡ taken_by f n
      → q.feeds ≡ p.feeds + feeds_of row.items → q.width ≡ Some (vec_len row) → FitsWidth p.width (vec_len row)
      → HasCounted g q input (rows ++ row ∷ [])
  counted-value f g p q input rows row n h read l e feeds width fits = record {
    read = read;
    fed = fed-taken f g n l e ∙ h.fed;
    fits = subst (λ m. m + 1 < 2 ^ 64) (sym (fed-taken f g n l e)) h.fits;
    feeds = omega (arith, feeds, h.feeds, sum_by_push (λ (r : RowVec). feeds_of r.items) rows row);
    width = width-push rows row p.width q.width h.width fits width;
    even = even-push rows row p.width h.width fits h.even;
  }

  -- what was begun goes on
  pub begun-now : (f g : ReaderState R) (p q : Progress) (held now : Option (List ℕ))
      → IsBegun f p → WritesOn f p held g q now → IsBegun g q
  begun-now f g p q held now (input, (rows, h)) writes =
      let w = writes input rows h in (input, (rows ++ w.0, w.1.0))

  -- what was written is kept
  pub writes-kept : (f g : ReaderState R) (p q : Progress) (held now kept : Option (List ℕ))
      → WritesOn f p held g q now → Keeps now kept → WritesOn f p held g q kept
  writes-kept f g p q held now kept writes keeps input rows h =
      let w = writes input rows h in (w.0, (w.1.0, appends-keeps held now kept (lines_of w.0) w.1.1 keeps))

  -- the reader may want another length
  pub writes-waiting : (f g k : ReaderState R) (p q : Progress) (held now : Option (List ℕ))
      → WritesOn f p held g q now → fed_of k ≡ fed_of g
      → ((input : List ℕ) (rows : List RowVec) → HasRead (λ r. RowInPieces) g input rows
      → HasRead (λ r. RowInPieces) k input (rows ++ []))
      → WritesOn f p held k q now
  writes-waiting f g k p q held now writes e reads input rows h =
      let w = writes input rows h in
      let all = rows ++ w.0 in
      let read = subst (λ rs. HasRead (λ r. RowInPieces) k input rs) (append-nil all) (reads input all w.1.0.read) in
      (w.0, (counted-same g k q input all w.1.0 e read, w.1.1))

  -- a record more is read and written
  pub writes-row : (f g k : ReaderState R) (p q o : Progress) (held now new : Option (List ℕ))
      (row : RowVec) (n : ℕ)
      → WritesOn f p held g q now
      → ((input : List ℕ) (rows : List RowVec) → HasRead (λ r. RowInPieces) g input rows
      → HasRead (λ r. RowInPieces) k input (rows ++ row ∷ []))
      → n ≤ length g.ahead → k ≡ taken_by g n
      → o.feeds ≡ q.feeds + feeds_of row.items → o.width ≡ Some (vec_len row) → FitsWidth q.width (vec_len row)
      → Appends now new (line_of (values_of row)) → WritesOn f p held k o new
  writes-row f g k p q o held now new row n writes reads l e feeds width fits appends input rows h =
      let w = writes input rows h in
      let all = rows ++ w.0 in
      let counts = counted-value g k q o input all row n w.1.0 (reads input all w.1.0.read) l e feeds width fits in (
        w.0 ++ row ∷ [],
        (
          subst (λ rs. HasCounted k o input rs) (append_assoc rows w.0 (row ∷ [])) counts,
          subst (λ bs. Appends held new bs) (sym (lines-push w.0 row)) (appends-more held now new (lines_of w.0) (line_of (values_of row)) w.1.1 appends),
        ),
      )

-- the line feeds of the records that were read can be counted
pub row-fits : Begins → (f g : ReaderState Row) (p : Progress) (input : List ℕ)
    (rows : List RowVec) (row : RowVec)
    → HasCounted f p input rows → HasRead (λ r. RowInPieces) g input (rows ++ row ∷ [])
    → p.feeds + feeds_of row.items < 2 ^ 64
row-fits begins f g p input rows row h read =
    let all = begins g input (rows ++ row ∷ []) read [] (none-follows g.ended) in
    omega (arith, rows-within (input ++ []) (rows ++ row ∷ []) (g.ahead ++ []) all, sum_by_push (λ (r : RowVec). feeds_of r.items) rows row, h.feeds, h.fed, h.fits, length-append input [])
