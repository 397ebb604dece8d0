-- What was read, as one record more comes.
use Rattle.std.proofs.Common.{◌≡◌, false, ℕ, ◌+◌, ◌≤◌, ◌<◌, ◌^◌, List, [], ◌∷◌, ◌++◌, length, refl, ap, sym, ◌∙◌, subst, arith, append_assoc, length-drop, length-append}
use Rattle.std.specs.Prelude.{Option, All}
use Rattle.std.proofs.lemmas.List.{append-nil}
use Rattle.std.proofs.lemmas.List.Elements.{All-push}
use Rattle.std.proofs.lemmas.List.Sums.{sum_by_push}
use Rattle.std.proofs.lemmas.Grind.{flat_map-append}
use Rattle.csv.specs.Records.{AllText}
use Rattle.winnow_reader.specs.State.{ReaderState, pushed, ended_after, taken_by, fed_of}
use Rattle.format_csv.specs.RowReader.{HasRead, ReadsAlso, ReadsThrough}
use Rattle.format_csv.specs.declared.grammar.Row.{Row}
use Rattle.format_csv.proofs.lemmas.ReaderLemmas.{none-follows}
use Rattle.wb_csv.specs.Settings.{width_of, IsAlike, Fits, FitAll}
use Rattle.wb_csv.specs.Lines.{line_of}
use Rattle.wb_csv.specs.Progress.{feeds_of, kept_width}
use Rattle.wb_csv.specs.Copying.{lines_of, HasCounted, IsBegun, ReadsLines}
use Rattle.wb_csv.specs.declared.settings.Settings.{Settings}
use Rattle.wb_csv.specs.declared.progress.Progress.{Progress}
use Rattle.format_csv.specs.Filling.{BeginsJust}
use Rattle.wb_csv.proofs.lemmas.FeedLemmas.{rows-within}
use Rattle.wb_csv.proofs.lemmas.LimitLemmas.{shorts-pushed, shorts-ended, shorts-value}

-- a call consumed a record of so many bytes
abbrev pub Takes : ReaderState Row → List (List ℕ) → ReaderState Row → ℕ → Type 0
Takes old fields new n = (0 < n) × (n ≤ length old.ahead)
    × BeginsJust old.ended old.ahead fields new.ahead × (new ≡ taken_by old n)

-- the number of fields of the first record, with one record more
width-push : (rows : List (List (List ℕ))) (row : List (List ℕ))
    → kept_width (width_of rows) (length row) ≡ width_of (rows ++ row ∷ [])
width-push [] row = refl
width-push (r ∷ rows) row = refl

-- records that are alike, with one more of them
alike-push : (rows : List (List (List ℕ))) (row : List (List ℕ))
    → All (λ r. IsAlike (width_of rows) (length r)) rows → IsAlike (width_of rows) (length row)
    → All (λ r. IsAlike (width_of (rows ++ row ∷ [])) (length r)) (rows ++ row ∷ [])
alike-push [] row all fits =
    All-push (λ (r : List (List ℕ)). length r ≡ length row) [] row (λ k d l. absurd (omega (arith, l))) refl
alike-push (q ∷ rows) row all fits =
    All-push (λ (r : List (List ℕ)). length r ≡ length q) (q ∷ rows) row all fits

module _ (s : Settings) where
  -- records that fit, with one more of them
  fits-push : (rows : List (List (List ℕ))) (row : List (List ℕ)) (width : Option ℕ)
      → width ≡ width_of rows → FitAll s rows → Fits s width row
      → FitAll s (rows ++ row ∷ [])
  fits-push rows row width e all fits = (
    All-push (λ (r : List (List ℕ)). s.least ≤ length r) rows row all.0 fits.0,
    λ even. alike-push rows row (all.1 even) (subst (λ w. IsAlike w (length row)) e (fits.1 even)),
    λ json. All-push AllText rows row (all.2 json) (fits.2 json),
  )

  -- the lines of one record more
  lines-push : (rows : List (List (List ℕ))) (row : List (List ℕ))
      → lines_of s (rows ++ row ∷ []) ≡ lines_of s rows ++ line_of s row
  lines-push rows row =
      flat_map-append (line_of s) rows (row ∷ []) ∙ ap (λ l. lines_of s rows ++ l) (append-nil (line_of s row))

  -- with a piece more the same was read
  pub counted-pushed : (f g : ReaderState Row) (p : Progress) (input piece : List ℕ)
      (rows : List (List (List ℕ)))
      → HasCounted s f p input rows → f.ended ≡ false → g ≡ pushed f piece → ReadsAlso f piece g
      → fed_of g + 1 < 2 ^ 64 → HasCounted s g p (input ++ piece) rows
  counted-pushed f g p input piece rows h goes e reads short = record {
    read = reads input rows h.read;
    short = short;
    feeds = h.feeds;
    width = h.width;
    fits = h.fits;
    shorts = shorts-pushed s.limit f g input piece rows goes e h.shorts;
  }

  -- at the end the same was read
  pub counted-ended : (f g : ReaderState Row) (p : Progress) (input : List ℕ)
      (rows : List (List (List ℕ)))
      → HasCounted s f p input rows → g ≡ ended_after f → ReadsThrough f g
      → HasCounted s g p input rows
  counted-ended f g p input rows h e reads = record {
    read = reads input rows h.read;
    short = subst (λ n. n + 1 < 2 ^ 64) (sym (ap fed_of e)) h.short;
    feeds = h.feeds;
    width = h.width;
    fits = h.fits;
    shorts = shorts-ended s.limit f g input rows e h.shorts;
  }

  -- what is ahead after a record, and where it begins
  fed-taken : (f g : ReaderState Row) (n : ℕ) → n ≤ length f.ahead → g ≡ taken_by f n
      → fed_of g ≡ fed_of f
  fed-taken f g n l e = ap fed_of e ∙ omega (arith, l, length-drop n f.ahead)

  -- with a record more, that was read too
  counted-value : (f g : ReaderState Row) (p q : Progress) (input : List ℕ)
      (rows : List (List (List ℕ))) (row : List (List ℕ)) (n : ℕ)
      → HasCounted s f p input rows → HasRead g input (rows ++ row ∷ [])
      → n ≤ length f.ahead → BeginsJust f.ended f.ahead row g.ahead → g ≡ taken_by f n → n ≤ s.limit
      → q.feeds ≡ p.feeds + feeds_of row → q.width ≡ kept_width p.width (length row)
      → Fits s p.width row → HasCounted s g q input (rows ++ row ∷ [])
  counted-value f g p q input rows row n h read l begins e within feeds width fits = record {
    read = read;
    short = subst (λ m. m + 1 < 2 ^ 64) (sym (fed-taken f g n l e)) h.short;
    feeds = omega (arith, feeds, h.feeds, sum_by_push feeds_of rows row);
    width = width ∙ ap (λ w. kept_width w (length row)) h.width ∙ width-push rows row;
    fits = fits-push rows row p.width h.width h.fits fits;
    shorts = shorts-value s.limit f g input rows row n h.shorts l begins e within;
  }

  -- what was begun goes on
  pub begun-now : (f g : ReaderState Row) (p q : Progress) (text : List ℕ)
      → IsBegun s f p → ReadsLines s f p g q text → IsBegun s g q
  begun-now f g p q text (input, (rows, h)) reads =
      let w = reads input rows h in (input, (rows ++ w.0, w.1.0))

  -- at first nothing is read
  pub reads-none : (f : ReaderState Row) (p : Progress) (text : List ℕ) → text ≡ []
      → ReadsLines s f p f p text
  reads-none f p text e input rows h =
      ([], (subst (λ rs. HasCounted s f p input rs) (sym (append-nil rows)) h, e))

  -- a call that leaves the reader as it was
  pub reads-same : (f g k : ReaderState Row) (p q : Progress) (text : List ℕ) → k ≡ g
      → ReadsLines s f p g q text → ReadsLines s f p k q text
  reads-same f g k p q text e reads = subst (λ r. ReadsLines s f p r q text) (sym e) reads

  -- a record more is read
  pub reads-row : (f g k : ReaderState Row) (p q o : Progress) (text more : List ℕ)
      (row : List (List ℕ)) (n : ℕ)
      → ReadsLines s f p g q text
      → ((input : List ℕ) (rows : List (List (List ℕ))) → HasRead g input rows
      → HasRead k input (rows ++ row ∷ []))
      → Takes g row k n → n ≤ s.limit
      → o.feeds ≡ q.feeds + feeds_of row → o.width ≡ kept_width q.width (length row)
      → Fits s q.width row → more ≡ text ++ line_of s row → ReadsLines s f p k o more
  reads-row f g k p q o text more row n was reads (some, l, begins, e) within feeds width fits is input rows h =
      let w = was input rows h in
      let all = rows ++ w.0 in
      let counts = counted-value g k q o input all row n w.1.0 (reads input all w.1.0.read) l begins e within feeds width fits in (
        w.0 ++ row ∷ [],
        (
          subst (λ rs. HasCounted s k o input rs) (append_assoc rows w.0 (row ∷ [])) counts,
          is ∙ ap (λ l. l ++ line_of s row) w.1.1 ∙ sym (lines-push w.0 row),
        ),
      )

  -- the line feeds of the records that were read can be counted
  pub row-fits : (f g : ReaderState Row) (p : Progress) (row : List (List ℕ)) → IsBegun s f p
      → ((input : List ℕ) (rows : List (List (List ℕ))) → HasRead f input rows
      → HasRead g input (rows ++ row ∷ []))
      → p.feeds + feeds_of row < 2 ^ 64
  row-fits f g p row (input, (rows, h)) reads =
      let read = reads input rows h.read in
      let all = read.reads [] (none-follows g.ended) in
      omega (arith, rows-within (input ++ []) (rows ++ row ∷ []) (g.ahead ++ []) all, sum_by_push feeds_of rows row, h.feeds, h.read.fed, h.short, length-append input [])
