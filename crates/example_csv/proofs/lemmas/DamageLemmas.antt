-- Where a record is damaged, or has another number of fields, in the whole input.
use Rattle.std.proofs.Common.{◌≡◌, ◌≢◌, ℕ, ◌+◌, ◌-◌, ◌≤◌, ◌<◌, ◌^◌, Bool, true, false, List, [], ◌∷◌, ◌++◌, length, take, drop, inl, inr, refl, ap, sym, ◌∙◌, subst, arith, append_assoc, length-append}
use Rattle.std.specs.Prelude.{Option, vec_len}
use Rattle.std.proofs.Math.Seq.{drop-append_seam}
use Rattle.std.proofs.lemmas.List.{append-nil, take-append-drop, drop_all}
use Rattle.std.specs.Io.KnownBytes.{Keeps}
use Rattle.winnow.specs.State.{ReaderState, fed_of}
use Rattle.winnow.specs.Reading.{MayFollow, HasRead}
use Rattle.winnow.specs.SameValues.{IsThrough}
use Rattle.format_csv.specs.Language.{RecordAhead}
use Rattle.format_csv.specs.Answers.{values_of}
use Rattle.format_csv.specs.Widths.{RowVec}
use Rattle.format_csv.specs.Tables.{rows_in, AreRecords, IsDamagedAt}
use Rattle.format_csv.specs.Reading.{RowInPieces, FindsDamage}
use Rattle.format_csv.specs.declared.grammar.Row.{Row}
use Rattle.format_csv.proofs.lemmas.ReaderLemmas.{none-follows, some-ahead, append-some}
use Rattle.example_csv.specs.Failures.{fault_at}
use Rattle.example_csv.specs.Copying.{lines_of, HasCounted, BreaksAt, IsUneven, IsFailureOf, IsOtherWidth, IsDamageAfter, IsBegun, WritesOn, StopsWith}
use Rattle.example_csv.specs.declared.progress.Progress.{Progress}
use Rattle.example_csv.specs.declared.failure.Failure.{Failure}
use Rattle.example_csv.proofs.lemmas.KnownLemmas.{appends-keeps}
use Rattle.example_csv.proofs.lemmas.FeedLemmas.{rows-lines, feeds-within, feeds-append, after-begun}
use Rattle.example_csv.proofs.lemmas.CopyLemmas.{Begins}

-- the rest of a damaged record is no longer than what it begins
damaged-within : (bytes rest : List ℕ) → IsDamagedAt bytes rest → length rest ≤ length bytes
damaged-within bytes rest (inl h) = omega (arith, ap length h.1.1.0, length-append h.1.0 rest)
damaged-within bytes rest (inr h) = omega (arith, ap length h.1)

-- the rest of a damaged record is what follows as many bytes
damaged-rest : (bytes rest : List ℕ) (n : ℕ) → IsDamagedAt bytes rest
    → n + length rest ≡ length bytes → drop n bytes ≡ rest
damaged-rest bytes rest n (inl (values, (text, (whole, spells, comma, ends)))) e =
    let m : n ≡ length text = omega (arith, ap length whole, length-append text rest) in
    ap (λ k. drop k bytes) m ∙ ap (λ b. drop (length text) b) whole ∙ drop-append_seam text rest
damaged-rest bytes rest n (inr (open_quote, none)) e =
    drop_all n bytes (omega (arith, ap length none)) ∙ sym none

-- a line feed ends a record, so none is damaged there
never-feed : (bytes : List ℕ) → ¬ (IsDamagedAt bytes (10 ∷ []))
never-feed bytes (inl (values, (text, (whole, spells, comma, ends)))) = ends [] (inr (inl refl))
never-feed bytes (inr (open_quote, none)) = let f = none in cc

-- what is wrong does not change with what follows
fault-stays : (ended : Bool) (ahead rest follow : List ℕ)
    → ((more : List ℕ) → MayFollow ended more false → IsDamagedAt (ahead ++ more) (rest ++ more))
    → MayFollow ended follow false → fault_at rest ≡ fault_at (rest ++ follow)
fault-stays ended ahead (b ∷ bs) follow d may = refl
fault-stays true ahead [] follow d may = ap fault_at (sym may.0)
fault-stays false ahead [] follow d may = absurd (never-feed (ahead ++ 10 ∷ []) (d (10 ∷ []) tt))

-- where a reader finds damage, something is ahead
pub damage-some : (f : ReaderState Row) (place : ℕ) → FindsDamage f place → ¬ (IsThrough f)
    → f.ahead ≢ []
damage-some f place finds n = some-ahead f.ended f.ahead (λ more may. (finds.1.1 more may).0) n

-- the damage lies in what is ahead
pub damage-within : (f : ReaderState Row) (place : ℕ) → FindsDamage f place
    → (f.place ≤ place) × (place ≤ fed_of f)
damage-within f place (rest, (e, both)) =
    let w = damaged-within (f.ahead ++ []) (rest ++ []) ((both [] (none-follows f.ended)).1) in
    (omega (arith, e, w, length-append f.ahead [], length-append rest []), omega (arith, e))

-- and what remains there is what follows in what is ahead
damage-rest : (f : ReaderState Row) (place : ℕ) (finds : FindsDamage f place)
    → drop (place - f.place) f.ahead ≡ finds.0
damage-rest f place (rest, (e, both)) =
    let within = damage-within f place (rest, (e, both)) in
    let damaged : IsDamagedAt f.ahead rest = subst (λ a. IsDamagedAt a rest) (append-nil f.ahead) (subst (λ r. IsDamagedAt (f.ahead ++ []) r) (append-nil rest) ((both [] (none-follows f.ended)).1)) in
    damaged-rest f.ahead rest (place - f.place) damaged (omega (arith, e, within.0))

module _ (begins : Begins) where
  -- the line feeds before what is ahead can be counted with it
  ahead-fits : (f : ReaderState Row) (p : Progress) (input : List ℕ) (rows : List RowVec)
      → HasCounted f p input rows → f.ahead ≢ [] → p.feeds + length f.ahead + 1 < 2 ^ 64
  ahead-fits f p input rows h some =
      let all = begins f input rows h.read [] (none-follows f.ended) in
      let lines = rows-lines (input ++ []) rows (f.ahead ++ []) all (append-some f.ahead [] some) in
      omega (arith, ap length lines.whole, length-append lines.text (f.ahead ++ []), length-append f.ahead [], length-append input [], feeds-within lines.text, lines.counted, h.feeds, h.fed, h.fits)

  -- a record that was begun fits into the counts of places
  pub begun-fits : (f : ReaderState Row) (p : Progress) → IsBegun f p → f.ahead ≢ []
      → p.feeds + length f.ahead + 1 < 2 ^ 64
  begun-fits f p (input, (rows, h)) some = ahead-fits f p input rows h some

  -- damage that was found is damage of the whole input
  counted-breaks : (f : ReaderState Row) (p : Progress) (input : List ℕ) (rows : List RowVec)
      (place : ℕ) (failure : Failure) (follow : List ℕ)
      → HasCounted f p input rows → FindsDamage f place → f.ahead ≢ []
      → IsDamageAfter p.feeds (take (place - f.place) f.ahead) (drop (place - f.place) f.ahead) failure
      → MayFollow f.ended follow false → IsFailureOf (input ++ follow) rows failure
  counted-breaks f p input rows place failure follow h finds some (position, (is, line, column)) may =
      let n = place - f.place in
      let before = take n f.ahead in
      let rest = finds.0 in
      let reads = begins f input rows h.read follow may in
      let lines = rows-lines (input ++ follow) rows (f.ahead ++ follow) reads (append-some f.ahead follow some) in
      let cut : f.ahead ≡ before ++ rest = sym (take-append-drop n f.ahead) ∙ ap (λ r. before ++ r) (damage-rest f place finds) in
      let breaks : BreaksAt (input ++ follow) rows position (fault_at (drop n f.ahead)) = record {
        begun = f.ahead ++ follow;
        before = lines.text ++ before;
        rest = rest ++ follow;
        reads = reads;
        missed = (finds.1.1 follow may).0;
        damaged = (finds.1.1 follow may).1;
        whole =
            lines.whole ∙ ap (λ a. lines.text ++ (a ++ follow)) cut ∙ ap (λ a. lines.text ++ a) (append_assoc before rest follow) ∙ sym (append_assoc lines.text before (rest ++ follow));
        stands = (
          omega (arith, line, feeds-append lines.text before, lines.counted, h.feeds),
          column ∙ ap (λ m. 1 + m) (sym (after-begun lines.text before lines.begins)),
        );
        names =
            ap fault_at (damage-rest f place finds) ∙ fault-stays f.ended f.ahead rest follow (λ more m. (finds.1.1 more m).1) may;
      } in
      subst (λ x. IsFailureOf (input ++ follow) rows x) (sym is) breaks

  -- where damage is found after what was written, the failure says so
  pub stops-damaged : (f g : ReaderState Row) (p q : Progress) (held now : Option (List ℕ))
      (place : ℕ) (failure : Failure)
      → WritesOn f p held g q now → g.ended ≡ f.ended → FindsDamage g place → g.ahead ≢ []
      → IsDamageAfter q.feeds (take (place - g.place) g.ahead) (drop (place - g.place) g.ahead) failure
      → StopsWith f p held failure now
  stops-damaged f g p q held now place failure writes e finds some is told input rows h =
      let w = writes input rows h in (
        w.0,
        (
          w.1.1,
          λ follow may. counted-breaks g q input (rows ++ w.0) place failure follow w.1.0 finds some is (subst (λ b. MayFollow b follow false) (sym e) may),
        ),
      )

  -- records with one more are those, and the one after them
  last-record : (bytes : List ℕ) (rows : List RowVec) (row : RowVec) (rest : List ℕ)
      → AreRecords bytes (rows_in (rows ++ row ∷ [])) rest
      → (begun : List ℕ) × (AreRecords bytes (rows_in rows) begun × RecordAhead false begun (values_of row) rest)
  last-record bytes [] row rest (more, (stands, e)) =
      (bytes, (refl, subst (λ m. RecordAhead false bytes (values_of row) m) e stands))
  last-record bytes (r ∷ rows) row rest (more, (stands, others)) =
      let far = last-record more rows row rest others in (far.0, ((more, (stands, far.1.0)), far.1.1))

  -- a record of another width is one of the whole input
  counted-uneven : (f k : ReaderState Row) (p : Progress) (input : List ℕ) (rows : List RowVec)
      (row : RowVec) (failure : Failure) (follow : List ℕ)
      → HasCounted f p input rows → HasRead (λ r. RowInPieces) k input (rows ++ row ∷ [])
      → IsOtherWidth p (vec_len row) failure → MayFollow k.ended follow false
      → IsFailureOf (input ++ follow) rows failure
  counted-uneven f k p input rows row failure follow h read (first, (had, differs, is)) may =
      let last = last-record (input ++ follow) rows row (k.ahead ++ follow) (begins k input (rows ++ row ∷ []) read follow may) in
      let lines = rows-lines (input ++ follow) rows last.0 last.1.0 (last.1.1.0) in
      let uneven : IsUneven (input ++ follow) rows (p.feeds + 1) (vec_len row) first = record {
        before = lines.text;
        begun = last.0;
        row = row;
        rest = k.ahead ++ follow;
        reads = last.1.0;
        ahead = last.1.1;
        whole = lines.whole;
        stands = (omega (arith, lines.counted, h.feeds), omega (arith, lines.begins));
        has = refl;
        had = sym h.width ∙ had;
        differs = differs;
      } in
      subst (λ x. IsFailureOf (input ++ follow) rows x) (sym is) uneven

  -- where a record of another width comes after what was written, the failure says so
  pub stops-uneven : (f g k : ReaderState Row) (p q : Progress) (held now : Option (List ℕ))
      (row : RowVec) (failure : Failure)
      → WritesOn f p held g q now → k.ended ≡ f.ended
      → ((input : List ℕ) (rows : List RowVec) → HasRead (λ r. RowInPieces) g input rows
      → HasRead (λ r. RowInPieces) k input (rows ++ row ∷ []))
      → IsOtherWidth q (vec_len row) failure → StopsWith f p held failure now
  stops-uneven f g k p q held now row failure writes e reads is told input rows h =
      let w = writes input rows h in (
        w.0,
        (
          w.1.1,
          λ follow may. counted-uneven g k q input (rows ++ w.0) row failure follow w.1.0 (reads input (rows ++ w.0) w.1.0.read) is (subst (λ b. MayFollow b follow false) (sym e) may),
        ),
      )

-- what was written before a failure is kept
pub stops-kept : (f : ReaderState Row) (p : Progress) (held now kept : Option (List ℕ))
    (failure : Failure) → StopsWith f p held failure now → Keeps now kept
    → StopsWith f p held failure kept
stops-kept f p held now kept failure stops keeps told input rows h =
    let s = stops told input rows h in
    (s.0, (appends-keeps held now kept (lines_of s.0) s.1.0 keeps, s.1.1))
