-- Lemmas on the records that a `RowReader` has read.
use Rattle.std.specs.Prelude.{Bool, true, false, not, min, take, drop, Some, Result, Ok, Err}
use Rattle.std.proofs.Common.{◌≡◌, ℕ, ◌+◌, ◌-◌, ◌≤◌, List, [], ◌∷◌, ◌++◌, length, refl, ap, sym, ◌∙◌, subst, arith, append_assoc, length-append, length-drop, take-append-drop}
use Rattle.std.proofs.lemmas.List.{append-nil, take_all}
use Rattle.std.proofs.lemmas.Option.{none-some}
use Rattle.winnow_reader.specs.Reading.{MayFollow}
use Rattle.winnow_reader.specs.State.{ReaderState, at_start, pushed, ended_after, taken_by}
use Rattle.winnow_reader.specs.Skips.{skipped}
use Rattle.winnow_reader.specs.declared.next.Next.{Next}
use Rattle.winnow_reader.specs.declared.next.Next.TheVariants.{Value, NeedsMore, Done}
use Rattle.format_csv.specs.Tables.{AreRecords}
use Rattle.format_csv.specs.Reading.{FindsDamage}
use Rattle.format_csv.specs.Scan.{run}
use Rattle.format_csv.specs.declared.grammar.Row.{Row}
use Rattle.format_csv.specs.declared.scan.RowState.{RowState}
use Rattle.format_csv.specs.declared.scan.RowState.TheVariants.{Start}
use Rattle.format_csv.proofs.lemmas.TableLemmas.{records-more, record-shorter}
use Rattle.format_csv.proofs.lemmas.ReaderLemmas.{none-follows}
use Rattle.format_csv.proofs.lemmas.ScanLemmas.{record-run}
use Rattle.format_csv.proofs.lemmas.OpenLemmas.{begun}
use Rattle.format_csv.specs.Filling.{Fills, BeginsJust, IsUnfinished}
use Rattle.format_csv.specs.declared.filling.Found.TheVariants.{Record, Damaged as broken}
use Rattle.format_csv.proofs.lemmas.FillByteLemmas.{slice-from}
use Rattle.format_csv.specs.RowReader.{HasRead, ReadsAlso, ReadsThrough, ReadsOn, TakesRecord, ReadsNext}
use Rattle.format_csv.specs.declared.row_reader.RowError.{RowError}
use Rattle.format_csv.specs.declared.row_reader.RowError.TheVariants.{Damaged, Refused}

-- a new reader has read no records
pub read-none : (p : Row) (f : ReaderState Row) → f ≡ at_start p → HasRead f [] []
read-none p f e = subst (λ g. HasRead g [] []) (sym e) (record { reads = λ more may. refl; fed = refl })

-- after a piece is pushed, the reader has read the same records of the longer input
pub read-piece : (old new : ReaderState Row) (piece : List ℕ) → old.ended ≡ false
    → new ≡ pushed old piece → ReadsAlso old piece new
read-piece old new piece going e = λ input rows h.
    subst (λ g. HasRead g (input ++ piece) rows) (sym e) (record {
      reads = λ more may.
          subst (λ xs. AreRecords xs rows ((old.ahead ++ piece) ++ more)) (sym (append_assoc input piece more))
          (subst (λ ys. AreRecords (input ++ (piece ++ more)) rows ys) (sym (append_assoc old.ahead piece more))
          (h.reads (piece ++ more) (subst (λ b. MayFollow b (piece ++ more) false) (sym going) tt)));
      fed = omega (arith, h.fed, length-append old.ahead piece, length-append input piece);
    })

-- a continuation that may follow after the end may also follow before it
may-before : (ended : Bool) (more : List ℕ) → MayFollow true more false → MayFollow ended more false
may-before true more may = may
may-before false more may = tt

-- after the end is noted, the reader has read the same records
pub read-end : (old new : ReaderState Row) → new ≡ ended_after old → ReadsThrough old new
read-end old new e = λ input rows h.
    subst (λ g. HasRead g input rows) (sym e)
    (record { reads = λ more may. h.reads more (may-before old.ended more may); fed = h.fed })

-- if a record is taken, the reader has read one more record
read-record : (old : ReaderState Row) (fields : List (List ℕ)) (n : ℕ) → n ≤ length old.ahead
    → BeginsJust old.ended old.ahead fields (drop n old.ahead) → (input : List ℕ)
    → (rows : List (List (List ℕ))) → HasRead old input rows
    → HasRead (taken_by old n) input (rows ++ fields ∷ [])
read-record old fields n l begins input rows h = record {
  reads = λ more may.
      records-more (input ++ more) rows fields (old.ahead ++ more) (drop n old.ahead ++ more) (h.reads more may) (begins.1 more may).0;
  fed = omega (arith, l, h.fed, length-drop n old.ahead);
}

-- if nothing is taken, the reader has read the same records
read-same : (old new : ReaderState Row) → new ≡ old → (input : List ℕ)
    → (rows : List (List (List ℕ))) → HasRead old input rows → HasRead new input (rows ++ [])
read-same old new e input rows h =
    subst (λ rs. HasRead new input rs) (sym (append-nil rows)) (subst (λ g. HasRead g input rows) (sym e) h)

-- a call that satisfies `ReadsNext` satisfies `ReadsOn`
pub reads-on : (old new : ReaderState Row) (result : Result (Next (Unit {0})) RowError)
    (fields : List (List ℕ)) → ReadsNext old result fields new → ReadsOn old result fields new
reads-on old new (Ok (Value x)) fields (n, (some, l, begins, e)) = λ input rows h.
    subst (λ g. HasRead g input (rows ++ fields ∷ [])) (sym e)
    (read-record old fields n l (subst (λ (g : ReaderState Row). BeginsJust old.ended old.ahead fields g.ahead) e begins) input rows h)
reads-on old new (Ok NeedsMore) fields (u, none, e) = λ input rows h. read-same old new e input rows h
reads-on old new (Ok Done) fields (u, none, e) = λ input rows h. read-same old new e input rows h
reads-on old new (Err (Damaged place)) fields (u, none, e) = λ input rows h. read-same old new e input rows h
reads-on old new (Err (Refused r)) fields (none, e) = λ input rows h. read-same old new e input rows h

-- skipping the length of a record that is filled takes the record
pub takes-record : (old new : ReaderState Row) (fields : List (List ℕ)) (n : ℕ)
    → Fills old.ended old.ahead (Record n) fields → new ≡ taken_by old n
    → TakesRecord old fields new
takes-record old new fields n (l, begins) e =
    let rest = drop n old.ahead in
    let less = record-shorter (old.ahead ++ []) (rest ++ []) fields (begins.1 [] (none-follows old.ended)).0 in (
      n,
      (
        omega (arith, less, l, length-drop n old.ahead, ap length (append-nil old.ahead), ap length (append-nil rest)),
        l,
        subst (λ (g : ReaderState Row). BeginsJust old.ended old.ahead fields g.ahead) (sym e) begins,
        e,
      ),
    )

-- a malformed byte of the remaining input is one of the joined input
pub finds-damage : (f : ReaderState Row) (fields : List (List ℕ)) (n place : ℕ)
    → Fills f.ended f.ahead (broken n) fields → place ≡ f.place + n → FindsDamage f place
finds-damage f fields n place (l, damage) e =
    (drop n f.ahead, (omega (arith, e, l, length-drop n f.ahead), damage))

-- if the scan needs more bytes, the record is unfinished
pub scan-unfinished : (bytes : List ℕ) (t : RowState) → run (Some Start) bytes ≡ Some t
    → IsUnfinished false bytes
scan-unfinished bytes t h =
    (refl, begun bytes t h, λ values rest stands. none-some t (sym (record-run bytes values rest stands) ∙ h))

-- ---- The scan

-- a scan over the bytes that it has seen, and then over the others
both-parts : (xs ahead : List ℕ) (n : ℕ) → ahead ≡ xs
    → take n xs ++ take (length ahead - n) (drop n ahead) ≡ xs
both-parts xs ahead n e =
    ap (λ ys. take n xs ++ ys) (slice-from ahead n ∙ ap (drop n) e) ∙ take-append-drop n xs

module _ (xs ahead : List ℕ) (n : ℕ) (t : RowState) (e : ahead ≡ xs) (h : run (Some Start) (take n xs ++ take (length ahead - n) (drop n ahead)) ≡ Some t) where
  -- a run over both parts in turn is a run over all bytes
  pub seen : run (Some Start) xs ≡ Some t
  seen = ap (run (Some Start)) (sym (both-parts xs ahead n e)) ∙ h

  -- if all bytes are scanned, the bytes that are scanned are all bytes
  pub seen-all : run (Some Start) (take (length ahead) xs) ≡ Some t
  seen-all = ap (run (Some Start)) (take_all (length ahead) xs (omega (arith, ap length e))) ∙ seen

-- if the scan of a reader needs more bytes, the record ahead is unfinished
pub scans-on : (f g : ReaderState Row) (t : RowState) → g ≡ f → f.ended ≡ false
    → run (Some Start) g.ahead ≡ Some t → IsUnfinished f.ended f.ahead
scans-on f g t e going h =
    subst (λ b. IsUnfinished b f.ahead) (sym going)
    (scan-unfinished f.ahead t (subst (λ (r : ReaderState Row). run (Some Start) r.ahead ≡ Some t) e h))

-- a Boolean that is not false is true
pub not-true : (b : Bool) → not b ≡ true → b ≡ false
not-true true e = absurd (cc e)
not-true false e = refl

-- skipping at most as many bytes as are ahead takes them
pub skip-takes : (f : ReaderState Row) (n k : ℕ) → n ≤ length f.ahead → k ≡ min n (length f.ahead)
    → skipped f k ≡ taken_by f n
skip-takes f n k l e = ap (λ m. taken_by f m) (omega (arith, l, e))
