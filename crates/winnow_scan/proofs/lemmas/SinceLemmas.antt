-- What a reader with a scan reads of the next record is read after what was read since a place.
use Rattle.std.specs.Prelude.{Result, Ok, Err}
use Rattle.std.proofs.Common.{◌≡◌, ℕ, List, [], ◌++◌, length, sym, subst, inl, inr, arith}
use Rattle.std.proofs.lemmas.Bool.{cases_lt}
use Rattle.winnow_parser.specs.Outcome.{Meaning}
use Rattle.winnow_parser.specs.Laws.{IsParser}
use Rattle.winnow_reader.specs.declared.next.Next.{Next}
use Rattle.winnow_reader.specs.declared.next.Next.TheVariants.{Value, NeedsMore, Done}
use Rattle.winnow_reader.specs.declared.next.ReadError.{ReadError}
use Rattle.winnow_reader.specs.State.{ReaderState}
use Rattle.winnow_reader.specs.Answering.{ReadsNext, StaysTillWanted}
use Rattle.winnow_reader.specs.Since.{HasReadSince, ReadsOnSince}
use Rattle.winnow_reader.proofs.lemmas.SinceLemmas.{HasReadSince-still, HasReadSince-waits}
use Rattle.winnow_reader.proofs.lemmas.NextLemmas.{ReadsOnSince-next}
use Rattle.winnow_reader.proofs.lemmas.AskedLemmas.{asks-now}
use Rattle.winnow_scan.specs.Waiting.{WaitsByScan}

module _ {R O : Type 0} (means : R → Meaning O ℕ) (place : ℕ) (old new : ReaderState R) where
  -- a reader that stays has read the same
  stays-since : (input : List ℕ) (values : List O) → new ≡ old
      → HasReadSince means place old input values → HasReadSince means place new input (values ++ [])
  stays-since input values e h =
      subst (λ s. HasReadSince means place s input (values ++ [])) (sym e) (HasReadSince-still means place old input values h)

module _ {R O E S : Type 0} (means : R → Meaning O ℕ) (scanned : R → List ℕ → S → Type 0) (place : ℕ) (old new : ReaderState R) where
  -- what is read of the next record is read after what was read since the place
  pub ReadsOnSince-scan : IsParser (means old.parser) → (result : Result (Next O) (ReadError E))
      → ReadsNext means (WaitsByScan means scanned) old result new → StaysTillWanted old result new
      → ReadsOnSince means place old result new
  ReadsOnSince-scan p (Ok (Value x)) next early = ReadsOnSince-next means place old new p (Ok (Value x)) next early
  ReadsOnSince-scan p (Ok NeedsMore) next early = λ input values h.
      elim (cases_lt (length old.ahead) old.wanted) [
        | inl less ↦ stays-since means place old new input values (early next.0 less).1 h
        | inr enough ↦ elim (next.2 enough) [
          | inl m ↦
              subst (λ s. HasReadSince means place s input (values ++ [])) (sym next.3)
              (HasReadSince-waits means place old new.wanted input values h (λ l. ([], (_, (asks-now means old m.0 m.1.0, omega (arith, m.1.1))))))
          | inr scans ↦ stays-since means place old new input values scans.1 h
        ]
      ]
  ReadsOnSince-scan p (Ok Done) next early = ReadsOnSince-next means place old new p (Ok Done) next early
  ReadsOnSince-scan p (Err error) next early = ReadsOnSince-next means place old new p (Err error) next early
