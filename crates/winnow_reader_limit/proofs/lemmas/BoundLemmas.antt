-- A reader of a record with a limit wants at most a byte more than the record may have.
use Rattle.std.specs.Prelude.{Result, Ok, Err, suc, zero}
use Rattle.std.proofs.Common.{◌≡◌, ℕ, ◌+◌, ◌-◌, ◌≤◌, List, length, ap, sym, subst, inl, inr, arith}
use Rattle.std.proofs.lemmas.Bool.{cases_lt}
use Rattle.winnow_stream.specs.Shortage.{needed}
use Rattle.winnow_stream.proofs.lemmas.UnitLemmas.{length-units}
use Rattle.winnow_parser.specs.Outcome.{Meaning}
use Rattle.winnow_reader.specs.declared.next.Next.{Next}
use Rattle.winnow_reader.specs.declared.next.Next.TheVariants.{Value, NeedsMore, Done}
use Rattle.winnow_reader.specs.declared.next.ReadError.{ReadError}
use Rattle.winnow_reader.specs.State.{ReaderState, waiting_for}
use Rattle.winnow_reader.specs.Wanted.{size_of}
use Rattle.winnow_reader.specs.Answering.{NeedsLength, ReadsNext, WaitsByNeed, StaysTillWanted}
use Rattle.winnow_scan.specs.Waiting.{WaitsByScan}
use Rattle.winnow_reader_limit.specs.Scanned.{ScansWithin}
use Rattle.winnow_reader_limit.specs.declared.scanning.LimitedState.{LimitedState}
use Rattle.winnow_reader_limit.specs.declared.limit.Limited.{Limited}
use Rattle.winnow_reader_limit.specs.Within.{Within}
use Rattle.winnow_reader_limit.specs.Bound.{IsBounded, WaitsWithin}

-- the size of a need is its number, or 1
size_of-needed : (k m : ℕ) → k ≤ m → 1 ≤ m → size_of (needed k) ≤ m
size_of-needed zero m l one = one
size_of-needed (suc k) m l one = l

-- what a record with a limit means
abbrev within_of : {R O : Type 0} → (R → Meaning O ℕ) → Limited R → Meaning O ℕ
within_of means r = Within r.greatest (means r.inner)

-- a reader that stays is bounded, as it was
bounded-stays : {R : Type 0} (old new : ReaderState (Limited R)) → IsBounded old → new ≡ old
    → IsBounded new
bounded-stays old new bounded e = omega (arith, bounded, ap (λ s. s.wanted) e, ap (λ s. s.parser.greatest) e)

-- a reader that waits for what its record needs is bounded, and no more are ahead than may be
needs-within : {R O : Type 0} (means : R → Meaning O ℕ) (old new : ReaderState (Limited R))
    → NeedsLength (within_of means old.parser) old.place old.ahead new.wanted
    → new ≡ waiting_for old new.wanted
    → IsBounded new × (length new.ahead ≤ old.parser.greatest)
needs-within means old new need is =
    let limit = need.1.0 in
    let len = length-units old.ahead in
    let room = old.parser.greatest - length old.ahead + 1 in
    let size : size_of need.0 ≤ room =
    subst (λ m. size_of m ≤ room) (sym limit.1.1.1) (size_of-needed _ room (omega (arith, len)) (omega arith)) in (
      omega (arith, need.1.1, size, len, limit.0, ap (λ s. s.parser.greatest) is),
      omega (arith, limit.0, len, ap (λ s. length s.ahead) is),
    )

module _ {R O E : Type 0} (means : R → Meaning O ℕ) (old new : ReaderState (Limited R)) (bounded : IsBounded old) where
  -- a reader is bounded after a call, and needs more only if no more are ahead than may be
  pub WaitsWithin-next : (result : Result (Next O) (ReadError E))
      → ReadsNext (within_of means) (WaitsByNeed (within_of means)) old result new → StaysTillWanted old result new
      → IsBounded new × WaitsWithin old result new
  WaitsWithin-next (Ok (Value x)) next early =
      (omega (arith, ap (λ s. s.wanted) next.1.3), λ e. absurd (cc))
  WaitsWithin-next (Ok NeedsMore) next early =
      elim (cases_lt (length old.ahead) old.wanted) [
        | inl less ↦
            let same = (early next.0 less).1 in
            (bounded-stays old new bounded same, λ e. omega (arith, bounded, less, ap (λ s. length s.ahead) same))
        | inr enough ↦
            let need = needs-within means old new (next.2 enough) next.3 in (need.0, λ e. need.1)
      ]
  WaitsWithin-next (Ok Done) next early = (bounded-stays old new bounded next.1, λ e. absurd (cc))
  WaitsWithin-next (Err error) next early = (bounded-stays old new bounded next.1, λ e. absurd (cc))

-- in which states a scan of a record with a limit may be
abbrev scanned_of : {R S : Type 0} → (R → List ℕ → S → Type 0) → Limited R → List ℕ
    → LimitedState S → Type 0
scanned_of scanned r bytes state = ScansWithin r.greatest (scanned r.inner) bytes state

module _ {R O E S : Type 0} (means : R → Meaning O ℕ) (scanned : R → List ℕ → S → Type 0) (old new : ReaderState (Limited R)) (bounded : IsBounded old) where
  -- so is a reader with a scan, also while the scan goes on
  pub WaitsWithin-scan : (result : Result (Next O) (ReadError E))
      → ReadsNext (within_of means) (WaitsByScan (within_of means) (scanned_of scanned)) old result new
      → StaysTillWanted old result new → IsBounded new × WaitsWithin old result new
  WaitsWithin-scan (Ok (Value x)) next early =
      WaitsWithin-next means old new bounded (Ok (Value x)) next early
  WaitsWithin-scan (Ok NeedsMore) next early =
      elim (cases_lt (length old.ahead) old.wanted) [
        | inl less ↦
            let same = (early next.0 less).1 in
            (bounded-stays old new bounded same, λ e. omega (arith, bounded, less, ap (λ s. length s.ahead) same))
        | inr enough ↦ elim (next.2 enough) [
          | inl asked ↦ let need = needs-within means old new asked next.3 in (need.0, λ e. need.1)
          | inr scans ↦
              (bounded-stays old new bounded scans.1, λ e. omega (arith, scans.0.1.0.2, ap (λ s. length s.ahead) scans.1))
        ]
      ]
  WaitsWithin-scan (Ok Done) next early = WaitsWithin-next means old new bounded (Ok Done) next early
  WaitsWithin-scan (Err error) next early = WaitsWithin-next means old new bounded (Err error) next early
