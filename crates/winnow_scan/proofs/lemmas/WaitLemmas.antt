-- What a reader promises while its scan goes on, and when it asks its record.
use Rattle.std.specs.Prelude.{Bool, true, false, not, Result, Ok, Err, ◌⊎◌}
use Rattle.std.proofs.Common.{◌≡◌, ℕ, ◌<◌, List, [], refl, ap, sym, inl, inr, arith}
use Rattle.std.proofs.lemmas.List.{append-nil}
use Rattle.winnow_stream.specs.declared.needed.Needed.{Needed}
use Rattle.winnow_stream.specs.declared.needed.Needed.TheVariants.{Unknown, Size}
use Rattle.winnow_parser.specs.Outcome.{Ahead, Outcome, Gives, Fails, Backtracks, Cuts, Needs, Refuses, Meaning}
use Rattle.winnow_reader.specs.declared.next.Next.{Next}
use Rattle.winnow_reader.specs.declared.next.Next.TheVariants.{Value, NeedsMore, Done}
use Rattle.winnow_reader.specs.declared.next.ReadError.{ReadError}
use Rattle.winnow_reader.specs.Place.{bytes_at}
use Rattle.winnow_reader.specs.Wanted.{size_of}
use Rattle.winnow_reader.specs.State.{ReaderState}
use Rattle.winnow_reader.specs.Reading.{Lacks}
use Rattle.winnow_reader.specs.Answering.{ReadsNext, WaitsByNeed}
use Rattle.winnow_scan.specs.Scanning.{Awaits, AwaitsMore}
use Rattle.winnow_scan.specs.Waiting.{WaitsByScan}

-- a need is at least one byte
size_of-positive : (need : Needed) → 0 < size_of need
size_of-positive Unknown = omega arith
size_of-positive (Size n) = n.ok

-- what is not false is true
pub not-true : (b : Bool) → not b ≡ true → b ≡ false
not-true true e = absurd (cc e)
not-true false e = refl

module _ {R O : Type 0} (means : R → Meaning O ℕ) (f : ReaderState R) where
  -- where the bytes ahead are, in the joined input
  abbrev here : Ahead ℕ
  here = bytes_at f.place f.ahead

  -- if the parser needs more of all bytes ahead, it asked for more than came since
  lacks-now : (need : Needed) → means f.parser true here (Fails (Needs need)) → Lacks means f
  lacks-now need h =
      ([], (size_of need, (record { front = f.ahead; need = need; whole = sym (append-nil f.ahead); needs = h; size = refl }, size_of-positive need)))

  -- while it awaits more, each answer is that it needs more, or is refused memory
  lacks-or-refused : (v : Outcome O ℕ) → Awaits (means f.parser) here → means f.parser true here v
      → Lacks means f ⊎ (v ≡ Fails Refuses)
  lacks-or-refused v (inl needs) h = inl (lacks-now needs.0 needs.1)
  lacks-or-refused (Gives x b) (inr none) h = absurd (none (Gives x b) tt h)
  lacks-or-refused (Fails (Backtracks b)) (inr none) h = absurd (none (Fails (Backtracks b)) tt h)
  lacks-or-refused (Fails (Cuts b)) (inr none) h = absurd (none (Fails (Cuts b)) tt h)
  lacks-or-refused (Fails (Needs n)) (inr none) h = inl (lacks-now n h)
  lacks-or-refused (Fails Refuses) (inr none) h = inr refl

  -- a parser that awaits more of the bytes ahead lacks them, or is refused memory
  pub lacks-awaiting : (v : Outcome O ℕ) → AwaitsMore (means f.parser) f.ahead
      → means f.parser true here v → Lacks means f ⊎ (v ≡ Fails Refuses)
  lacks-awaiting v awaits h = lacks-or-refused v (awaits f.place) h

module _ {R O E S : Type 0} (means : R → Meaning O ℕ) (scanned : R → List ℕ → S → Type 0) (old new : ReaderState R) where
  -- when the record is asked, it stays the same
  pub parser-asked : (result : Result (Next O) (ReadError E))
      → ReadsNext means (WaitsByNeed means) old result new → new.parser ≡ old.parser
  parser-asked (Ok NeedsMore) h = ap (λ (f : ReaderState R). f.parser) h.3
  parser-asked (Ok (Value x)) h = ap (λ (f : ReaderState R). f.parser) h.1.3
  parser-asked (Ok Done) h = ap (λ (f : ReaderState R). f.parser) h.1
  parser-asked (Err error) h = ap (λ (f : ReaderState R). f.parser) h.1

  -- what it returns when the record is asked is what it returns by its scan
  pub ReadsNext-asked : (result : Result (Next O) (ReadError E))
      → ReadsNext means (WaitsByNeed means) old result new
      → ReadsNext means (WaitsByScan means scanned) old result new
  ReadsNext-asked (Ok NeedsMore) h =
      (h.0, λ input values read. inl (h.1 input values read), λ l. inl (h.2 l), h.3)
  ReadsNext-asked (Ok (Value x)) h = h
  ReadsNext-asked (Ok Done) h = h
  ReadsNext-asked (Err e) h = h
