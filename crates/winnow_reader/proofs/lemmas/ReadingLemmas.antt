-- What was read stays read: when a piece comes, at the end, and when one value more is read.
use Rattle.std.specs.Prelude.{false, not}
use Rattle.std.proofs.Common.{◌≡◌, ℕ, ◌+◌, ◌≤◌, ◌<◌, List, [], ◌∷◌, ◌++◌, length, drop, sym, subst}
use Rattle.std.proofs.lemmas.List.{append-nil}
use Rattle.winnow_parser.specs.Outcome.{Gives, Meaning}
use Rattle.winnow_parser.specs.Laws.{IsParser}
use Rattle.winnow_reader.specs.Place.{bytes_at}
use Rattle.winnow_reader.specs.State.{ReaderState, pushed, ended_after, taken_by, waiting_for}
use Rattle.winnow_reader.specs.Reading.{AwaitsAsked, HasRead, ReadsAlso, ReadsThrough}
use Rattle.winnow_reader.proofs.lemmas.SinceLemmas.{HasReadSince-zero, HasRead-zero, HasReadSince-pushed, HasReadSince-ended, HasReadSince-value}

module _ {R O : Type 0} (means : R → Meaning O ℕ) where
  -- with a piece more, the same was read
  pub HasRead-pushed : (f : ReaderState R) (piece : List ℕ) → f.ended ≡ false
      → ReadsAlso means f piece (pushed f piece)
  HasRead-pushed f piece e input values h =
      HasRead-zero means (pushed f piece) (input ++ piece) values
      (HasReadSince-pushed means 0 f piece e input values (HasReadSince-zero means f input values h))

  -- at the end, the same was read
  pub HasRead-ended : (f : ReaderState R) → ReadsThrough means f (ended_after f)
  HasRead-ended f input values h =
      HasRead-zero means (ended_after f) input values
      (HasReadSince-ended means 0 f input values (HasReadSince-zero means f input values h))

  -- with a value more, that was read too
  pub HasRead-value : (f : ReaderState R) (x : O) (n : ℕ) → IsParser (means f.parser) → 0 < n
      → n ≤ length f.ahead
      → means f.parser (not f.ended) (bytes_at f.place f.ahead) (Gives x (bytes_at (f.place + n) (drop n f.ahead)))
      → (input : List ℕ) (values : List O) → HasRead means f input values → HasRead means (taken_by f n) input (values ++ x ∷ [])
  HasRead-value f x n p l w m input values h =
      HasRead-zero means (taken_by f n) input (values ++ x ∷ [])
      (HasReadSince-value means 0 f x n p l w m input values (HasReadSince-zero means f input values h))

  -- where another length is wanted, the same was read
  pub HasRead-waits : (f : ReaderState R) (w : ℕ) (input : List ℕ) (values : List O)
      → HasRead means f input values → AwaitsAsked means (waiting_for f w)
      → HasRead means (waiting_for f w) input (values ++ [])
  HasRead-waits f w input values h a =
      subst (λ vs. HasRead means (waiting_for f w) input vs) (sym (append-nil values)) (record { reads = h.reads; awaits = a })

  -- without a value, the same was read
  pub HasRead-still : (f : ReaderState R) (input : List ℕ) (values : List O)
      → HasRead means f input values → HasRead means f input (values ++ [])
  HasRead-still f input values h = subst (λ vs. HasRead means f input vs) (sym (append-nil values)) h
