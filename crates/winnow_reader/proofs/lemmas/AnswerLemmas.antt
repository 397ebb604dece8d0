-- What a record answered of a stream over the bytes ahead.
use Rattle.std.specs.Prelude.{Bool, true, false, not}
use Rattle.std.proofs.Common.{◌≡◌, ℕ, ◌+◌, ◌-◌, List, length, drop, refl, subst, arith}
use Rattle.winnow_stream.specs.declared.needed.Needed.{Needed}
use Rattle.winnow_parser.specs.Outcome.{Ahead, Needs, Outcome, Gives, Fails, Meaning}
use Rattle.winnow_parser.specs.Laws.{IsParser}
use Rattle.winnow_reader.specs.Place.{bytes_at}
use Rattle.winnow_reader.proofs.lemmas.PlaceLemmas.{moved-bytes}

-- what was answered of the stream is an answer of the bytes
pub answer-of : {O : Type 0} (means : Meaning O ℕ) (flag partial : Bool) (a b : Ahead ℕ)
    (v : Outcome O ℕ) → flag ≡ partial → a ≡ b → means flag a v → means partial b v
answer-of means flag partial a b v e d h = subst (λ q. means q b v) e (subst (λ q. means flag q v) d h)

module _ {O : Type 0} (means : Meaning O ℕ) (p : IsParser means) where
  -- a parser needs more only where more may follow
  pub needs-open : (ended : Bool) (a : Ahead ℕ) (need : Needed)
      → means (not ended) a (Fails (Needs need))
      → (ended ≡ false) × means true a (Fails (Needs need))
  needs-open false a need h = (refl, h)
  needs-open true a need h = absurd (p.final a need h)

  -- a value that took n bytes left the place after them
  pub value-taken : (partial : Bool) (place : ℕ) (bytes : List ℕ) (x : O) (there : ℕ)
      (rest : List ℕ) (n : ℕ) → n ≡ length bytes - length rest
      → means partial (bytes_at place bytes) (Gives x (bytes_at there rest)) → means partial (bytes_at place bytes) (Gives x (bytes_at (place + n) (drop n bytes)))
  value-taken partial place bytes x there rest n e h =
      let moved = moved-bytes place bytes there rest n (p.onward partial (bytes_at place bytes) (Gives x (bytes_at there rest)) h) e in
      subst (λ b. means partial (bytes_at place bytes) (Gives x b)) moved h

  -- a value that took nothing left the same place
  pub value-still : (partial : Bool) (place : ℕ) (bytes : List ℕ) (x : O) (there : ℕ)
      (rest : List ℕ) → 0 ≡ length bytes - length rest
      → means partial (bytes_at place bytes) (Gives x (bytes_at there rest)) → means partial (bytes_at place bytes) (Gives x (bytes_at place bytes))
  value-still partial place bytes x there rest e h =
      let zero : place + 0 ≡ place = omega arith in
      subst (λ q. means partial (bytes_at place bytes) (Gives x (bytes_at q bytes))) zero (value-taken partial place bytes x there rest 0 e h)
