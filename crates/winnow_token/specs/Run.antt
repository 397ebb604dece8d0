-- A run of tokens that a set holds, which ends where the set does not hold the next token.
use Rattle.std.specs.Prelude.{◌≡◌, ℕ, ◌≤◌, length, Bool, false, Some}
use Rattle.winnow_stream.specs.Source.{first_token, HoldsAll}
use Rattle.winnow_parser.specs.Outcome.{Ahead, Moves}

-- the stream moved on over a run of at least the least count of tokens
pub record IsRun {T : Type 0} (holds : T → Bool) (least : ℕ) (a b : Ahead T) : Type 0 where
  pub over : Moves a b
  pub held : HoldsAll holds over.taken
  pub enough : least ≤ length over.taken
  pub ends : (x : T) → first_token b.tokens ≡ Some x → holds x ≡ false
