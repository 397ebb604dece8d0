-- A function that reads what a rule says.
use Rattle.std.specs.Prelude.{Bool, Result}
use Rattle.std.specs.Fn.{Shared}
use Rattle.std.specs.Borrow.{MutBor}
use Rattle.std.specs.declared.alloc.Global.{Global}
use Rattle.winnow_stream.specs.declared.needed.Needed.{Needed}
use Rattle.winnow_error.specs.declared.failure.Failure.{Failure}
use Rattle.winnow_parser.specs.Outcome.{Ahead, Meaning, Moves}
use Rattle.winnow_parser.specs.Answer.{outcome}

-- the function may be called on each valid stream; its answer and where it leaves the stream are as
-- the meaning says, whatever it answers the stream only moves on, and it keeps what a parser keeps
pub record Follows {F S O E T : Type 0} (call : Shared F (Global × (MutBor S × Unit {0})) (Result O (Failure E Needed) × (MutBor S × Unit {0}))) (valid : S → Type 0) (keeps : S → S → Type 0) (partial : S → Bool) (stands : S → Ahead T) (means : Meaning O T) (f : F) : Type 0 where
  pub callable : (alloc : Global) (s : MutBor S) → valid s.now → call.pre f (alloc, (s, tt))
  pub answers : (alloc : Global) (s t : MutBor S) (r : Result O (Failure E Needed)) → valid s.now
      → call.post f (alloc, (s, tt)) (r, (t, tt))
      → means (partial s.now) (stands s.now) (outcome r (stands t.now))
      × Moves (stands s.now) (stands t.now) × valid t.now × keeps s.now t.now
