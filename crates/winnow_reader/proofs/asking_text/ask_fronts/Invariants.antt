use Rattle.std.proofs.Common.{◌≡◌, ℕ, ◌-◌, ◌<◌, ◌^◌}
use Rattle.std.specs.Prelude.{min}
use Rattle.winnow_reader.specs.Place.{bytes_at}
use Rattle.winnow_reader.specs.First.{first_ahead}
use Rattle.winnow_reader.specs.TextTelling.{front_length, IsUnanswered}
use Rattle.winnow_reader.proofs.asking_text.ask_fronts.Given as goal

abbrev pub invariant-loop : goal.invariant-loop
invariant-loop g l = (l.len ≡ min (front_length l.counter) (2 ^ 64 - 1))
    × ((j : ℕ) → j < l.counter
    → IsUnanswered (g.R.TextRecord.means l.fn.parser) (first_ahead (front_length j) (bytes_at l.fn.place l.fn.bytes)))
