-- Meanings that allow the same answers.
use Rattle.std.specs.Prelude.{◌↔◌, Bool}
use Rattle.winnow_parser.specs.Outcome.{Ahead, Outcome, Meaning}

-- both meanings allow the same answers at each place
abbrev pub AllowSame : {O T : Type 0} → Meaning O T → Meaning O T → Type 0
AllowSame {O} {T} one other = (partial : Bool) (a : Ahead T) (v : Outcome O T) → one partial a v ↔ other partial a v
