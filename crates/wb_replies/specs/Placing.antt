-- A reply with the place that its bytes lead to.
use Rattle.std.specs.Prelude.{◌≡◌, ℕ, List}
use Rattle.std.specs.Borrow.{Bor}
use Rattle.winnow_parser.specs.Outcome.{Meaning}
use Rattle.winnow_parser.specs.Laws.{IsParser}
use Rattle.winnow_parser.specs.Meanings.{Maps}
use Rattle.winnow_parser.specs.Parts.{IsParser-Maps}
use Rattle.winnow_parser.specs.Taken.{WithTaken, IsParser-WithTaken}
use Rattle.winnow_reader.specs.Place.{IsByteSlice, SlicesStay-bytes}
use Rattle.format_resp.specs.declared.reply.Reply.{Reply}
use Rattle.wb_replies.specs.declared.placed.Placed.{Placed}
use Rattle.wb_replies.specs.Positions.{start, position_after}

-- the reply of the pair, with the place that the bytes of the pair lead to from the start
abbrev pub IsPlaced : Reply × Bor (List ℕ) → Placed → Type 0
IsPlaced both placed = (placed.reply ≡ both.0) × (placed.end ≡ position_after start both.1.now)

-- what the parser gives, with the place that the bytes lead to which it takes
abbrev pub Placing : Meaning Reply ℕ → Meaning Placed ℕ
Placing inner = Maps IsPlaced (WithTaken IsByteSlice inner)

-- `Placing` keeps the laws of a parser
pub IsParser-Placing : (inner : Meaning Reply ℕ) → IsParser inner → IsParser (Placing inner)
IsParser-Placing inner p = IsParser-Maps IsPlaced _ (IsParser-WithTaken IsByteSlice SlicesStay-bytes inner p)
