-- How a program that prints replies ends when it fails.
use Rattle.std.specs.Prelude.{ℕ, List, codes, Option, None, Some}
use Rattle.example_base.specs.Trouble.{status_of as trouble_status, trouble_text}
use Rattle.format_resp.specs.Causes.{damage_text}
use Rattle.wb_replies.specs.declared.positions.Position.{Position}
use Rattle.wb_replies.specs.declared.failure.Failure.{Failure}
use Rattle.wb_replies.specs.declared.failure.Failure.TheVariants.{NoReply, EndsInside, Stopped}

-- the exit status for a failure
abbrev pub status_of : Failure → ℕ
status_of (NoReply place cause excerpt) = 2
status_of (EndsInside place excerpt) = 2
status_of (Stopped trouble) = trouble_status trouble

-- the place of a failure, if it is one of the input
abbrev pub place_of : Failure → Option Position
place_of (NoReply place cause excerpt) = Some place
place_of (EndsInside place excerpt) = Some place
place_of (Stopped trouble) = None

-- what is wrong, without the place
abbrev pub failure_text : Failure → List ℕ
failure_text (NoReply place cause excerpt) = damage_text cause
failure_text (EndsInside place excerpt) =
    codes "the input ends inside the reply that begins here"
failure_text (Stopped trouble) = trouble_text trouble
