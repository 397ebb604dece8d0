-- What the program says of a failure.
use Rattle.std.specs.Prelude.{ℕ, List, ◌++◌, codes, decimal}
use Rattle.wb_replies.specs.Failure.{failure_text}
use Rattle.wb_replies.specs.declared.positions.Position.{Position}
use Rattle.wb_replies.specs.declared.failure.Failure.{Failure}
use Rattle.wb_replies.specs.declared.failure.Failure.TheVariants.{NoReply, EndsInside, Stopped}

-- the text of a place
abbrev pub position_text : Position → List ℕ
position_text place = codes "line " ++ decimal place.line ++ codes ", column " ++ decimal place.column
    ++ codes " (byte " ++ decimal place.byte ++ codes ")"

-- what is wrong, after the place if it is known
abbrev pub told_text : Failure → List ℕ
told_text (NoReply place cause excerpt) =
    position_text place ++ codes ": " ++ failure_text (NoReply place cause excerpt)
told_text (EndsInside place excerpt) =
    position_text place ++ codes ": " ++ failure_text (EndsInside place excerpt)
told_text (Stopped trouble) = failure_text (Stopped trouble)
