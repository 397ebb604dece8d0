use Rattle.std.proofs.Common.{◌≡◌, ◌++◌, string_bytes, take}
use Rattle.winnow_script_print.specs.AnswerLines.{answer_lines}
use Rattle.winnow_script_print.proofs.answers.push_answers.Given as goal

-- the answers so far are printed
abbrev pub invariant-loop-answer : goal.invariant-loop-answer
invariant-loop-answer g l =
    string_bytes l.text ≡ string_bytes l.initial.text ++ answer_lines g.T.AsChar.code g.S.PushWords.words g.L.PushWords.words (take l.answer-index l.answers)
