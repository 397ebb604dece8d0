use Rattle.std.proofs.Common.{◌≡◌, ◌++◌, string_bytes, take}
use Rattle.winnow_script_print.specs.AnswerLines.{item_words}
use Rattle.winnow_script_print.proofs.words.push_items.Given as goal

-- the items so far are printed
abbrev pub invariant-loop-offset : goal.invariant-loop-offset
invariant-loop-offset g l =
    string_bytes l.text ≡ string_bytes l.initial.text ++ item_words g.T.AsChar.code (take l.offset-index l.items)
