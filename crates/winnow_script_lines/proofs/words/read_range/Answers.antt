use Rattle.std.proofs.Common.{arith}
use Rattle.std.proofs.lemmas.Grind.{common_steps}
use Rattle.winnow_script_lines.proofs.lemmas.RangeLemmas.{DenotesChar-read, DenotesRange-low, DenotesRange-high, DenotesRange-dotless}
use Rattle.winnow_script_lines.proofs.words.read_range.Goals as goal

pub returns : goal.returns
returns c = (
  c.in_ok-low.low.now,
  c.in_ok-low.high.now,
  grind (arith, common_steps, c.in_ok-low.ensures.cases),
  DenotesChar-read _ _ c.in_ok-read_char.ensures,
  DenotesChar-read _ _ c.in_ok-read_char-2.ensures,
)

pub returns-in_err-low : goal.returns-in_err-low
returns-in_err-low c = rw c.from_residual.ensures (DenotesRange-dotless c.args.word.now c.in_err-low.ensures.cases)

pub returns-in_err-read_char : goal.returns-in_err-read_char
returns-in_err-read_char c =
    rw c.from_residual-in_err-read_char.ensures (DenotesRange-low c.args.word.now c.in_ok-low.low c.in_ok-low.high c.in_ok-low.ensures.cases c.in_err-read_char.ensures)

pub returns-in_err-read_char-2 : goal.returns-in_err-read_char-2
returns-in_err-read_char-2 c =
    rw c.from_residual-in_err-read_char-2.ensures (DenotesRange-high c.args.word.now c.in_ok-low.low c.in_ok-low.high c.in_ok-low.ensures.cases c.in_err-read_char-2.ensures)
