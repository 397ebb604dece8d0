use Rattle.std.specs.List.{AllZip}
use Rattle.winnow_script_lines.specs.Words.{DenotesRange}
use Rattle.winnow_script_lines.proofs.words.read_ranges.Given as goal

abbrev pub invariant-loop-part : goal.invariant-loop-part
invariant-loop-part l = AllZip (λ part range. DenotesRange part.now range) l.yielded l.ranges.items
