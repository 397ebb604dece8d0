use Rattle.std.specs.Prelude.{◌-◌, ℤ, List, Option, None}
use Rattle.std.proofs.Common.{◌+◌, ◌*◌}
use Rattle.winnow_stream.specs.Source.{width}
use Rattle.winnow_parser.specs.Outcome.{Moves}
use Rattle.winnow_parser.specs.Answer.{ahead}
use Rattle.winnow_expression.specs.Turns.{InTurns}
use Rattle.winnow_expression.specs.Expression.{IsNext, IsExpression}
use Rattle.winnow_expression.proofs.parsers.expression.+climb.Given as goal

abbrev pub decreases-climb : goal.decreases-climb
decreases-climb g l = 4 * l.depth

abbrev pub decreases-first : goal.decreases-first
decreases-first g l = 4 * l.depth + 1

abbrev pub decreases-join : goal.decreases-join
decreases-join g l = 4 * l.side.depth + 1

abbrev pub decreases-turn : goal.decreases-turn
decreases-turn g l = 4 * l.side.depth + 2

abbrev pub decreases-next : goal.decreases-next
decreases-next g l = 4 * l.side.depth + 3

-- since the first operand some turns led from its value to this one
abbrev pub invariant-climb-loop-value : goal.invariant-climb-loop-value
invariant-climb-loop-value g l =
    let stands = ahead g.I.Rest.location g.I.Stream.remaining in
    let parser = l.parser in
    let side = IsExpression (g.P.Parser.means parser.operand) (g.A.UnaryOperators.reads parser.prefixes)
    (g.A.UnaryOperators.folds parser.prefixes) (g.B.UnaryOperators.reads parser.postfixes)
    (g.B.UnaryOperators.folds parser.postfixes) (g.C.InfixOperators.reads parser.infixes)
    (g.C.InfixOperators.folds parser.infixes) (l.depth - 1) in
    let turn = IsNext (g.P.Parser.means parser.operand) (g.A.UnaryOperators.reads parser.prefixes)
    (g.A.UnaryOperators.folds parser.prefixes) (g.B.UnaryOperators.reads parser.postfixes)
    (g.B.UnaryOperators.folds parser.postfixes) (g.C.InfixOperators.reads parser.infixes)
    (g.C.InfixOperators.folds parser.infixes) side l.level in
    record {
      valid : g.I.Stream.valid l.input;
      kept : g.I.Stream.keeps l.fn.input l.input;
      onward : Moves (stands l.fn.input) (stands l.input);
      turns : (us : List (g.row.P-Output.Denot × Option ℤ)) × InTurns turn
          (g.I.StreamIsPartial.expects_more l.fn.input) us (l.initial.value, None)
          (l.value, l.alone) (stands l.initial.input) (stands l.input);
    }

-- each turn leaves a narrower rest
abbrev pub decreases-climb-loop-value : goal.decreases-climb-loop-value
decreases-climb-loop-value g l = width (g.I.Stream.remaining l.input)
