use Rattle.std.specs.Prelude.{◌+◌, ◌<◌, ◌^◌, List, length}
use Rattle.winnow_stream.specs.Source.{width}
use Rattle.winnow_parser.specs.Outcome.{Moves}
use Rattle.winnow_parser.specs.Answer.{ahead}
use Rattle.winnow_ascii.specs.declared.fragment.Fragment.{Fragment}
use Rattle.winnow_ascii.specs.Escaped.{NextFragment, UpToEnd, TakesInTurn}
use Rattle.winnow_ascii.proofs.parsers.escaped.gather_fragments.Given as goal

-- from the start of the call up to here there were some fragments, one after the other, and they
-- were gathered
abbrev pub invariant-loop-fragment : goal.invariant-loop-fragment
invariant-loop-fragment g l =
    let stands = ahead g.I.Rest.location g.I.Stream.remaining in
    let text = l.text in
    (xs : List (Fragment g.row.P-Output.Denot g.row.Q-Output.Denot)) × record {
      valid : g.I.Stream.valid l.input;
      kept : g.I.Stream.keeps l.fn.input l.input;
      onward : Moves (stands l.fn.input) (stands l.input);
      made : g.A.Accumulate.holds l.whole xs;
      room : length xs + width (g.I.Stream.remaining l.input) < 2 ^ 64;
      values : TakesInTurn (UpToEnd (NextFragment (g.P.Parser.means text.normal)
          (g.C.Parser.means text.control) (g.Q.Parser.means text.escapable)))
          (g.I.StreamIsPartial.expects_more l.fn.input) xs (stands l.fn.input) (stands l.input);
    }

-- each turn leaves a narrower rest
abbrev pub decreases-loop-fragment : goal.decreases-loop-fragment
decreases-loop-fragment g l = width (g.I.Stream.remaining l.input)
