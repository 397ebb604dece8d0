use Rattle.std.specs.Prelude.{◌≡◌, ◌+◌, ◌<◌, ◌≤◌, ◌^◌, List, length}
use Rattle.std.specs.List.{FoldsTo}
use Rattle.winnow_stream.specs.Source.{width}
use Rattle.winnow_parser.specs.Outcome.{Moves}
use Rattle.winnow_parser.specs.Answer.{ahead}
use Rattle.winnow_combinator.specs.Repeat.{Taking}
use Rattle.winnow_combinator.specs.RepeatTill.{InTurnTill}
use Rattle.winnow_combinator.proofs.parsers.repeat_till.go_till.Given as goal

-- from the start of the call up to here the parser gave some values, one after the other, with no
-- end before each, and they were added to those gathered already
abbrev pub invariant-loop-end : goal.invariant-loop-end
invariant-loop-end g l =
    let stands = ahead g.I.Rest.location g.I.Stream.remaining in
    let counts = l.again.counts in
    (xs : List g.row.P-Output.Denot) × ((all : List g.row.P-Output.Denot) × record {
      valid : g.I.Stream.valid l.input;
      kept : g.I.Stream.keeps l.fn.input l.input;
      onward : Moves (stands l.fn.input) (stands l.input);
      gathered : FoldsTo (g.G.Gather.takes l.again.gather.now) l.fn.whole xs l.whole;
      made : g.G.Gather.makes l.again.gather.now all l.whole;
      room : length all + width (g.I.Stream.remaining l.input) < 2 ^ 64;
      counted : l.count ≡ length xs;
      within : l.count + width (g.I.Stream.remaining l.input) ≤ width
          (g.I.Stream.remaining l.fn.input);
      values : InTurnTill counts.least counts.greatest 0 (g.Q.Parser.means l.terminator)
          (Taking (g.P.Parser.means l.again.parser.now))
          (g.I.StreamIsPartial.expects_more l.fn.input) xs (stands l.fn.input) (stands l.input);
    })

-- each turn leaves a narrower rest
abbrev pub decreases-loop-end : goal.decreases-loop-end
decreases-loop-end g l = width (g.I.Stream.remaining l.input)
