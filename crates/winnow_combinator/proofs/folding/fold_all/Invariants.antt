use Rattle.std.specs.Prelude.{◌≡◌, ◌+◌, ◌<◌, ◌≤◌, ◌^◌, List, length}
use Rattle.winnow_stream.specs.Source.{width}
use Rattle.winnow_parser.specs.Outcome.{Moves}
use Rattle.winnow_parser.specs.Answer.{ahead}
use Rattle.winnow_combinator.specs.Counts.{IsUpTo}
use Rattle.winnow_combinator.specs.Gathering.{Folds}
use Rattle.winnow_combinator.specs.Repeat.{Taking, InTurn}
use Rattle.winnow_combinator.specs.TryFold.{StepsTo}
use Rattle.winnow_combinator.proofs.folding.fold_all.Given as goal

-- from the start of the call up to here the parser gave some values, one after the other, and the
-- step took each of them
abbrev pub invariant-values : goal.invariant-values
invariant-values g l =
    let stands = ahead g.I.Rest.location g.I.Stream.remaining in
    (xs : List g.row.P-Output.Denot) × record {
      valid : g.I.Stream.valid l.input;
      kept : g.I.Stream.keeps l.fn.input l.input;
      onward : Moves (stands l.fn.input) (stands l.input);
      folds : Folds (λ w. g.N.Fn.post l.fold.init.now tt w)
          (StepsTo (g.S.FoldStep.gives l.fold.step)) xs l.whole;
      fits : width (g.I.Stream.remaining l.fn.input) < 2 ^ 64;
      counted : l.count ≡ length xs;
      within : l.count + width (g.I.Stream.remaining l.input) ≤ width
          (g.I.Stream.remaining l.fn.input);
      up_to : IsUpTo l.fold.counts.greatest l.count;
      values : InTurn (Taking (g.P.Parser.means l.fold.parser.now))
          (g.I.StreamIsPartial.expects_more l.fn.input) xs (stands l.fn.input) (stands l.input);
    }

-- each turn leaves a narrower rest
abbrev pub decreases-values : goal.decreases-values
decreases-values g l = width (g.I.Stream.remaining l.input)
