use Rattle.std.specs.Prelude.{◌≡◌, List, ◌++◌, length, All}
use Rattle.winnow_error.specs.declared.failure.Failure.TheVariants.{Backtrack}
use Rattle.winnow_parser.specs.Outcome.{Backtracks, Fails, Moves}
use Rattle.winnow_parser.specs.Answer.{ahead}
use Rattle.winnow_combinator.specs.AltOf.{IsAltOf, AltErrorsOf}
use Rattle.winnow_combinator.proofs.parsers.alt_of_many.FirstOfParser.parse_next.Given as goal

-- the first parser and a front of the others backtracked
abbrev pub invariant-parsers : goal.invariant-parsers
invariant-parsers g l =
    let stands = ahead g.I.Rest.location g.I.Stream.remaining in
    let first = l.self.first.now in
    (done : List _) × record {
      valid : g.I.Stream.valid l.input;
      kept : g.I.Stream.keeps l.fn.input l.input;
      onward : Moves (stands l.fn.input) (stands l.input);
      ready : All g.P.Parser.ready l.rest;
      split : l.self.rest.now ≡ done ++ l.rest;
      means : IsAltOf g.E.ParserError.or_refusable g.P.Parser.means (g.P.Parser.means first) done
          (g.I.StreamIsPartial.expects_more l.fn.input) (stands l.fn.input)
          (Fails (Backtracks (stands l.input)));
      error : AltErrorsOf stands g.E.ParserError.or_refusable g.E.ParserError.or_gives
          g.P.Parser.means g.P.Parser.errors (g.P.Parser.means first) (g.P.Parser.errors first) done
          (g.I.StreamIsPartial.expects_more l.fn.input) (stands l.fn.input) l.input (Backtrack l.error);
    }

-- each turn leaves fewer parsers
abbrev pub decreases-parsers : goal.decreases-parsers
decreases-parsers g l = length l.rest
