use Rattle.std.proofs.Common.{All, subst}
use Rattle.std.proofs.lemmas.List.Elements.{All-head, All-tail}
use Rattle.winnow_combinator.proofs.parsers.alt_of_many.AltRefSliceParser.parse_next.Goals as goal

pub parse_next-requires-clause-ready : goal.parse_next-requires-clause-ready
parse_next-requires-clause-ready g c =
    let all = subst (All g.P.Parser.ready) c.in-Some.ensures.cases.0 c.requires.ready in
    (All-head g.P.Parser.ready c.in-Some.first.now c.in-Some.rest.now all, All-tail g.P.Parser.ready c.in-Some.first.now c.in-Some.rest.now all)
