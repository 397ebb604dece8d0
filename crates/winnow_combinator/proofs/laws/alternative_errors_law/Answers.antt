use Rattle.winnow_parser.specs.Answer.{ahead}
use Rattle.winnow_combinator.proofs.lemmas.AltLemmas.{appends-three, joins-left, joins-right}
use Rattle.winnow_combinator.proofs.laws.alternative_errors_law.Goals as goal

pub returns-clause-three : goal.returns-clause-three
returns-clause-three g c = λ x y z partial at s e h.
    let stands = ahead g.I.Rest.location g.I.Stream.remaining in
    let stood = ahead g.I.Checkpoint.Rest.location g.I.Stream.remained in
    appends-three g.E.ParserError.append_refusable g.E.ParserError.or_refusable stood g.E.ParserError.append_gives stands g.E.ParserError.or_gives g.E.AssociativeOr.joined g.met.E.AssociativeOr.or_gives_joined
    (g.A.Parser.means x) (g.A.Parser.errors x) (g.B.Parser.means y) (g.B.Parser.errors y) (g.C.Parser.errors z) partial at s e h

pub returns-clause-left : goal.returns-clause-left
returns-clause-left g c = λ same x y z partial at s e h.
    let stands = ahead g.I.Rest.location g.I.Stream.remaining in
    let stood = ahead g.I.Checkpoint.Rest.location g.I.Stream.remained in
    joins-left g.E.ParserError.append_refusable g.E.ParserError.or_refusable stood g.E.ParserError.append_gives stands g.E.ParserError.or_gives g.E.AssociativeOr.joined g.met.E.AssociativeOr.or_gives_joined
    (g.A.Parser.means x) (g.A.Parser.errors x) (g.B.Parser.means y) (g.B.Parser.errors y) (g.C.Parser.errors z) same partial at s e h

pub returns-clause-right : goal.returns-clause-right
returns-clause-right g c = λ same x y z partial at s e h.
    let stands = ahead g.I.Rest.location g.I.Stream.remaining in
    let stood = ahead g.I.Checkpoint.Rest.location g.I.Stream.remained in
    joins-right g.E.ParserError.append_refusable g.E.ParserError.or_refusable stood g.E.ParserError.append_gives stands g.E.ParserError.or_gives g.E.AssociativeOr.joined g.met.E.AssociativeOr.or_gives_joined
    (g.A.Parser.means x) (g.A.Parser.errors x) (g.B.Parser.means y) (g.B.Parser.errors y) (g.C.Parser.errors z) same g.met.E.AssociativeOr.joined_associative partial at s e h
