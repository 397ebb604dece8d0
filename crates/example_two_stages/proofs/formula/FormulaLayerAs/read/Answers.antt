use Rattle.example_two_stages.proofs.lemmas.OperandLemmas.{operands-spelled, minuses-spelled}
use Rattle.example_two_stages.proofs.lemmas.OperatorLemmas.{infixes-spelled, infixes-miss}
use Rattle.example_two_stages.proofs.formula.FormulaLayerAs.read.Goals as goal

pub read_sum-requires-clause-operands : goal.read_sum-requires-clause-operands
read_sum-requires-clause-operands g c =
    rw (c.map-operand.ensures.inner, c.with_token_span.ensures.inner, c.part_as.ensures)
    (operands-spelled g.I.Token.AsToken.token g.I.Stream.is_slice g.I.Slice.SliceSpan.span c.requires.ready c.args.self.now.source.now (g.P.Spells.spells c.args.formula) c.requires.inside)

pub read_sum-requires-clause-minuses : goal.read_sum-requires-clause-minuses
read_sum-requires-clause-minuses g c =
    rw (c.map-minus.ensures.inner, c.with_token_span-2.ensures.inner, c.context-sign.ensures.inner, c.one_of.ensures)
    (minuses-spelled g.I.Token.AsToken.token g.I.Stream.is_slice g.I.Slice.SliceSpan.span c.requires.ready c.args.self.now.source.now g.E.AddContext.add_context_refusable)

pub read_sum-requires-clause-operators : goal.read_sum-requires-clause-operators
read_sum-requires-clause-operators g c =
    rw c.verify_map-infix.ensures.f (infixes-spelled g.I.Token.AsToken.token c.args.self.now.source.now)

pub read_sum-requires-clause-ends : goal.read_sum-requires-clause-ends
read_sum-requires-clause-ends g c =
    rw c.verify_map-infix.ensures.f (infixes-miss g.I.Token.AsToken.token c.args.self.now.source.now)
