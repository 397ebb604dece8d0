use Rattle.law_parsers.proofs.expressions.unary_law.Goals as goal

pub returns : goal.returns
returns g c view v y p a b op depth level h =
    c.determined_expression_law.ensures view v v y p a b op depth level h
