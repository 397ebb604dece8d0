use Rattle.example_arithmetic_exact.proofs.ExprLayerRuleEmptyError.read.Goals as goal

pub returns-clause-means : goal.returns-clause-means
returns-clause-means g c =
    let sums = rw c.separated_foldl1-sum.ensures at c.parse_next.ensures.means in
    let terms = rw c.separated_foldl1-term.ensures at sums in
    let factors = rw c.delimited-factor.ensures at terms in
    let cores = rw c.alt-core.ensures at factors in
    let parens = rw c.delimited-parens.ensures at cores in
    let signs = rw (c.one_of-open.ensures, c.one_of-close.ensures, c.one_of-times.ensures, c.one_of-plus.ensures) at parens in
    let folded = rw c.fold-number.ensures at signs in
    let digits = rw (c.repeat.ensures.counts.0, c.repeat.ensures.counts.1, c.repeat.ensures.inner, c.one_of-digit.ensures) at folded in
    rw (c.multispace0-spaces.ensures.0, c.multispace0-spaces.ensures.1.0, c.multispace0-spaces.ensures.1.1) at digits
