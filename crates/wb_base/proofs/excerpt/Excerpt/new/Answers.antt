use Rattle.std.proofs.Common.{rules}
use Rattle.wb_base.proofs.lemmas.ExcerptLemmas.{excerpt-of}
use Rattle.wb_base.proofs.excerpt.Excerpt.new.Goals as goal

pub returns : goal.returns
returns c =
    excerpt-of c.args.before.now c.args.rest.now c.line_start.result c.line_end.result _ (search rules) (search rules)
    c.line_start.ensures.line c.line_end.ensures.line
