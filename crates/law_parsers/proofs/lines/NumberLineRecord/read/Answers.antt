use Rattle.std.proofs.Common.{refl}
use Rattle.std.proofs.lemmas.Result.{IfErr-weaker}
use Rattle.law_parsers.proofs.lines.NumberLineRecord.read.Goals as goal

pub returns-clause-error : goal.returns-clause-error
returns-clause-error c =
    IfErr-weaker c.parse_next.result _ _ (λ f h. (c.parse_next.new.input, (refl, h))) c.parse_next.ensures.error
