use Rattle.std.proofs.Common.{rules}
use Rattle.winnow_error.proofs.lemmas.BareLemmas.{styled-bare, displays-styled}
use Rattle.winnow_error.proofs.bare.write_bare.Goals as goal

pub returns-clause-writes : goal.returns-clause-writes
returns-clause-writes g c = displays-styled g.W.Write.write_str_gives _ _ _ _ (styled-bare g.W.Write.write_str_gives _ c.into_inner-behind.result _ _ _ _ _ c.new-bare.ensures.writer c.into_inner-behind.ensures c.new-bare.ensures.plain (λ same. search rules) c.write-result.ensures.writes)

pub returns-clause-styled : goal.returns-clause-styled
returns-clause-styled g c = styled-bare g.W.Write.write_str_gives _ c.into_inner-behind.result _ _ _ _ _ c.new-bare.ensures.writer c.into_inner-behind.ensures c.new-bare.ensures.plain (λ same. search rules) c.write-result.ensures.writes
