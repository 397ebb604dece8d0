use Rattle.std.proofs.Common.{◌∙◌}
use Rattle.woldbraid_writers.proofs.lemmas.AppendLemmas.{extends}
use Rattle.woldbraid_writers.proofs.csv_writer.append_quoted.Goals as goal

pub returns-in_err-append_byte-clause-refused : goal.returns-in_err-append_byte-clause-refused
returns-in_err-append_byte-clause-refused c =
    extends _ _ _ _ (c.in_err-append_byte.ensures.refused ∙ c.loop-byte.invariant)
