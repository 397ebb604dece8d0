use Rattle.std.proofs.Common.{ap, arith, length}
use Rattle.winnow_stream.proofs.lemmas.TextLemmas.{width-text_source}
use Rattle.winnow_stream.proofs.lemmas.IndexLemmas.{AlwaysYields-indices}
use Rattle.winnow_stream.proofs.lemmas.FusedLemmas.{IsFused-char_indices}
use Rattle.winnow_stream.proofs.texts.RefStrStream.iter_offsets.Goals as goal

pub returns-clause-count : goal.returns-clause-count
returns-clause-count c = omega (arith, ap length c.char_indices.ensures.rest, width-text_source c.args.self.now.now c.type_inv.self)

pub returns-clause-items : goal.returns-clause-items
returns-clause-items c = AlwaysYields-indices c.args.self.now.now c.char_indices.result c.type_inv.self c.char_indices.ensures.rest c.char_indices.ensures.offset

pub returns-clause-fused : goal.returns-clause-fused
returns-clause-fused c = IsFused-char_indices
