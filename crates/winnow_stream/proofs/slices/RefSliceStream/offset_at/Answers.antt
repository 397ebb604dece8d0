use Rattle.std.proofs.Common.{arith}
use Rattle.winnow_stream.proofs.lemmas.UnitLemmas.{offset_at-units_short}
use Rattle.winnow_stream.proofs.slices.RefSliceStream.offset_at.Goals as goal

pub returns-in-Some : goal.returns-in-Some
returns-in-Some g c = offset_at-units_short c.args.self.now.now c.args.tokens c.in-Some.missing (omega (arith, c.in-Some.ensures))
