use Rattle.std.proofs.Common.{refl, sym, ◌∙◌}
use Rattle.std.specs.Bool.{passes}
use Rattle.std.specs.Float.{binary64}
use Rattle.winnow_codec_mapped.specs.Floats.{quiet_eight}
use Rattle.winnow_codec_mapped.proofs.lemmas.Floats.{number-told, nan-told-eight}
use Rattle.winnow_codec_mapped.proofs.floats.bits_of_eight.Goals as goal

pub returns-then-is_nan : goal.returns-then-is_nan
returns-then-is_nan c = nan-told-eight c.args.float (sym c.is_nan.ensures.value ∙ c.if-is_nan.true)

pub returns : goal.returns
returns c = number-told binary64 18446744073709551616 quiet_eight c.args.float refl (passes _ c.well_formed.0.1) (sym c.is_nan.ensures.value ∙ c.if-is_nan.false)
