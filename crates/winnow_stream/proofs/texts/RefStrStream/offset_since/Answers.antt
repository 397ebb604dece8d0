use Rattle.std.proofs.Common.{ap, arith}
use Rattle.winnow_stream.specs.Source.{width}
use Rattle.winnow_stream.specs.Text.{text_source}
use Rattle.winnow_stream.proofs.lemmas.FrontLemmas.{width-end}
use Rattle.winnow_stream.proofs.texts.RefStrStream.offset_since.Goals as goal

pub overflow_sub-result : goal.overflow_sub-result
overflow_sub-result c =
    let whole = ap (λ x. width (text_source x.now)) c.inner.ensures in
    let narrower = width-end _ _ c.requires.is_end in
    omega arith
