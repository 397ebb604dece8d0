use Rattle.std.proofs.Common.{◌∙◌, ap, sym}
use Rattle.winnow_stream.specs.Source.{width}
use Rattle.winnow_stream.proofs.lemmas.FrontLemmas.{width-front}
use Rattle.winnow_stream.proofs.lemmas.TextLemmas.{width-text_source}
use Rattle.winnow_stream.proofs.laws.text_slice_law.Goals as goal

pub returns : goal.returns
returns c = λ r n h s. sym (width-text_source c.args.slice.now c.utf8.slice) ∙ ap width s ∙ width-front r n h
