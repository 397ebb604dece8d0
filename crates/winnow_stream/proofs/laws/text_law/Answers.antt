use Rattle.winnow_stream.proofs.lemmas.TextLemmas.{text_source-same}
use Rattle.winnow_stream.proofs.laws.text_law.Goals as goal

pub returns : goal.returns
returns c = text_source-same
