use Rattle.std.proofs.Common.{sym}
use Rattle.winnow_stream.proofs.lemmas.TextLemmas.{width-text_source}
use Rattle.winnow_stream.proofs.texts.width_of.Goals as goal

pub returns : goal.returns
returns c = sym (width-text_source c.args.text.now c.utf8.text)
