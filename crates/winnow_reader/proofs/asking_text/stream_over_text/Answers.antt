use Rattle.std.proofs.Common.{arith}
use Rattle.winnow_stream.proofs.lemmas.TextLemmas.{width-text_source}
use Rattle.winnow_reader.proofs.asking_text.stream_over_text.Goals as goal

pub at-requires-clause-fits : goal.at-requires-clause-fits
at-requires-clause-fits c =
    omega (arith, c.requires, width-text_source c.args.text.now c.utf8.text)
