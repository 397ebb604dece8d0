use Rattle.winnow_stream.proofs.lemmas.TextLemmas.{is_offset-decides}
use Rattle.winnow_stream.proofs.texts.RefStrStream.is_offset.Goals as goal

pub returns : goal.returns
returns c = is_offset-decides c.args.self.now.now c.args.offset c.is_char_boundary.result c.type_inv.self c.is_char_boundary.ensures.test
