use Rattle.std.proofs.Common.{◌∙◌, ap}
use Rattle.winnow_stream.specs.Text.{text_source}
use Rattle.winnow_stream.proofs.lemmas.TextLemmas.{boundary-from_is_offset, front-cut, back-cut}
use Rattle.winnow_stream.proofs.texts.split_at_offset.Goals as goal

pub split_at-requires : goal.split_at-requires
split_at-requires c = boundary-from_is_offset c.args.text.now c.args.offset c.utf8.text c.requires

pub returns-clause-front : goal.returns-clause-front
returns-clause-front c =
    ap text_source c.split_at.ensures.front ∙ front-cut c.args.text.now c.args.offset c.utf8.text (boundary-from_is_offset c.args.text.now c.args.offset c.utf8.text c.requires)

pub returns-clause-back : goal.returns-clause-back
returns-clause-back c =
    ap text_source c.split_at.ensures.back ∙ back-cut c.args.text.now c.args.offset c.utf8.text (boundary-from_is_offset c.args.text.now c.args.offset c.utf8.text c.requires)
