use Rattle.std.proofs.Common.{◌∙◌}
use Rattle.winnow_error_parse.proofs.lemmas.NthLineLemmas.{is_some-newline}
use Rattle.winnow_error_parse.proofs.line.has_newline.Goals as goal

pub returns : goal.returns
returns c = c.is_some.ensures ∙ is_some-newline c.args.bytes.now c.memchr.result c.memchr.ensures
