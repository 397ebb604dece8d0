use Rattle.winnow_script_lines.proofs.lemmas.NewlineLemmas.{newline-first}
use Rattle.winnow_script_lines.proofs.lines.newline_index.Goals as goal

pub returns : goal.returns
returns c = newline-first c.args.text.now c.memchr.result c.memchr.ensures
