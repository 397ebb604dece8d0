use Rattle.winnow_script_lines.proofs.whole.print_answers.Goals as goal

pub returns : goal.returns
returns g c = (
  c.in_ok-answers.answers.items,
  c.in_ok-answers.ensures.answers,
  rw (c.new-text.ensures.bytes, c.deref.ensures.value) at c.in_ok-push_answers.ensures,
)
