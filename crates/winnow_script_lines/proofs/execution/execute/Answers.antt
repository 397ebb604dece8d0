use Rattle.winnow_script_lines.proofs.execution.execute.Goals as goal

pub returns-clause-printed : goal.returns-clause-printed
returns-clause-printed c =
    let kind = rw c.new-lines.ensures.rest at c.in_ok-kind.ensures.kind in
    let rest = rw c.new-lines.ensures.rest at c.read_kind.ensures.rest in
    (c.in_ok-kind.kind, kind, rw c.into_bytes.ensures.value (rw rest at c.in_ok-printed.ensures.printed))
