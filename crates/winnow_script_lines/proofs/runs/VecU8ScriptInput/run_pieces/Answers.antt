use Rattle.winnow_script_lines.proofs.runs.VecU8ScriptInput.run_pieces.Goals as goal

-- the lent steps print what the report has after all lines
pub returns : goal.returns
returns c =
    let printed = rw c.deref.ensures.value at c.in_ok-feed_byte_lines.ensures in
    rw c.into_text.ensures (c.in_ok-steps.steps.items, c.in_ok-steps.ensures, printed)
