use Rattle.std.proofs.Common.{ap, ◌+◌}
use Rattle.std.specs.Prelude.{if◌then◌else◌}
use Rattle.winnow_script_lines.proofs.lines.Lines.next_line.Goals as goal

pub returns-clause-number : goal.returns-clause-number
returns-clause-number c =
    ap (λ empty. c.args.self.now.number + (if empty then 0 else 1)) c.if-is_empty.ensures
