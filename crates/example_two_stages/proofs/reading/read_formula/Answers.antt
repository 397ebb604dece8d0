use Rattle.std.proofs.Common.{◌-◌, arith, length, drop, length-drop}
use Rattle.std.specs.Prelude.{IfOk}
use Rattle.std.proofs.lemmas.List.{take_all}
use Rattle.std.proofs.lemmas.Result.{IfOk-weaker, IfOk-at_ok}
use Rattle.example_two_stages.specs.Formulas.{Sum, Writes, IsFormula}
use Rattle.example_two_stages.proofs.reading.read_formula.Goals as goal

pub returns : goal.returns
returns c =
    let source = c.args.source.now in
    let start = c.args.start in
    let items = c.in_ok-tokens.tokens.items in
    let lexed = rw (c.at-bytes.ensures.input, c.at-bytes.ensures.location, c.as_bytes.ensures.value) at (IfOk-at_ok _ c.in_ok-tokens.was c.lex.ensures) in
    let are = rw (take_all (length source - start) (drop start source) (omega (arith, length-drop start source))) at lexed in
    let written = rw c.deref.ensures.value at c.read_tokens.ensures in
    IfOk-weaker c.read_tokens.result (λ answer. IfOk answer (λ tree. Writes source Sum tree items)) (λ answer. IfOk answer (IsFormula source start))
    (λ answer. IfOk-weaker answer (λ tree. Writes source Sum tree items) (IsFormula source start) (λ tree h. (items, (are, h)))) written
