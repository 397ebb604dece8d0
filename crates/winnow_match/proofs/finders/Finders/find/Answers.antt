use Rattle.std.proofs.Common.{sym, ap, ◌∙◌}
use Rattle.std.proofs.lemmas.List.{take_rest}
use Rattle.std.specs.List.{list_any}
use Rattle.winnow_match.specs.Search.{is_empty}
use Rattle.winnow_match.proofs.lemmas.SearchLemmas.{hit-none, hit-some}
use Rattle.winnow_match.proofs.finders.Finders.find.Goals as goal

pub returns-in_err-at : goal.returns-in_err-at
returns-in_err-at c =
    let some = sym (ap (list_any is_empty) c.needles-sought.ensures) ∙ sym c.has_empty.ensures ∙ c.if-has_empty.false in
    c.from_residual.ensures ∙ hit-none c.args.self.now c.args.input.now some c.in_err-at.ensures

pub returns : goal.returns
returns c =
    let bytes = c.args.input.now in
    let some = sym (ap (list_any is_empty) c.needles-sought.ensures) ∙ sym c.has_empty.ensures ∙ c.if-has_empty.false in
    let here = rw (take_rest bytes c.in_ok-at.at) at (rw c.needles-sought.ensures at c.in_ok-length.ensures.value) in
    hit-some c.args.self.now bytes c.in_ok-at.at c.in_ok-length.length some c.in_ok-at.ensures.0.before (sym here)
