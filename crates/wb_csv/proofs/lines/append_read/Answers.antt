use Rattle.std.proofs.Common.{◌≡◌, ◌∙◌, ◌++◌, ℕ, ap, sym, subst}
use Rattle.wb_base.specs.Exchanging.{exchanged}
use Rattle.wb_base.proofs.lemmas.ExchangeLemmas.{same}
use Rattle.wb_csv.specs.Lines.{field_by}
use Rattle.wb_csv.proofs.lines.append_read.Goals as goal

pub returns-then-settings-eq44 : goal.returns-then-settings-eq44
returns-then-settings-eq44 c =
    let s = c.args.settings.now in
    let field = c.args.field.now in
    let is : exchanged 44 s.delimiter field ≡ field = subst (λ (d : ℕ). exchanged 44 d field ≡ field) (sym c.if-settings-eq44.true) (same 44 field) in
    c.in_ok-append_field.ensures ∙ ap (λ v. c.args.text.now.items ++ field_by s.layout v) (sym is)
