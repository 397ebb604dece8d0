use Rattle.std.proofs.Common.{refl, sym, subst}
use Rattle.winnow_codec.specs.Byte.{SpellsByte}
use Rattle.winnow_codec.specs.Writing.{Writes}
use Rattle.winnow_codec.specs.Cases.{SpellsTagged, SpellsCase, case_tag}
use Rattle.winnow_codec.specs.CasesOfAny.{SpellsAnyOther, kept_tag}
use Rattle.winnow_codec.specs.declared.choice.Choice.TheVariants.{Other}
use Rattle.winnow_codec.proofs.lemmas.Tags.{case-written}
use Rattle.winnow_codec.proofs.write_any_cases.write_other_of_three.Goals as goal

pub returns : goal.returns
returns g c =
    let tag_of = case_tag g.row.T1 (case_tag g.row.T2 kept_tag) in
    let cases = SpellsCase g.row.T1 (g.A.Format.spells c.args.format.now.cases.0) (SpellsCase g.row.T2 (g.B.Format.spells c.args.format.now.cases.1.0) (SpellsAnyOther (g.C.Format.spells c.args.format.now.cases.1.1.format))) in
    λ v e. subst (λ w. Writes (SpellsTagged SpellsByte tag_of cases) w c.args.bytes.now.items c.write_case.result c.write_case.new.bytes.items) (sym e)
    (case-written (g.C.Format.spells c.args.format.now.cases.1.1.format) tag_of cases
    c.args.value.now (Other (Other (c.args.label, c.args.value.now))) (λ b s. (c.if-label.false, (c.if-label-2.false, (refl, s)))) (λ b s. s.1.1.1)
    c.args.bytes.now.items c.write_case.new.bytes.items c.write_case.result c.write_case.ensures)
