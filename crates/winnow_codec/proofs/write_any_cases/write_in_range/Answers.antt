use Rattle.std.proofs.Common.{refl, sym, subst}
use Rattle.winnow_codec.specs.Byte.{SpellsByte}
use Rattle.winnow_codec.specs.Writing.{Writes}
use Rattle.winnow_codec.specs.Cases.{SpellsTagged}
use Rattle.winnow_codec.specs.CasesOfAny.{SpellsRange, range_tag}
use Rattle.winnow_codec.specs.declared.choice.Choice.TheVariants.{First}
use Rattle.winnow_codec.proofs.lemmas.Tags.{case-written}
use Rattle.winnow_codec.proofs.write_any_cases.write_in_range.Goals as goal

pub returns : goal.returns
returns g c =
    let tag_of = range_tag (g.R.Cases.tag_of c.args.format.now.cases.1) in
    let cases = SpellsRange g.row.LOWEST g.row.HIGHEST (g.A.Format.spells c.args.format.now.cases.0) (g.R.Cases.spells c.args.format.now.cases.1) in
    λ v e. subst (λ w. Writes (SpellsTagged SpellsByte tag_of cases) w c.args.bytes.now.items c.write_case.result c.write_case.new.bytes.items) (sym e)
    (case-written (g.A.Format.spells c.args.format.now.cases.0) tag_of cases
    c.args.value.now (First (c.args.label, c.args.value.now)) (λ b s. (c.is_in_range.ensures.0 c.if-not-is_in_range.false, (refl, s))) (λ b s. s.1.1)
    c.args.bytes.now.items c.write_case.new.bytes.items c.write_case.result c.write_case.ensures)
