use Rattle.std.proofs.Common.{refl, sym, subst}
use Rattle.winnow_codec.specs.Byte.{SpellsByte}
use Rattle.winnow_codec.specs.Writing.{Writes}
use Rattle.winnow_codec.specs.Cases.{SpellsTagged, SpellsCase, case_tag}
use Rattle.winnow_codec.specs.declared.choice.Choice.TheVariants.{First}
use Rattle.winnow_codec.proofs.lemmas.Tags.{case-written}
use Rattle.winnow_codec.proofs.write_cases.write_first.Goals as goal

pub returns : goal.returns
returns g c =
    λ v e. subst (λ w. Writes (SpellsTagged SpellsByte (case_tag g.row.T1 (g.R.Cases.tag_of c.args.format.now.cases.1)) (SpellsCase g.row.T1 (g.A.Format.spells c.args.format.now.cases.0) (g.R.Cases.spells c.args.format.now.cases.1))) w c.args.bytes.now.items c.write_case.result c.write_case.new.bytes.items) (sym e)
    (case-written (g.A.Format.spells c.args.format.now.cases.0) (case_tag g.row.T1 (g.R.Cases.tag_of c.args.format.now.cases.1))
    (SpellsCase g.row.T1 (g.A.Format.spells c.args.format.now.cases.0) (g.R.Cases.spells c.args.format.now.cases.1))
    c.args.value.now (First c.args.value.now) (λ b s. (refl, s)) (λ b s. s.1)
    c.args.bytes.now.items c.write_case.new.bytes.items c.write_case.result c.write_case.ensures)
