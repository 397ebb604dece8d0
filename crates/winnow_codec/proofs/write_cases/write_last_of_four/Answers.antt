use Rattle.std.proofs.Common.{refl, sym, subst}
use Rattle.winnow_codec.specs.Byte.{SpellsByte}
use Rattle.winnow_codec.specs.Writing.{Writes}
use Rattle.winnow_codec.specs.Cases.{SpellsTagged, SpellsCase, SpellsLast, case_tag, only_tag}
use Rattle.winnow_codec.specs.declared.choice.Choice.TheVariants.{Other}
use Rattle.winnow_codec.proofs.lemmas.Tags.{case-written}
use Rattle.winnow_codec.proofs.write_cases.write_last_of_four.Goals as goal

pub returns : goal.returns
returns g c =
    λ v e. subst (λ w. Writes (SpellsTagged SpellsByte (case_tag g.row.T1 (case_tag g.row.T2 (case_tag g.row.T3 (only_tag g.row.T4)))) (SpellsCase g.row.T1 (g.A.Format.spells c.args.format.now.cases.0) (SpellsCase g.row.T2 (g.B.Format.spells c.args.format.now.cases.1.0) (SpellsCase g.row.T3 (g.C.Format.spells c.args.format.now.cases.1.1.0) (SpellsLast g.row.T4 (g.D.Format.spells c.args.format.now.cases.1.1.1.0)))))) w c.args.bytes.now.items c.write_case.result c.write_case.new.bytes.items) (sym e)
    (case-written (g.D.Format.spells c.args.format.now.cases.1.1.1.0) (case_tag g.row.T1 (case_tag g.row.T2 (case_tag g.row.T3 (only_tag g.row.T4))))
    (SpellsCase g.row.T1 (g.A.Format.spells c.args.format.now.cases.0) (SpellsCase g.row.T2 (g.B.Format.spells c.args.format.now.cases.1.0) (SpellsCase g.row.T3 (g.C.Format.spells c.args.format.now.cases.1.1.0) (SpellsLast g.row.T4 (g.D.Format.spells c.args.format.now.cases.1.1.1.0)))))
    c.args.value.now (Other (Other (Other c.args.value.now))) (λ b s. (c.if-this.false, (c.if-this-2.false, (c.if-this-3.false, (refl, s))))) (λ b s. s.1.1.1.1)
    c.args.bytes.now.items c.write_case.new.bytes.items c.write_case.result c.write_case.ensures)
