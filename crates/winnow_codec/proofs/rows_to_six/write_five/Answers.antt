use Rattle.std.proofs.Common.{◌≡◌, Err, length, take, ap, sym, ◌∙◌, subst}
use Rattle.winnow_codec.specs.FormatRows.{nested5, SpellsRow4, SpellsRow5}
use Rattle.winnow_codec.specs.Writing.{Writes}
use Rattle.winnow_codec.proofs.lemmas.Writing.{both-unwritten}
use Rattle.winnow_codec.proofs.rows_to_six.write_five.Goals as goal

pub returns-in-Err : goal.returns-in-Err
returns-in-Err g c =
    let first = g.A.Format.spells c.args.formats.now.0 in
    let rest = SpellsRow4 (g.B.Format.spells c.args.formats.now.1) (g.C.Format.spells c.args.formats.now.2) (g.D.Format.spells c.args.formats.now.3) (g.F.Format.spells c.args.formats.now.4) in
    let old = c.args.bytes.now.items in
    let new = c.write_four.new.bytes.items in
    let cut : c.truncate.new.self.items ≡ take (length old) new = c.truncate.ensures.items ∙ ap (λ n. take n new) (c.len-start.ensures ∙ c.args.bytes.now.ok.0) in
    subst (Writes (SpellsRow5 (g.A.Format.spells c.args.formats.now.0) (g.B.Format.spells c.args.formats.now.1) (g.C.Format.spells c.args.formats.now.2) (g.D.Format.spells c.args.formats.now.3) (g.F.Format.spells c.args.formats.now.4)) (c.args.first.now, c.args.second.now, c.args.third.now, c.args.fourth.now, c.args.fifth.now) old (Err c.in-Err.unwritten)) (sym cut)
    (both-unwritten nested5 first rest (c.args.first.now, c.args.second.now, c.args.third.now, c.args.fourth.now, c.args.fifth.now) old c.write.new.bytes.items new c.in-Err.unwritten c.in_ok-write.ensures c.in-Err.ensures)
