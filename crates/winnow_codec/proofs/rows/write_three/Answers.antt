use Rattle.std.proofs.Common.{◌≡◌, Err, length, take, ap, sym, ◌∙◌, subst}
use Rattle.winnow_codec.specs.FormatRows.{nested3, SpellsPair, SpellsRow3}
use Rattle.winnow_codec.specs.Writing.{Writes}
use Rattle.winnow_codec.proofs.lemmas.Writing.{both-unwritten}
use Rattle.winnow_codec.proofs.rows.write_three.Goals as goal

pub returns-in-Err : goal.returns-in-Err
returns-in-Err g c =
    let first = g.A.Format.spells c.args.formats.now.0 in
    let rest = SpellsPair (g.B.Format.spells c.args.formats.now.1) (g.C.Format.spells c.args.formats.now.2) in
    let old = c.args.bytes.now.items in
    let new = c.write_two.new.bytes.items in
    let cut : c.truncate.new.self.items ≡ take (length old) new = c.truncate.ensures.items ∙ ap (λ n. take n new) (c.len-start.ensures ∙ c.args.bytes.now.ok.0) in
    subst (Writes (SpellsRow3 (g.A.Format.spells c.args.formats.now.0) (g.B.Format.spells c.args.formats.now.1) (g.C.Format.spells c.args.formats.now.2)) (c.args.first.now, c.args.second.now, c.args.third.now) old (Err c.in-Err.unwritten)) (sym cut)
    (both-unwritten nested3 first rest (c.args.first.now, c.args.second.now, c.args.third.now) old c.write.new.bytes.items new c.in-Err.unwritten c.in_ok-write.ensures c.in-Err.ensures)
