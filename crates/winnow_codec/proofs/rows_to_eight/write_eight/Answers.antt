use Rattle.std.proofs.Common.{◌≡◌, Err, length, take, ap, sym, ◌∙◌, subst}
use Rattle.winnow_codec.specs.FormatRows.{nested8, SpellsRow7, SpellsRow8}
use Rattle.winnow_codec.specs.Writing.{Writes}
use Rattle.winnow_codec.proofs.lemmas.Writing.{both-unwritten}
use Rattle.winnow_codec.proofs.rows_to_eight.write_eight.Goals as goal

pub returns-in-Err : goal.returns-in-Err
returns-in-Err g c =
    let first = g.A.Format.spells c.args.formats.now.0 in
    let rest = SpellsRow7 (g.B.Format.spells c.args.formats.now.1) (g.C.Format.spells c.args.formats.now.2) (g.D.Format.spells c.args.formats.now.3) (g.F.Format.spells c.args.formats.now.4) (g.G.Format.spells c.args.formats.now.5) (g.H.Format.spells c.args.formats.now.6) (g.J.Format.spells c.args.formats.now.7) in
    let old = c.args.bytes.now.items in
    let new = c.write_seven.new.bytes.items in
    let cut : c.truncate.new.self.items ≡ take (length old) new = c.truncate.ensures.items ∙ ap (λ n. take n new) (c.len-start.ensures ∙ c.args.bytes.now.ok.0) in
    subst (Writes (SpellsRow8 (g.A.Format.spells c.args.formats.now.0) (g.B.Format.spells c.args.formats.now.1) (g.C.Format.spells c.args.formats.now.2) (g.D.Format.spells c.args.formats.now.3) (g.F.Format.spells c.args.formats.now.4) (g.G.Format.spells c.args.formats.now.5) (g.H.Format.spells c.args.formats.now.6) (g.J.Format.spells c.args.formats.now.7)) (c.args.first.now, c.args.second.now, c.args.third.now, c.args.fourth.now, c.args.fifth.now, c.args.sixth.now, c.args.seventh.now, c.args.eighth.now) old (Err c.in-Err.unwritten)) (sym cut)
    (both-unwritten nested8 first rest (c.args.first.now, c.args.second.now, c.args.third.now, c.args.fourth.now, c.args.fifth.now, c.args.sixth.now, c.args.seventh.now, c.args.eighth.now) old c.write.new.bytes.items new c.in-Err.unwritten c.in_ok-write.ensures c.in-Err.ensures)
