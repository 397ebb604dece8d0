use Rattle.std.proofs.Common.{◌≡◌, length, take, Err, ap, sym, ◌∙◌, subst}
use Rattle.winnow_codec.specs.Checks.{SpellsChecked}
use Rattle.winnow_codec.specs.Writing.{Writes}
use Rattle.winnow_codec.proofs.lemmas.Checks.{checked-unwritten}
use Rattle.winnow_codec.proofs.lemmas.Writing.{appended-from}
use Rattle.winnow_codec.proofs.checks.CheckedByFormat.write.Goals as goal

pub returns : goal.returns
returns g c =
    let inner = g.F.Format.spells c.args.self.now.inner in
    let codes = g.C.Format.spells c.args.self.now.codes in
    let code_of = g.K.Check.code_of c.args.self.now.check in
    let old = c.args.bytes.now.items in
    let w = c.in_ok-write.ensures in
    let start : c.len-start.result ≡ length old = c.len-start.ensures ∙ c.args.bytes.now.ok.0 in
    let part = appended-from old w.0 c.deref.result.now c.len-start.result start (c.deref.ensures.value ∙ w.1.1) in
    subst (Writes (SpellsChecked inner codes code_of) c.args.value.now old (Err c.in-Err.unwritten))
    (ap (λ n. take n c.write-2.new.bytes.items) (sym start) ∙ sym c.truncate.ensures.items)
    (checked-unwritten g.F.Format.same inner (g.met.F.Format.lawful c.args.self.now.inner) codes code_of
    c.args.value.now old c.write.new.bytes.items c.write-2.new.bytes.items c.compute-code.result c.in-Err.unwritten
    w (c.compute-code.ensures ∙ ap code_of part) c.in-Err.ensures)
