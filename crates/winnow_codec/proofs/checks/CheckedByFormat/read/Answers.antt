use Rattle.std.proofs.Common.{◌≡◌, ◌++◌, ap, sym, ◌∙◌, subst}
use Rattle.winnow_parser.specs.Answer.{ahead, failed}
use Rattle.winnow_parser.specs.Outcome.{Gives, Fails}
use Rattle.winnow_codec.specs.Formats.{Reads}
use Rattle.winnow_codec.specs.Known.{SpellsExactly}
use Rattle.winnow_codec.proofs.lemmas.Checks.{checked-given, checked-unfinished}
use Rattle.winnow_codec.proofs.checks.CheckedByFormat.read.Goals as goal

pub returns-in-Ok-read_code-clause-means : goal.returns-in-Ok-read_code-clause-means
returns-in-Ok-read_code-clause-means g c =
    let stands = ahead g.I.Rest.location g.I.Stream.remaining in
    let partial = g.I.StreamIsPartial.expects_more c.args.input.now in
    let inner = g.F.Format.spells c.args.self.now.inner in
    let codes = g.C.Format.spells c.args.self.now.codes in
    let code_of = g.K.Check.code_of c.args.self.now.check in
    let part = c.write.new.bytes.items in
    let w = c.in-Ok-write.ensures in
    let spelled = subst (inner c.in-Ok.value) (sym (w.1.1 ∙ ap (λ l. l ++ w.0) c.new-part.ensures.items)) w.1.0 in
    let is : c.compute.result ≡ code_of part = c.compute.ensures ∙ ap code_of c.deref.ensures.value in
    checked-given inner codes code_of partial (stands c.args.input.now) g.F.Format.same (g.met.F.Format.lawful c.args.self.now.inner)
    (stands c.read.new.input) c.in-Ok.value part spelled (stands c.read_code.new.input) c.in-Ok.ensures.means
    (subst (λ n. Reads (SpellsExactly codes n) partial (stands c.read.new.input) (Gives tt (stands c.read_code.new.input))) is c.in-Ok-read_code.ensures.means)

pub returns-in-Err-read_code-clause-means : goal.returns-in-Err-read_code-clause-means
returns-in-Err-read_code-clause-means g c =
    let stands = ahead g.I.Rest.location g.I.Stream.remaining in
    let partial = g.I.StreamIsPartial.expects_more c.args.input.now in
    let inner = g.F.Format.spells c.args.self.now.inner in
    let codes = g.C.Format.spells c.args.self.now.codes in
    let code_of = g.K.Check.code_of c.args.self.now.check in
    let part = c.write.new.bytes.items in
    let w = c.in-Ok-write.ensures in
    let spelled = subst (inner c.in-Ok.value) (sym (w.1.1 ∙ ap (λ l. l ++ w.0) c.new-part.ensures.items)) w.1.0 in
    let is : c.compute.result ≡ code_of part = c.compute.ensures ∙ ap code_of c.deref.ensures.value in
    let flag = g.met.I.StreamIsPartial.keeps_flag c.args.input.now c.read.new.input c.in-Ok.ensures.kept in
    let f = failed c.in-Err-read_code.failure (stands c.read_code.new.input) in
    checked-unfinished inner codes code_of partial (stands c.args.input.now) g.F.Format.same (g.met.F.Format.lawful c.args.self.now.inner)
    (stands c.read.new.input) c.in-Ok.value part spelled f c.in-Ok.ensures.means
    (subst (λ n. Reads (SpellsExactly codes n) partial (stands c.read.new.input) (Fails f)) is (rw flag at c.in-Err-read_code.ensures.means))
