use Rattle.std.proofs.Common.{◌≡◌, ◌++◌, length, replicate, ap, sym, ◌∙◌, subst}
use Rattle.winnow_parser.specs.Answer.{ahead, failed}
use Rattle.winnow_parser.specs.Outcome.{Gives, Fails}
use Rattle.winnow_codec.specs.Alignment.{bytes_to_multiple, SpellsZeros}
use Rattle.winnow_codec.specs.Formats.{Reads}
use Rattle.winnow_codec.specs.Literals.{SpellsLiteral}
use Rattle.winnow_codec.proofs.lemmas.Checks.{checked-given, checked-unfinished}
use Rattle.winnow_codec.proofs.alignment.ToMultipleFormat.read.Goals as goal

pub returns-in-Ok-read-clause-means : goal.returns-in-Ok-read-clause-means
returns-in-Ok-read-clause-means g c =
    let stands = ahead g.I.Rest.location g.I.Stream.remaining in
    let partial = g.I.StreamIsPartial.expects_more c.args.input.now in
    let inner = g.F.Format.spells c.args.self.now.inner in
    let multiple = c.args.self.now.multiple in
    let part = c.write.new.bytes.items in
    let w = c.in-Ok-write.ensures in
    let spelled = subst (inner c.in-Ok.value) (sym (w.1.1 ∙ ap (λ l. l ++ w.0) c.new-part.ensures.items)) w.1.0 in
    let long : c.len.result ≡ length part = c.len.ensures ∙ c.write.new.bytes.ok.0 in
    let is : c.padding.result.count ≡ bytes_to_multiple multiple (length part) =
    ap (λ p. p.count) c.padding.ensures ∙ c.bytes_to_multiple-missing.ensures ∙ ap (bytes_to_multiple multiple) long in
    checked-given inner SpellsZeros (λ l. bytes_to_multiple multiple (length l)) partial (stands c.args.input.now) g.F.Format.same (g.met.F.Format.lawful c.args.self.now.inner)
    (stands c.read.new.input) c.in-Ok.value part spelled (stands c.read-2.new.input) c.in-Ok.ensures.means
    (subst (λ n. Reads (SpellsLiteral (replicate n 0)) partial (stands c.read.new.input) (Gives tt (stands c.read-2.new.input))) is c.in-Ok-read.ensures.means)

pub returns-in-Err-read-clause-means : goal.returns-in-Err-read-clause-means
returns-in-Err-read-clause-means g c =
    let stands = ahead g.I.Rest.location g.I.Stream.remaining in
    let partial = g.I.StreamIsPartial.expects_more c.args.input.now in
    let inner = g.F.Format.spells c.args.self.now.inner in
    let multiple = c.args.self.now.multiple in
    let part = c.write.new.bytes.items in
    let w = c.in-Ok-write.ensures in
    let spelled = subst (inner c.in-Ok.value) (sym (w.1.1 ∙ ap (λ l. l ++ w.0) c.new-part.ensures.items)) w.1.0 in
    let long : c.len.result ≡ length part = c.len.ensures ∙ c.write.new.bytes.ok.0 in
    let is : c.padding.result.count ≡ bytes_to_multiple multiple (length part) =
    ap (λ p. p.count) c.padding.ensures ∙ c.bytes_to_multiple-missing.ensures ∙ ap (bytes_to_multiple multiple) long in
    let flag = g.met.I.StreamIsPartial.keeps_flag c.args.input.now c.read.new.input c.in-Ok.ensures.kept in
    let f = failed c.in-Err-read.failure (stands c.read-2.new.input) in
    checked-unfinished inner SpellsZeros (λ l. bytes_to_multiple multiple (length l)) partial (stands c.args.input.now) g.F.Format.same (g.met.F.Format.lawful c.args.self.now.inner)
    (stands c.read.new.input) c.in-Ok.value part spelled f c.in-Ok.ensures.means
    (subst (λ n. Reads (SpellsLiteral (replicate n 0)) partial (stands c.read.new.input) (Fails f)) is (rw flag at c.in-Err-read.ensures.means))
