use Rattle.std.proofs.Common.{Err, sym, subst}
use Rattle.winnow_parser.specs.Answer.{ahead}
use Rattle.winnow_codec.specs.WholeFormats.{ReadsWhole}
use Rattle.winnow_codec.proofs.lemmas.Insides.{inside-malformed}
use Rattle.winnow_codec.proofs.frames.InsideFormat.read.Goals as goal

pub returns-in-Err-Malformed-clause-means : goal.returns-in-Err-Malformed-clause-means
returns-in-Err-Malformed-clause-means g c =
    let part = g.W.Whole.spells c.args.self.now.part in
    let none = subst (λ u. ReadsWhole part c.deref.result.now (Err u)) c.in-Err-Malformed.field-0-is c.in-Err-Malformed.ensures in
    inside-malformed (g.F.Frame.frames c.args.self.now.frame) part (g.I.StreamIsPartial.expects_more c.args.input.now) _
    (ahead g.I.Rest.location g.I.Stream.remaining c.read_part.new.input) (g.met.F.Frame.lawful c.args.self.now.frame).prefix_free
    c.in-Ok.bytes c.in-Ok.ensures.means (λ v s. none v (subst (part v) (sym c.deref.ensures.value) s))
