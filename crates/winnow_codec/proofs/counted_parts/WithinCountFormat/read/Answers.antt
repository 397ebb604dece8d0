use Rattle.std.proofs.Common.{Err, sym, subst}
use Rattle.winnow_codec.specs.WholeFormats.{ReadsWhole}
use Rattle.winnow_parser.specs.Answer.{ahead, failed}
use Rattle.winnow_codec.proofs.lemmas.Parts.{within-given, within-malformed, within-unfinished}
use Rattle.winnow_codec.proofs.counted_parts.WithinCountFormat.read.Goals as goal

pub returns-in-Ok-read_whole-clause-means : goal.returns-in-Ok-read_whole-clause-means
returns-in-Ok-read_whole-clause-means g c =
    within-given (g.C.Format.spells c.args.self.now.count) (g.W.Whole.spells c.args.self.now.part) (g.I.StreamIsPartial.expects_more c.args.input.now) _
    (ahead g.I.Rest.location g.I.Stream.remaining c.read.new.input) c.in-Ok.count _ c.in-Ok-read_bytes.bytes c.in-Ok-read_whole.value c.in-Ok.ensures.means c.in-Ok-read_bytes.ensures.means
    (subst (λ l. g.W.Whole.spells c.args.self.now.part c.in-Ok-read_whole.value l) c.deref.ensures.value c.in-Ok-read_whole.ensures)

pub returns-in-Err-Malformed-clause-means : goal.returns-in-Err-Malformed-clause-means
returns-in-Err-Malformed-clause-means g c =
    let part = g.W.Whole.spells c.args.self.now.part in
    let none = subst (λ u. ReadsWhole part c.deref.result.now (Err u)) c.in-Err-Malformed.field-0-is c.in-Err-Malformed.ensures in
    within-malformed (g.C.Format.spells c.args.self.now.count) part (g.I.StreamIsPartial.expects_more c.args.input.now) _
    (ahead g.I.Rest.location g.I.Stream.remaining c.read.new.input) c.in-Ok.count g.C.Format.same g.met.C.Exact.exact (g.met.C.Format.lawful c.args.self.now.count).prefix_free
    _ c.in-Ok-read_bytes.bytes c.in-Ok.ensures.means c.in-Ok-read_bytes.ensures.means (λ v s. none v (subst (part v) (sym c.deref.ensures.value) s))

pub returns-in-Ok-clause-means : goal.returns-in-Ok-clause-means
returns-in-Ok-clause-means g c =
    let flag = g.met.I.StreamIsPartial.keeps_flag c.args.input.now c.read.new.input c.in-Ok.ensures.kept in
    within-unfinished (g.C.Format.spells c.args.self.now.count) (g.W.Whole.spells c.args.self.now.part) (g.I.StreamIsPartial.expects_more c.args.input.now) _
    (ahead g.I.Rest.location g.I.Stream.remaining c.read.new.input) c.in-Ok.count g.C.Format.same g.met.C.Exact.exact (g.met.C.Format.lawful c.args.self.now.count).prefix_free
    (failed c.in-Err-read_bytes.failure (ahead g.I.Rest.location g.I.Stream.remaining c.read_bytes.new.input)) c.in-Ok.ensures.means (rw flag at c.in-Err-read_bytes.ensures.means)
