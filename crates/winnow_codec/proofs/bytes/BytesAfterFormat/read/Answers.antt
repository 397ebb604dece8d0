use Rattle.winnow_parser.specs.Answer.{ahead, failed}
use Rattle.winnow_codec.proofs.lemmas.Parts.{bytes-given, bytes-unfinished}
use Rattle.winnow_codec.proofs.bytes.BytesAfterFormat.read.Goals as goal

pub returns-in-Ok-read_bytes-clause-means : goal.returns-in-Ok-read_bytes-clause-means
returns-in-Ok-read_bytes-clause-means g c =
    bytes-given (g.C.Format.spells c.args.self.now.count) (g.I.StreamIsPartial.expects_more c.args.input.now) _
    (ahead g.I.Rest.location g.I.Stream.remaining c.read.new.input) c.in-Ok.count _ c.in-Ok-read_bytes.bytes c.in-Ok.ensures.means c.in-Ok-read_bytes.ensures.means

pub returns-in-Err-read_bytes-clause-means : goal.returns-in-Err-read_bytes-clause-means
returns-in-Err-read_bytes-clause-means g c =
    let flag = g.met.I.StreamIsPartial.keeps_flag c.args.input.now c.read.new.input c.in-Ok.ensures.kept in
    bytes-unfinished (g.C.Format.spells c.args.self.now.count) (g.I.StreamIsPartial.expects_more c.args.input.now) _
    (ahead g.I.Rest.location g.I.Stream.remaining c.read.new.input) c.in-Ok.count g.C.Format.same g.met.C.Exact.exact (g.met.C.Format.lawful c.args.self.now.count).prefix_free
    (failed c.in-Err-read_bytes.failure (ahead g.I.Rest.location g.I.Stream.remaining c.read_bytes.new.input)) c.in-Ok.ensures.means (rw flag at c.in-Err-read_bytes.ensures.means)
