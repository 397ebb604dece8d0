use Rattle.winnow_parser.specs.Answer.{ahead, failed}
use Rattle.winnow_codec.specs.FormatRows.{SpellsPair}
use Rattle.winnow_codec.proofs.lemmas.Reading.{parts-unread}
use Rattle.winnow_codec.proofs.preceded.AfterFormat.read.Goals as goal

pub returns-in-Err-clause-means : goal.returns-in-Err-clause-means
returns-in-Err-clause-means g c =
    let formats = c.args.self.now.formats in
    parts-unread (λ v. (tt, v)) (SpellsPair (g.S.Format.spells formats.0) (g.F.Format.spells formats.1)) (g.I.StreamIsPartial.expects_more c.args.input.now) _
    (failed c.in-Err.failure (ahead g.I.Rest.location g.I.Stream.remaining c.read.new.input)) c.in-Err.ensures.means
