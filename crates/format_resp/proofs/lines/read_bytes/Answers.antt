use Rattle.std.proofs.Common.{◌∙◌}
use Rattle.winnow_parser.specs.Answer.{ahead, failed}
use Rattle.winnow_parser.specs.Meanings.{IsTerminated, CutsErr}
use Rattle.winnow_token.specs.Take.{Takes}
use Rattle.format_lemmas.proofs.lemmas.GatheredLemmas.{gathered-fails}
use Rattle.format_resp.specs.Meanings.{HasBytes, LineEnd}
use Rattle.format_resp.proofs.lines.read_bytes.Goals as goal

pub returns-in-Ok-from_slice-clause-means : goal.returns-in-Ok-from_slice-clause-means
returns-in-Ok-from_slice-clause-means g c =
    (c.in-Ok.slice, (c.in-Ok-from_slice.ensures.items ∙ c.as_bytes.ensures, rw (c.cut_err.ensures, c.terminated-held.ensures, c.take.ensures, c.one_of.ensures, c.one_of-2.ensures) at c.in-Ok.ensures.means))

pub returns-clause-means : goal.returns-clause-means
returns-clause-means g c =
    let stands = ahead g.I.Rest.location g.I.Stream.remaining in
    gathered-fails (HasBytes g.I.Slice.AsBytes.bytes) (CutsErr (IsTerminated (Takes g.I.Stream.counts_shortage g.I.Stream.is_slice c.args.count) (LineEnd g.I.Token.AsChar.code)))
    (g.I.StreamIsPartial.expects_more c.args.input.now) (stands c.args.input.now) (failed c.in-Err.failure (stands c.parse_next.new.input))
    (rw (c.cut_err.ensures, c.terminated-held.ensures, c.take.ensures, c.one_of.ensures, c.one_of-2.ensures) at c.in-Err.ensures.means)
