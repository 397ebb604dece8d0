use Rattle.std.proofs.Common.{◌≡◌, ◌+◌, ◌*◌, ◌/◌, ◌%◌, [], ◌∷◌, ap, ◌∙◌, arith}
use Rattle.winnow_parser.specs.Answer.{ahead, failed}
use Rattle.winnow_codec.specs.Byte.{SpellsByte}
use Rattle.winnow_codec.specs.Nibbles.{SpellsNibbles}
use Rattle.winnow_codec.proofs.lemmas.Reading.{fewer-unread}
use Rattle.winnow_codec.proofs.half_bytes.HalfBytesFormat.read.Goals as goal

pub returns-in-Ok-clause-means : goal.returns-in-Ok-clause-means
returns-in-Ok-clause-means g c =
    let h = c.in-Ok.ensures.means in
    let byte = c.in-Ok.byte in
    let joined : byte ≡ byte / 16 * 16 + byte % 16 = omega arith in
    (h.0, ((omega (arith, h.1.0.0), omega arith, h.1.0.1 ∙ ap (λ n. n ∷ []) joined), h.1.1))

pub returns-in-Err-clause-means : goal.returns-in-Err-clause-means
returns-in-Err-clause-means g c =
    fewer-unread SpellsByte SpellsNibbles (λ p. p.0 * 16 + p.1) (λ p bytes s. (omega (arith, s.0, s.1), s.2))
    (g.I.StreamIsPartial.expects_more c.args.input.now) _ (failed c.in-Err.failure (ahead g.I.Rest.location g.I.Stream.remaining c.read.new.input)) c.in-Err.ensures.means
