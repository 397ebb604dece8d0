use Rattle.std.proofs.Common.{◌∙◌}
use Rattle.winnow_codec.specs.FormatNumbers.{big_endian}
use Rattle.winnow_codec.specs.declared.widths.Width.TheVariants.{One, Two, Three, Four, Eight}
use Rattle.winnow_codec.proofs.lemmas.Reading.{takes-both}
use Rattle.winnow_codec.proofs.lemmas.Words.{takes-number, big-1, big-2, big-3, big-4, big-8}
use Rattle.winnow_codec.proofs.orders.BigEndianByteOrder.read_number.Goals as goal

pub returns-in-One-clause-taken : goal.returns-in-One-clause-taken
returns-in-One-clause-taken g c =
    takes-number big_endian c.args.width One _ _ _ _ c.in-One.is (big-1 _ _ c.one.ensures.byte c.from.ensures) c.one.ensures.taken

pub returns-in-Two-clause-taken : goal.returns-in-Two-clause-taken
returns-in-Two-clause-taken g c =
    let small = c.two-a.ensures.bytes in
    takes-number big_endian c.args.width Two _ _ _ _ c.in-Two.is
    (big-2 _ _ _ small.0 small.1 (c.from-in-Two.ensures ∙ c.from_be_bytes.ensures)) c.two-a.ensures.taken

pub returns-in-Three-clause-taken : goal.returns-in-Three-clause-taken
returns-in-Three-clause-taken g c =
    let small = c.three-a.ensures.bytes in
    takes-number big_endian c.args.width Three _ _ _ _ c.in-Three.is
    (big-3 _ _ _ _ small.0 small.1 small.2 (c.from-in-Three.ensures ∙ c.from_be_bytes-in-Three.ensures)) c.three-a.ensures.taken

pub returns-in-Four-clause-taken : goal.returns-in-Four-clause-taken
returns-in-Four-clause-taken g c =
    let small = c.four-a.ensures.bytes in
    takes-number big_endian c.args.width Four _ _ _ _ c.in-Four.is
    (big-4 _ _ _ _ _ small.0 small.1 small.2 small.3 (c.from-in-Four.ensures ∙ c.from_be_bytes-in-Four.ensures)) c.four-a.ensures.taken

pub returns-in-Eight-clause-taken : goal.returns-in-Eight-clause-taken
returns-in-Eight-clause-taken g c =
    let first = c.four-a-in-Eight.ensures.bytes in
    let last = c.four-e.ensures.bytes in
    takes-number big_endian c.args.width Eight _ _ _ _ c.in-Eight.is
    (big-8 _ _ _ _ _ _ _ _ _ first.0 first.1 first.2 first.3 last.0 last.1 last.2 last.3 c.from_be_bytes-in-Eight.ensures)
    (takes-both c.four-a-in-Eight.ensures.taken c.four-e.ensures.taken)
