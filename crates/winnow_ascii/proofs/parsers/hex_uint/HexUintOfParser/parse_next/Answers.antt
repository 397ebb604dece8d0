use Rattle.winnow_ascii.proofs.parsers.hex_uint.HexUintOfParser.parse_next.Goals as goal

pub returns-clause-means : goal.returns-clause-means
returns-clause-means g c =
    let digits = rw (c.verify_map.ensures.inner, c.take_while.ensures.set, c.take_while.ensures.counts.0, c.take_while.ensures.counts.1) at c.parse_next.ensures.means in
    rw (c.new.ensures.start, c.new.ensures.end, c.from-most.ensures, c.nibbles.ensures) at digits
