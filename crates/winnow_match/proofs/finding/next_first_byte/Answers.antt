use Rattle.std.proofs.Common.{ap}
use Rattle.memchr.specs.Find.{is_byte, is_byte2, is_byte3}
use Rattle.winnow_match.specs.Search.{bytes_of_needles}
use Rattle.winnow_match.proofs.lemmas.SearchLemmas.{next-first, begin-one, begin-two, begin-three}
use Rattle.winnow_match.proofs.finding.next_first_byte.Goals as goal

pub returns-in-One : goal.returns-in-One
returns-in-One c =
    let ls = bytes_of_needles c.args.needles.now in
    let x = c.first_byte.result in
    let begins = begin-one ls c.requires c.in-One.a.now x (ap bytes_of_needles c.in-One.is) c.first_byte.ensures in
    next-first (is_byte x) ls c.args.input.now c.memchr.result begins c.memchr.ensures

pub returns-in-Two : goal.returns-in-Two
returns-in-Two c =
    let ls = bytes_of_needles c.args.needles.now in
    let x = c.first_byte-in-Two.result in
    let y = c.first_byte-in-Two-2.result in
    let begins = begin-two ls c.requires c.in-Two.a.now c.in-Two.b.now x y (ap bytes_of_needles c.in-Two.is) c.first_byte-in-Two.ensures c.first_byte-in-Two-2.ensures in
    next-first (is_byte2 x y) ls c.args.input.now c.memchr2.result begins c.memchr2.ensures

pub returns-in-Three : goal.returns-in-Three
returns-in-Three c =
    let ls = bytes_of_needles c.args.needles.now in
    let x = c.first_byte-in-Three.result in
    let y = c.first_byte-in-Three-2.result in
    let z = c.first_byte-in-Three-3.result in
    let begins = begin-three ls c.requires c.in-Three.a.now c.in-Three.b.now c.in-Three.c.now x y z (ap bytes_of_needles c.in-Three.is) c.first_byte-in-Three.ensures c.first_byte-in-Three-2.ensures c.first_byte-in-Three-3.ensures in
    next-first (is_byte3 x y z) ls c.args.input.now c.memchr3.result begins c.memchr3.ensures
