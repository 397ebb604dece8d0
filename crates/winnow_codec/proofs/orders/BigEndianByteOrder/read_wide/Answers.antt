use Rattle.std.proofs.Common.{◌≡◌, ◌+◌, ◌*◌, ap, ◌∙◌, subst}
use Rattle.winnow_parser.specs.Answer.{ahead}
use Rattle.winnow_codec.specs.Formats.{Takes}
use Rattle.winnow_codec.specs.Orders.{big-halves}
use Rattle.winnow_codec.proofs.lemmas.Reading.{takes-both}
use Rattle.winnow_codec.proofs.orders.BigEndianByteOrder.read_wide.Goals as goal

pub returns-clause-taken : goal.returns-clause-taken
returns-clause-taken g c =
    let stands = ahead g.I.Rest.location g.I.Stream.remaining in
    let high = c.read_number-high.result in
    let low = c.read_number-low.result in
    let number = c.from.result * 18446744073709551616 + c.from-2.result in
    let is : number ≡ high * 18446744073709551616 + low =
    ap (λ x. x * 18446744073709551616 + c.from-2.result) c.from.ensures ∙ ap (λ y. high * 18446744073709551616 + y) c.from-2.ensures in
    subst (λ l. Takes l (stands c.args.input.now) (stands c.read_number-low.new.input)) (big-halves high low number c.read_number-low.ensures.fits is)
    (takes-both c.read_number-high.ensures.taken c.read_number-low.ensures.taken)
