use Rattle.std.proofs.Common.{◌^◌, ◌+◌, ◌*◌, ◌%◌, inl, inr, arith, ap, ◌∙◌, sym}
use Rattle.winnow_binary.specs.declared.endianness.Endianness.TheVariants.{Big, Little}
use Rattle.winnow_binary.specs.FieldBytes.{with_byte}
use Rattle.winnow_binary.proofs.lemmas.ByteLemmas.{with_byte-below, with_byte-fits, shifted-byte}
use Rattle.winnow_binary.proofs.bit_number.with_byte.Goals as goal

pub overflow_mul-result : goal.overflow_mul-result
overflow_mul-result c = omega (arith, with_byte-fits Big c.args.count c.args.number c.args.byte c.requires.count c.requires.bound c.ranges.byte.fits)

pub overflow_add-result : goal.overflow_add-result
overflow_add-result c = omega (arith, with_byte-fits Big c.args.count c.args.number c.args.byte c.requires.count c.requires.bound c.ranges.byte.fits, c.from.ensures)

pub overflow_add-result-in-Little : goal.overflow_add-result-in-Little
overflow_add-result-in-Little c =
    let shifted = ap (λ b. b * 2 ^ (8 * c.args.count) % 18446744073709551616) c.from-in-Little.ensures ∙ shifted-byte c.args.count c.args.byte c.requires.count c.ranges.byte.fits in
    omega (arith, with_byte-fits Little c.args.count c.args.number c.args.byte c.requires.count c.requires.bound c.ranges.byte.fits, shifted)

pub returns-in-Little : goal.returns-in-Little
returns-in-Little c =
    let shifted = ap (λ b. c.args.number + b * 2 ^ (8 * c.args.count) % 18446744073709551616) c.from-in-Little.ensures ∙ ap (λ n. c.args.number + n) (shifted-byte c.args.count c.args.byte c.requires.count c.ranges.byte.fits) in
    elim c.in-Little.is [
      | inl e ↦ let whole = shifted ∙ sym (ap (λ o. with_byte o c.args.count c.args.number c.args.byte) e) in record { number = whole; bound = omega (arith, whole, with_byte-below c.args.order c.args.count c.args.number c.args.byte c.requires.bound c.ranges.byte.fits) }
      | inr e ↦ let whole = shifted ∙ sym (ap (λ o. with_byte o c.args.count c.args.number c.args.byte) e) in record { number = whole; bound = omega (arith, whole, with_byte-below c.args.order c.args.count c.args.number c.args.byte c.requires.bound c.ranges.byte.fits) }
    ]
