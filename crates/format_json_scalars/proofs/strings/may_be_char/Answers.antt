use Rattle.std.proofs.Common.{◌∷◌, ◌-◌, ◌<◌, length, take, drop, subst, arith}
use Rattle.std.proofs.lemmas.Bool.Decides.{nat_tests}
use Rattle.std.proofs.lemmas.List.{take_rest}
use Rattle.format_json_scalars.specs.Escapes.{IsEscape}
use Rattle.format_json_scalars.specs.declared.escapes.Escape.TheVariants.{Whole, Begun, Wrong}
use Rattle.format_json_scalars.proofs.lemmas.StringLemmas.{slash-escape}
use Rattle.format_json_scalars.proofs.lemmas.CharLemmas.{nothing-may, no-may, spelled-begins}
use Rattle.format_json_scalars.proofs.strings.may_be_char.Goals as goal

pub returns-then-is_empty : goal.returns-then-is_empty
returns-then-is_empty c =
    nothing-may c.args.bytes.now (grind (arith, nat_tests, c.is_empty.ensures, c.if-is_empty.true))

pub unreachable-requires : goal.unreachable-requires
unreachable-requires c =
    let b = c.args.bytes.now in
    let after = take (length b - 1) (drop 1 b) in
    let some : 0 < length b = grind (arith, nat_tests, c.is_empty.ensures, c.if-is_empty.false) in
    let answer = Whole c.in-Whole.field-0 c.in-Whole.field-1 in
    let h = slash-escape b answer some c.if-bytes-ne92.false (subst (λ t. IsEscape (92 ∷ t) answer) (take_rest b 1) (subst (λ r. IsEscape (92 ∷ after) r) c.in-Whole.is c.escape_at.ensures)) in
    c.requires (spelled-begins c.in-Whole.field-0 b c.in-Whole.field-1 h.2)

pub returns-in-Begun : goal.returns-in-Begun
returns-in-Begun c =
    let b = c.args.bytes.now in
    let after = take (length b - 1) (drop 1 b) in
    let some : 0 < length b = grind (arith, nat_tests, c.is_empty.ensures, c.if-is_empty.false) in
    slash-escape b Begun some c.if-bytes-ne92.false (subst (λ t. IsEscape (92 ∷ t) Begun) (take_rest b 1) (subst (λ r. IsEscape (92 ∷ after) r) c.in-Begun.is c.escape_at.ensures))

pub returns-in-Wrong : goal.returns-in-Wrong
returns-in-Wrong c =
    let b = c.args.bytes.now in
    let after = take (length b - 1) (drop 1 b) in
    let some : 0 < length b = grind (arith, nat_tests, c.is_empty.ensures, c.if-is_empty.false) in
    no-may b (slash-escape b Wrong some c.if-bytes-ne92.false (subst (λ t. IsEscape (92 ∷ t) Wrong) (take_rest b 1) (subst (λ r. IsEscape (92 ∷ after) r) c.in-Wrong.is c.escape_at.ensures)))
