use Rattle.std.proofs.Common.{◌<◌, length, refl, arith}
use Rattle.std.proofs.lemmas.Bool.Decides.{nat_tests}
use Rattle.format_json_scalars.specs.StringAnswers.{StringHere}
use Rattle.format_json_scalars.specs.NumberAnswers.{NumberHere}
use Rattle.format_json.specs.declared.found.Found.TheVariants.{Begun, Damaged}
use Rattle.format_json_scalars.proofs.lemmas.StringLemmas.{starts-with}
use Rattle.format_json.proofs.lemmas.FoundLemmas.{found-same}
use Rattle.format_json.proofs.lemmas.LayerLemmas.{null-found, true-found, false-found, string-begun, string-damaged, number-begun, number-damaged}
use Rattle.format_json.proofs.lemmas.BegunLemmas.{nothing-begins}
use Rattle.format_json.proofs.scalars.scalar_at.Goals as goal

pub returns-then-first-eq110-clause-found : goal.returns-then-first-eq110-clause-found
returns-then-first-eq110-clause-found c depth =
    let b = c.args.bytes.now in
    let some : 0 < length b = grind (arith, nat_tests, c.is_empty.ensures, c.if-is_empty.false) in
    null-found c.args.partial depth b (starts-with b 110 some c.if-first-eq110.true) c.word_value.result c.word_value.ensures.found

pub returns-then-first-eq116-clause-found : goal.returns-then-first-eq116-clause-found
returns-then-first-eq116-clause-found c depth =
    let b = c.args.bytes.now in
    let some : 0 < length b = grind (arith, nat_tests, c.is_empty.ensures, c.if-is_empty.false) in
    true-found c.args.partial depth b (starts-with b 116 some c.if-first-eq116.true) c.word_value-then-first-eq116.result c.word_value-then-first-eq116.ensures.found

pub returns-then-first-eq102-clause-found : goal.returns-then-first-eq102-clause-found
returns-then-first-eq102-clause-found c depth =
    let b = c.args.bytes.now in
    let some : 0 < length b = grind (arith, nat_tests, c.is_empty.ensures, c.if-is_empty.false) in
    false-found c.args.partial depth b (starts-with b 102 some c.if-first-eq102.true) c.word_value-then-first-eq102.result c.word_value-then-first-eq102.ensures.found

pub returns-in-Begun-clause-found : goal.returns-in-Begun-clause-found
returns-in-Begun-clause-found c depth =
    let b = c.args.bytes.now in
    let some : 0 < length b = grind (arith, nat_tests, c.is_empty.ensures, c.if-is_empty.false) in
    string-begun c.args.partial depth b (starts-with b 34 some c.if-first-eq34.true) (found-same StringHere c.args.partial b b c.in_ok-value.field-0 Begun c.in_ok-value.ensures.found refl c.in-Begun.is)

pub returns-in-Damaged-clause-found : goal.returns-in-Damaged-clause-found
returns-in-Damaged-clause-found c depth =
    let b = c.args.bytes.now in
    let some : 0 < length b = grind (arith, nat_tests, c.is_empty.ensures, c.if-is_empty.false) in
    string-damaged c.args.partial depth b (starts-with b 34 some c.if-first-eq34.true) c.in-Damaged.width (found-same StringHere c.args.partial b b c.in_ok-value.field-0 (Damaged c.in-Damaged.width) c.in_ok-value.ensures.found refl c.in-Damaged.is)

pub returns-in-Begun-2-clause-found : goal.returns-in-Begun-2-clause-found
returns-in-Begun-2-clause-found c depth =
    let b = c.args.bytes.now in
    let some : 0 < length b = grind (arith, nat_tests, c.is_empty.ensures, c.if-is_empty.false) in
    number-begun c.args.partial depth b some c.if-first-eq110.false c.if-first-eq116.false c.if-first-eq102.false c.if-first-eq34.false c.requires.no_array c.requires.no_object (found-same (NumberHere c.args.partial) c.args.partial b b c.in_ok-value-2.field-0 Begun c.in_ok-value-2.ensures.found refl c.in-Begun-2.is)

pub returns-in-Damaged-2-clause-found : goal.returns-in-Damaged-2-clause-found
returns-in-Damaged-2-clause-found c depth =
    let b = c.args.bytes.now in
    let some : 0 < length b = grind (arith, nat_tests, c.is_empty.ensures, c.if-is_empty.false) in
    number-damaged c.args.partial depth b some c.if-first-eq110.false c.if-first-eq116.false c.if-first-eq102.false c.if-first-eq34.false c.requires.no_array c.requires.no_object c.in-Damaged-2.width (found-same (NumberHere c.args.partial) c.args.partial b b c.in_ok-value-2.field-0 (Damaged c.in-Damaged-2.width) c.in_ok-value-2.ensures.found refl c.in-Damaged-2.is)

pub returns-then-partial-clause-begun : goal.returns-then-partial-clause-begun
returns-then-partial-clause-begun c =
    nothing-begins c.args.bytes.now (grind (arith, nat_tests, c.is_empty.ensures, c.if-is_empty.true))
