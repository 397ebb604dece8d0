use Rattle.std.proofs.Common.{◌≡◌, ◌<◌, length, ap, sym, ◌∙◌, arith}
use Rattle.std.proofs.lemmas.Bool.Decides.{nat_tests}
use Rattle.std.specs.Prelude.{codes}
use Rattle.wb_replies3.specs.Printing.{breaks, breaks_after}
use Rattle.wb_replies3.proofs.lemmas.PrintingLemmas.{shape-array, shape-set, shape-push, breaks-list, breaks-map, breaks-one, breaks-none, breaks-some}
use Rattle.wb_replies3.proofs.breaking.+breaking.Goals as goal

pub breaks-returns-in-Array : goal.breaks-returns-in-Array
breaks-returns-in-Array t c =
    let y = c.args.reply.now in
    let held = c.deref.result.now in
    c.some_break.ensures ∙ sym (breaks-list y 41 (codes "(empty array)") c.in-Array.replies.items held (shape-array y c.in-Array.replies c.in-Array.is) c.deref.ensures.value)

pub breaks-returns-in-Map : goal.breaks-returns-in-Map
breaks-returns-in-Map t c =
    c.pairs_break.ensures ∙ sym (breaks-map c.args.reply.now c.in-Map.pairs c.deref-in-Map.result.now c.in-Map.is c.deref-in-Map.ensures.value)

pub breaks-returns-in-Set : goal.breaks-returns-in-Set
breaks-returns-in-Set t c =
    let y = c.args.reply.now in
    let held = c.deref-in-Set.result.now in
    c.some_break-in-Set.ensures ∙ sym (breaks-list y 126 (codes "(empty set)") c.in-Set.replies.items held (shape-set y c.in-Set.replies c.in-Set.is) c.deref-in-Set.ensures.value)

pub breaks-returns-in-Push : goal.breaks-returns-in-Push
breaks-returns-in-Push t c =
    let y = c.args.reply.now in
    let held = c.deref-in-Push.result.now in
    c.some_break-in-Push.ensures ∙ sym (breaks-list y 41 (codes "(empty push)") c.in-Push.replies.items held (shape-push y c.in-Push.replies c.in-Push.is) c.deref-in-Push.ensures.value)

pub some_break-returns-then-is_empty : goal.some_break-returns-then-is_empty
some_break-returns-then-is_empty t c =
    let items = c.args.replies.now in
    let none : length items ≡ 0 = grind (arith, nat_tests, c.is_empty.ensures, c.if-is_empty.true) in
    sym (breaks-none breaks items none)

pub some_break-returns-then-replies-eq1 : goal.some_break-returns-then-replies-eq1
some_break-returns-then-replies-eq1 t c =
    let items = c.args.replies.now in
    let one : length items ≡ 1 = omega (arith, c.if-replies-eq1.true) in
    c.breaks.ensures ∙ ap breaks c.index-replies-0.is ∙ sym (breaks-one breaks items c.index-replies-0.result one)

pub some_break-returns : goal.some_break-returns
some_break-returns t c =
    let items = c.args.replies.now in
    let some : 0 < length items = grind (arith, nat_tests, c.is_empty.ensures, c.if-is_empty.false) in
    let many : 1 < length items = omega (arith, some, c.if-replies-eq1.false) in
    sym (breaks-some breaks items many)

pub pairs_break-returns-then-is_empty : goal.pairs_break-returns-then-is_empty
pairs_break-returns-then-is_empty t c =
    let items = c.args.pairs.now in
    let none : length items ≡ 0 = grind (arith, nat_tests, c.is_empty.ensures, c.if-is_empty.true) in
    sym (breaks-none breaks_after items none)

pub pairs_break-returns-then-pairs-eq1 : goal.pairs_break-returns-then-pairs-eq1
pairs_break-returns-then-pairs-eq1 t c =
    let items = c.args.pairs.now in
    let one : length items ≡ 1 = omega (arith, c.if-pairs-eq1.true) in
    c.breaks.ensures ∙ sym (breaks-one breaks_after items c.index-pairs-0.result one)

pub pairs_break-returns : goal.pairs_break-returns
pairs_break-returns t c =
    let items = c.args.pairs.now in
    let some : 0 < length items = grind (arith, nat_tests, c.is_empty.ensures, c.if-is_empty.false) in
    let many : 1 < length items = omega (arith, some, c.if-pairs-eq1.false) in
    sym (breaks-some breaks_after items many)
