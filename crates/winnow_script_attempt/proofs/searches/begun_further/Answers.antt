use Rattle.std.proofs.Common.{◌≡◌, ◌<◌, drop, length, ap, refl, sym, ◌∙◌, arith}
use Rattle.winnow_match.specs.declared.compare.CompareResult.TheVariants.{Incomplete}
use Rattle.winnow_match.specs.Comparison.{comparison}
use Rattle.winnow_match.specs.Search.{needle_of, bytes_of_needles}
use Rattle.winnow_script_attempt.proofs.lemmas.BegunLemmas.{begun-waits, begun-more}
use Rattle.winnow_script_attempt.proofs.searches.begun_further.Goals as goal

pub returns-in-Incomplete : goal.returns-in-Incomplete
returns-in-Incomplete c =
    let ls = bytes_of_needles c.args.needles.now in
    let bs = c.args.bytes.now in
    let s = c.args.settled in
    let begun : 0 < s.compared = omega (arith, c.if-settled-eq0.false) in
    let e : comparison (needle_of ls s.needle) (drop s.width bs) ≡ Incomplete =
    ap (λ n. comparison n (drop s.width bs)) (sym c.needle_of-needle.ensures) ∙ ap (comparison c.needle_of-needle.result.now) (sym c.behind-ahead.ensures) ∙ sym c.compare_from.ensures ∙ c.in-Incomplete.is
    in
    (begun-waits ls bs s c.requires begun e, begun-more ls bs s c.requires begun e _ refl refl (ap length c.behind-ahead.ensures))
