use Rattle.std.specs.Prelude.{nat_lt, nat_eq}
use Rattle.std.proofs.Common.{◌≡◌, true, false, ◌&&◌, ap, sym, ◌∙◌, arith}
use Rattle.std.proofs.lemmas.Bool.Decides.{nat_tests}
use Rattle.winnow_stream.specs.Source.{width}
use Rattle.winnow_token.proofs.lemmas.TakeWhileLemmas.{and_true, and_false, is_offset-counted, IsFound-counted}
use Rattle.winnow_token.proofs.parsers.take_while.longest_within.Goals as goal

pub returns-then-count-greatest-clause-offset : goal.returns-then-count-greatest-clause-offset
returns-then-count-greatest-clause-offset g c =
    is_offset-counted (g.I.Stream.remaining c.args.input.now) (g.met.I.Stream.positive_widths c.args.input.now c.requires.valid) c.count_held-count.result.0 c.count_held-count.result.1 c.count_held-count.ensures.count c.count_held-count.ensures.end

pub returns-then-count-greatest-clause-found : goal.returns-then-count-greatest-clause-found
returns-then-count-greatest-clause-found g c = λ holds h.
    IsFound-counted (g.I.Stream.remaining c.args.input.now) (g.met.I.Stream.positive_widths c.args.input.now c.requires.valid) holds c.args.least c.args.greatest c.count_held-count.result.0 c.count_held-count.result.1 _ c.count_held-count.ensures.count c.count_held-count.ensures.end (c.count_held-count.ensures.held holds h)
    (
    let fewer : nat_lt c.count_held-count.result.0 c.args.greatest ≡ true = grind (arith, nat_tests, c.if-count-greatest.true) in
    ap (λ n. nat_eq c.count_held-count.result.1 n) c.eof_offset.ensures
    ∙ and_true _
    ∙ ap (λ b. nat_eq c.count_held-count.result.1 (width (g.I.Stream.remaining c.args.input.now)) && b) (sym fewer)
    )

pub returns-else-count-greatest-clause-offset : goal.returns-else-count-greatest-clause-offset
returns-else-count-greatest-clause-offset g c =
    is_offset-counted (g.I.Stream.remaining c.args.input.now) (g.met.I.Stream.positive_widths c.args.input.now c.requires.valid) c.count_held-count.result.0 c.count_held-count.result.1 c.count_held-count.ensures.count c.count_held-count.ensures.end

pub returns-else-count-greatest-clause-found : goal.returns-else-count-greatest-clause-found
returns-else-count-greatest-clause-found g c = λ holds h.
    IsFound-counted (g.I.Stream.remaining c.args.input.now) (g.met.I.Stream.positive_widths c.args.input.now c.requires.valid) holds c.args.least c.args.greatest c.count_held-count.result.0 c.count_held-count.result.1 _ c.count_held-count.ensures.count c.count_held-count.ensures.end (c.count_held-count.ensures.held holds h)
    (
    let reached : nat_lt c.count_held-count.result.0 c.args.greatest ≡ false = grind (arith, nat_tests, c.if-count-greatest.false) in
    reached ∙ sym (and_false (nat_eq c.count_held-count.result.1 (width (g.I.Stream.remaining c.args.input.now))) _ reached)
    )
