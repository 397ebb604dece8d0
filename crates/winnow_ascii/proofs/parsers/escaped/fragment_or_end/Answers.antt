use Rattle.std.proofs.Common.{◌∙◌, ap, sym, inr, arith}
use Rattle.winnow_parser.specs.Answer.{ahead}
use Rattle.winnow_ascii.specs.Escaped.{end_answer}
use Rattle.winnow_ascii.proofs.lemmas.EscapedLemmas.{no-width}
use Rattle.winnow_ascii.proofs.parsers.escaped.fragment_or_end.Goals as goal

pub returns-then-is_partial-clause-means : goal.returns-then-is_partial-clause-means
returns-then-is_partial-clause-means g c =
    let input = c.args.input.now in
    let rest = g.I.Stream.remaining input in
    let empty = no-width rest (g.met.I.Stream.positive_widths input c.requires.valid) (omega (arith, c.if-eof_offset-gt0.false, c.eof_offset.ensures)) in
    inr (empty, ap (λ more. end_answer more (ahead g.I.Rest.location g.I.Stream.remaining input)) (sym c.if-is_partial.true ∙ c.is_partial.ensures))

pub returns-clause-means : goal.returns-clause-means
returns-clause-means g c =
    let input = c.args.input.now in
    let rest = g.I.Stream.remaining input in
    let empty = no-width rest (g.met.I.Stream.positive_widths input c.requires.valid) (omega (arith, c.if-eof_offset-gt0.false, c.eof_offset.ensures)) in
    inr (empty, ap (λ more. end_answer more (ahead g.I.Rest.location g.I.Stream.remaining input)) (sym c.if-is_partial.false ∙ c.is_partial.ensures))
