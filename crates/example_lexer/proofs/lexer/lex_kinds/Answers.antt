use Rattle.std.proofs.Common.{ap, ◌∙◌}
use Rattle.std.specs.Prelude.{⊤}
use Rattle.std.proofs.lemmas.Result.{IfOk-at_ok, IfErr-at_err}
use Rattle.winnow_count.specs.CountRange.{least_count, greatest_count}
use Rattle.winnow_combinator.proofs.lemmas.WordLemmas.{lexer-words, lexer-never-stops}
use Rattle.example_lexer.proofs.lexer.lex_kinds.Goals as goal

pub returns : goal.returns
returns g c =
    let is = c.terminated-lexer.ensures in
    let pair = ap (λ t. t.first.inner.inner) is ∙ ap (λ r. r.inner) c.repeat.ensures.inner ∙ c.map-token.ensures.inner ∙ c.preceded.ensures in
    lexer-words g.B.Parser.means g.K.Parser.means c.args.blanks c.args.kind c.requires.lexer _ (λ token. token.kind) (λ token. token.span) (λ both token m. (ap (λ t. t.kind) m, ap (λ t. t.span) m)) ⊤ ⊥ (λ tokens. tokens.items)
    (ap (λ t. least_count t.first.counts) is ∙ c.repeat.ensures.counts.0, ap (λ t. greatest_count t.first.counts) is ∙ c.repeat.ensures.counts.1)
    (ap (λ p. p.first) pair) (ap (λ p. p.second.inner) pair ∙ c.with_span.ensures.inner) (ap (λ t. t.second) is) c.in-Ok.tokens _
    (g.met.I.Stream.positive_widths c.args.input c.requires.valid, (g.I.Location.token_start c.args.input, (c.requires.located c.args.input).1)) (IfOk-at_ok _ c.in-Ok.is c.in_ok-tokens.ensures.value)

pub unreachable-requires : goal.unreachable-requires
unreachable-requires g c =
    let is = c.terminated-lexer.ensures in
    let pair = ap (λ t. t.first.inner.inner) is ∙ ap (λ r. r.inner) c.repeat.ensures.inner ∙ c.map-token.ensures.inner ∙ c.preceded.ensures in
    let stop = IfErr-at_err _ c.in-Err.is c.in_ok-tokens.ensures.stopped in
    lexer-never-stops g.B.Parser.means g.K.Parser.means c.args.blanks c.args.kind c.requires.lexer _ (λ token. token.kind) (λ token. token.span) (λ both token m. (ap (λ t. t.kind) m, ap (λ t. t.span) m)) ⊤ ⊥ (λ tokens. tokens.items)
    (ap (λ t. least_count t.first.counts) is ∙ c.repeat.ensures.counts.0, ap (λ t. greatest_count t.first.counts) is ∙ c.repeat.ensures.counts.1)
    (ap (λ p. p.first) pair) (ap (λ p. p.second.inner) pair ∙ c.with_span.ensures.inner) (ap (λ t. t.second) is) _ stop.0
    (g.met.I.Stream.positive_widths c.args.input c.requires.valid, (g.I.Location.token_start c.args.input, (c.requires.located c.args.input).1)) stop.1.0
