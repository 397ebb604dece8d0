use Rattle.std.proofs.Common.{rules, [], All, IfOk, refl}
use Rattle.std.proofs.lemmas.Result.{IfOk-weaker}
use Rattle.winnow_stream.specs.Source.{units, HoldsAll}
use Rattle.winnow_combinator.proofs.lemmas.WordLemmas.{words-stand}
use Rattle.example_lexer.specs.Tokens.{is_blank, IsText, IsWord, AreTokens, StandsIn}
use Rattle.example_lexer.proofs.lemmas.LexerLemmas.{length-text}
use Rattle.example_lexer.proofs.lexer.tokens.Goals as goal

pub returns-clause-spans : goal.returns-clause-spans
returns-clause-spans c =
    let text = c.args.text.now in
    let are : IfOk c.lex.result (λ tokens. AreTokens (units text) 0 tokens.items) = search rules in
    IfOk-weaker c.lex.result (λ tokens. AreTokens (units text) 0 tokens.items) (λ tokens. All (StandsIn text) tokens.items)
    (λ tokens are. words-stand (HoldsAll is_blank) (λ token. IsWord token.kind) (λ token. token.span) (λ token. IsText token.kind) (λ token front rest is. (is.0, length-text token.kind front is.0)) text [] (units text) 0 tokens.items refl refl are) are
