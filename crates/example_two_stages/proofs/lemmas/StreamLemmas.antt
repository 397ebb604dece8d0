-- The tokens of a list, as a stream lends them.
use Rattle.std.proofs.Common.{◌≡◌, ℕ, ◌+◌, List, [], ◌∷◌, refl, ap, sym, ◌∙◌}
use Rattle.std.specs.Prelude.{map}
use Rattle.std.specs.Borrow.{Bor}
use Rattle.winnow_stream.specs.Source.{Source, units}
use Rattle.winnow_stream.specs.Front.{front}
use Rattle.winnow_spans.specs.TokenSpan.{span_of}
use Rattle.winnow_grammar.specs.Spelling.{tokens_of}
use Rattle.winnow_views.specs.TokenSources.{references}
use Rattle.example_lexer.specs.declared.token.Token.{Token}

-- references to the tokens of a list are to these tokens
pub here-references : (size : ℕ) (at : ℕ × ℕ) (xs : List Token)
    → map (λ t. t.now) (tokens_of (units (references size at xs))) ≡ xs
here-references size at [] = refl
here-references size at (x ∷ xs) = ap (λ r. x ∷ r) (here-references size (at.0, size + at.1) xs)

-- the span of a list is that of the front that it is
pub spans-by : (size : ℕ) (at : ℕ × ℕ) (xs : List Token) (r : Source (Bor Token)) (n : ℕ)
    → units (references size at xs) ≡ front r n
    → span_of (λ token. token.span.start) (λ token. token.span.end) xs
    ≡ span_of (λ token. token.span.start) (λ token. token.span.end) (map (λ t. t.now) (tokens_of (front r n)))
spans-by size at xs r n e =
    ap (λ ts. span_of (λ token. token.span.start) (λ token. token.span.end) ts)
    (sym (here-references size at xs) ∙ ap (λ t. map (λ t. t.now) (tokens_of t)) e)
