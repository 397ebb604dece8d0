-- A byte and what another parser reads after it.
use Rattle.std.proofs.Common.{ℕ, ◌<◌, ◌==◌, Bool, inl, inr, ap, arith}
use Rattle.winnow_stream.specs.Source.{width, HasPositiveWidths}
use Rattle.winnow_stream.proofs.lemmas.FrontLemmas.{width-append}
use Rattle.winnow_parser.specs.Outcome.{Ahead, Failed, Backtracks, Cuts, Needs, Refuses, Gives, Fails, Meaning}
use Rattle.winnow_parser.specs.Laws.{IsParser}
use Rattle.winnow_parser.specs.Meanings.{IsPreceded}
use Rattle.winnow_token.specs.OneOf.{IsParser-IsOneOf}
use Rattle.winnow_combinator.specs.Repeat.{Taking}
use Rattle.format_lemmas.proofs.lemmas.TokenLemmas.{positive-moved, byte-narrower}
use Rattle.format_csv.specs.Meanings.{Byte}

module _ {O : Type 0} (n : ℕ) {inner : Meaning O ℕ} (p : IsParser inner) (partial : Bool) (a : Ahead ℕ) (wide : HasPositiveWidths a.tokens) where
  -- after both, fewer widths remain
  after-narrower : (x : O) (c : Ahead ℕ) → IsPreceded (Byte n) inner partial a (Gives x c)
      → width c.tokens < width a.tokens
  after-narrower x c (both, (is, (b, (h, k)))) =
      let m = p.onward partial b (Gives both.1 c) k in
      omega (arith, byte-narrower n partial a b both.0 wide h, ap width m.whole, width-append m.taken c.tokens)

  -- so a repetition fails only as both do
  pub taking-fails : (f : Failed ℕ) → Taking (IsPreceded (Byte n) inner) partial a (Fails f)
      → IsPreceded (Byte n) inner partial a (Fails f)
  taking-fails (Backtracks b) h = h
  taking-fails (Cuts b) (inl h) = h
  taking-fails (Cuts b) (inr h) = absurd (omega (arith, after-narrower h.0 b h.1.0, h.1.1))
  taking-fails (Needs m) h = h
  taking-fails Refuses h = h

  -- after a value of both, the tokens that remain have positive widths
  pub after-positive : (x : O) (c : Ahead ℕ) → IsPreceded (Byte n) inner partial a (Gives x c)
      → HasPositiveWidths c.tokens
  after-positive x c (both, (is, (b, (h, k)))) =
      positive-moved b c (p.onward partial b (Gives both.1 c) k)
      (positive-moved a b ((IsParser-IsOneOf (λ token. n == token)).onward partial a (Gives both.0 b) h) wide)
