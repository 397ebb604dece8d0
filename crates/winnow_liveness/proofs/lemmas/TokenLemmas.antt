-- Parsers of tokens, literals and the end ask for no more than they need.
use Rattle.std.proofs.Common.{◌≡◌, ℕ, Bool, Option, ap, arith}
use Rattle.std.specs.Prelude.{⊤}
use Rattle.winnow_stream.specs.Source.{Source}
use Rattle.winnow_match.specs.declared.compare.CompareResult.{CompareResult}
use Rattle.winnow_parser.specs.Determined.{SlicesRespect}
use Rattle.winnow_parser.specs.Literal.{IsLiteral}
use Rattle.winnow_token.specs.OneOf.{IsOneOf}
use Rattle.winnow_token.specs.Take.{Takes}
use Rattle.winnow_token.specs.TakeWhile.{TakesWhile}
use Rattle.winnow_token.proofs.lemmas.PromptLemmas.{prompt-one_of, prompt-take, prompt-take_while}
use Rattle.winnow_token.proofs.lemmas.ToldLemmas.{determined-one_of, determined-take, determined-take_while, determined-literal}
use Rattle.winnow_combinator.specs.Ending.{IsEof, IsFail}
use Rattle.winnow_combinator.proofs.lemmas.AgreeingEndLemmas.{determined-eof}
use Rattle.winnow_reader.specs.Wanted.{size_of}
use Rattle.winnow_liveness.specs.Live.{IsLive}
use Rattle.winnow_liveness.proofs.lemmas.ReaderLemmas.{IsLive-of, IsLive-ones}

-- a token of a set
pub IsLive-IsOneOf : {T : Type 0} (holds : T → Bool) → IsLive (IsOneOf holds)
IsLive-IsOneOf holds = IsLive-of ◌≡◌ (IsOneOf holds) (determined-one_of holds) (prompt-one_of holds)

-- a parser that always backtracks
pub IsLive-IsFail : {O T : Type 0} → IsLive {O = O} {T = T} IsFail
IsLive-IsFail a need more h l = absurd h

module _ {S T : Type 0} (is_slice : S → Source T → ℕ → Type 0) where
  -- of slices nothing is compared
  abbrev alike : S → S → Type 0
  alike s t = ⊤

  fronts : SlicesRespect is_slice alike
  fronts s t a b h k = tt

  -- a number of tokens
  pub IsLive-Takes : (counts_shortage : Bool) (n : ℕ) → IsLive (Takes counts_shortage is_slice n)
  IsLive-Takes counts_shortage n =
      IsLive-of alike (Takes counts_shortage is_slice n) (determined-take is_slice alike fronts counts_shortage n) (prompt-take counts_shortage is_slice n)

  -- the tokens of a set
  pub IsLive-TakesWhile : (holds : T → Bool) (least : ℕ) (greatest : Option ℕ)
      → IsLive (TakesWhile is_slice holds least greatest)
  IsLive-TakesWhile holds least greatest =
      IsLive-of alike (TakesWhile is_slice holds least greatest) (determined-take_while is_slice alike fronts holds least greatest) (prompt-take_while is_slice holds least greatest)

  -- a literal
  pub IsLive-IsLiteral : (compare : Source T → CompareResult) → IsLive (IsLiteral is_slice compare)
  IsLive-IsLiteral compare =
      IsLive-ones alike (IsLiteral is_slice compare) (determined-literal is_slice alike fronts compare)
      (λ a need h. omega (arith, ap size_of h.2))

  -- the end of the input
  pub IsLive-IsEof : IsLive (IsEof is_slice)
  IsLive-IsEof =
      IsLive-ones alike (IsEof is_slice) (determined-eof is_slice alike fronts) (λ a need h. omega (arith, ap size_of h.2))
