-- What a grammar means that contains itself, to a depth.
use Rattle.std.specs.Prelude.{ℕ, zero, suc, Bool}
use Rattle.winnow_parser.specs.Outcome.{Meaning}
use Rattle.winnow_parser.specs.Laws.{IsParser}
use Rattle.winnow_parser.specs.Meanings.{CutsErr}
use Rattle.winnow_parser.specs.Parts.{IsParser-CutsErr}
use Rattle.winnow_combinator.specs.Ending.{IsFail, IsParser-IsFail}
use Rattle.winnow_grammar.specs.Spelling.{Spelling}
use Rattle.winnow_exact.specs.Exact.{IsExact}

module _ {O T : Type 0} (layer : Meaning O T → Meaning O T) where
  -- a layer, in which the same stands with one layer less; below the last one the parser cuts
  abbrev pub IsNested : ℕ → Meaning O T
  IsNested zero = CutsErr IsFail
  IsNested (suc depth) = layer (IsNested depth)

  -- it keeps the laws of a parser, if a layer does whose inner parser does
  pub IsParser-IsNested : ((inner : Meaning O T) → IsParser inner → IsParser (layer inner))
      → (depth : ℕ) → IsParser (IsNested depth)
  IsParser-IsNested keeps zero = IsParser-CutsErr IsFail IsParser-IsFail
  IsParser-IsNested keeps (suc depth) = keeps (IsNested depth) (IsParser-IsNested keeps depth)

  -- it is exact for a language, if a layer is whose inner parser is
  pub IsExact-IsNested : (L : Spelling O T) (goes : T → Bool)
      → ((inner : Meaning O T) → IsExact L goes inner → IsExact L goes (layer inner))
      → (depth : ℕ) → IsExact L goes (IsNested depth)
  IsExact-IsNested L goes exact zero = record {
    gives = λ a b x w h. absurd h;
    ends = λ a b x w h. absurd h;
    none = λ a b w h. absurd h;
  }
  IsExact-IsNested L goes exact (suc depth) = exact (IsNested depth) (IsExact-IsNested L goes exact depth)
