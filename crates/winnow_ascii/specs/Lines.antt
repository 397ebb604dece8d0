-- The ends of lines: a newline (10), or a carriage return (13) and a newline.
use Rattle.std.specs.Prelude.{◌≡◌, ℕ, ◌==◌, ◌||◌, not, None}
use Rattle.winnow_stream.specs.Source.{Source}
use Rattle.winnow_count.specs.CountRange.{HasCounts}
use Rattle.winnow_parser.specs.Outcome.{Meaning}
use Rattle.winnow_parser.specs.Meanings.{Pair, IsNot, IsTerminated}
use Rattle.winnow_token.specs.OneOf.{IsOneOf}
use Rattle.winnow_token.specs.TakeWhile.{TakesWhile}
use Rattle.winnow_token.specs.declared.parsers.take_till.TakeTill.{TakeTill}
use Rattle.winnow_token.specs.declared.parsers.one_of.OneOf.{OneOf}
use Rattle.winnow_combinator.specs.declared.parsers.terminated.Terminated.{Terminated}
use Rattle.winnow_combinator.specs.declared.parsers.not.Not.{Not}

-- the type of the parser of the text of a line
abbrev pub TillLineEnding : Type 0
TillLineEnding = Terminated (TakeTill (ℕ × ℕ)) (Not (OneOf ℕ × Not (OneOf ℕ)))

-- the parser takes all characters up to the first carriage return or newline
abbrev pub TakesToReturn : TakeTill (ℕ × ℕ) → Type 0
TakesToReturn p = (p.set ≡ (13, 10)) × HasCounts 0 None p.counts

-- the parser takes these, if no carriage return without a newline follows them
abbrev pub IsTillLineEnding : TillLineEnding → Type 0
IsTillLineEnding p = TakesToReturn p.first × (p.second.inner.0.set ≡ 13) × (p.second.inner.1.inner.set ≡ 10)

-- the meaning of such a parser, for tokens that stand for characters
abbrev pub TakesTillLineEnding : {S T : Type 0} → (S → Source T → ℕ → Type 0) → (T → ℕ)
    → Meaning S T
TakesTillLineEnding is_slice code = IsTerminated (TakesWhile is_slice (λ token. not (13 == code token || 10 == code token)) 0 None)
    (IsNot (Pair (IsOneOf (λ token. 13 == code token)) (IsNot (IsOneOf (λ token. 10 == code token)))))
