-- Lines: the bytes before a line feed, which is 10, or before the end of the input.
use Rattle.std.specs.Prelude.{◌≡◌, ◌≢◌, ℕ, ◌==◌, Bool, not, List, None}
use Rattle.std.specs.List.{AllByRecursion}
use Rattle.std.specs.Borrow.{Bor}
use Rattle.std.specs.declared.vec.Vec.{Vec}
use Rattle.std.specs.declared.alloc.Global.{Global}
use Rattle.winnow_count.specs.CountRange.{HasCounts}
use Rattle.winnow_parser.specs.Outcome.{Meaning}
use Rattle.winnow_parser.specs.Laws.{IsParser}
use Rattle.winnow_parser.specs.Meanings.{IsTerminated, IsOpt}
use Rattle.winnow_parser.specs.Parts.{IsParser-IsTerminated, IsParser-IsOpt}
use Rattle.winnow_token.specs.OneOf.{IsOneOf, IsParser-IsOneOf}
use Rattle.winnow_token.specs.TakeWhile.{TakesWhile, IsParser-TakesWhile}
use Rattle.winnow_token.specs.declared.parsers.take_till.TakeTill.{TakeTill}
use Rattle.winnow_token.specs.declared.parsers.one_of.OneOf.{OneOf}
use Rattle.winnow_combinator.specs.declared.parsers.opt.Opt.{Opt}
use Rattle.winnow_combinator.specs.declared.parsers.terminated.Terminated.{Terminated}
use Rattle.winnow_reader.specs.Copied.{Copied, IsParser-Copied}
use Rattle.winnow_reader.specs.Place.{IsByteSlice, SlicesStay-bytes}

-- the parser takes all bytes up to the next line feed, and that line feed if it follows
abbrev pub IsLine : Terminated (TakeTill ℕ) (Opt (OneOf ℕ)) → Type 0
IsLine p = (p.first.set ≡ 10) × HasCounts 0 None p.first.counts × (p.second.inner.set ≡ 10)

-- a byte is no line feed
abbrev pub is_other : ℕ → Bool
is_other byte = not (10 == byte)

-- a slice of the bytes before a line feed, and then this byte, if it follows
abbrev pub LineBefore : ℕ → Meaning (Bor (List ℕ)) ℕ
LineBefore end = IsTerminated (TakesWhile IsByteSlice is_other 0 None) (IsOpt (IsOneOf (λ byte. end == byte)))

-- a slice of the bytes before a line feed, and the line feed if one follows
abbrev pub LineSlice : Meaning (Bor (List ℕ)) ℕ
LineSlice = LineBefore 10

-- a copy of it
abbrev pub OneLine : Meaning (Vec ℕ Global) ℕ
OneLine = Copied (λ s. s.now) (λ v. v.items) LineSlice

-- no byte is a line feed
abbrev pub HasNoFeed : List ℕ → Type 0
HasNoFeed bytes = AllByRecursion (λ byte. byte ≢ 10) bytes

-- `OneLine` keeps the laws of a parser
pub IsParser-OneLine : IsParser OneLine
IsParser-OneLine = IsParser-Copied (λ s. s.now) (λ v. v.items) LineSlice
    (IsParser-IsTerminated (TakesWhile IsByteSlice is_other 0 None) (IsOpt (IsOneOf (λ byte. 10 == byte)))
    (IsParser-TakesWhile IsByteSlice SlicesStay-bytes is_other 0 None)
    (IsParser-IsOpt (IsOneOf (λ byte. 10 == byte)) (IsParser-IsOneOf (λ byte. 10 == byte))))
