-- What the parsers of fields and records mean, as they are written with the combinators.
use Rattle.std.specs.Prelude.{◌≡◌, ℕ, ◌==◌, Bool, not, List, [], ◌∷◌, ◌++◌, None, ⊤}
use Rattle.std.specs.List.{flat_map}
use Rattle.std.specs.declared.vec.Vec.{Vec}
use Rattle.std.specs.declared.alloc.Global.{Global}
use Rattle.winnow_stream.specs.Source.{Source}
use Rattle.winnow_stream.specs.Longer.{SlicesStay}
use Rattle.winnow_count.specs.CountRange.{HasCounts}
use Rattle.winnow_parser.specs.Outcome.{Meaning}
use Rattle.winnow_parser.specs.Laws.{IsParser}
use Rattle.winnow_parser.specs.Meanings.{Maps, IsForgotten, Pair, IsPreceded, IsTerminated, IsAlt2, IsNot, CutsErr}
use Rattle.winnow_parser.specs.Parts.{IsParser-Maps, IsParser-Pair, IsParser-IsPreceded, IsParser-IsTerminated, IsParser-IsAlt2, IsParser-IsNot, IsParser-CutsErr}
use Rattle.winnow_token.specs.OneOf.{IsOneOf, IsParser-IsOneOf}
use Rattle.winnow_token.specs.TakeWhile.{TakesWhile, IsParser-TakesWhile}
use Rattle.winnow_token.specs.declared.parsers.take_till.TakeTill.{TakeTill}
use Rattle.winnow_token.specs.declared.parsers.one_of.OneOf.{OneOf}
use Rattle.winnow_combinator.specs.Appended.{Appending, IsParser-Appending}
use Rattle.winnow_combinator.specs.Repeat.{Repeats, IsParser-Repeats}
use Rattle.winnow_combinator.specs.Gathering.{Gathered, IsParser-Gathered}
use Rattle.winnow_combinator.specs.Separated.{IsSeparated, Countable, IsParser-IsSeparated, IsParser-Countable}
use Rattle.winnow_combinator.specs.Alt.{IsAlt3, IsParser-IsAlt3}
use Rattle.winnow_combinator.specs.Ending.{IsEof, IsParser-IsEof}
use Rattle.winnow_combinator.specs.declared.parsers.terminated.Terminated.{Terminated}
use Rattle.winnow_combinator.specs.declared.parsers.preceded.Preceded.{Preceded}
use Rattle.winnow_combinator.specs.declared.parsers.cut_err.CutErr.{CutErr}
use Rattle.format_csv.specs.Fields.{is_plain}

-- the type of the parser of what stands between two quotes
abbrev pub ChunkParser : Type 0
ChunkParser = Preceded (OneOf ℕ) (Terminated (TakeTill ℕ) (CutErr (OneOf ℕ)))

-- the parser takes a quote, all bytes up to the next quote, and that quote
abbrev pub IsChunk : ChunkParser → Type 0
IsChunk p = (p.first.set ≡ 34) × (p.second.first.set ≡ 34) × HasCounts 0 None p.second.first.counts
    × (p.second.second.inner.set ≡ 34)

-- one byte
abbrev pub Byte : ℕ → Meaning ℕ ℕ
Byte byte = IsOneOf (λ token. byte == token)

-- any byte except a quote
abbrev pub is_other : ℕ → Bool
is_other byte = not (34 == byte)

-- a value for a quoted field: with a quote after it, it is the chunks with a quote after each
abbrev pub IsOfChunks : {S : Type 0} → (S → List ℕ) → List S → Vec ℕ Global → Type 0
IsOfChunks bytes chunks field =
    field.items ++ 34 ∷ [] ≡ flat_map (λ chunk. bytes chunk ++ 34 ∷ []) chunks

-- the record has these fields
abbrev pub HasFields : List (Vec ℕ Global) → Vec (Vec ℕ Global) Global → Type 0
HasFields fields row = row.items ≡ fields

module _ {S : Type 0} (is_slice : S → Source ℕ → ℕ → Type 0) (bytes : S → List ℕ) where
  -- what stands between two quotes; the parser cuts where the closing one is missing
  abbrev pub Chunk : Meaning S ℕ
  Chunk = IsPreceded (Byte 34) (IsTerminated (TakesWhile is_slice is_other 0 None) (CutsErr (Byte 34)))

  -- a quoted field: chunks, one after the other
  abbrev pub QuotedField : Meaning (Vec ℕ Global) ℕ
  QuotedField = Gathered ⊤ (IsOfChunks bytes) (Repeats 1 None Chunk)

  -- a field without quotes: the bytes up to the first that is not plain
  abbrev pub PlainField : Meaning (Vec ℕ Global) ℕ
  PlainField =
      Gathered ⊤ (λ slice field. field.items ≡ bytes slice) (TakesWhile is_slice is_plain 0 None)

  -- a field of either kind
  abbrev pub AnyField : Type 0 → Type 0 → Meaning (Vec ℕ Global) ℕ
  AnyField appends refusable = Appending appends (IsAlt2 refusable QuotedField PlainField)

  -- fields with commas between them
  abbrev pub FieldList : Type 0 → Type 0 → Meaning (Vec (Vec ℕ Global) Global) ℕ
  FieldList appends refusable =
      Countable (Gathered ⊤ HasFields (IsSeparated 1 None (Byte 44) (AnyField appends refusable)))

-- the end of a record: LF, CR LF, or the end of the input
abbrev pub RecordEnd : {S : Type 0} → (S → Source ℕ → ℕ → Type 0) → Type 0 → Type 0
    → Meaning (Unit {0}) ℕ
RecordEnd is_slice appends refusable = Appending appends (IsAlt3 refusable (Maps IsForgotten (Byte 10))
    (Maps IsForgotten (Pair (Byte 13) (Byte 10))) (Maps IsForgotten (IsEof is_slice)))

-- a record: fields and an end, where the input has not ended; the parser cuts where the end is
-- missing
abbrev pub OneRow : {S : Type 0} → (S → Source ℕ → ℕ → Type 0) → (S → List ℕ) → Type 0
    → Type 0 → Meaning (Vec (Vec ℕ Global) Global) ℕ
OneRow is_slice bytes appends refusable =
    IsPreceded (IsNot (IsEof is_slice))
    (IsTerminated (FieldList is_slice bytes appends refusable) (CutsErr (RecordEnd is_slice appends refusable)))

-- `RecordEnd` keeps the laws of a parser
pub IsParser-RecordEnd : {S : Type 0} (is_slice : S → Source ℕ → ℕ → Type 0)
    (appends refusable : Type 0)
    → IsParser (RecordEnd is_slice appends refusable)
IsParser-RecordEnd is_slice appends refusable =
    let byte : (n : ℕ) → IsParser (Byte n) = λ n. IsParser-IsOneOf (λ token. n == token) in
    IsParser-Appending appends (IsParser-IsAlt3 refusable (IsParser-Maps IsForgotten (Byte 10) (byte 10))
    (IsParser-Maps IsForgotten (Pair (Byte 13) (Byte 10)) (IsParser-Pair (Byte 13) (Byte 10) (byte 13) (byte 10)))
    (IsParser-Maps IsForgotten (IsEof is_slice) (IsParser-IsEof is_slice)))

module _ {S : Type 0} (is_slice : S → Source ℕ → ℕ → Type 0) (bytes : S → List ℕ) (stay : SlicesStay is_slice) where
  -- `Chunk` keeps the laws of a parser
  pub IsParser-Chunk : IsParser (Chunk is_slice bytes)
  IsParser-Chunk =
      let held = TakesWhile is_slice is_other 0 None in
      let close = CutsErr (Byte 34) in
      IsParser-IsPreceded (Byte 34) (IsTerminated held close) (IsParser-IsOneOf (λ token. 34 == token))
      (IsParser-IsTerminated held close (IsParser-TakesWhile is_slice stay is_other 0 None)
      (IsParser-CutsErr (Byte 34) (IsParser-IsOneOf (λ token. 34 == token))))

  -- `QuotedField` keeps the laws of a parser
  pub IsParser-QuotedField : IsParser (QuotedField is_slice bytes)
  IsParser-QuotedField = IsParser-Gathered ⊤ (IsOfChunks bytes) (IsParser-Repeats 1 None IsParser-Chunk)

  -- `PlainField` keeps the laws of a parser
  pub IsParser-PlainField : IsParser (PlainField is_slice bytes)
  IsParser-PlainField = IsParser-Gathered ⊤ (λ slice field. field.items ≡ bytes slice) (IsParser-TakesWhile is_slice stay is_plain 0 None)

  -- `AnyField` keeps the laws of a parser
  pub IsParser-AnyField : (appends refusable : Type 0)
      → IsParser (AnyField is_slice bytes appends refusable)
  IsParser-AnyField appends refusable =
      IsParser-Appending appends (IsParser-IsAlt2 refusable (QuotedField is_slice bytes) (PlainField is_slice bytes) IsParser-QuotedField IsParser-PlainField)

  -- `FieldList` keeps the laws of a parser
  pub IsParser-FieldList : (appends refusable : Type 0)
      → IsParser (FieldList is_slice bytes appends refusable)
  IsParser-FieldList appends refusable =
      IsParser-Countable (IsParser-Gathered ⊤ HasFields
      (IsParser-IsSeparated 1 None (IsParser-IsOneOf (λ token. 44 == token)) (IsParser-AnyField appends refusable)))

  -- `OneRow` keeps the laws of a parser
  pub IsParser-OneRow : (appends refusable : Type 0)
      → IsParser (OneRow is_slice bytes appends refusable)
  IsParser-OneRow appends refusable =
      let list = FieldList is_slice bytes appends refusable in
      let ended = IsEof is_slice in
      let end = RecordEnd is_slice appends refusable in
      let close = CutsErr end in
      IsParser-IsPreceded (IsNot ended) (IsTerminated list close) (IsParser-IsNot ended (IsParser-IsEof is_slice))
      (IsParser-IsTerminated list close (IsParser-FieldList appends refusable) (IsParser-CutsErr end (IsParser-RecordEnd is_slice appends refusable)))
