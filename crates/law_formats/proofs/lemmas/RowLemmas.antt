-- The parser of a record of comma-separated values is punctual.
use Rattle.std.specs.Prelude.{◌≡◌, ℕ, ◌==◌, Bool, List, None, ⊤}
use Rattle.std.specs.declared.vec.Vec.{Vec}
use Rattle.std.specs.declared.alloc.Global.{Global}
use Rattle.winnow_reader.specs.Place.{IsByteSlice, SlicesStay-bytes}
use Rattle.winnow_parser.specs.Determined.{Respects}
use Rattle.winnow_parser.specs.Meanings.{IsForgotten}
use Rattle.winnow_liveness.specs.Live.{IsLive, IsPunctual}
use Rattle.winnow_liveness.proofs.lemmas.PunctualLemmas.{IsPunctual-on, IsPunctual-IsOneOf, IsPunctual-TakesWhile, IsPunctual-IsEof, IsPunctual-Maps, IsPunctual-Gathered, IsPunctual-Appending, IsPunctual-Countable, IsPunctual-IsNot, IsPunctual-CutsErr, IsPunctual-Repeats, IsPunctual-Pair, IsPunctual-IsPreceded, IsPunctual-IsTerminated, IsPunctual-IsAlt2, IsPunctual-IsSeparated}
use Rattle.format_csv.specs.Fields.{is_plain}
use Rattle.format_csv.specs.Meanings.{Byte, is_other, IsOfChunks, HasFields, Chunk, QuotedField, PlainField, AnyField, FieldList, RecordEnd, OneRow}
use Rattle.format_csv.specs.Reading.{RowInPieces}

-- of values nothing is compared
abbrev any : {O : Type 0} → O → O → Type 0
any x y = ⊤

no-respect : {O P : Type 0} (same : O → O → Type 0) (gives : O → P → Type 0)
    → Respects same any gives
no-respect same gives x y p q h e f = tt

byte : (n : ℕ) → IsPunctual ◌≡◌ (Byte n)
byte n = IsPunctual-IsOneOf (λ token. n == token)

chunk : IsPunctual any (Chunk IsByteSlice (λ slice. slice.now))
chunk =
    IsPunctual-IsPreceded (byte 34) (IsPunctual-IsTerminated (IsPunctual-TakesWhile IsByteSlice any (λ s t a b h k. tt) SlicesStay-bytes is_other 0 None) (IsPunctual-CutsErr (byte 34)))

quoted : IsPunctual any (QuotedField IsByteSlice (λ slice. slice.now))
quoted =
    IsPunctual-Gathered (IsPunctual-Repeats chunk 1 None) any ⊤ (IsOfChunks (λ slice. slice.now)) (no-respect _ (IsOfChunks (λ slice. slice.now)))

plain : IsPunctual any (PlainField IsByteSlice (λ slice. slice.now))
plain =
    IsPunctual-Gathered (IsPunctual-TakesWhile IsByteSlice any (λ s t a b h k. tt) SlicesStay-bytes is_plain 0 None) any ⊤ (λ slice field. field.items ≡ slice.now) (no-respect any (λ slice field. field.items ≡ slice.now))

field : IsPunctual any (AnyField IsByteSlice (λ slice. slice.now) ⊥ ⊥)
field = IsPunctual-Appending (IsPunctual-IsAlt2 ⊥ quoted plain) ⊥

list : IsPunctual any (FieldList IsByteSlice (λ slice. slice.now) ⊥ ⊥)
list =
    IsPunctual-Countable (IsPunctual-Gathered (IsPunctual-IsSeparated (byte 44) field 1 None) any ⊤ HasFields (no-respect _ HasFields))

end : IsPunctual any (RecordEnd IsByteSlice ⊥ ⊥)
end =
    let newline = IsPunctual-Maps (byte 10) any IsForgotten (no-respect ◌≡◌ IsForgotten) in
    let both = IsPunctual-Maps (IsPunctual-Pair (byte 13) (byte 10)) any IsForgotten (no-respect _ IsForgotten) in
    let ended = IsPunctual-Maps (IsPunctual-IsEof IsByteSlice any (λ s t a b h k. tt)) any IsForgotten (no-respect any IsForgotten) in
    IsPunctual-Appending (IsPunctual-IsAlt2 ⊥ (IsPunctual-IsAlt2 ⊥ newline both) ended) ⊥

-- a record
pub row-punctual : IsPunctual any RowInPieces
row-punctual =
    IsPunctual-IsPreceded (IsPunctual-IsNot (IsPunctual-IsEof IsByteSlice any (λ s t a b h k. tt))) (IsPunctual-IsTerminated list (IsPunctual-CutsErr end))
