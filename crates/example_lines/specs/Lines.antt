-- The lines of an input, each ended by CR LF, and what the parser of one means.
use Rattle.std.specs.Prelude.{◌≡◌, ℕ, List, [], ◌∷◌, ◌++◌, length, Option, None, Some, option_map}
use Rattle.std.specs.Borrow.{Bor}
use Rattle.std.specs.Global.{Vec}
use Rattle.winnow_base.specs.Bytes.{bytes_of}
use Rattle.winnow_base.specs.Comparison.{comparison}
use Rattle.winnow_base.specs.Staying.{ComparisonsStay-written}
use Rattle.winnow_base.specs.Search.{hit}
use Rattle.winnow.specs.Outcome.{Meaning}
use Rattle.winnow.specs.Laws.{IsParser}
use Rattle.winnow.specs.Meanings.{IsTerminated}
use Rattle.winnow.specs.Parts.{IsParser-IsTerminated}
use Rattle.winnow.specs.TakeUntil.{TakesUntil, IsParser-TakesUntil}
use Rattle.winnow.specs.Literal.{IsLiteral, IsParser-IsLiteral}
use Rattle.winnow.specs.Place.{IsByteSlice, SlicesStay-bytes}
use Rattle.winnow.specs.State.{ReaderState}
use Rattle.winnow.specs.Reading.{HasRead}
use Rattle.winnow.specs.InTurn.{StandInTurn}
use Rattle.winnow.specs.Copied.{Copied, IsParser-Copied}

-- the bytes that end a line
abbrev pub line_end : List ℕ
line_end = 13 ∷ 10 ∷ []

-- the place of the first line end
abbrev pub first_end : List ℕ → Option ℕ
first_end bytes = option_map (λ p. p.start) (hit (line_end ∷ []) bytes)

-- the bytes are a line, the first line end in them, and the bytes after it
abbrev pub IsNextLine : List ℕ → List ℕ → List ℕ → Type 0
IsNextLine bytes line rest = (bytes ≡ line ++ line_end ++ rest) × (first_end bytes ≡ Some (length line))

-- the line stands in the bytes, before these
abbrev pub LineStands : Vec ℕ → List ℕ → List ℕ → Type 0
LineStands line bytes behind = IsNextLine bytes line.items behind

-- the bytes are these lines, one after the other, and a rest that has no line end: these are all
-- lines that end in the bytes
abbrev pub AreLines : List ℕ → List (Vec ℕ) → List ℕ → Type 0
AreLines bytes lines rest = StandInTurn LineStands bytes lines rest × (first_end rest ≡ None)

-- the slice before the first line end, which is taken too
abbrev pub LineSlice : Meaning (Bor (List ℕ)) ℕ
LineSlice = IsTerminated (TakesUntil IsByteSlice (λ r. hit (line_end ∷ []) (bytes_of r)) 0 None)
    (IsLiteral IsByteSlice (λ r. comparison line_end (bytes_of r)))

-- a copy of it
abbrev pub OneLine : Meaning (Vec ℕ) ℕ
OneLine = Copied (λ slice. slice.now) (λ line. line.items) LineSlice

-- the parser of a line keeps the laws of a parser
pub IsParser-OneLine : IsParser OneLine
IsParser-OneLine = IsParser-Copied _ _ _ (IsParser-IsTerminated _ _
    (IsParser-TakesUntil IsByteSlice SlicesStay-bytes (λ r. hit (line_end ∷ []) (bytes_of r)) 0 None)
    (IsParser-IsLiteral IsByteSlice SlicesStay-bytes (λ r. comparison line_end (bytes_of r)) (ComparisonsStay-written (λ byte. byte ∷ []) line_end)))

-- of this joined input a reader of lines, which goes on, has read these
abbrev pub HasLines : {R : Type 0} → ReaderState R → List ℕ → List (Vec ℕ) → Type 0
HasLines f input lines = HasRead (λ r. OneLine) f input lines
