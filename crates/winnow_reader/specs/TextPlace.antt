-- A text at a place of the joined input, and the stream that a record of text is given.
use Rattle.std.specs.Prelude.{◌≡◌, ℕ, List, Some}
use Rattle.std.specs.Borrow.{Bor}
use Rattle.winnow_stream.specs.Source.{Source}
use Rattle.winnow_stream.specs.Text.{text_source}
use Rattle.winnow_stream.specs.Front.{front}
use Rattle.winnow_stream.specs.Longer.{SlicesStay, SlicesStay-front}
use Rattle.winnow_stream.specs.declared.stream.Rest.{Ghosts}
use Rattle.winnow_parser.specs.Outcome.{Ahead}
use Rattle.winnow_wrap.specs.declared.located.LocatingSlice.{LocatingSlice}
use Rattle.winnow_wrap.specs.declared.partial.Partial.{Partial}
use Rattle.winnow_wrap.specs.Flag.{partial_inner}
use Rattle.winnow_wrap.specs.Located.{locating_inner, location_of}

-- the characters of this text are ahead, from this place on
abbrev pub text_at : ℕ → List ℕ → Ahead ℕ
text_at place text = record { location = Some place; tokens = text_source text }

-- how the stream stands that a record of text is given
abbrev pub stands_text : {C : Type 0} {i : Ghosts (Bor (List ℕ))} {c : Ghosts C}
    → Partial (LocatingSlice (Bor (List ℕ)) C i c) → Ahead ℕ
stands_text s = text_at (location_of (partial_inner s)) (locating_inner (partial_inner s)).now

-- these are the characters of the front of this width: what `is_slice` says of that stream
abbrev pub IsTextSlice : Bor (List ℕ) → Source ℕ → ℕ → Type 0
IsTextSlice s r n = text_source s.now ≡ front r n

-- they are those of each longer input
pub SlicesStay-text : SlicesStay IsTextSlice
SlicesStay-text = SlicesStay-front (λ s. text_source s.now)
