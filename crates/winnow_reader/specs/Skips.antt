-- Bytes that a reader drops unread, and the first place of a literal in them.
use Rattle.std.specs.Prelude.{◌≡◌, ℕ, ◌+◌, ◌-◌, Bool, true, false, List, length, drop, Some, None}
use Rattle.memchr.specs.Find.{FindsNeedle}
use Rattle.winnow_reader.specs.declared.skipping.Skipped.{Skipped}
use Rattle.winnow_reader.specs.declared.skipping.Skipped.TheVariants.{Found, NeedsMore, Done}
use Rattle.winnow_reader.specs.State.{ReaderState}

-- a reader after the next n bytes were dropped: it goes on after them, and nothing is wanted
abbrev pub skipped : {R : Type 0} → ReaderState R → ℕ → ReaderState R
skipped f n = record f { place = f.place + n; ahead = drop n f.ahead; spent = f.spent + n; wanted = 0 }

-- how many bytes were dropped
abbrev pub bytes_skipped : Skipped → ℕ
bytes_skipped (Found n) = n
bytes_skipped (NeedsMore n) = n
bytes_skipped (Done n) = n

-- what is dropped of the bytes ahead for a literal: all up to the end of its first occurrence; if
-- there is none yet, all but the last bytes, one fewer than the literal has, with which it may
-- begin; and if there is none at the end, all
abbrev pub SkipsTo : List ℕ → Bool → List ℕ → Skipped → Type 0
SkipsTo literal ended ahead (Found n) = (first : ℕ)
    × (FindsNeedle ahead literal 0 (Some first) × (n ≡ first + length literal))
SkipsTo literal ended ahead (NeedsMore n) = (ended ≡ false)
    × FindsNeedle ahead literal 0 None × (n ≡ length ahead - (length literal - 1))
SkipsTo literal ended ahead (Done n) = (ended ≡ true)
    × FindsNeedle ahead literal 0 None × (n ≡ length ahead)
