-- Characters in UTF-8 that break off.
use Rattle.std.specs.Prelude.{ℕ, ◌<◌, ◌≤◌, Bool, false, if◌then◌else◌, ◌&&◌, ◌==◌, List, length, take, slice_index, IsUtf8}
use Rattle.std.specs.Int.{is_in_range}

-- whether the second byte may follow the first in a character of three or four bytes (RFC 3629)
abbrev pub may_follow : ℕ → ℕ → Bool
may_follow first second =
    if first == 0xE0 then is_in_range 0xA0 0xBF second
    else (if first == 0xED then is_in_range 0x80 0x9F second
    else (if first == 0xF0 then is_in_range 0x90 0xBF second
    else (if first == 0xF4 then is_in_range 0x80 0x8F second else is_in_range 0x80 0xBF second)))

-- the bytes begin a character and do not finish it
abbrev pub is_cut_char : List ℕ → Bool
is_cut_char bs =
    let a = slice_index bs 0 in
    let b = slice_index bs 1 in
    if length bs == 1 then is_in_range 0xC2 0xF4 a
    else (if length bs == 2 then is_in_range 0xE0 0xF4 a && may_follow a b
    else (if length bs == 3
    then is_in_range 0xF0 0xF4 a && is_in_range 0x80 0xBF (slice_index bs 2) && may_follow a b
    else false))

-- n bytes are the longest prefix that is UTF-8
abbrev pub IsLongestText : List ℕ → ℕ → Type 0
IsLongestText bs n = (n ≤ length bs) × IsUtf8 (take n bs)
    × ((m : ℕ) → n < m → m ≤ length bs → ¬ (IsUtf8 (take m bs)))
