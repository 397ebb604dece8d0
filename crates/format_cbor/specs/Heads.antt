-- Heads (RFC 8949, sections 3 and 3.3), in the deterministic form (section 4.2.1).
use Rattle.std.specs.Prelude.{◌≡◌, ℕ, ◌+◌, ◌-◌, ◌/◌, ◌||◌, Bool, true, nat_lt, nat_le, if◌then◌else◌}
use Rattle.winnow_codec.specs.Formats.{Spelling}
use Rattle.winnow_codec.specs.Byte.{SpellsByte}
use Rattle.winnow_codec.specs.FormatRows.{SpellsBoth}
use Rattle.format_cbor.specs.Arguments.{argument_after, SpellsArgument}
use Rattle.format_cbor.specs.declared.head.Head.{Head}
use Rattle.format_cbor.specs.declared.head.Kind.{Kind}
use Rattle.format_cbor.specs.declared.head.Kind.TheVariants.{Unsigned, Negative, Bytes, Text, Array, Map, Tag, Simple, Half, Single, Double}

-- the place of a kind in the list of kinds
abbrev pub rank : Kind → ℕ
rank Unsigned = 0
rank Negative = 1
rank Bytes = 2
rank Text = 3
rank Array = 4
rank Map = 5
rank Tag = 6
rank Simple = 7
rank Half = 8
rank Single = 9
rank Double = 10

-- the place of the kind that an initial byte begins: the major type is in its upper three bits, and
-- from 249 on each byte of major type 7 is a kind of its own
abbrev pub rank_in : ℕ → ℕ
rank_in first = first / 32 + (first - 248)

-- the additional information of the shortest head with this argument (section 4.2.1): the argument
-- itself below 24; or 24, 25, 26 or 27, after which it follows in 1, 2, 4 or 8 bytes
abbrev pub information : ℕ → ℕ
information n = if nat_lt n 24 then n else if nat_lt n 256 then 24
    else if nat_lt n 65536 then 25 else if nat_lt n 4294967296 then 26 else 27

-- the initial byte of a head: the major type times 32, and the additional information. A simple
-- value has one byte or two, and a float as many as it has (section 3.3)
abbrev pub initial_of : Kind → ℕ → ℕ
initial_of Unsigned n = information n
initial_of Negative n = 32 + information n
initial_of Bytes n = 64 + information n
initial_of Text n = 96 + information n
initial_of Array n = 128 + information n
initial_of Map n = 160 + information n
initial_of Tag n = 192 + information n
initial_of Simple n = if nat_lt n 24 then 224 + n else 248
initial_of Half n = 249
initial_of Single n = 250
initial_of Double n = 251

-- a head may have the argument: no simple value has a number from 24 to 31 (section 3.3)
abbrev pub is_assigned : Kind → ℕ → Bool
is_assigned Simple n = nat_lt n 24 || nat_le 32 n
is_assigned kind n = true

-- the initial byte, and then the argument as it says
abbrev pub SpellsInitial : Spelling (ℕ × ℕ)
SpellsInitial = SpellsBoth SpellsByte (λ first. SpellsArgument (argument_after first))

-- the initial byte of the shortest head, and then the argument as that byte says
abbrev pub SpellsHead : Spelling Head
SpellsHead h bytes = (is_assigned h.kind h.argument ≡ true)
    × SpellsInitial (initial_of h.kind h.argument, h.argument) bytes

-- the head has this initial byte and this argument
abbrev pub IsHeadOf : ℕ → ℕ → Head → Type 0
IsHeadOf first n h = (is_assigned h.kind h.argument ≡ true) × (initial_of h.kind h.argument ≡ first)
    × (h.argument ≡ n)
