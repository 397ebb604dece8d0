-- Scalars: integers, strings, simple values and floats (RFC 8949, section 3.1).
use Rattle.std.specs.Prelude.{◌≡◌, ℕ, ◌<◌, ◌≤◌, ◌^◌, if◌then◌else◌, List, [], length, string_bytes, IsUtf8, ⊤}
use Rattle.winnow_codec.specs.Formats.{Spelling}
use Rattle.winnow_codec.specs.Bytes.{SpellsBytes}
use Rattle.winnow_codec.specs.Cases.{SpellsTagged}
use Rattle.winnow_codec.specs.Frames.{SpellsInside}
use Rattle.format_cbor.specs.Heads.{SpellsHead}
use Rattle.format_cbor.specs.Floats.{IsShortestHalf, IsShortestSingle, IsShortestDouble}
use Rattle.format_cbor.specs.declared.head.Head.{Head}
use Rattle.format_cbor.specs.declared.head.Kind.TheVariants as kind
use Rattle.format_cbor.specs.declared.scalar.Scalar.{Scalar}
use Rattle.format_cbor.specs.declared.scalar.Scalar.TheVariants as scalar

-- the head of a scalar: of a string, with the number of its bytes; false, true, null and undefined
-- are the simple values 20 to 23 (section 3.3)
abbrev pub head_of : Scalar → Head
head_of (scalar.Unsigned n) = record { kind = kind.Unsigned; argument = n }
head_of (scalar.Negative n) = record { kind = kind.Negative; argument = n }
head_of (scalar.Bytes held) = record { kind = kind.Bytes; argument = length held.items }
head_of (scalar.Text text) = record { kind = kind.Text; argument = length (string_bytes text) }
head_of (scalar.Boolean b) = record { kind = kind.Simple; argument = if b then 21 else 20 }
head_of scalar.Null = record { kind = kind.Simple; argument = 22 }
head_of scalar.Undefined = record { kind = kind.Simple; argument = 23 }
head_of (scalar.Simple n) = record { kind = kind.Simple; argument = n }
head_of (scalar.Half bits) = record { kind = kind.Half; argument = bits }
head_of (scalar.Single bits) = record { kind = kind.Single; argument = bits }
head_of (scalar.Double bits) = record { kind = kind.Double; argument = bits }

-- the bytes after the head: those of a string
abbrev pub body_of : Scalar → List ℕ
body_of (scalar.Bytes held) = held.items
body_of (scalar.Text text) = string_bytes text
body_of s = []

-- the scalar has a spelling: a string has at most `longest` bytes, and a text is in UTF-8; a simple
-- value is none of the four that have names; a float has no shorter form; and numbers have as many
-- bits as their types
abbrev pub IsSpelled : ℕ → Scalar → Type 0
IsSpelled longest (scalar.Bytes held) = length held.items ≤ longest
IsSpelled longest (scalar.Text text) = (length (string_bytes text) ≤ longest) × IsUtf8 (string_bytes text)
IsSpelled longest (scalar.Simple n) = (n < 256) × (20 ≤ n → 24 ≤ n)
IsSpelled longest (scalar.Half bits) = (bits < 2 ^ 16) × IsShortestHalf bits
IsSpelled longest (scalar.Single bits) = (bits < 2 ^ 32) × IsShortestSingle bits
IsSpelled longest (scalar.Double bits) = IsShortestDouble bits
IsSpelled longest s = ⊤

-- which bytes after a head spell a scalar
abbrev pub SpellsBody : ℕ → Head → Spelling Scalar
SpellsBody longest head s bytes = (head ≡ head_of s) × IsSpelled longest s × (bytes ≡ body_of s)

-- the head of the scalar, and then the bytes of a string
abbrev pub SpellsScalar : ℕ → Spelling Scalar
SpellsScalar longest = SpellsTagged SpellsHead head_of (SpellsBody longest)

-- the scalars have the same head and the same bytes
abbrev pub AreSameScalar : Scalar → Scalar → Type 0
AreSameScalar v w = (head_of v ≡ head_of w) × (body_of v ≡ body_of w)

-- a part of this number of bytes, which is at most the limit
abbrev pub SpellsPart : {V : Type 0} → ℕ → ℕ → Spelling V → Spelling V
SpellsPart longest count inner v bytes = (count ≤ longest) × SpellsInside (SpellsBytes count) inner v bytes

-- the scalar is a string
abbrev pub IsString : Scalar → Type 0
IsString (scalar.Bytes held) = ⊤
IsString (scalar.Text text) = ⊤
IsString s = ⊥
