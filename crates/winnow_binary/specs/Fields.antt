-- Fields: numbers of a few bits each, which are the bits of one number.
use Rattle.std.specs.Prelude.{◌≡◌, ℕ, ◌+◌, ◌*◌, ◌/◌, ◌%◌, ◌^◌, ◌<◌, ◌≤◌, List, [], ◌∷◌, sum, All, length, slice_index}
use Rattle.winnow_binary.specs.declared.endianness.Endianness.{Endianness}
use Rattle.winnow_binary.specs.declared.endianness.Endianness.TheVariants.{Big, Little, Native}

-- the number that `width` bits of n write, from bit `low` up
abbrev pub bits_of : ℕ → ℕ → ℕ → ℕ
bits_of n low width = n / 2 ^ low % 2 ^ width

-- the fields of n, the first one highest: below each are the bits of those after it
abbrev pub fields_down : List ℕ → ℕ → List ℕ
fields_down [] n = []
fields_down (w ∷ ws) n = bits_of n (sum ws) w ∷ fields_down ws n

-- the fields of n, the first one lowest, from bit `low` up
abbrev pub fields_up : ℕ → List ℕ → ℕ → List ℕ
fields_up low [] n = []
fields_up low (w ∷ ws) n = bits_of n low w ∷ fields_up (low + w) ws n

-- the fields of n, of these widths: the first one has the highest bits if the most significant byte
-- comes first, and the lowest bits if the least significant one does
abbrev pub fields_in : Endianness → List ℕ → ℕ → List ℕ
fields_in Big widths n = fields_down widths n
fields_in Little widths n = fields_up 0 widths n
fields_in Native widths n = fields_up 0 widths n

-- fields of these widths have one bit at least, and fill whole bytes, at most eight
abbrev pub FillBytes : List ℕ → Type 0
FillBytes widths = All (λ width. 1 ≤ width) widths × (sum widths ≤ 64) × (sum widths % 8 ≡ 0)

-- the number of these fields, the first one highest
abbrev pub joined_down : List ℕ → List ℕ → ℕ
joined_down [] fields = 0
joined_down (w ∷ ws) [] = 0
joined_down (w ∷ ws) (x ∷ xs) = x * 2 ^ sum ws + joined_down ws xs

-- the number of these fields, the first one lowest
abbrev pub joined_up : List ℕ → List ℕ → ℕ
joined_up [] fields = 0
joined_up (w ∷ ws) [] = 0
joined_up (w ∷ ws) (x ∷ xs) = x + 2 ^ w * joined_up ws xs

-- the number of these fields, in an order
abbrev pub joined_in : Endianness → List ℕ → List ℕ → ℕ
joined_in Big widths fields = joined_down widths fields
joined_in Little widths fields = joined_up widths fields
joined_in Native widths fields = joined_up widths fields

-- each field is a number of its width
abbrev pub HaveWidths : List ℕ → List ℕ → Type 0
HaveWidths widths fields = (k : ℕ) → k < length widths → slice_index fields k < 2 ^ slice_index widths k

-- each number is a byte
abbrev pub AreBytes : List ℕ → Type 0
AreBytes bytes = All (λ byte. byte < 256) bytes
