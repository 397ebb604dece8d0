-- The bits of a header between its number and its counts (RFC 1035, section 4.1.1), the highest
-- first: QR, four of OPCODE, AA, TC, RD, RA, three of Z, and four of RCODE.
use Rattle.std.specs.Prelude.{ℕ, ◌/◌, ◌%◌, ◌==◌, Bool}

-- the bit of this weight is set
abbrev pub has_bit : ℕ → ℕ → Bool
has_bit flags weight = (flags / weight) % 2 == 1

-- the kind of query, and the code of the answer
abbrev pub opcode_of : ℕ → ℕ
opcode_of flags = flags / 2048 % 16

abbrev pub rcode_of : ℕ → ℕ
rcode_of flags = flags % 16
