-- Two bytes that take each other's place.
use Rattle.std.specs.Prelude.{ℕ, ◌==◌, if◌then◌else◌, List, map, Option, option_map}

-- the byte that stands for this one
abbrev pub exchanged_byte : ℕ → ℕ → ℕ → ℕ
exchanged_byte one other byte =
    if byte == one then other else (if byte == other then one else byte)

-- the bytes that stand for these
abbrev pub exchanged : ℕ → ℕ → List ℕ → List ℕ
exchanged one other bytes = map (exchanged_byte one other) bytes

-- the bytes that stand for these, where they are known
abbrev pub exchanged_known : ℕ → ℕ → Option (List ℕ) → Option (List ℕ)
exchanged_known one other bytes = option_map (exchanged one other) bytes
