-- The debug text of bytes that are text by convention.
use Rattle.std.specs.Prelude.{ℕ, Bool, false, ◌==◌, nat_lt, List, [], ◌∷◌, ◌++◌, Option, Some, None, if◌then◌else◌, codes}
use Rattle.std.specs.Char.{is_ascii_control}
use Rattle.std.specs.Fmt.{digits}
use Rattle.std.specs.List.{flat_map, list_all}

-- the escape of an ASCII character: \0, \t, \r and \n; a backslash before a quote of either kind
-- and before a backslash; the code of any other control; and else the character
abbrev pub escape : ℕ → List ℕ
escape c =
    if c == 0 then codes "\\0" else
    (if c == 9 then codes "\\t" else
    (if c == 13 then codes "\\r" else
    (if c == 10 then codes "\\n" else
    (if c == 39 then codes "\\'" else
    (if c == 34 then codes "\\\"" else
    (if c == 92 then codes "\\\\" else
    (if is_ascii_control c then codes "\\u{" ++ digits 16 false c ++ codes "}" else c ∷ [])))))))

-- each byte is ASCII
abbrev pub is_ascii : List ℕ → Bool
is_ascii bytes = list_all (λ byte. nat_lt byte 128) bytes

-- the escaped bytes in double quotes, if each byte is ASCII; no text is specified for other bytes
abbrev pub debug_text : List ℕ → Option (List ℕ)
debug_text bytes = if is_ascii bytes then Some (codes "\"" ++ (flat_map escape bytes ++ codes "\"")) else None

-- the same, but only the escaped bytes under `#`
abbrev pub styled_debug_text : Bool → List ℕ → Option (List ℕ)
styled_debug_text alternate bytes =
    if alternate then (if is_ascii bytes then Some (flat_map escape bytes) else None) else debug_text bytes
