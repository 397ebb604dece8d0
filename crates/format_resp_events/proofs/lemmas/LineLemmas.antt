-- The line with which an array begins.
use Rattle.std.proofs.Common.{◌≡◌, ℕ, ◌+◌, ◌-◌, List, ◌∷◌, ◌++◌, length, take, drop, Some, ap, ◌∙◌}
use Rattle.std.proofs.lemmas.List.{take_rest}
use Rattle.format_resp.specs.Language.{line, IsLength, greatest_count}
use Rattle.format_resp.specs.Parts.{text_width}
use Rattle.format_resp.proofs.lemmas.BreakLemmas.{line-before}
use Rattle.format_resp.proofs.lemmas.PartLemmas.{text-width, line-text, length-in_line}

-- what follows the byte of the kind
pub after-kind : (bytes text after : List ℕ) → bytes ≡ 42 ∷ (line text ++ after)
    → take (length bytes - 1) (drop 1 bytes) ≡ line text ++ after
after-kind bytes text after e = take_rest bytes 1 ∙ ap (drop 1) e

-- the line's text is as wide as the bytes before its end
pub line-width : (bytes text after : List ℕ) (n : ℕ) → bytes ≡ line text ++ after
    → IsLength greatest_count text (Some n) → text_width bytes ≡ length text
line-width bytes text after n e is =
    ap text_width (e ∙ line-before text after)
    ∙ text-width text (13 ∷ 10 ∷ after) (length-in_line greatest_count text (Some n) is) (λ h. cc h)

-- these bytes are the text
pub line-front : (bytes text after : List ℕ) (n width : ℕ) → bytes ≡ line text ++ after
    → IsLength greatest_count text (Some n) → width ≡ text_width bytes → take width bytes ≡ text
line-front bytes text after n width e is at =
    ap (λ k. take k bytes) (at ∙ line-width bytes text after n e is) ∙ ap (take (length text)) e ∙ line-text text after
