-- The first newline of a text, as a search for the byte finds it.
use Rattle.std.proofs.Common.{◌≡◌, ℕ, List, Option, None, Some, length, refl, arith}
use Rattle.std.specs.Prelude.{position}
use Rattle.std.specs.List.{position_or_len}
use Rattle.std.proofs.lemmas.Bool.{false_from_ne_true, le-ltb, lt-ltb}
use Rattle.std.proofs.lemmas.List.Sums.{position_or_len_is}
use Rattle.memchr.specs.Find.{IsFirstByte, is_byte}
use Rattle.winnow_script_lines.specs.Newline.{is_newline}

-- the place that the search finds is the position of the first newline
pub newline-first : (text : List ℕ) (r : Option ℕ) → IsFirstByte (is_byte 10) text r
    → r ≡ position is_newline text
newline-first text None none =
    let at : position_or_len is_newline text ≡ length text =
    position_or_len_is is_newline text (length text) 0 (omega arith) (λ k lt. false_from_ne_true _ (none k (omega arith) lt)) (λ lt. absurd (omega (arith, lt)))
    in
    rw (at, le-ltb (length text) (length text) (omega arith)) refl
newline-first text (Some i) first =
    let at : position_or_len is_newline text ≡ i =
    position_or_len_is is_newline text i 0 (omega (arith, first.0.high)) (λ k lt. false_from_ne_true _ (first.0.before k (omega arith) lt)) (λ lt. first.1)
    in
    rw (at, lt-ltb i (length text) first.0.high) refl
