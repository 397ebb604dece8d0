-- The items of `char_indices`: each character with the width before it.
use Rattle.std.proofs.Common.{◌≡◌, ℕ, ◌+◌, List, ◌∷◌, length, ap, ap₂, sym, ◌∙◌, Some, None, subst}
use Rattle.std.specs.Char.{len_utf8}
use Rattle.std.specs.Str.{IsUtf8}
use Rattle.std.specs.Str.Iter.{char_indices_steps, char_indices_rest, char_indices_offset}
use Rattle.std.specs.declared.str.CharIndices.{CharIndices}
use Rattle.std.specs.Iterator.{AlwaysYields}
use Rattle.std.proofs.lemmas.Str.{IsUtf8-past_char, length-encode}
use Rattle.std.proofs.lemmas.Iterator.{YieldsList}
use Rattle.std.proofs.lemmas.Iterator.Splits.{YieldsList-from_shown_while}
use Rattle.winnow_stream.specs.Source.{offsets_from, offsets}
use Rattle.winnow_stream.specs.Text.{text_source}
use Rattle.winnow_stream.proofs.lemmas.TextLemmas.{first-text_source, text_source-nil}

-- the items that are still ahead of `char_indices`
abbrev shown : CharIndices → List (ℕ × ℕ)
shown s = offsets_from (char_indices_offset s) (text_source (char_indices_rest s))

-- a call that gives no item has no character left
none : (s t : CharIndices) → IsUtf8 (char_indices_rest s) → char_indices_steps s None t
    → length (shown s) ≡ 0
none s t u e = ap (λ r. length (offsets_from (char_indices_offset s) r)) (text_source-nil (char_indices_rest s) e.0)

-- a call that gives an item gives the first one, and leaves the others
some : (s : CharIndices) (x : ℕ × ℕ) (t : CharIndices) → IsUtf8 (char_indices_rest s)
    → char_indices_steps s (Some x) t → IsUtf8 (char_indices_rest t) × (shown s ≡ x ∷ shown t)
some s x t u e =
    let f = first-text_source (char_indices_rest s) (char_indices_rest t) x.1 u e.1 in
    let o : char_indices_offset s + len_utf8 x.1 ≡ char_indices_offset t = ap (λ n. char_indices_offset s + n) (sym (length-encode x.1)) ∙ sym e.2 in (
      IsUtf8-past_char (char_indices_rest s) (char_indices_rest t) x.1 u e.1,
      ap (offsets_from (char_indices_offset s)) f ∙ ap₂ (λ n m. (n, x.1) ∷ offsets_from m (text_source (char_indices_rest t))) (sym e.0) o,
    )

-- from the start of a text, `char_indices` yields each character at its offset
pub AlwaysYields-indices : (bs : List ℕ) (s : CharIndices) → IsUtf8 bs → char_indices_rest s ≡ bs
    → char_indices_offset s ≡ 0
    → AlwaysYields char_indices_steps (λ x. x) s (offsets (text_source bs))
AlwaysYields-indices bs s u e o =
    let v : IsUtf8 (char_indices_rest s) = rw e u in
    let road = YieldsList-from_shown_while char_indices_steps (λ x. x) shown (λ p. IsUtf8 (char_indices_rest p)) none some s v in
    subst (λ ys. AlwaysYields char_indices_steps (λ x. x) s ys) (ap₂ (λ n r. offsets_from n (text_source r)) o e) road.runs

-- the same, as the fact that `iter_offsets` states
pub indices-road : (bs : List ℕ) (s : CharIndices) → IsUtf8 bs → char_indices_rest s ≡ bs
    → char_indices_offset s ≡ 0
    → YieldsList char_indices_steps (λ x. x) s (offsets (text_source bs))
indices-road bs s u e o = record { runs = AlwaysYields-indices bs s u e o }
