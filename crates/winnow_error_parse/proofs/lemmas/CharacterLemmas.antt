-- The place of a character between two texts.
use Rattle.std.specs.Prelude.{◌≡◌, ℕ, ◌+◌, ◌-◌, ◌<◌, ◌≤◌, ◌==◌, ◌&&◌, nat_le, Bool, true, false, cond, List, ◌∷◌, ◌++◌, length, drop}
use Rattle.std.specs.Char.{IsScalar, len_utf8, encode_utf8}
use Rattle.std.specs.Str.{chars, IsUtf8, IsCharBoundary}
use Rattle.std.proofs.Common.{refl, ap, sym, ◌∙◌, arith, subst, length-append, append_assoc}
use Rattle.std.proofs.Math.Seq.{drop-append_seam}
use Rattle.std.proofs.lemmas.Bool.Decides.{nat_tests}
use Rattle.std.proofs.lemmas.Str.{length-encode, chars_past_char, IsUtf8-append, IsUtf8-encode, IsCharBoundary-at_seam}
use Rattle.winnow_stream.specs.Source.{Source}
use Rattle.winnow_stream.specs.Front.{is_offset, back}
use Rattle.winnow_stream.specs.Text.{char_source, text_source}
use Rattle.winnow_stream.specs.Span.{span}
use Rattle.winnow_stream.proofs.lemmas.FrontLemmas.{is_offset-cons, is_offset-on}
use Rattle.winnow_stream.proofs.lemmas.TextLemmas.{is_offset-from_boundary, back-cut}
use Rattle.winnow_error_parse.specs.CharSpan.{char_span, IsCharAt}
use Rattle.winnow_error_parse.proofs.lemmas.SpanLemmas.{char_span-inside}

-- no offset is valid inside the first token
no_offset : (w i : ℕ) (b : Bool) → 0 < i → i < w → cond (i == 0) true (nat_le w i && b) ≡ false
no_offset w i b above below =
    let none : (i == 0) ≡ false = grind (arith, nat_tests) in
    let less : nat_le w i ≡ false = grind (arith, nat_tests) in
    rw none (rw less refl)

module _ (before after : List ℕ) (c : ℕ) (first : IsUtf8 before) (scalar : IsScalar c) (last : IsUtf8 after) where
  abbrev tail : List ℕ
  tail = encode_utf8 c ++ after

  abbrev text : List ℕ
  text = before ++ encode_utf8 c ++ after

  -- the text is what stands before the character, then the tail
  parts : text ≡ before ++ tail
  parts = append_assoc before (encode_utf8 c) after

  -- the tail and the text are UTF-8
  IsUtf8-tail : IsUtf8 tail
  IsUtf8-tail = IsUtf8-append (encode_utf8 c) after (IsUtf8-encode c scalar) last

  IsUtf8-text : IsUtf8 text
  IsUtf8-text = IsUtf8-append (before ++ encode_utf8 c) after (IsUtf8-append before (encode_utf8 c) first (IsUtf8-encode c scalar)) last

  -- the character begins and ends at boundaries
  begins : IsCharBoundary text (length before)
  begins = IsCharBoundary-at_seam text before tail parts IsUtf8-tail

  ends : IsCharBoundary text (length before + length (encode_utf8 c))
  ends = subst (IsCharBoundary text) (length-append before (encode_utf8 c)) (IsCharBoundary-at_seam text (before ++ encode_utf8 c) after refl last)

  -- what remains where the character begins is the character, then the text after it
  tail_source : back (text_source text) (length before) ≡ (c, len_utf8 c) ∷ text_source after
  tail_source =
      sym (back-cut text (length before) IsUtf8-text begins)
      ∙ ap (λ t. text_source (drop (length before) t)) parts
      ∙ ap text_source (drop-append_seam before tail)
      ∙ ap char_source (chars_past_char tail after c IsUtf8-tail refl)

  -- no boundary is inside the character
  whole : (k : ℕ) → length before < k → k < length before + length (encode_utf8 c)
      → ¬ (IsCharBoundary text k)
  whole k above below = λ boundary. (
      let i : ℕ = k - length before in
      let on : is_offset (back (text_source text) (length before)) i ≡ is_offset (text_source text) k =
      is_offset-on (text_source text) (length before) k (is_offset-from_boundary text (length before) IsUtf8-text begins) (omega arith) in
      let yes : is_offset ((c, len_utf8 c) ∷ text_source after) i ≡ true =
      sym (ap (λ r. is_offset r i) tail_source) ∙ on ∙ is_offset-from_boundary text k IsUtf8-text boundary in
      let no : cond (i == 0) true (nat_le (len_utf8 c) i && is_offset (text_source after) (i - len_utf8 c)) ≡ false =
      no_offset (len_utf8 c) i _ (omega arith) (omega (arith, length-encode c)) in
      let both : true ≡ false = sym yes ∙ is_offset-cons (c, len_utf8 c) (text_source after) i ∙ no in
      cc)

  -- the character is at the place between the two texts
  pub IsCharAt-between : IsCharAt text (length before) (length before + length (encode_utf8 c))
  IsCharAt-between = record { begins = begins; ends = ends; whole = whole }

  -- at each byte of the character, the span is the character's
  pub char_span-between : (offset : ℕ) → length before ≤ offset
      → offset < length before + length (encode_utf8 c)
      → char_span text offset ≡ span (length before) (length (encode_utf8 c))
  char_span-between offset low high = char_span-inside text (length before) (length before + length (encode_utf8 c)) offset IsCharAt-between low high
