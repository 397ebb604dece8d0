-- What the proofs need of the bytes of an input, for bytes and for text.
use Rattle.std.proofs.Common.{◌≡◌, ℕ, List, [], ◌∷◌, ◌++◌, length, true, refl, sym, ap, ◌∙◌}
use Rattle.std.proofs.lemmas.List.{map-append, append_assoc, append-nil}
use Rattle.std.specs.Str.{chars}
use Rattle.std.proofs.lemmas.Str.{IsUtf8-append, IsUtf8-nil, is_utf8-from_IsUtf8, IsUtf8-from_is_utf8}
use Rattle.winnow_stream.specs.Source.{width, HasPositiveWidths}
use Rattle.winnow_stream.specs.Units.{width-units, HasPositiveWidths-units}
use Rattle.winnow_stream.specs.Text.{HasPositiveWidths-char_source}
use Rattle.winnow_stream.proofs.lemmas.TextLemmas.{text_source-append, width-text_source, text_source-nil}
use Rattle.winnow_script_feed.specs.Inputs.{InputRules, byte_input, text_input, joined}

-- one more piece is appended to the joined pieces
pub joined-push : (pieces : List (List ℕ)) (p : List ℕ)
    → joined (pieces ++ p ∷ []) ≡ joined pieces ++ p
joined-push [] p = append-nil p
joined-push (q ∷ pieces) p = ap (λ x. q ++ x) (joined-push pieces p) ∙ sym (append_assoc q (joined pieces) p)

-- what the proofs need of an input's bytes: they may be joined, and their width is their length
pub record IsInput (i : InputRules) : Type 0 where
  pub joins : (xs ys : List ℕ) → i.valid xs ≡ true → i.valid ys ≡ true → i.valid (xs ++ ys) ≡ true
  pub split : (xs ys : List ℕ) → i.valid xs ≡ true
      → i.source (xs ++ ys) ≡ i.source xs ++ i.source ys
  pub widths : (xs : List ℕ) → HasPositiveWidths (i.source xs)
  pub width_is : (xs : List ℕ) → i.valid xs ≡ true → width (i.source xs) ≡ length xs
  pub empty : i.valid [] ≡ true
  pub nothing : i.source [] ≡ []

-- bytes and text are inputs with these properties
pub bytes-input : IsInput byte_input
bytes-input = record {
  joins = λ xs ys u v. refl;
  split = λ xs ys u. map-append (λ x. (x, 1)) xs ys;
  widths = HasPositiveWidths-units;
  width_is = λ xs u. width-units xs;
  empty = refl;
  nothing = refl;
}

pub texts-input : IsInput text_input
texts-input = record {
  joins = λ xs ys u v. is_utf8-from_IsUtf8 (xs ++ ys) (IsUtf8-append xs ys (IsUtf8-from_is_utf8 xs u) (IsUtf8-from_is_utf8 ys v));
  split = λ xs ys u. text_source-append xs ys (IsUtf8-from_is_utf8 xs u);
  widths = λ xs. HasPositiveWidths-char_source (chars xs);
  width_is = λ xs u. width-text_source xs (IsUtf8-from_is_utf8 xs u);
  empty = is_utf8-from_IsUtf8 [] IsUtf8-nil;
  nothing = text_source-nil [] refl;
}
