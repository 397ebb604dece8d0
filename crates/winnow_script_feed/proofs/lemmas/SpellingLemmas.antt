-- How an input writes letters and tokens as bytes, and reads its bytes back.
use Rattle.std.proofs.Common.{◌≡◌, ℕ, zero, suc, ◌≤◌, ◌<◌, true, List, [], ◌∷◌, length, drop, refl, ap, sym, ◌∙◌, arith, inl, inr}
use Rattle.std.specs.Prelude.{nat_le, nat_lt}
use Rattle.std.specs.List.{AllByRecursion}
use Rattle.std.specs.Char.{encode_utf8, len_utf8}
use Rattle.std.specs.Str.{chars, IsUtf8, all_scalars, encode_utf8_all}
use Rattle.std.proofs.lemmas.Bool.{and_parts, and_from, cases_Bool, leb-true, ltb-true, le-leb}
use Rattle.std.proofs.lemmas.List.{append-nil}
use Rattle.std.proofs.lemmas.Str.{IsUtf8-from_is_utf8, is_utf8-from_IsUtf8, scalars-chars, chars-encodes}
use Rattle.winnow_stream.specs.Source.{width, units}
use Rattle.winnow_stream.specs.Text.{char_source, text_source}
use Rattle.winnow_match.specs.Bytes.{written}
use Rattle.winnow_match.proofs.lemmas.ByteLemmas.{bytes_of-units, utf8_of-text_source}
use Rattle.winnow_sets.specs.declared.char_set.CharSet.{CharSet}
use Rattle.winnow_sets.specs.Sets.{char_ranges, in_ranges}
use Rattle.winnow_script_feed.specs.Inputs.{InputRules, byte_input, text_input}
use Rattle.winnow_match.specs.Comparison.{IsPrefixOf}
use Rattle.winnow_script_attempt.specs.Missing.{letters, needle_missing}
use Rattle.winnow_script_feed.proofs.lemmas.TextRestLemmas.{text-drop, rest-text, needle-text}

pub record IsSpelling (i : InputRules) : Type 0 where
  pub letters_valid : (n : ℕ) → i.valid (letters n) ≡ true
  pub letters_width : (n : ℕ) → width (i.source (letters n)) ≡ n
  pub letters_length : (n : ℕ) → length (i.source (letters n)) ≡ n
  pub token_width : ℕ → ℕ
  pub token_valid : (t : ℕ) → i.is_token t ≡ true → i.valid (i.pieces.write t) ≡ true
  pub token_is : (t : ℕ) → i.is_token t ≡ true
      → i.source (i.pieces.write t) ≡ (t, token_width t) ∷ []
  pub token_most : (t : ℕ) → i.is_token t ≡ true → t ≤ i.greatest
  pub spells : (bytes : List ℕ) → i.valid bytes ≡ true
      → written i.pieces.write (i.source bytes) ≡ bytes
  pub holds_is : (set : CharSet) (t : ℕ) → i.pieces.holds set t ≡ in_ranges (char_ranges set) t
  pub tokens : (bytes : List ℕ) → AllByRecursion (λ byte. byte ≤ 255) bytes → i.valid bytes ≡ true
      → AllByRecursion (λ (x : ℕ × ℕ). i.is_token x.0 ≡ true) (i.source bytes)
  pub rest_valid : (bytes : List ℕ) (n : ℕ) → i.valid bytes ≡ true
      → i.valid (written i.pieces.write (drop n (i.source bytes))) ≡ true
  pub literal_valid : (l b : List ℕ) → i.valid l ≡ true → i.valid b ≡ true → IsPrefixOf b l
      → i.valid (drop (length b) l) ≡ true
  pub needle_valid : (ls : List (List ℕ)) (b : List ℕ) → 0 < length ls
      → AllByRecursion (λ needle. i.valid needle ≡ true) ls → i.valid b ≡ true
      → i.valid (needle_missing ls b) ≡ true

-- ---- bytes

-- letters are as wide as they are many, also as bytes
width-letters : (n : ℕ) → width (units (letters n)) ≡ n
width-letters zero = refl
width-letters (suc n) = omega (arith, width-letters n)

length-letters : (n : ℕ) → length (units (letters n)) ≡ n
length-letters zero = refl
length-letters (suc n) = ap suc (length-letters n)

-- each byte is a token
byte-tokens : (bytes : List ℕ) → AllByRecursion (λ byte. byte ≤ 255) bytes
    → AllByRecursion (λ (x : ℕ × ℕ). byte_input.is_token x.0 ≡ true) (units bytes)
byte-tokens [] h = tt
byte-tokens (b ∷ bytes) h = (le-leb b 255 h.0, byte-tokens bytes h.1)

-- bytes have the properties above
pub bytes-spelling : IsSpelling byte_input
bytes-spelling = record {
  letters_valid = λ n. refl;
  letters_width = width-letters;
  letters_length = length-letters;
  token_width = λ t. 1;
  token_valid = λ t u. refl;
  token_is = λ t u. refl;
  token_most = λ t u. leb-true t 255 u;
  spells = λ bytes u. bytes_of-units bytes;
  holds_is = λ set t. refl;
  tokens = λ bytes h u. byte-tokens bytes h;
  rest_valid = λ bytes n u. refl;
  literal_valid = λ l b u v f. refl;
  needle_valid = λ ls b some us v. refl;
}

-- ---- text

-- letters are scalar values, each of one byte
letters-scalars : (n : ℕ) → all_scalars (letters n) ≡ true
letters-scalars zero = refl
letters-scalars (suc n) = letters-scalars n

letters-encode : (n : ℕ) → encode_utf8_all (letters n) ≡ letters n
unfolding encode_utf8
letters-encode zero = refl
letters-encode (suc n) = ap (λ xs. 97 ∷ xs) (letters-encode n)

-- letters are text, whose tokens are the letters
letters-utf8 : (n : ℕ) → IsUtf8 (letters n)
letters-utf8 n = (letters n, (letters-scalars n, letters-encode n))

letters-chars : (n : ℕ) → text_source (letters n) ≡ char_source (letters n)
letters-chars n = ap char_source (ap chars (sym (letters-encode n)) ∙ chars-encodes (letters n) (letters-scalars n))

-- letters are as wide as they are many, also as text
text-width : (n : ℕ) → width (char_source (letters n)) ≡ n
text-width zero = refl
text-width (suc n) = omega (arith, text-width n)

text-length : (n : ℕ) → length (char_source (letters n)) ≡ n
text-length zero = refl
text-length (suc n) = ap suc (text-length n)

-- one character is encoded as its bytes, which are text with that one token
one-encode : (t : ℕ) → encode_utf8_all (t ∷ []) ≡ encode_utf8 t
one-encode t = append-nil (encode_utf8 t)

one-utf8 : (t : ℕ) → all_scalars (t ∷ []) ≡ true → IsUtf8 (encode_utf8 t)
one-utf8 t u = (t ∷ [], (u, one-encode t))

one-chars : (t : ℕ) → all_scalars (t ∷ []) ≡ true
    → text_source (encode_utf8 t) ≡ (t, len_utf8 t) ∷ []
one-chars t u = ap char_source (ap chars (sym (one-encode t)) ∙ chars-encodes (t ∷ []) u)

-- each scalar value is a token
char-tokens : (cs : List ℕ) → all_scalars cs ≡ true
    → AllByRecursion (λ (x : ℕ × ℕ). text_input.is_token x.0 ≡ true) (char_source cs)
char-tokens [] h = tt
char-tokens (c ∷ cs) h = let p = and_parts _ (all_scalars cs) h in (and_from _ true p.0 refl, char-tokens cs p.1)

-- a scalar value is at most 1114111
scalar-most : (t : ℕ) → all_scalars (t ∷ []) ≡ true → t ≤ 1114111
scalar-most t u =
    let p = and_parts _ true u in
    elim (cases_Bool (nat_lt t 55296)) [
      | inl e ↦ let low = ltb-true t 55296 e in omega arith
      | inr e ↦ let high = ltb-true t 1114112 (and_parts (nat_le 57344 t) (nat_lt t 1114112) (rw e at p.0)).1 in omega arith
    ]

-- text has the properties above
pub text-spelling : IsSpelling text_input
text-spelling = record {
  letters_valid = λ n. is_utf8-from_IsUtf8 (letters n) (letters-utf8 n);
  letters_width = λ n. ap width (letters-chars n) ∙ text-width n;
  letters_length = λ n. ap length (letters-chars n) ∙ text-length n;
  token_width = len_utf8;
  token_valid = λ t u. is_utf8-from_IsUtf8 (encode_utf8 t) (one-utf8 t u);
  token_is = one-chars;
  token_most = scalar-most;
  spells = λ bytes u. utf8_of-text_source bytes (IsUtf8-from_is_utf8 bytes u);
  holds_is = λ set t. refl;
  tokens = λ bytes h u. char-tokens (chars bytes) (scalars-chars bytes (IsUtf8-from_is_utf8 bytes u));
  rest_valid = text-drop;
  literal_valid = rest-text;
  needle_valid = needle-text;
}
