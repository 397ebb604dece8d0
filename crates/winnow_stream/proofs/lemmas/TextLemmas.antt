-- A text as a source: its width, and the places at which it may be cut.
use Rattle.std.specs.Prelude.{◌≡◌, ◌↔◌, ℕ, zero, suc, ◌+◌, Bool, true, List, [], ◌∷◌, ◌++◌, length, take, drop}
use Rattle.std.specs.Char.{len_utf8, encode_utf8}
use Rattle.std.specs.Str.{chars, IsUtf8, IsCharBoundary, encode_utf8_all, all_scalars}
use Rattle.std.proofs.Common.{refl, ap, sym, ◌∙◌, arith, length-append, take-append-drop, length-take, subst}
use Rattle.std.proofs.Math.Seq.{take-append_seam, drop-append_seam}
use Rattle.std.proofs.lemmas.Bool.{and_parts}
use Rattle.std.proofs.lemmas.Bool.Decides.{same_from_decides}
use Rattle.std.proofs.lemmas.List.{take-map, map-append, nil_from_length}
use Rattle.std.proofs.lemmas.Str.{length-encode, encodes-chars, scalars-chars, chars_past_char, chars-nil, chars-append, IsUtf8-take, IsCharBoundary-at_seam, encodes-append}
use Rattle.winnow_stream.specs.Source.{width}
use Rattle.winnow_stream.specs.Front.{is_offset, count_to, front, back}
use Rattle.winnow_stream.specs.Text.{char_source, text_source, HasPositiveWidths-char_source}
use Rattle.winnow_stream.proofs.lemmas.FrontLemmas.{is_offset-seam, count_to-seam, width-front}

-- the width of characters is the number of their bytes
pub width-char_source : (cs : List ℕ) → width (char_source cs) ≡ length (encode_utf8_all cs)
width-char_source [] = refl
width-char_source (c ∷ cs) = simp (length-append, length-encode) (ap (λ n. len_utf8 c + n) (width-char_source cs))

-- the width of a text is its length in bytes
pub width-text_source : (bs : List ℕ) → IsUtf8 bs → width (text_source bs) ≡ length bs
width-text_source bs u = width-char_source (chars bs) ∙ ap length (encodes-chars bs u)

-- a text without bytes has no character
pub text_source-nil : (bs : List ℕ) → length bs ≡ 0 → text_source bs ≡ []
text_source-nil bs e = ap text_source (nil_from_length bs e) ∙ ap char_source chars-nil

-- the characters of two texts in a row are those of the first and then those of the second
pub text_source-append : (xs ys : List ℕ) → IsUtf8 xs
    → text_source (xs ++ ys) ≡ text_source xs ++ text_source ys
text_source-append xs ys u = ap char_source (chars-append xs ys u) ∙ map-append (λ c. (c, len_utf8 c)) (chars xs) (chars ys)

-- ---- the places at which a text may be cut

-- a boundary cuts the characters as it cuts the bytes
pub text_source-cut : (bs : List ℕ) (n : ℕ) → IsUtf8 bs → IsCharBoundary bs n
    → text_source bs ≡ text_source (take n bs) ++ text_source (drop n bs)
text_source-cut bs n u b = ap text_source (sym (take-append-drop n bs)) ∙ text_source-append (take n bs) (drop n bs) (IsUtf8-take bs n u b)

-- the width before a boundary is the number of bytes before it
pub width-cut : (bs : List ℕ) (n : ℕ) → IsUtf8 bs → IsCharBoundary bs n
    → width (text_source (take n bs)) ≡ n
width-cut bs n u b = width-text_source (take n bs) (IsUtf8-take bs n u b) ∙ omega (arith, length-take n bs, b.0)

-- a boundary is an offset
pub is_offset-from_boundary : (bs : List ℕ) (n : ℕ) → IsUtf8 bs → IsCharBoundary bs n
    → is_offset (text_source bs) n ≡ true
is_offset-from_boundary bs n u b =
    rw (text_source-cut bs n u b) (subst (λ m. is_offset (text_source (take n bs) ++ text_source (drop n bs)) m ≡ true) (width-cut bs n u b) (is_offset-seam (text_source (take n bs)) (text_source (drop n bs)) (HasPositiveWidths-char_source (chars (take n bs)))))

-- the front up to a boundary has the characters before it
pub count_to-cut : (bs : List ℕ) (n : ℕ) → IsUtf8 bs → IsCharBoundary bs n
    → count_to (text_source bs) n ≡ length (text_source (take n bs))
count_to-cut bs n u b =
    rw (text_source-cut bs n u b) (subst (λ m. count_to (text_source (take n bs) ++ text_source (drop n bs)) m ≡ length (text_source (take n bs))) (width-cut bs n u b) (count_to-seam (text_source (take n bs)) (text_source (drop n bs)) (HasPositiveWidths-char_source (chars (take n bs)))))

-- a text cut at a boundary: its first part is the front, and its second is what follows
pub front-cut : (bs : List ℕ) (n : ℕ) → IsUtf8 bs → IsCharBoundary bs n
    → text_source (take n bs) ≡ front (text_source bs) n
front-cut bs n u b =
    let e = count_to-cut bs n u b in
    let f = text_source-cut bs n u b in
    sym (ap (λ k. take k (text_source bs)) e ∙ ap (take (length (text_source (take n bs)))) f ∙ take-append_seam (text_source (take n bs)) (text_source (drop n bs)))

pub back-cut : (bs : List ℕ) (n : ℕ) → IsUtf8 bs → IsCharBoundary bs n
    → text_source (drop n bs) ≡ back (text_source bs) n
back-cut bs n u b =
    let e = count_to-cut bs n u b in
    let f = text_source-cut bs n u b in
    sym (ap (λ k. drop k (text_source bs)) e ∙ ap (drop (length (text_source (take n bs)))) f ∙ drop-append_seam (text_source (take n bs)) (text_source (drop n bs)))

-- the rest of a list of scalar values has scalar values alone
pub scalars-drop : (k : ℕ) (cs : List ℕ) → all_scalars cs ≡ true → all_scalars (drop k cs) ≡ true
scalars-drop zero cs h = h
scalars-drop (suc k) [] h = h
scalars-drop (suc k) (c ∷ cs) h = scalars-drop k cs (and_parts _ (all_scalars cs) h).1

-- an offset is a boundary
pub boundary-from_is_offset : (bs : List ℕ) (n : ℕ) → IsUtf8 bs
    → is_offset (text_source bs) n ≡ true → IsCharBoundary bs n
boundary-from_is_offset bs n u h =
    let k : ℕ = count_to (text_source bs) n in
    let cs : List ℕ = chars bs in
    let e : encode_utf8_all (take k cs) ++ encode_utf8_all (drop k cs) ≡ bs = sym (encodes-append (take k cs) (drop k cs)) ∙ ap encode_utf8_all (take-append-drop k cs) ∙ encodes-chars bs u in
    let w : length (encode_utf8_all (take k cs)) ≡ n =
    sym (width-char_source (take k cs)) ∙ ap width (sym (take-map {Y = ℕ × ℕ} (λ c. (c, len_utf8 c)) k cs)) ∙ width-front (text_source bs) n h
    in
    subst (λ m. IsCharBoundary bs m) w
    (IsCharBoundary-at_seam bs (encode_utf8_all (take k cs)) (encode_utf8_all (drop k cs)) (sym e) (drop k cs, (scalars-drop k cs (scalars-chars bs u), refl)))

-- a text that begins with a character has it as its first token
pub first-text_source : (bs rest : List ℕ) (c : ℕ) → IsUtf8 bs → bs ≡ encode_utf8 c ++ rest
    → text_source bs ≡ (c, len_utf8 c) ∷ text_source rest
first-text_source bs rest c u e = ap char_source (chars_past_char bs rest c u e)

-- a test for boundaries is a test for offsets
pub is_offset-decides : (bs : List ℕ) (n : ℕ) (b : Bool) → IsUtf8 bs
    → (b ≡ true ↔ IsCharBoundary bs n) → b ≡ is_offset (text_source bs) n
is_offset-decides bs n b u d =
    same_from_decides b (is_offset (text_source bs) n) (d.0, d.1) (boundary-from_is_offset bs n u, is_offset-from_boundary bs n u)

-- ---- a text is determined by its characters

-- the characters of tokens
abbrev characters : List (ℕ × ℕ) → List ℕ
characters [] = []
characters (x ∷ xs) = x.0 ∷ characters xs

-- the characters of a source are those that it was made of
characters-char_source : (cs : List ℕ) → characters (char_source cs) ≡ cs
characters-char_source [] = refl
characters-char_source (c ∷ cs) = ap (λ ds. c ∷ ds) (characters-char_source cs)

-- texts with the same characters have the same bytes
pub text_source-same : (xs ys : List ℕ) → IsUtf8 xs → IsUtf8 ys → text_source xs ≡ text_source ys
    → xs ≡ ys
text_source-same xs ys u v e =
    let same : chars xs ≡ chars ys = sym (characters-char_source (chars xs)) ∙ ap characters e ∙ characters-char_source (chars ys) in
    sym (encodes-chars xs u) ∙ ap encode_utf8_all same ∙ encodes-chars ys v
