-- The parts of a reply, in which its bytes stand one after the other: a part is the byte of a kind
-- and a line, or a bulk string. What is wrong where a reply breaks off shows in the part that the
-- bytes before the place end in. 13 is CR and 10 LF; 36 is $, 42 * and 58 a colon.
use Rattle.std.specs.Prelude.{◌≡◌, ℕ, zero, suc, ◌+◌, ◌-◌, ◌^◌, ◌==◌, nat_le, nat_lt, Bool, false, ◌&&◌, ◌||◌, not, if◌then◌else◌, List, [], ◌∷◌, length, take, drop, get_or, Option, Some, None, decimal}
use Rattle.std.specs.Cmp.Lexicographic.{pointwise}
use Rattle.std.specs.List.{prefix_len}
use Rattle.std.specs.Str.Parse.{digits_value}
use Rattle.format_resp.specs.Language.{is_in_line}
use Rattle.format_resp.specs.declared.causes.Cause.{Cause}
use Rattle.format_resp.specs.declared.causes.Cause.TheVariants.{EndsInside, NoKind, TooDeep, NoInteger, NoLength, TooLong, NoLineEnd}

-- ---- Lines

-- the number of bytes before the first CR or LF
abbrev pub text_width : List ℕ → ℕ
text_width bytes = prefix_len is_in_line bytes

-- the bytes begin with CR LF
abbrev pub begins_end : List ℕ → Bool
begins_end bytes = 13 == get_or bytes 0 0 && 10 == get_or bytes 1 0

-- the width of the text of the line that stands first, if one does
abbrev pub line_width : List ℕ → Option ℕ
line_width bytes = if begins_end (drop (text_width bytes) bytes) then Some (text_width bytes) else None

-- ---- Parts

-- the number that the text is, if it is one of 64 bits as std writes it
abbrev pub count_of : List ℕ → Option ℕ
count_of text = let n = digits_value 10 text in
    if pointwise (λ x y. x == y) text (decimal n) && nat_lt n (2 ^ 64) then Some n else None

-- the number of bytes that follow the line with the text, after the byte of this kind
abbrev pub held_count : ℕ → List ℕ → Option ℕ
held_count kind text = if 36 == kind then count_of text else None

-- of n bytes after the byte of a kind, the width of a part whose text is `width` bytes wide and
-- that has this number of bytes after its line, if they and a line end fit
abbrev pub held_width : ℕ → ℕ → Option ℕ → Option ℕ
held_width width n None = Some (width + 3)
held_width width n (Some count) = if nat_le (width + count + 4) n then Some (width + count + 5) else None

-- the width of the part, after the byte of whose kind a line with a text of this width stands
abbrev pub whole_width : ℕ → List ℕ → Option ℕ → Option ℕ
whole_width kind after None = None
whole_width kind after (Some width) = held_width width (length after) (held_count kind (take width after))

-- the width of the part that stands first, if it is whole
abbrev pub part_width : List ℕ → Option ℕ
part_width bytes = whole_width (get_or bytes 0 0) (drop 1 bytes) (line_width (drop 1 bytes))

-- these bytes are n whole parts and then the beginning of one
abbrev pub EndsIn : ℕ → List ℕ → List ℕ → Type 0
EndsIn zero bytes begun = (bytes ≡ begun) × (part_width bytes ≡ None)
EndsIn (suc n) bytes begun = (width : ℕ) × ((part_width bytes ≡ Some width) × EndsIn n (drop width bytes) begun)

-- these bytes are whole parts and then the beginning of one
abbrev pub EndsInPart : List ℕ → List ℕ → Type 0
EndsInPart bytes begun = (n : ℕ) × EndsIn n bytes begun

-- ---- What is wrong with the part that has begun

-- the byte is the kind of a number or of a length
abbrev pub is_number_kind : ℕ → Bool
is_number_kind kind = 58 == kind || (36 == kind || 42 == kind)

-- what is wrong with the text of a length: it is none; or it is one, and is above what is allowed
abbrev pub length_fault : Cause → Option ℕ → Cause
length_fault above None = NoLength
length_fault above (Some count) = above

-- what is wrong with the text of a number, after the byte of this kind
abbrev pub number_fault : ℕ → List ℕ → Cause
number_fault kind text = if 58 == kind then NoInteger
    else length_fault (if 36 == kind then TooLong else TooDeep) (count_of text)

-- what is wrong with the line of a number, if it stands first with a text of this width
abbrev pub line_fault : ℕ → List ℕ → Option ℕ → Cause
line_fault kind rest None = EndsInside
line_fault kind rest (Some width) = number_fault kind (take width rest)

-- what is wrong at the rest, right after the byte of this kind
abbrev pub first_fault : ℕ → List ℕ → Cause
first_fault kind rest = if is_number_kind kind && not (10 == get_or rest 0 0) then line_fault kind rest (line_width rest) else NoLineEnd

-- n bytes are fewer than this number, if there is one
abbrev pub is_fewer : ℕ → Option ℕ → Bool
is_fewer n None = false
is_fewer n (Some count) = nat_lt n count

-- fewer bytes follow the line, whose text has this width, than it says
abbrev pub lacks_held : ℕ → List ℕ → Option ℕ → Bool
lacks_held kind after None = false
lacks_held kind after (Some width) = is_fewer (length after - (width + 2)) (held_count kind (take width after))

-- the part that has begun is a bulk string with fewer bytes than it says
abbrev pub is_short : List ℕ → Bool
is_short begun = lacks_held (get_or begun 0 0) (drop 1 begun) (line_width (drop 1 begun))

-- what is wrong at the rest, which is not empty, with the part that has begun
abbrev pub begun_fault : List ℕ → List ℕ → Cause
begun_fault [] rest = NoKind
begun_fault (kind ∷ []) rest = first_fault kind rest
begun_fault (kind ∷ b ∷ begun) rest = if is_short (kind ∷ b ∷ begun) then EndsInside else NoLineEnd

-- what is wrong at the rest with the part that has begun
abbrev pub fault : List ℕ → List ℕ → Cause
fault begun [] = EndsInside
fault begun (c ∷ rest) = begun_fault begun (c ∷ rest)

-- this is wrong at the rest with the part that the bytes before it end in
abbrev pub IsFault : Cause → List ℕ → List ℕ → Type 0
IsFault cause before rest = (begun : List ℕ) × (EndsInPart before begun × (cause ≡ fault begun rest))
