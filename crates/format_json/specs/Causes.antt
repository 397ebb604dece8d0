-- What is wrong where a token is damaged. 34 is a quote and 39 a single one, 35 a number sign and
-- 47 a slash, 45 a minus and 48 a 0, 92 a backslash and 117 a u; 239 begins a byte order mark.
use Rattle.std.specs.Prelude.{ℕ, ◌+◌, ◌==◌, nat_lt, Bool, ◌||◌, ◌&&◌, if◌then◌else◌, List, ◌⊎◌, get_or, codes}
use Rattle.std.specs.Int.{is_in_range}
use Rattle.std.specs.Char.{is_ascii_digit, digit_value}
use Rattle.format_lemmas.specs.Bytes.{StartsWith}
use Rattle.format_json_scalars.specs.Numbers.{is_number_byte, BeginsNumber}
use Rattle.format_json.specs.TokenAnswers.{BeginsWord}
use Rattle.format_json_scalars.specs.Escapes.{MayBeChar}
use Rattle.format_json.specs.declared.causes.Cause.{Cause}
use Rattle.format_json.specs.declared.causes.Cause.TheVariants.{WideText, ByteOrderMark, Comment, SingleQuote, OtherWord, NoToken, LeadingZero, BadNumber, BadEscape, LoneSurrogate, ControlCharacter, BadUtf8}

-- ---- Where a token begins

-- a zero, 254 or 255: a text in UTF-16 or UTF-32 has one, and no token of JSON begins with one
abbrev pub is_wide : ℕ → Bool
is_wide byte = 0 == byte || (254 == byte || 255 == byte)

-- a letter of ASCII
abbrev pub is_letter : ℕ → Bool
is_letter byte = is_in_range 65 90 byte || is_in_range 97 122 byte

-- a 0 stands at the index, and a digit after it
abbrev pub has_nought : List ℕ → ℕ → Bool
has_nought bytes i = 48 == get_or bytes i 0 && is_ascii_digit (get_or bytes (i + 1) 0)

-- the bytes begin with a 0 and a digit, perhaps after a minus
abbrev pub has_leading_zero : List ℕ → Bool
has_leading_zero bytes = has_nought bytes 0 || (45 == get_or bytes 0 0 && has_nought bytes 1)

-- what is wrong with a number
abbrev pub number_cause : List ℕ → Cause
number_cause bytes = if has_leading_zero bytes then LeadingZero else BadNumber

-- what is wrong where the first byte is that of no number and no string
abbrev pub other_cause : ℕ → Cause
other_cause byte =
    if is_wide byte then WideText
    else (if 239 == byte then ByteOrderMark
    else (if 47 == byte || 35 == byte then Comment
    else (if 39 == byte then SingleQuote
    else (if is_letter byte then OtherWord else NoToken))))

-- ---- In a string

-- the bytes begin with `\u` and the first two digits of a surrogate
abbrev pub begins_surrogate : List ℕ → Bool
begins_surrogate bytes = 117 == get_or bytes 1 0
    && (digit_value (get_or bytes 2 0) == 13 && is_in_range 8 15 (digit_value (get_or bytes 3 0)))

-- what is wrong where no character begins
abbrev pub char_cause : List ℕ → Cause
char_cause bytes =
    let first = get_or bytes 0 0 in
    if 92 == first then (if begins_surrogate bytes then LoneSurrogate else BadEscape)
    else (if 0 == first then WideText else (if nat_lt first 32 then ControlCharacter else BadUtf8))

-- ---- Tokens

-- what is wrong with a token, which is damaged at the rest
abbrev pub cause_of : List ℕ → List ℕ → Cause
cause_of here rest =
    let first = get_or here 0 0 in
    if 34 == first then char_cause rest
    else (if is_number_byte first then number_cause here else other_cause first)

-- a token, which is damaged at the rest, is only cut off: more bytes make the rest the spelling of
-- a character in a string; or they make the token a word or a number
abbrev pub IsCut : List ℕ → List ℕ → Type 0
IsCut here rest = (StartsWith 34 here × MayBeChar rest) ⊎ (BeginsWord here ⊎ BeginsNumber here)

-- ---- Texts

-- the text of a cause
abbrev pub damage_text : Cause → List ℕ
damage_text WideText = codes "a byte of UTF-16 or UTF-32, and JSON is in UTF-8"
damage_text ByteOrderMark =
    codes "a byte order mark, or another character that is not ASCII, outside a string"
damage_text Comment = codes "a comment, which JSON does not have"
damage_text SingleQuote = codes "a single quote, and strings are in double quotes"
damage_text OtherWord = codes "a word other than true, false and null"
damage_text NoToken = codes "no token of JSON begins here"
damage_text LeadingZero = codes "a number with a zero before its first digit"
damage_text BadNumber = codes "a number that JSON does not write so"
damage_text BadEscape = codes "no escape of JSON"
damage_text LoneSurrogate = codes "a surrogate without the other one of its pair"
damage_text ControlCharacter = codes "a control character, which is an escape in a string"
damage_text BadUtf8 = codes "bytes that are no UTF-8"
