-- Replies of the protocol, and the bytes that spell them.
use Rattle.std.specs.Prelude.{◌≡◌, ℕ, zero, suc, ◌==◌, ◌-◌, ◌<◌, ◌≤◌, ◌^◌, Bool, ◌||◌, not, List, [], ◌∷◌, ◌++◌, length, decimal, Option, Some, None, ℤ, FitsSigned}
use Rattle.std.specs.Fmt.{signed_decimal}
use Rattle.std.specs.Int.{w64}
use Rattle.format_lemmas.specs.Bytes.{Each}
use Rattle.format_resp.specs.declared.reply.Reply.{Reply}
use Rattle.format_resp.specs.declared.reply.Reply.TheOpen.{Reply-F, Simple, Error, Integer, Bulk, NullBulk, Array, NullArray}
use Rattle.format_resp.specs.declared.reply.Reply.TheViews.{out-Reply}

-- a carriage return and a newline, which end each line
abbrev pub line_end : List ℕ
line_end = 13 ∷ 10 ∷ []

-- the byte is neither a carriage return nor a newline
abbrev pub is_in_line : ℕ → Bool
is_in_line c = not (13 == c || 10 == c)

-- no byte is a carriage return or a newline
abbrev pub AreInLine : List ℕ → Type 0
AreInLine bytes = Each is_in_line bytes

-- the bytes can stand before the end of a line, and are at most that many
abbrev pub IsText : ℕ → List ℕ → Type 0
IsText longest text = AreInLine text × (length text ≤ longest)

-- a line: its text and its end
abbrev pub line : List ℕ → List ℕ
line text = text ++ line_end

-- -1, which stands for a length where there is nothing
abbrev pub no_length : List ℕ
no_length = 45 ∷ 49 ∷ []

-- the text is this integer, as std writes it: a minus only before a number below 0, no plus, and
-- no 0 before other digits
abbrev pub IsInteger : List ℕ → ℤ → Type 0
IsInteger text n = FitsSigned w64 n × (text ≡ signed_decimal n)

-- the text is a length of at most `greatest`, written as std writes it; or it is -1
abbrev pub IsLength : ℕ → List ℕ → Option ℕ → Type 0
IsLength greatest text None = text ≡ no_length
IsLength greatest text (Some n) = (n ≤ greatest) × (n < 2 ^ 64) × (text ≡ decimal n)

-- the greatest number of replies in an array
abbrev pub greatest_count : ℕ
greatest_count = 2 ^ 64 - 1

-- the bytes spell these replies, one after the other, where a relation says what spells each
abbrev pub SpellAll : (Reply → List ℕ → Type 0) → List Reply → List ℕ → Type 0
SpellAll spells [] bytes = bytes ≡ []
SpellAll spells (reply ∷ replies) bytes = (one : List ℕ) × ((more : List ℕ) × ((bytes ≡ one ++ more)
    × spells reply one × SpellAll spells replies more))

-- the bytes spell the layer of a reply, where a relation says what spells the replies in an array:
-- first the byte of its kind, and then a line with its text, its number or its length. The bytes of
-- a bulk string follow, with a line end, or the replies in an array
abbrev pub SpellsLayer : ℕ → (Reply → List ℕ → Type 0) → Reply-F Reply → List ℕ → Type 0
SpellsLayer longest spells (Simple text) bytes = IsText longest text.items × (bytes ≡ 43 ∷ line text.items)
SpellsLayer longest spells (Error text) bytes = IsText longest text.items × (bytes ≡ 45 ∷ line text.items)
SpellsLayer longest spells (Integer n) bytes = (text : List ℕ) × (IsInteger text n × (bytes ≡ 58 ∷ line text))
SpellsLayer longest spells (Bulk held) bytes = (text : List ℕ) × (IsLength longest text (Some (length held.items))
    × (bytes ≡ 36 ∷ (line text ++ line held.items)))
SpellsLayer longest spells NullBulk bytes = bytes ≡ 36 ∷ line no_length
SpellsLayer longest spells (Array replies) bytes = (text : List ℕ) × ((more : List ℕ)
    × (IsLength greatest_count text (Some (length replies.items)) × SpellAll spells replies.items more
    × (bytes ≡ 42 ∷ (line text ++ more))))
SpellsLayer longest spells NullArray bytes = bytes ≡ 42 ∷ line no_length

-- no bytes spell a reply
abbrev pub SpellsNone : Reply → List ℕ → Type 0
SpellsNone reply bytes = ⊥

-- the bytes spell the reply: it stands within at most `depth` arrays, and each text and bulk
-- string in it has at most `longest` bytes
abbrev pub Spells : ℕ → ℕ → Reply → List ℕ → Type 0
Spells longest zero reply = SpellsLayer longest SpellsNone (out-Reply reply)
Spells longest (suc depth) reply = SpellsLayer longest (Spells longest depth) (out-Reply reply)
