-- Replies of version 3 of the protocol, and the bytes that spell them.
use Rattle.std.specs.Prelude.{◌≡◌, ℕ, zero, suc, ◌<◌, ◌≤◌, ◌^◌, ◌==◌, nat_lt, Bool, true, false, if◌then◌else◌, List, [], ◌∷◌, ◌++◌, length, decimal, FitsSigned, box_value, ⊤}
use Rattle.std.specs.List.{list_any}
use Rattle.std.specs.Fmt.{signed_decimal}
use Rattle.std.specs.Int.{w64}
use Rattle.winnow_codec.specs.Formats.{Spelling}
use Rattle.winnow_codec.specs.FormatRows.{SpellsPair, AreBothSame}
use Rattle.winnow_codec.specs.Byte.{SpellsByte}
use Rattle.winnow_codec.specs.Verified.{SpellsAllowed}
use Rattle.winnow_codec.specs.Cases.{SpellsTagged}
use Rattle.winnow_codec.specs.Lists.{SpellsEach, AreSameEach}
use Rattle.format_resp3.specs.Texts.{ends_line, is_integer, IsDouble}
use Rattle.format_resp3.specs.declared.reply.Reply.{Reply}
use Rattle.format_resp3.specs.declared.reply.Reply.TheOpen.{Reply-F, Simple, Error, Integer, Bulk, NullBulk, Array, NullArray, Null, Boolean, Double, BigNumber, BulkError, Verbatim, Map, Set, Push, Attributed}
use Rattle.format_resp3.specs.declared.reply.Reply.TheViews.{out-Reply}

-- ---- The parts of a reply

-- a carriage return and a newline, which end each line
abbrev pub line_end : List ℕ
line_end = 13 ∷ 10 ∷ []

-- -1, in the place of a number where there is nothing
abbrev pub no_number : List ℕ
no_number = 45 ∷ 49 ∷ []

-- the first line: the byte of the kind, and the text of the line, which is that of the reply or the
-- number of what follows
abbrev pub first_of : Reply-F Reply → ℕ × List ℕ
first_of (Simple text) = (43, text.items)
first_of (Error text) = (45, text.items)
first_of (Integer n) = (58, signed_decimal n)
first_of (Bulk held) = (36, decimal (length held.items))
first_of NullBulk = (36, no_number)
first_of (Array replies) = (42, decimal (length replies.items))
first_of NullArray = (42, no_number)
first_of Null = (95, [])
first_of (Boolean b) = (35, (if b then 116 else 102) ∷ [])
first_of (Double text) = (44, text.items)
first_of (BigNumber text) = (40, text.items)
first_of (BulkError held) = (33, decimal (length held.items))
first_of (Verbatim format text) = (61, decimal (length (format.items ++ 58 ∷ text.items)))
first_of (Map pairs) = (37, decimal (length pairs.items))
first_of (Set replies) = (126, decimal (length replies.items))
first_of (Push replies) = (62, decimal (length replies.items))
first_of (Attributed pairs reply) = (124, decimal (length pairs.items))

-- the bytes after the first line: those that are held, with a line end; of a verbatim text, its
-- format and a colon before it
abbrev pub held_of : Reply-F Reply → List ℕ
held_of (Bulk held) = held.items ++ line_end
held_of (BulkError held) = held.items ++ line_end
held_of (Verbatim format text) = (format.items ++ 58 ∷ text.items) ++ line_end
held_of x = []

-- the keys inside, each with its value
abbrev pub pairs_of : Reply-F Reply → List (Reply × Reply)
pairs_of (Map pairs) = pairs.items
pairs_of (Attributed pairs reply) = pairs.items
pairs_of x = []

-- the other replies inside
abbrev pub replies_of : Reply-F Reply → List Reply
replies_of (Array replies) = replies.items
replies_of (Set replies) = replies.items
replies_of (Push replies) = replies.items
replies_of (Attributed pairs reply) = box_value reply ∷ []
replies_of x = []

-- ---- Limits

-- so many bytes are allowed
abbrev pub IsAllowed : ℕ → ℕ → Type 0
IsAllowed longest n = (n ≤ longest) × (n < 2 ^ 64)

-- the layer of a reply is one of the protocol: each of its texts has at most `longest` bytes and is
-- one of its kind, the format of a verbatim text has three bytes, and numbers have 64 bits
abbrev pub IsWithin : ℕ → Reply-F Reply → Type 0
IsWithin longest (Simple text) = length text.items ≤ longest
IsWithin longest (Error text) = length text.items ≤ longest
IsWithin longest (Integer n) = FitsSigned w64 n
IsWithin longest (Bulk held) = IsAllowed longest (length held.items)
IsWithin longest NullBulk = ⊤
IsWithin longest (Array replies) = length replies.items < 2 ^ 64
IsWithin longest NullArray = ⊤
IsWithin longest Null = ⊤
IsWithin longest (Boolean b) = ⊤
IsWithin longest (Double text) = (length text.items ≤ longest) × IsDouble text.items
IsWithin longest (BigNumber text) = (length text.items ≤ longest) × (is_integer text.items ≡ true)
IsWithin longest (BulkError held) = IsAllowed longest (length held.items)
IsWithin longest (Verbatim format text) = (length format.items ≡ 3) × IsAllowed longest (length (format.items ++ 58 ∷ text.items))
IsWithin longest (Map pairs) = length pairs.items < 2 ^ 64
IsWithin longest (Set replies) = length replies.items < 2 ^ 64
IsWithin longest (Push replies) = length replies.items < 2 ^ 64
IsWithin longest (Attributed pairs reply) = length pairs.items < 2 ^ 64

-- ---- Spellings

-- the byte is a kind
abbrev pub is_kind : ℕ → Bool
is_kind c = list_any (λ kind. kind == c) (43 ∷ 45 ∷ 58 ∷ 36 ∷ 42 ∷ 95 ∷ 35 ∷ 44 ∷ 40 ∷ 33 ∷ 61 ∷ 37 ∷ 126 ∷ 62 ∷ 124 ∷ [])

-- the byte of a kind
abbrev pub SpellsKind : Spelling ℕ
SpellsKind = SpellsAllowed (λ kind. is_kind kind ≡ true) SpellsByte

-- a text of at most this many bytes, none of which ends a line, and a line end
abbrev pub SpellsLine : ℕ → Spelling (List ℕ)
SpellsLine most text bytes = (list_any ends_line text ≡ false) × (length text ≤ most) × (bytes ≡ text ++ line_end)

-- the greatest number of bytes in a line: as many as are allowed in a text, or those of a number
abbrev pub line_limit : ℕ → ℕ
line_limit longest = if nat_lt longest 20 then 20 else longest

-- the byte of a kind, and a line
abbrev pub SpellsFirst : ℕ → Spelling (ℕ × List ℕ)
SpellsFirst longest = SpellsPair SpellsKind (SpellsLine (line_limit longest))

-- the bytes that are held, the keys with their values, and the other replies, where a relation says
-- which bytes spell each reply
abbrev pub SpellsParts : Spelling Reply → Reply-F Reply → List ℕ → Type 0
SpellsParts inner x bytes = (pairs replies : List ℕ) × (SpellsEach (SpellsPair inner inner) (pairs_of x) pairs
    × SpellsEach inner (replies_of x) replies × (bytes ≡ held_of x ++ (pairs ++ replies)))

-- what follows the first line of a reply within limits
abbrev pub SpellsAfter : ℕ → Spelling Reply → ℕ × List ℕ → Spelling Reply
SpellsAfter longest inner first reply bytes =
    (first ≡ first_of (out-Reply reply)) × IsWithin longest (out-Reply reply) × SpellsParts inner (out-Reply reply) bytes

-- the first line of the reply, and then what follows it
abbrev pub SpellsLayer : ℕ → Spelling Reply → Spelling Reply
SpellsLayer longest inner = SpellsTagged (SpellsFirst longest) (λ reply. first_of (out-Reply reply)) (SpellsAfter longest inner)

-- which bytes spell a reply that stands within this many others: none if no other may be inside
abbrev pub SpellsInner : ℕ → ℕ → Spelling Reply
SpellsInner longest zero reply bytes = ⊥
SpellsInner longest (suc depth) reply bytes = SpellsLayer longest (SpellsInner longest depth) reply bytes

-- the bytes spell the reply: each reply in it stands within at most `depth` others, and each text
-- has at most `longest` bytes
abbrev pub SpellsReply : ℕ → ℕ → Spelling Reply
SpellsReply longest depth = SpellsLayer longest (SpellsInner longest depth)

-- ---- Replies that are the same

-- the layers have the same first line and hold the same bytes, and the replies inside are the same
abbrev pub AreSameLayer : (Reply → Reply → Type 0) → Reply-F Reply → Reply-F Reply → Type 0
AreSameLayer same x y = (first_of x ≡ first_of y) × (held_of x ≡ held_of y)
    × AreSameEach (AreBothSame same same) (pairs_of x) (pairs_of y) × AreSameEach same (replies_of x) (replies_of y)

-- the replies are the same in this many layers
abbrev pub AreSameDown : ℕ → Reply → Reply → Type 0
AreSameDown zero v w = ⊤
AreSameDown (suc depth) v w = AreSameLayer (AreSameDown depth) (out-Reply v) (out-Reply w)

-- the replies are the same in all layers
abbrev pub AreSameReply : Reply → Reply → Type 0
AreSameReply v w = (depth : ℕ) → AreSameDown depth v w
