-- How replies are written, and within which limits they are.
use Rattle.std.specs.Prelude.{◌≡◌, ℕ, zero, suc, ◌==◌, ◌≤◌, ◌<◌, ◌^◌, Bool, true, false, ◌||◌, not, List, [], ◌∷◌, ◌++◌, length, decimal, Result, Ok, Err, FitsSigned, ⊤}
use Rattle.std.specs.List.{flat_map, list_any, list_all}
use Rattle.std.specs.Fmt.{signed_decimal}
use Rattle.std.specs.Int.{w64}
use Rattle.format_resp.specs.Language.{line, no_length, IsText}
use Rattle.format_resp.specs.declared.reply.Reply.{Reply}
use Rattle.format_resp.specs.declared.reply.Reply.TheOpen.{Reply-F, Simple, Error, Integer, Bulk, NullBulk, Array, NullArray}
use Rattle.format_resp.specs.declared.reply.Reply.TheViews.{out-Reply}
use Rattle.format_resp.specs.declared.reply.Reply.TheFolds.{fold-Reply}
use Rattle.format_resp.specs.declared.writing.Unwritten.{Unwritten}
use Rattle.format_resp.specs.declared.writing.Unwritten.TheVariants.{LineEnd, Refused}

-- the byte is a carriage return or a newline
abbrev pub ends_line : ℕ → Bool
ends_line byte = 13 == byte || 10 == byte

-- no text of a line has a line end, in the layer of a reply and in the replies of its array
abbrev pub layer_writable : Reply-F Bool → Bool
layer_writable (Simple text) = not (list_any ends_line text.items)
layer_writable (Error text) = not (list_any ends_line text.items)
layer_writable (Integer n) = true
layer_writable (Bulk held) = true
layer_writable NullBulk = true
layer_writable (Array replies) = list_all (λ one. one) replies.items
layer_writable NullArray = true

-- no simple string and no error in the reply has a line end
abbrev pub is_writable : Reply → Bool
is_writable = fold-Reply Bool layer_writable

-- the bytes of the layer of a reply, from those of the replies in its array
abbrev pub layer_written : Reply-F (List ℕ) → List ℕ
layer_written (Simple text) = 43 ∷ line text.items
layer_written (Error text) = 45 ∷ line text.items
layer_written (Integer n) = 58 ∷ line (signed_decimal n)
layer_written (Bulk held) = 36 ∷ (line (decimal (length held.items)) ++ line held.items)
layer_written NullBulk = 36 ∷ line no_length
layer_written (Array replies) = 42 ∷ (line (decimal (length replies.items)) ++ flat_map (λ one. one) replies.items)
layer_written NullArray = 42 ∷ line no_length

-- the bytes that are written for a reply
abbrev pub written : Reply → List ℕ
written = fold-Reply (List ℕ) layer_written

-- the answer says whether the reply can be written, unless memory was refused
abbrev pub TellsLineEnd : Reply → Result (Unit {0}) Unwritten → Type 0
TellsLineEnd reply (Ok done) = is_writable reply ≡ true
TellsLineEnd reply (Err LineEnd) = is_writable reply ≡ false
TellsLineEnd reply (Err (Refused e)) = ⊤

-- each of the replies is within limits, where a relation says which are
abbrev pub EachIsWithin : (Reply → Type 0) → List Reply → Type 0
EachIsWithin within [] = ⊤
EachIsWithin within (reply ∷ replies) = within reply × EachIsWithin within replies

-- the layer of a reply is within the limit on lengths, where a relation says which replies in its
-- array are. An integer has 64 bits, and a length too
abbrev pub LayerIsWithin : ℕ → (Reply → Type 0) → Reply-F Reply → Type 0
LayerIsWithin longest within (Simple text) = IsText longest text.items
LayerIsWithin longest within (Error text) = IsText longest text.items
LayerIsWithin longest within (Integer n) = FitsSigned w64 n
LayerIsWithin longest within (Bulk held) = (length held.items ≤ longest) × (length held.items < 2 ^ 64)
LayerIsWithin longest within NullBulk = ⊤
LayerIsWithin longest within (Array replies) = EachIsWithin within replies.items × (length replies.items < 2 ^ 64)
LayerIsWithin longest within NullArray = ⊤

-- no reply is within the limits
abbrev pub IsNever : Reply → Type 0
IsNever reply = ⊥

-- the reply is within the limits: it stands within at most `depth` arrays, each text and bulk
-- string in it has at most `longest` bytes, and no text has a line end
abbrev pub IsWithin : ℕ → ℕ → Reply → Type 0
IsWithin longest zero reply = LayerIsWithin longest IsNever (out-Reply reply)
IsWithin longest (suc depth) reply = LayerIsWithin longest (IsWithin longest depth) (out-Reply reply)
