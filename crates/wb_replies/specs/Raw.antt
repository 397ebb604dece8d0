-- The text of a reply, as redis-cli prints it if it does not show what a reply is.
use Rattle.std.specs.Prelude.{ℕ, ◌+◌, ◌==◌, List, [], ◌∷◌, ◌++◌, if◌then◌else◌}
use Rattle.std.specs.Fmt.{signed_decimal}
use Rattle.format_resp.specs.declared.reply.Reply.{Reply}
use Rattle.format_resp.specs.declared.reply.Reply.TheOpen.{Reply-F, Simple, Error, Integer, Bulk, NullBulk, Array, NullArray}
use Rattle.format_resp.specs.declared.reply.Reply.TheFolds.{fold-Reply}
use Rattle.wb_replies.specs.Lines.{line_of}

-- what stands before the reply at this index of an array: a line feed, but for the first
abbrev pub separator : ℕ → List ℕ
separator i = if i == 0 then [] else 10 ∷ []

-- the texts of the replies in an array from this index on
abbrev pub raw_entries : ℕ → List (List ℕ) → List ℕ
raw_entries i [] = []
raw_entries i (text ∷ texts) = separator i ++ text ++ raw_entries (i + 1) texts

-- the layer of a reply, from the texts of the replies in its array: an error ends its line, and
-- what is not there has no text
abbrev pub layer_raw : Reply-F (List ℕ) → List ℕ
layer_raw (Simple text) = text.items
layer_raw (Error text) = line_of [] text.items
layer_raw (Integer n) = signed_decimal n
layer_raw (Bulk held) = held.items
layer_raw NullBulk = []
layer_raw (Array replies) = raw_entries 0 replies.items
layer_raw NullArray = []

-- the text of a reply
abbrev pub raw : Reply → List ℕ
raw = fold-Reply (List ℕ) layer_raw
