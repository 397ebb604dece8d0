-- The lines that show a reply.
use Rattle.std.specs.Prelude.{ℕ, List, [], codes}
use Rattle.std.specs.Fmt.{signed_decimal}
use Rattle.format_resp.specs.declared.reply.Reply.{Reply}
use Rattle.format_resp.specs.declared.reply.Reply.TheOpen.{Reply-F, Simple, Error, Integer, Bulk, NullBulk, Array, NullArray}
use Rattle.format_resp.specs.declared.reply.Reply.TheFolds.{fold-Reply}
use Rattle.wb_replies.specs.Lines.{quoted, line_of, list_shown}

-- the layer of a reply, from how the replies in its array are shown after a margin. The number of
-- a reply in an array has 41 after it, a closing parenthesis
abbrev pub layer_shown : Reply-F (List ℕ → List ℕ) → List ℕ → List ℕ
layer_shown (Simple text) margin = line_of [] text.items
layer_shown (Error text) margin = line_of (codes "(error) ") text.items
layer_shown (Integer n) margin = line_of (codes "(integer) ") (signed_decimal n)
layer_shown (Bulk held) margin = quoted held.items
layer_shown NullBulk margin = line_of [] (codes "(nil)")
layer_shown (Array replies) margin = list_shown 41 (codes "(empty array)") margin replies.items
layer_shown NullArray margin = line_of [] (codes "(nil)")

-- the lines that show a reply, with the margin before each line but the first
abbrev pub shown : Reply → List ℕ → List ℕ
shown = fold-Reply (List ℕ → List ℕ) layer_shown
