-- The text of a reply of version 3, as redis-cli prints it if it does not show what a reply is.
use Rattle.std.specs.Prelude.{ℕ, List, [], ◌∷◌, ◌++◌, map, box_value}
use Rattle.std.specs.Fmt.{signed_decimal}
use Rattle.format_resp3.specs.declared.reply.Reply.{Reply}
use Rattle.format_resp3.specs.declared.reply.Reply.TheOpen.{Reply-F, Simple, Error, Integer, Bulk, NullBulk, Array, NullArray, Null, Boolean, Double, BigNumber, BulkError, Verbatim, Map, Set, Push, Attributed}
use Rattle.format_resp3.specs.declared.reply.Reply.TheFolds.{fold-Reply}
use Rattle.wb_replies.specs.Lines.{line_of}
use Rattle.wb_replies.specs.Raw.{raw_entries}
use Rattle.wb_replies3.specs.Printing.{truth_text}

-- the texts of a key and its value, with a space between them
abbrev pub pair_raw : List ℕ × List ℕ → List ℕ
pair_raw pair = pair.0 ++ 32 ∷ pair.1

-- the layer of a reply, from the texts of the replies in it: an error ends its line, and what is
-- not there has no text
abbrev pub layer_raw : Reply-F (List ℕ) → List ℕ
layer_raw (Simple text) = text.items
layer_raw (Error text) = line_of [] text.items
layer_raw (Integer n) = signed_decimal n
layer_raw (Bulk held) = held.items
layer_raw NullBulk = []
layer_raw (Array replies) = raw_entries 0 replies.items
layer_raw NullArray = []
layer_raw Null = []
layer_raw (Boolean truth) = truth_text truth
layer_raw (Double text) = text.items
layer_raw (BigNumber text) = text.items
layer_raw (BulkError text) = line_of [] text.items
layer_raw (Verbatim format text) = text.items
layer_raw (Map pairs) = raw_entries 0 (map pair_raw pairs.items)
layer_raw (Set replies) = raw_entries 0 replies.items
layer_raw (Push replies) = raw_entries 0 replies.items
layer_raw (Attributed pairs described) = box_value described

-- the text of a reply
abbrev pub raw : Reply → List ℕ
raw = fold-Reply (List ℕ) layer_raw

-- the text of a key and its value
abbrev pub raw_pair : Reply × Reply → List ℕ
raw_pair pair = pair_raw (raw pair.0, raw pair.1)
