-- The calls that write a reply.
use Rattle.std.specs.Prelude.{ℕ, List, [], ◌∷◌, length}
use Rattle.std.specs.List.{flat_map}
use Rattle.woldbraid_writers.specs.Replies.{Part, part_text}
use Rattle.woldbraid_writers.specs.Replies as part
use Rattle.format_resp.specs.declared.reply.Reply.{Reply}
use Rattle.format_resp.specs.declared.reply.Reply.TheOpen.{Reply-F, Simple, Error, Integer, Bulk, NullBulk, Array, NullArray}
use Rattle.format_resp.specs.declared.reply.Reply.TheFolds.{fold-Reply}

-- the calls for the layer of a reply, from those for the replies in its array
abbrev pub layer_parts : Reply-F (List Part) → List Part
layer_parts (Simple text) = part.Simple text.items ∷ []
layer_parts (Error text) = part.Error text.items ∷ []
layer_parts (Integer n) = part.Integer n ∷ []
layer_parts (Bulk held) = part.Bulk held.items ∷ []
layer_parts NullBulk = part.NullBulk ∷ []
layer_parts (Array replies) = part.Array (length replies.items) ∷ flat_map (λ one. one) replies.items
layer_parts NullArray = part.NullArray ∷ []

-- the calls for a reply: an array by its head, and then its replies
abbrev pub parts_of : Reply → List Part
parts_of = fold-Reply (List Part) layer_parts

-- the bytes of calls
abbrev pub parts_text : List Part → List ℕ
parts_text parts = flat_map part_text parts
