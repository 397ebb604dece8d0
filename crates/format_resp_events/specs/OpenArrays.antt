-- How many replies open arrays lack, the innermost array first.
use Rattle.std.specs.Prelude.{◌≡◌, ℕ, ◌-◌, nat_lt, Bool, true, List, [], ◌∷◌, reverse}
use Rattle.format_resp.specs.declared.reply.Reply.{Reply}
use Rattle.format_resp.specs.declared.reply.Reply.TheOpen.{Reply-F, Simple, Error, Integer, Bulk, NullBulk, Array, NullArray}
use Rattle.format_resp_events.specs.declared.open_arrays.OpenArrays.{OpenArrays}

-- what a program's `OpenArrays` shows
abbrev pub lacks_of : OpenArrays → List ℕ
lacks_of s = reverse s.lacks.items

-- after a reply that is whole the innermost array lacks one less
abbrev pub after_reply : List ℕ → List ℕ
after_reply [] = []
after_reply (n ∷ lacks) = (n - 1) ∷ lacks

-- the innermost array is closed, and is a whole reply of the one around it
abbrev pub after_array : List ℕ → List ℕ
after_array [] = []
after_array (n ∷ lacks) = after_reply lacks

-- after the head of a reply: an array that has begun and has no replies, or a whole reply
abbrev pub after_head : Reply-F Reply → List ℕ → List ℕ
after_head (Array replies) lacks = 0 ∷ lacks
after_head (Simple text) lacks = after_reply lacks
after_head (Error text) lacks = after_reply lacks
after_head (Integer n) lacks = after_reply lacks
after_head (Bulk held) lacks = after_reply lacks
after_head NullBulk lacks = after_reply lacks
after_head NullArray lacks = after_reply lacks

-- a reply is due: no array is open, or the innermost one lacks replies
abbrev pub is_due : List ℕ → Bool
is_due [] = true
is_due (n ∷ lacks) = nat_lt 0 n

-- so it is
abbrev pub IsDue : List ℕ → Type 0
IsDue lacks = is_due lacks ≡ true
