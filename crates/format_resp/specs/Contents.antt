-- The contents of a reply: what it says, without the memory that it takes.
use Rattle.std.specs.Prelude.{ℕ, List, [], ◌∷◌, ℤ}
use Rattle.format_resp.specs.declared.reply.Reply.{Reply}
use Rattle.format_resp.specs.declared.reply.Reply.TheOpen.{Reply-F, Simple, Error, Integer, Bulk, NullBulk, Array, NullArray}
use Rattle.format_resp.specs.declared.reply.Reply.TheFolds.{fold-Reply}

-- the contents of a reply: bytes, an integer, nothing, or those of the replies in an array
mutual
  pub data Value : Type 0 where
    simple : List ℕ → Value
    error : List ℕ → Value
    integer : ℤ → Value
    bulk : List ℕ → Value
    null_bulk : Value
    array : Values → Value
    null_array : Value

  pub data Values : Type 0 where
    none : Values
    more : Value → Values → Values

-- the values of a list, as `Values`
abbrev pub values_of : List Value → Values
values_of [] = none
values_of (v ∷ vs) = more v (values_of vs)

-- the contents of a layer, from those of the replies in its array
abbrev pub layer_contents : Reply-F Value → Value
layer_contents (Simple text) = simple text.items
layer_contents (Error text) = error text.items
layer_contents (Integer n) = integer n
layer_contents (Bulk held) = bulk held.items
layer_contents NullBulk = null_bulk
layer_contents (Array values) = array (values_of values.items)
layer_contents NullArray = null_array

-- the contents of a reply
abbrev pub contents : Reply → Value
contents = fold-Reply Value layer_contents
