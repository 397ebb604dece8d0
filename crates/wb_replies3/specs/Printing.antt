-- The lines that show a reply of version 3.
use Rattle.std.specs.Prelude.{ℕ, Bool, true, false, ◌-◌, List, [], ◌∷◌, ◌++◌, length, map, take, codes, box_value}
use Rattle.std.specs.Fmt.{signed_decimal}
use Rattle.format_resp3.specs.declared.reply.Reply.{Reply}
use Rattle.format_resp3.specs.declared.reply.Reply.TheOpen.{Reply-F, Simple, Error, Integer, Bulk, NullBulk, Array, NullArray, Null, Boolean, Double, BigNumber, BulkError, Verbatim, Map, Set, Push, Attributed}
use Rattle.format_resp3.specs.declared.reply.Reply.TheFolds.{fold-Reply}
use Rattle.wb_replies.specs.Lines.{quoted, line_of, list_shown}

-- the text without its last byte
abbrev pub without_last : List ℕ → List ℕ
without_last text = take (length text - 1) text

-- the shape of a reply: its lines, from the margin before each but the first; and whether it breaks
-- the line, as the value of a key: it has several entries, or one that breaks the line
pub record Shape : Type 0 where
  pub lines : List ℕ → List ℕ
  pub breaks : Bool

-- what is no list, with these lines
abbrev pub single : List ℕ → Shape
single text = record { lines = λ margin. text; breaks = false }

-- whether entries break the line, from whether each does
abbrev pub list_breaks : List Bool → Bool
list_breaks [] = false
list_breaks (one ∷ []) = one
list_breaks (one ∷ other ∷ others) = true

-- a list of replies, with this mark after each number, or this text if there are none
abbrev pub listed : ℕ → List ℕ → List Shape → Shape
listed mark empty shows = record {
  lines = λ margin. list_shown mark empty margin (map (λ (s : Shape). s.lines) shows);
  breaks = list_breaks (map (λ (s : Shape). s.breaks) shows);
}

-- what stands before a value: a line end and the margin, if the value breaks the line
abbrev pub break_before : Bool → List ℕ → List ℕ
break_before true margin = 10 ∷ margin
break_before false margin = []

-- a key and its value, which begins in the last line of the key
abbrev pub pair_shown : Shape × Shape → List ℕ → List ℕ
pair_shown pair margin = without_last (pair.0.lines margin) ++ codes " => "
    ++ break_before pair.1.breaks margin ++ pair.1.lines margin

-- a map of these keys with their values
abbrev pub mapped : List (Shape × Shape) → Shape
mapped pairs = record {
  lines = λ margin. list_shown 35 (codes "(empty hash)") margin (map pair_shown pairs);
  breaks = list_breaks (map (λ (p : Shape × Shape). p.1.breaks) pairs);
}

-- a truth value
abbrev pub truth_text : Bool → List ℕ
truth_text true = codes "(true)"
truth_text false = codes "(false)"

-- the layer of a reply, from how the replies in it are shown. After the number of an entry stands
-- 41, a closing parenthesis; in a set 126, a tilde; in a map 35, a number sign
abbrev pub layer_shown : Reply-F Shape → Shape
layer_shown (Simple text) = single (line_of [] text.items)
layer_shown (Error text) = single (line_of (codes "(error) ") text.items)
layer_shown (Integer n) = single (line_of (codes "(integer) ") (signed_decimal n))
layer_shown (Bulk held) = single (quoted held.items)
layer_shown NullBulk = single (line_of [] (codes "(nil)"))
layer_shown (Array replies) = listed 41 (codes "(empty array)") replies.items
layer_shown NullArray = single (line_of [] (codes "(nil)"))
layer_shown Null = single (line_of [] (codes "(nil)"))
layer_shown (Boolean truth) = single (line_of [] (truth_text truth))
layer_shown (Double text) = single (line_of (codes "(double) ") text.items)
layer_shown (BigNumber text) = single (line_of (codes "(big number) ") text.items)
layer_shown (BulkError text) = single (line_of (codes "(error) ") text.items)
layer_shown (Verbatim format text) = single (line_of [] text.items)
layer_shown (Map pairs) = mapped pairs.items
layer_shown (Set replies) = listed 126 (codes "(empty set)") replies.items
layer_shown (Push replies) = listed 41 (codes "(empty push)") replies.items
layer_shown (Attributed pairs described) = box_value described

-- the shape of a reply
abbrev pub shape_of : Reply → Shape
shape_of = fold-Reply Shape layer_shown

-- the lines that show a reply, with the margin before each line but the first
abbrev pub shown : Reply → List ℕ → List ℕ
shown reply margin = (shape_of reply).lines margin

-- whether a reply breaks the line, as the value of a key
abbrev pub breaks : Reply → Bool
breaks reply = (shape_of reply).breaks

-- the lines that show a key and its value
abbrev pub shown_pair : Reply × Reply → List ℕ → List ℕ
shown_pair pair = pair_shown (shape_of pair.0, shape_of pair.1)

-- whether the value of a key breaks the line
abbrev pub breaks_after : Reply × Reply → Bool
breaks_after pair = breaks pair.1
