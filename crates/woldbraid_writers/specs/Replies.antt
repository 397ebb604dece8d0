-- Replies and commands of the Redis protocol that are being written, call by call. 43 is a plus, 45
-- a minus, 58 a colon, 36 a dollar, and 42 an asterisk.
use Rattle.std.specs.Prelude.{◌≡◌, ℕ, ℤ, true, false, List, ◌∷◌, ◌++◌, length, decimal, ⊤}
use Rattle.std.specs.List.{list_any}
use Rattle.std.specs.Fmt.{signed_decimal}
use Rattle.format_resp.specs.Language.{line, no_length}
use Rattle.format_resp.specs.Writing.{ends_line}
use Rattle.woldbraid_writers.specs.declared.status.Status.{Status}
use Rattle.woldbraid_writers.specs.declared.status.Status.TheVariants as status

-- what a call writes: a reply, or the head of an array of this number of replies, which come next
pub data Part : Type 0 where
  Simple : List ℕ → Part
  Error : List ℕ → Part
  Integer : ℤ → Part
  Bulk : List ℕ → Part
  NullBulk : Part
  Array : ℕ → Part
  NullArray : Part

-- the bytes of the call
abbrev pub part_text : Part → List ℕ
part_text (Simple text) = 43 ∷ line text
part_text (Error text) = 45 ∷ line text
part_text (Integer n) = 58 ∷ line (signed_decimal n)
part_text (Bulk held) = 36 ∷ (line (decimal (length held)) ++ line held)
part_text NullBulk = 36 ∷ line no_length
part_text (Array count) = 42 ∷ line (decimal count)
part_text NullArray = 42 ∷ line no_length

-- no text of a line has CR or LF
abbrev pub IsWritable : Part → Type 0
IsWritable (Simple text) = list_any ends_line text ≡ false
IsWritable (Error text) = list_any ends_line text ≡ false
IsWritable other = ⊤

-- why nothing was written: the text of a line has CR or LF, or memory was refused
abbrev pub IsWhyNoPart : Part → Status → Type 0
IsWhyNoPart (Simple text) status.LineEnd = list_any ends_line text ≡ true
IsWhyNoPart (Error text) status.LineEnd = list_any ends_line text ≡ true
IsWhyNoPart part status.Refused = ⊤
IsWhyNoPart part other = ⊥

-- the call was written, and could be; or nothing was, for the reason of the status
abbrev pub WritesPart : List ℕ → Part → Status → List ℕ → Type 0
WritesPart old part status.Ok new = IsWritable part × (new ≡ old ++ part_text part)
WritesPart old part s new = (new ≡ old) × IsWhyNoPart part s

-- the bytes were written, or nothing was, since memory was refused
abbrev pub WritesLine : List ℕ → List ℕ → Status → List ℕ → Type 0
WritesLine old text status.Ok new = new ≡ old ++ text
WritesLine old text status.Refused new = new ≡ old
WritesLine old text other new = ⊥
