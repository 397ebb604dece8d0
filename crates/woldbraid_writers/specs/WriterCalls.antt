-- What a call makes of a writer of any format.
use Rattle.std.specs.Prelude.{◌≡◌, ℕ, Bool, true, not, List, [], length, take}
use Rattle.woldbraid_writers.specs.Drafts.{Call, draft_of, Writes}
use Rattle.woldbraid_writers.specs.Records.{Entry, table_of, WritesEntry}
use Rattle.woldbraid_writers.specs.Replies.{Part, WritesPart}
use Rattle.woldbraid_writers.specs.Lending.{Lends, is_whole}
use Rattle.woldbraid_writers.specs.declared.status.Status.{Status}
use Rattle.woldbraid_writers.specs.declared.status.Status.TheVariants as status
use Rattle.woldbraid_writers.specs.declared.written.Written.{Written}
use Rattle.woldbraid_writers.specs.declared.writer.Writer.{Writer}
use Rattle.woldbraid_writers.specs.declared.writer.Writer.TheVariants as writer

-- the call of a JSON text was written, or nothing was, for the reason of the status
abbrev pub WritesJson : Writer → Call → Status → Writer → Type 0
WritesJson (writer.Json old) call s (writer.Json new) =
    Writes (draft_of old) call s (draft_of new)
WritesJson (writer.Json old) call s (writer.Csv new) = ⊥
WritesJson (writer.Json old) call s (writer.Resp new) = ⊥
WritesJson (writer.Csv old) call s new = (s ≡ status.OtherFormat) × (new ≡ writer.Csv old)
WritesJson (writer.Resp old) call s new = (s ≡ status.OtherFormat) × (new ≡ writer.Resp old)

-- the field or the end of a record was written, or nothing was, for the reason of the status
abbrev pub WritesCsv : Writer → Entry → Status → Writer → Type 0
WritesCsv (writer.Csv old) entry s (writer.Csv new) =
    WritesEntry (table_of old) entry s (table_of new)
WritesCsv (writer.Csv old) entry s (writer.Json new) = ⊥
WritesCsv (writer.Csv old) entry s (writer.Resp new) = ⊥
WritesCsv (writer.Json old) entry s new = (s ≡ status.OtherFormat) × (new ≡ writer.Json old)
WritesCsv (writer.Resp old) entry s new = (s ≡ status.OtherFormat) × (new ≡ writer.Resp old)

-- the reply or the head of an array was written, or nothing was, for the reason of the status
abbrev pub WritesResp : Writer → Part → Status → Writer → Type 0
WritesResp (writer.Resp old) part s (writer.Resp new) =
    WritesPart old.text.items part s new.text.items
WritesResp (writer.Resp old) part s (writer.Json new) = ⊥
WritesResp (writer.Resp old) part s (writer.Csv new) = ⊥
WritesResp (writer.Json old) part s new = (s ≡ status.OtherFormat) × (new ≡ writer.Json old)
WritesResp (writer.Csv old) part s new = (s ≡ status.OtherFormat) × (new ≡ writer.Csv old)

-- the struct has the address and the number of the bytes that were written
abbrev pub LendsWritten : Writer → Written → Type 0
LendsWritten (writer.Json w) shown = Lends w.text shown
LendsWritten (writer.Csv w) shown = Lends w.text shown
LendsWritten (writer.Resp w) shown = Lends w.text shown

-- what was written is now this, and all else is as it was
abbrev pub HasNow : Writer → (List ℕ → List ℕ) → Writer → Type 0
HasNow (writer.Json old) now (writer.Json new) =
    draft_of new ≡ record (draft_of old) { text = now old.text.items }
HasNow (writer.Csv old) now (writer.Csv new) =
    table_of new ≡ record (table_of old) { text = now old.text.items }
HasNow (writer.Resp old) now (writer.Resp new) = new.text.items ≡ now old.text.items
HasNow old now new = ⊥

-- what was written is dropped
abbrev pub ForgetsAll : Writer → Writer → Type 0
ForgetsAll old new = HasNow old (λ text. []) new

-- of replies that were written only the first bytes are kept, at most this number; a text of
-- another format stays as it is
abbrev pub KeepsFirst : Writer → ℕ → Writer → Type 0
KeepsFirst (writer.Resp old) count (writer.Resp new) =
    new.text.items ≡ take count old.text.items
KeepsFirst (writer.Resp old) count (writer.Json new) = ⊥
KeepsFirst (writer.Resp old) count (writer.Csv new) = ⊥
KeepsFirst (writer.Json old) count new = new ≡ writer.Json old
KeepsFirst (writer.Csv old) count new = new ≡ writer.Csv old

-- how many arrays and objects are open
abbrev pub level_of : Writer → ℕ
level_of (writer.Json w) = length w.open.items
level_of (writer.Csv w) = 0
level_of (writer.Resp w) = 0

-- the JSON text is whole; the last record has ended; of replies always
abbrev pub whole_of : Writer → Bool
whole_of (writer.Json w) = is_whole w.due
whole_of (writer.Csv w) = not w.goes_on
whole_of (writer.Resp w) = true
