-- What an export makes of the writer of a handle.
use Rattle.std.specs.Prelude.{◌≡◌, ℕ, Bool, true, false, [], Option, Some, None}
use Rattle.woldbraid_writers.specs.Codes.{status_code}
use Rattle.woldbraid_writers.specs.Drafts.{Call, draft_of, new_draft}
use Rattle.woldbraid_writers.specs.Records.{Entry}
use Rattle.woldbraid_writers.specs.Replies.{Part}
use Rattle.woldbraid_writers.specs.WriterCalls.{WritesJson, WritesCsv, WritesResp, LendsWritten, ForgetsAll, KeepsFirst, level_of, whole_of}
use Rattle.woldbraid_writers.specs.declared.due.Bracket.{Bracket}
use Rattle.woldbraid_writers.specs.declared.due.Bracket.TheVariants as bracket
use Rattle.woldbraid_writers.specs.declared.status.Status.{Status}
use Rattle.woldbraid_writers.specs.declared.status.Status.TheVariants as status
use Rattle.woldbraid_writers.specs.declared.written.Written.{Written}
use Rattle.woldbraid_writers.specs.declared.writer.Writer.{Writer}
use Rattle.woldbraid_writers.specs.declared.writer.Writer.TheVariants as writer

-- the handle has a writer before and after, and the one became the other as the relation says
abbrev pub Changes : Option Writer → (Writer → Writer → Type 0) → Option Writer → Type 0
Changes (Some old) relation (Some new) = relation old new
Changes (Some old) relation None = ⊥
Changes None relation new = ⊥

-- the number is that of a status for which this holds
abbrev pub Says : ℕ → (Status → Type 0) → Type 0
Says code holds = (s : Status) × ((code ≡ status_code s) × holds s)

-- a writer of a JSON text that has written nothing, within this limit
abbrev pub IsNewJson : ℕ → Writer → Type 0
IsNewJson depth (writer.Json w) = draft_of w ≡ new_draft depth
IsNewJson depth other = ⊥

-- a writer of comma-separated values that has written nothing
abbrev pub IsNewCsv : Writer → Type 0
IsNewCsv (writer.Csv w) = (w.text.items ≡ []) × (w.goes_on ≡ false)
IsNewCsv other = ⊥

-- a writer of replies that has written nothing
abbrev pub IsNewResp : Writer → Type 0
IsNewResp (writer.Resp w) = w.text.items ≡ []
IsNewResp other = ⊥

-- a new writer is there; or memory was refused, and there is none
abbrev pub Makes : (Writer → Type 0) → ℕ → Option Writer → Type 0
Makes is_new code (Some new) = (code ≡ status_code status.Ok) × is_new new
Makes is_new code None = code ≡ status_code status.Refused

-- such a writer is made
abbrev pub MakesJson : ℕ → ℕ → Option Writer → Type 0
MakesJson depth code new = Makes (IsNewJson depth) code new

abbrev pub MakesCsv : ℕ → Option Writer → Type 0
MakesCsv code new = Makes IsNewCsv code new

abbrev pub MakesResp : ℕ → Option Writer → Type 0
MakesResp code new = Makes IsNewResp code new

-- the bracket of an object, or else of an array
abbrev pub bracket_of : Bool → Bracket
bracket_of true = bracket.Object
bracket_of false = bracket.Array

-- the call of a JSON text was written, or nothing was, for the reason of the status
abbrev pub PutsJson : Option Writer → Call → ℕ → Option Writer → Type 0
PutsJson old call code new =
    Changes old (λ before after. Says code (λ s. WritesJson before call s after)) new

-- the field or the end of a record was written, or nothing was, for the reason of the status
abbrev pub PutsCsv : Option Writer → Entry → ℕ → Option Writer → Type 0
PutsCsv old entry code new =
    Changes old (λ before after. Says code (λ s. WritesCsv before entry s after)) new

-- the reply or the head of an array was written, or nothing was, for the reason of the status
abbrev pub PutsResp : Option Writer → Part → ℕ → Option Writer → Type 0
PutsResp old part code new =
    Changes old (λ before after. Says code (λ s. WritesResp before part s after)) new

-- the struct has the address and the number of the bytes that were written, and the writer is as
-- before
abbrev pub ShowsWritten : Option Writer → Written → Option Writer → Type 0
ShowsWritten (Some old) shown new = LendsWritten old shown × (new ≡ Some old)
ShowsWritten None shown new = ⊥

-- what was written is dropped
abbrev pub DropsWritten : Option Writer → Option Writer → Type 0
DropsWritten old new = Changes old ForgetsAll new

-- of replies that were written only the first bytes are kept, at most this number
abbrev pub CutsWritten : Option Writer → ℕ → Option Writer → Type 0
CutsWritten old count new = Changes old (λ before after. KeepsFirst before count after) new

-- the number is how many arrays and objects are open, and the writer is as before
abbrev pub CountsOpen : Option Writer → ℕ → Option Writer → Type 0
CountsOpen (Some old) n new = (n ≡ level_of old) × (new ≡ Some old)
CountsOpen None n new = ⊥

-- the answer is whether the text is whole, and the writer is as before
abbrev pub TellsWhole : Option Writer → Bool → Option Writer → Type 0
TellsWhole (Some old) is new = (is ≡ whole_of old) × (new ≡ Some old)
TellsWhole None is new = ⊥
