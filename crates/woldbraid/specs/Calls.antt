-- What an export makes of the reader of a handle.
use Rattle.std.specs.Prelude.{◌≡◌, ℕ, List, [], false, Option, Some, None}
use Rattle.format_json_events.specs.Reading.{new_reader, HasGiven}
use Rattle.format_resp.specs.declared.grammar.ReplyTo.{ReplyTo}
use Rattle.format_resp_events.specs.Reading.{new_reader as new_replies, HasGiven as HasGivenReplies}
use Rattle.woldbraid_readers.specs.Codes.{status_code}
use Rattle.woldbraid_readers.specs.KeptCalls.{PushesKept, EndsKept, ReadsEvent, ReadsRow, ReadsReply, fed_kept, held_kept, place_kept, level_kept}
use Rattle.woldbraid_readers.specs.declared.status.Status.{Status}
use Rattle.woldbraid_readers.specs.declared.status.Status.TheVariants as status
use Rattle.woldbraid_readers.specs.declared.json_event.JsonEvent.{JsonEvent}
use Rattle.woldbraid_readers.specs.declared.csv_record.CsvRecord.{CsvRecord}
use Rattle.woldbraid_readers.specs.declared.resp_event.RespEvent.{RespEvent}
use Rattle.format_csv.specs.RowReader.{HasRead}
use Rattle.woldbraid_readers.specs.declared.kept.Kept.{Kept}
use Rattle.woldbraid_readers.specs.declared.kept.Kept.TheVariants as kept

-- the handle has a reader before and after, and the one became the other as the relation says
abbrev pub Turns : Option Kept → (Kept → Kept → Type 0) → Option Kept → Type 0
Turns (Some old) relation (Some new) = relation old new
Turns (Some old) relation None = ⊥
Turns None relation new = ⊥

-- the number is that of a status for which this holds
abbrev pub Says : ℕ → (Status → Type 0) → Type 0
Says code holds = (s : Status) × ((code ≡ status_code s) × holds s)

-- a reader of a JSON text to which nothing was pushed, within these limits
abbrev pub IsNewJson : ℕ → ℕ → Kept → Type 0
IsNewJson depth limit (kept.Json r) = (r.reader ≡ new_reader depth)
    × HasGiven r.reader [] [] × (r.kept ≡ limit)
IsNewJson depth limit other = ⊥

-- a reader of comma-separated values to which nothing was pushed, within this limit
abbrev pub IsNewCsv : ℕ → Kept → Type 0
IsNewCsv limit (kept.Csv r) = HasRead r.reader [] [] × (r.reader.ended ≡ false)
    × (r.waits ≡ false) × (r.kept ≡ limit)
IsNewCsv limit other = ⊥

-- a reader of replies to which nothing was pushed, within these limits
abbrev pub IsNewResp : ReplyTo → ℕ → Kept → Type 0
IsNewResp limits limit (kept.Resp r) = (r.reader ≡ new_replies limits)
    × HasGivenReplies r.reader [] [] × (r.kept ≡ limit)
IsNewResp limits limit other = ⊥

-- a new reader of a JSON text is there; or memory was refused, and there is none
abbrev pub MakesReader : ℕ → ℕ → ℕ → Option Kept → Type 0
MakesReader depth limit code (Some new) =
    (code ≡ status_code status.Ok) × IsNewJson depth limit new
MakesReader depth limit code None = code ≡ status_code status.Refused

-- a new reader of comma-separated values is there; or memory was refused, and there is none
abbrev pub MakesCsvReader : ℕ → ℕ → Option Kept → Type 0
MakesCsvReader limit code (Some new) = (code ≡ status_code status.Ok) × IsNewCsv limit new
MakesCsvReader limit code None = code ≡ status_code status.Refused

-- a new reader of replies is there; or memory was refused, and there is none
abbrev pub MakesRespReader : ReplyTo → ℕ → ℕ → Option Kept → Type 0
MakesRespReader limits limit code (Some new) =
    (code ≡ status_code status.Ok) × IsNewResp limits limit new
MakesRespReader limits limit code None = code ≡ status_code status.Refused

-- the piece was pushed, or nothing was, for the reason of the status
abbrev pub PushesPiece : Option Kept → List ℕ → ℕ → Option Kept → Type 0
PushesPiece old piece code new =
    Turns old (λ before after. Says code (λ s. PushesKept before piece s after)) new

-- nothing more follows
abbrev pub EndsInput : Option Kept → Option Kept → Type 0
EndsInput old new = Turns old EndsKept new

-- the reader of events answered something, and the status and the struct say so
abbrev pub NextEvent : Option Kept → ℕ → JsonEvent → Option Kept → Type 0
NextEvent old code shown new =
    Turns old (λ before after. Says code (λ s. ReadsEvent before s shown after)) new

-- the reader of records answered something, and the status and the struct say so
abbrev pub NextRecord : Option Kept → ℕ → CsvRecord → Option Kept → Type 0
NextRecord old code shown new =
    Turns old (λ before after. Says code (λ s. ReadsRow before s shown after)) new

-- the reader of replies answered something, and the status and the struct say so
abbrev pub NextReply : Option Kept → ℕ → RespEvent → Option Kept → Type 0
NextReply old code shown new =
    Turns old (λ before after. Says code (λ s. ReadsReply before s shown after)) new

-- the number is what is counted of the reader, which is as before
abbrev pub Counts : (Kept → ℕ) → Option Kept → ℕ → Option Kept → Type 0
Counts count (Some old) n new = (n ≡ count old) × (new ≡ Some old)
Counts count None n new = ⊥

-- the number is the length of the joined input
abbrev pub CountsFed : Option Kept → ℕ → Option Kept → Type 0
CountsFed old n new = Counts fed_kept old n new

-- the number is how many bytes of the input are kept
abbrev pub CountsHeld : Option Kept → ℕ → Option Kept → Type 0
CountsHeld old n new = Counts held_kept old n new

-- the number is how many bytes of the input were read
abbrev pub CountsRead : Option Kept → ℕ → Option Kept → Type 0
CountsRead old n new = Counts place_kept old n new

-- the number is how many arrays and objects are open
abbrev pub CountsLevel : Option Kept → ℕ → Option Kept → Type 0
CountsLevel old n new = Counts level_kept old n new
