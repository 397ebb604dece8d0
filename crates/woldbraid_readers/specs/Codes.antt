-- The numbers that C knows statuses, kinds of events and causes by.
use Rattle.std.specs.Prelude.{ℕ}
use Rattle.format_json.specs.declared.causes.Cause.{Cause}
use Rattle.format_json.specs.declared.causes.Cause.TheVariants as cause
use Rattle.format_resp.specs.declared.causes.Cause as resp_cause
use Rattle.format_resp.specs.declared.causes.Cause.TheVariants as broken
use Rattle.woldbraid_readers.specs.declared.status.Status.{Status}
use Rattle.woldbraid_readers.specs.declared.status.Status.TheVariants as status
use Rattle.woldbraid_readers.specs.declared.json_event.JsonKind.{JsonKind}
use Rattle.woldbraid_readers.specs.declared.json_event.JsonKind.TheVariants as kind
use Rattle.woldbraid_readers.specs.declared.resp_event.RespKind.{RespKind}
use Rattle.woldbraid_readers.specs.declared.resp_event.RespKind.TheVariants as reply

-- of a status
abbrev pub status_code : Status → ℕ
status_code status.Ok = 0
status_code status.Done = 1
status_code status.NeedsMore = 2
status_code status.Full = 3
status_code status.Ended = 4
status_code status.TooLong = 5
status_code status.Refused = 6
status_code status.Damaged = 7
status_code status.Unexpected = 8
status_code status.TooDeep = 9
status_code status.EndsEarly = 10
status_code status.OtherFormat = 11

-- of a kind of event
abbrev pub kind_code : JsonKind → ℕ
kind_code kind.None = 0
kind_code kind.StartArray = 1
kind_code kind.EndArray = 2
kind_code kind.StartObject = 3
kind_code kind.EndObject = 4
kind_code kind.Key = 5
kind_code kind.Null = 6
kind_code kind.False = 7
kind_code kind.True = 8
kind_code kind.Number = 9
kind_code kind.String = 10

-- of a cause
abbrev pub cause_code : Cause → ℕ
cause_code cause.WideText = 1
cause_code cause.ByteOrderMark = 2
cause_code cause.Comment = 3
cause_code cause.SingleQuote = 4
cause_code cause.OtherWord = 5
cause_code cause.NoToken = 6
cause_code cause.LeadingZero = 7
cause_code cause.BadNumber = 8
cause_code cause.BadEscape = 9
cause_code cause.LoneSurrogate = 10
cause_code cause.ControlCharacter = 11
cause_code cause.BadUtf8 = 12

-- of a kind of event of replies
abbrev pub reply_code : RespKind → ℕ
reply_code reply.None = 0
reply_code reply.StartArray = 1
reply_code reply.EndArray = 2
reply_code reply.Simple = 3
reply_code reply.Error = 4
reply_code reply.Integer = 5
reply_code reply.Bulk = 6
reply_code reply.NullBulk = 7
reply_code reply.NullArray = 8

-- of a cause for which a reply breaks off
abbrev pub reply_cause_code : resp_cause.Cause → ℕ
reply_cause_code broken.EndsInside = 1
reply_cause_code broken.NoKind = 2
reply_cause_code broken.TooDeep = 3
reply_cause_code broken.NoInteger = 4
reply_cause_code broken.NoLength = 5
reply_cause_code broken.TooLong = 6
reply_cause_code broken.NoLineEnd = 7
