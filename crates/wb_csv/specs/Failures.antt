-- What is wrong where a record breaks off, and how the program ends.
use Rattle.std.specs.Prelude.{ℕ, ◌==◌, if◌then◌else◌, List, [], ◌∷◌, ◌++◌, codes, decimal}
use Rattle.format_csv.specs.Marks.{mark_text}
use Rattle.example_base.specs.Trouble.{status_of as trouble_status, trouble_text}
use Rattle.wb_csv.specs.declared.settings.Wanted.{Wanted}
use Rattle.wb_csv.specs.declared.settings.Wanted.TheVariants.{First, Column, Text}
use Rattle.wb_csv.specs.declared.failure.Fault.{Fault}
use Rattle.wb_csv.specs.declared.failure.Fault.TheVariants.{Unclosed, QuoteInside, LoneReturn, AfterQuote}
use Rattle.wb_csv.specs.declared.failure.Failure.{Failure}
use Rattle.wb_csv.specs.declared.failure.Failure.TheVariants.{Damaged, Uneven, Long, Marked, Stopped}

-- what is wrong where these bytes follow a field, and a delimiter might: at the end of the input a
-- closing quote is missing, and elsewhere the first byte says it (34 is a quote, 13 a carriage
-- return)
abbrev pub fault_at : ℕ → List ℕ → Fault
fault_at delimiter [] = Unclosed
fault_at delimiter (byte ∷ rest) = if byte == 34 then QuoteInside
    else (if byte == 13 then LoneReturn else AfterQuote delimiter)

-- the exit status for a failure
abbrev pub status_of : Failure → ℕ
status_of (Damaged position fault excerpt) = 2
status_of (Uneven line fields wanted) = 2
status_of (Long line limit) = 2
status_of (Marked mark) = 2
status_of (Stopped trouble) = trouble_status trouble

-- what a delimiter is called: 44 is a comma
abbrev pub delimiter_name : ℕ → List ℕ
delimiter_name delimiter = if delimiter == 44 then codes "a comma" else codes "the delimiter"

-- the text of a fault
abbrev pub fault_text : Fault → List ℕ
fault_text Unclosed = codes "the input ends inside a quoted field"
fault_text QuoteInside = codes "a quote inside a field that does not begin with one"
fault_text LoneReturn = codes "a carriage return with no line feed after it"
fault_text (AfterQuote delimiter) = codes "neither "
    ++ (delimiter_name delimiter ++ codes " nor a line end follows the closing quote")

-- the text of what a record lacks
abbrev pub wanted_text : Wanted → List ℕ
wanted_text (First first) = codes "but the first record has " ++ decimal first
wanted_text (Column column) = codes "but column " ++ (decimal column ++ codes " is chosen")
wanted_text Text = codes "and one is no UTF-8"

-- the text of a failure
abbrev pub failure_text : Failure → List ℕ
failure_text (Damaged position fault excerpt) = fault_text fault
failure_text (Uneven line fields wanted) =
    decimal fields ++ (codes " fields, " ++ wanted_text wanted)
failure_text (Long line limit) =
    codes "the record has more than " ++ (decimal limit ++ codes " bytes")
failure_text (Marked mark) = mark_text mark
failure_text (Stopped trouble) = trouble_text trouble
