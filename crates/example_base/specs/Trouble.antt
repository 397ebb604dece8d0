-- How a program ends that cannot go on, whatever its input says.
use Rattle.std.specs.Prelude.{ℕ, Bool, true, false, List, ◌++◌, codes}
use Rattle.std.specs.declared.io.ErrorKind.{ErrorKind}
use Rattle.std.specs.declared.io.ErrorKind.TheVariants as kind
use Rattle.example_base.specs.declared.trouble.Reason.{Reason}
use Rattle.example_base.specs.declared.trouble.Reason.TheVariants.{NotFound, PermissionDenied, IsADirectory, NotADirectory, BrokenPipe, StorageFull, InvalidInput, Other}
use Rattle.example_base.specs.declared.trouble.Trouble.{Trouble}
use Rattle.example_base.specs.declared.trouble.Trouble.TheVariants.{OutOfMemory, Reading, Writing, TooLong}

-- the reason for an error of a kind
abbrev pub reason_of : ErrorKind → Reason
reason_of kind.NotFound = NotFound
reason_of kind.PermissionDenied = PermissionDenied
reason_of kind.IsADirectory = IsADirectory
reason_of kind.NotADirectory = NotADirectory
reason_of kind.BrokenPipe = BrokenPipe
reason_of kind.StorageFull = StorageFull
reason_of kind.InvalidInput = InvalidInput
reason_of _ = Other

-- the trouble for an error of reading; one for want of memory says so
abbrev pub read_trouble : ErrorKind → Trouble
read_trouble kind.OutOfMemory = OutOfMemory
read_trouble other = Reading (reason_of other)

-- the trouble for an error of writing; one for want of memory says so
abbrev pub write_trouble : ErrorKind → Trouble
write_trouble kind.OutOfMemory = OutOfMemory
write_trouble other = Writing (reason_of other)

-- the exit status
abbrev pub status_of : Trouble → ℕ
status_of OutOfMemory = 3
status_of (Reading reason) = 4
status_of (Writing reason) = 4
status_of TooLong = 4

-- nothing reads the output any more
abbrev pub is_quiet : Trouble → Bool
is_quiet (Writing BrokenPipe) = true
is_quiet other = false

-- the text of a reason
abbrev pub reason_text : Reason → List ℕ
reason_text NotFound = codes "there is no such file"
reason_text PermissionDenied = codes "permission denied"
reason_text IsADirectory = codes "it is a directory"
reason_text NotADirectory = codes "a part of its name is no directory"
reason_text BrokenPipe = codes "nothing reads it any more"
reason_text StorageFull = codes "the device is full"
reason_text InvalidInput = codes "no file can have this name"
reason_text Other = codes "an error of the system"

-- the text of a trouble
abbrev pub trouble_text : Trouble → List ℕ
trouble_text OutOfMemory = codes "memory was refused"
trouble_text (Reading reason) = codes "the input cannot be read: " ++ reason_text reason
trouble_text (Writing reason) = codes "the output cannot be written: " ++ reason_text reason
trouble_text TooLong = codes "the input has more bytes than can be counted"
