-- How much a reader keeps of a record with a limit.
use Rattle.std.specs.Prelude.{◌≡◌, ◌+◌, ◌≤◌, length, Result, Ok}
use Rattle.winnow_reader.specs.declared.next.Next.{Next}
use Rattle.winnow_reader.specs.declared.next.Next.TheVariants.{NeedsMore}
use Rattle.winnow_reader.specs.declared.next.ReadError.{ReadError}
use Rattle.winnow_reader.specs.State.{ReaderState}
use Rattle.winnow_reader_limit.specs.declared.limit.Limited.{Limited}

-- a reader wants at most one byte more than a record may have
abbrev pub IsBounded : {R : Type 0} → ReaderState (Limited R) → Type 0
IsBounded f = f.wanted ≤ f.parser.greatest + 1

-- if more is needed, no more bytes are ahead than a record may have
abbrev pub WaitsWithin : {R O E : Type 0} → ReaderState (Limited R)
    → Result (Next O) (ReadError E) → ReaderState (Limited R) → Type 0
WaitsWithin old result new = result ≡ Ok NeedsMore → length new.ahead ≤ old.parser.greatest
