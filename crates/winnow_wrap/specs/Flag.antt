-- A stream with a flag that more input may follow: its parts.
use Rattle.std.specs.Prelude.{Bool}
use Rattle.winnow_wrap.specs.declared.partial.Partial.{Partial}

-- the stream inside
abbrev pub partial_inner : {I : Type 0} → Partial I → I
partial_inner s = s.input

-- the flag
abbrev pub flag : {I : Type 0} → Partial I → Bool
flag s = s.partial
