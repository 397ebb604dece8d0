-- What stands after other bytes extends them.
use Rattle.std.specs.Prelude.{◌≡◌, ℕ, List, ◌++◌, Result, Ok, Err, OnErr}
use Rattle.format_json_scalars.specs.Quoting.{Extends}

-- bytes after others begin with these, also where there is an error
pub extends : {O E : Type 0} (r : Result O E) (old more new : List ℕ) → new ≡ old ++ more
    → OnErr r (Extends old new)
extends (Ok x) old more new same = tt
extends (Err e) old more new same = (more, same)
