use Rattle.std.proofs.Common.{◌≡◌, ℕ, List, ◌++◌, ◌∙◌}
use Rattle.std.specs.Prelude.{Result, Ok, Err, OnErr}
use Rattle.format_json_scalars.specs.Quoting.{Extends}
use Rattle.format_json_scalars.proofs.quoting.append_string.Goals as goal

-- bytes after others begin with these, also where there is an error
extends : {O E : Type 0} (r : Result O E) (old more new : List ℕ) → new ≡ old ++ more
    → OnErr r (Extends old new)
extends (Ok x) old more new same = tt
extends (Err e) old more new same = (more, same)

pub returns-in_err-append_byte-clause-refused : goal.returns-in_err-append_byte-clause-refused
returns-in_err-append_byte-clause-refused c =
    extends _ _ _ _ (c.in_err-append_byte.ensures.refused ∙ c.loop-byte.invariant)

pub returns-in_err-push-2-clause-refused : goal.returns-in_err-push-2-clause-refused
returns-in_err-push-2-clause-refused c =
    extends _ _ _ _ (c.in_err-push-2.ensures.items ∙ c.loop-byte.invariant)
