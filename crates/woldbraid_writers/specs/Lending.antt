-- What a writer lends, and what it drops.
use Rattle.std.specs.Prelude.{◌≡◌, ℕ, Bool, true, false, [], length}
use Rattle.std.specs.Vec.{vec_ptr}
use Rattle.std.specs.Global.{Vec}
use Rattle.woldbraid_writers.specs.declared.due.Due.{Due}
use Rattle.woldbraid_writers.specs.declared.due.Due.TheVariants as due
use Rattle.woldbraid_writers.specs.declared.written.Written.{Written}
use Rattle.woldbraid_writers.specs.Drafts.{Draft}

-- the struct has the address and the number of the bytes
abbrev pub Lends : Vec ℕ → Written → Type 0
Lends text shown = (shown.text ≡ vec_ptr text) × (shown.length ≡ length text.items)

-- nothing more may come
abbrev pub is_whole : Due → Bool
is_whole due.Nothing = true
is_whole other = false

-- what was written is dropped, and all else is as it was
abbrev pub Forgets : Draft → Draft → Type 0
Forgets d e = e ≡ record d { text = [] }
