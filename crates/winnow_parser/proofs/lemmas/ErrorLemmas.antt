-- The errors that the contract of a function allows.
use Rattle.std.specs.Prelude.{Bool, Result, Ok, Err, IfErr}
use Rattle.std.proofs.Common.{refl}
use Rattle.std.specs.Fn.{Shared}
use Rattle.std.specs.Borrow.{MutBor}
use Rattle.std.specs.declared.alloc.Global.{Global}
use Rattle.winnow_stream.specs.declared.needed.Needed.{Needed}
use Rattle.winnow_error.specs.declared.failure.Failure.{Failure}
use Rattle.winnow_parser.specs.Outcome.{Ahead}
use Rattle.winnow_parser.specs.Errors.{ContractErrors}

-- a failure that a call answered is one that `ContractErrors` allows
pub ContractErrors-called : {F S O E T : Type 0} (call : Shared F (Global
    × (MutBor S × Unit {0})) (Result O (Failure E Needed) × (MutBor S × Unit {0}))) (valid : S
    → Type 0) (expects : S → Bool) (stands : S
    → Ahead T) (f : F) (alloc : Global) (old new : MutBor S) (r : Result O (Failure E Needed))
    → valid old.now → call.post f (alloc, (old, tt)) (r, (new, tt)) → IfErr r (ContractErrors call valid expects stands f (expects old.now) (stands old.now) new.now)
ContractErrors-called call valid expects stands f alloc old new (Ok x) v called = tt
ContractErrors-called call valid expects stands f alloc old new (Err failure) v called = (alloc, (old, (new, (called, v, refl, refl, refl))))
