-- Options that are `Some` exactly if a fact holds.
use Rattle.std.proofs.Common.{ℕ, Option, Some, None, Result, Ok, Err}
use Rattle.std.specs.Option.{SomeIff}
use Rattle.std.specs.Result.{OkIff, result_ok}

-- a result that is `Ok` exactly if a fact holds is, as an option, `Some` exactly if it holds
pub SomeIff-result_ok : {E : Type 0} (r : Result ℕ E) (P : Type 0) (v : ℕ) → OkIff r P v
    → SomeIff (result_ok r) P v
SomeIff-result_ok (Ok x) P v h = h
SomeIff-result_ok (Err e) P v h = h

-- a fact that holds may be added to the condition
pub SomeIff-and : (o : Option ℕ) (P Q : Type 0) (v : ℕ) → P → SomeIff o Q v → SomeIff o (P × Q) v
SomeIff-and (Some x) P Q v p h = ((p, h.0), h.1)
SomeIff-and None P Q v p not = λ both. not both.1
