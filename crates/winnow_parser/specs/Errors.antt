-- Which errors the failures of a parser carry. The meaning of a parser does not say so: a settled
-- answer stays when more input follows, but an error that is made of a longer input differs.
use Rattle.std.specs.Prelude.{◌≡◌, Bool, Result, Err, ◌⊎◌, ⊤}
use Rattle.std.specs.Fn.{Shared}
use Rattle.std.specs.Borrow.{MutBor}
use Rattle.std.specs.declared.alloc.Global.{Global}
use Rattle.winnow_stream.specs.declared.needed.Needed.{Needed}
use Rattle.winnow_error.specs.declared.failure.Failure.{Failure}
use Rattle.winnow_error.specs.declared.failure.Failure.TheVariants.{Incomplete, Backtrack, Cut, Refused}
use Rattle.winnow_error.specs.Failures.{IsBacktrackOf}
use Rattle.winnow_parser.specs.Outcome.{Ahead, Gives, Fails, Meaning}
use Rattle.winnow_parser.specs.Answer.{failed}

-- which failures a parser may answer: by whether more may follow, where the stream stands, and the
-- stream as it is left
abbrev pub Errors : Type 0 → Type 0 → Type 0 → Type 1
Errors E S T = Bool → Ahead T → S → Failure E Needed → Type 0

-- any error
abbrev pub AnyError : {E S T : Type 0} → Errors E S T
AnyError partial a s failure = ⊤

-- no error: the parser neither backtracks nor cuts
abbrev pub NoError : {E S T : Type 0} → Errors E S T
NoError partial a s (Backtrack e) = ⊥
NoError partial a s (Cut e) = ⊥
NoError partial a s (Incomplete n) = ⊤
NoError partial a s (Refused r) = ⊤

-- an error that is made of the stream as it is left: by one relation for a backtrack, by another
-- for a cut
abbrev pub OwnErrors : {E S T : Type 0} → (S → E → Type 0) → (S → E → Type 0) → Errors E S T
OwnErrors backtracks cuts partial a s (Backtrack e) = backtracks s e
OwnErrors backtracks cuts partial a s (Cut e) = cuts s e
OwnErrors backtracks cuts partial a s (Incomplete n) = ⊤
OwnErrors backtracks cuts partial a s (Refused r) = ⊤

-- the errors of the first parser, or, after a value of it, those of the second
abbrev pub PairErrors : {O E S T : Type 0} → Meaning O T → Errors E S T → Errors E S T
    → Errors E S T
PairErrors {O} {E} {S} {T} means first second partial a s failure = first partial a s failure
    ⊎ ((x : O) × ((b : Ahead T) × (means partial a (Gives x b) × second partial b s failure)))

-- the errors of the first parser, or, after a value of it, those of the parser that is made of the
-- value
abbrev pub FlatMapErrors : {O Q E S T : Type 0} → (O → Q → Type 0) → (Q → Errors E S T)
    → Meaning O T → Errors E S T → Errors E S T
FlatMapErrors {O} {Q} {E} {S} {T} makes errors means first partial a s failure = first partial a s failure
    ⊎ ((x : O) × ((b : Ahead T) × ((q : Q) × (means partial a (Gives x b) × makes x q × errors q partial b s failure))))

-- the errors of the inner parser; or it gave an unwanted value, and this one backtracks with an
-- error that is made of that value
abbrev pub UnwantedErrors : {O E S T : Type 0} → (O → S → E → Type 0) → Meaning O T → Errors E S T
    → Errors E S T
UnwantedErrors {O} {E} {S} {T} makes means inner partial a s failure = inner partial a s failure
    ⊎ ((x : O) × ((b : Ahead T) × (means partial a (Gives x b) × IsBacktrackOf (makes x s) failure)))

-- the failure is one of the parser, with an error that it may carry, both of one stream as it is
-- left
abbrev pub FailsLeaving : {O E S T : Type 0} → (S → Ahead T) → Meaning O T → Errors E S T → Bool
    → Ahead T → Failure E Needed → Type 0
FailsLeaving {S = S} stands means errors partial a failure = (s : S)
    × (errors partial a s failure × means partial a (Fails (failed failure (stands s))))

-- where both backtrack, their errors are joined; a cut comes from the first, or from the second
-- after the first backtracked. The error with which the first backtracked is of the stream as it
-- left it, at the place that its meaning allows
abbrev pub AltErrors2 : {O E S T : Type 0} → (S → Ahead T) → (E → E → E → Type 0) → Meaning O T
    → Errors E S T → Errors E S T → Errors E S T
AltErrors2 {E = E} stands joins means first second partial a s (Backtrack e) =
    (e1 : E)
    × ((e2 : E)
    × (FailsLeaving stands means first partial a (Backtrack e1) × second partial a s (Backtrack e2)
    × joins e1 e2 e))
AltErrors2 {E = E} stands joins means first second partial a s (Cut e) = first partial a s (Cut e)
    ⊎ ((e1 : E)
    × (FailsLeaving stands means first partial a (Backtrack e1) × second partial a s (Cut e)))
AltErrors2 stands joins means first second partial a s (Incomplete n) = ⊤
AltErrors2 stands joins means first second partial a s (Refused r) = ⊤

-- where the inner parser backtracks, this one cuts, with the same error
abbrev pub CutErrors : {E S T : Type 0} → Errors E S T → Errors E S T
CutErrors inner partial a s (Backtrack e) = ⊥
CutErrors inner partial a s (Cut e) = inner partial a s (Backtrack e) ⊎ inner partial a s (Cut e)
CutErrors inner partial a s (Incomplete n) = ⊤
CutErrors inner partial a s (Refused r) = ⊤

-- where the inner parser cuts, this one backtracks, with the same error
abbrev pub BacktrackErrors : {E S T : Type 0} → Errors E S T → Errors E S T
BacktrackErrors inner partial a s (Backtrack e) = inner partial a s (Backtrack e) ⊎ inner partial a s (Cut e)
BacktrackErrors inner partial a s (Cut e) = ⊥
BacktrackErrors inner partial a s (Incomplete n) = ⊤
BacktrackErrors inner partial a s (Refused r) = ⊤

-- the errors of the inner parser, each with the context that was added: by the stream as it is left
-- and a checkpoint of where it stood
abbrev pub ContextErrors : {E S C T : Type 0} → (C → Ahead T) → (E → S → C → E → Type 0)
    → Errors E S T → Errors E S T
ContextErrors {E} {S} {C} {T} stood tells inner partial a s (Backtrack e) =
    (e1 : E)
    × ((start : C)
    × (inner partial a s (Backtrack e1) × (stood start ≡ a) × tells e1 s start e))
ContextErrors {E} {S} {C} {T} stood tells inner partial a s (Cut e) =
    (e1 : E) × ((start : C) × (inner partial a s (Cut e1) × (stood start ≡ a) × tells e1 s start e))
ContextErrors stood tells inner partial a s (Incomplete n) = ⊤
ContextErrors stood tells inner partial a s (Refused r) = ⊤

-- this holds of each error with which the parser backtracks or cuts
abbrev pub CarriesOnly : {E S T : Type 0} → Errors E S T → (E → Type 0) → Type 0
CarriesOnly {E} {S} {T} errors holds = (partial : Bool) (a : Ahead T) (s : S) (e : E)
    → (errors partial a s (Backtrack e) → holds e) × (errors partial a s (Cut e) → holds e)

-- what a relation gives for each error of the inner parser
abbrev pub MapErrors : {E F S T : Type 0} → (E → F → Type 0) → Errors E S T → Errors F S T
MapErrors {E} gives inner partial a s (Backtrack e) =
    (d : E) × (inner partial a s (Backtrack d) × gives d e)
MapErrors {E} gives inner partial a s (Cut e) =
    (d : E) × (inner partial a s (Cut d) × gives d e)
MapErrors gives inner partial a s (Incomplete n) = inner partial a s (Incomplete n)
MapErrors gives inner partial a s (Refused r) = inner partial a s (Refused r)

-- what the contract of a function says of its failures
abbrev pub ContractErrors : {F S O E T : Type 0}
    → Shared F (Global × (MutBor S × Unit {0})) (Result O (Failure E Needed)
    × (MutBor S × Unit {0})) → (S → Type 0) → (S → Bool) → (S → Ahead T) → F → Errors E S T
ContractErrors {F} {S} {O} {E} {T} call valid expects stands f partial a s failure = (alloc : Global) × ((old : MutBor S) × ((new : MutBor S)
    × (call.post f (alloc, (old, tt)) (Err failure, (new, tt)) × valid old.now
    × (expects old.now ≡ partial) × (stands old.now ≡ a) × (new.now ≡ s))))
