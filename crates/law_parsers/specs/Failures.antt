-- Which errors the failures of some parsers carry.
use Rattle.std.specs.Prelude.{◌≡◌, [], ◌⊎◌, ⊤}
use Rattle.winnow_stream.specs.declared.needed.Needed.{Needed}
use Rattle.winnow_error.specs.declared.failure.Failure.{Failure}
use Rattle.winnow_error.specs.declared.failure.Failure.TheVariants.{Incomplete, Backtrack, Cut, Refused}
use Rattle.winnow_parser.specs.Outcome.{Ahead}

-- an error that is made of a stream, in one way or another
abbrev pub IsMade : {E S : Type 0} → (S → E → Type 0) → (S → E → Type 0) → S → E → Type 0
IsMade found asserted s e = found s e ⊎ asserted s e

-- an error that is made of the stream as it is left, with a label that was added at a checkpoint of
-- where the parser began
abbrev pub HasLabel : {E S C T : Type 0} → (S → E → Type 0) → (E → S → C → E → Type 0)
    → (C → Ahead T) → Ahead T → S → E → Type 0
HasLabel {E} {S} {C} made tells stood a s e =
    (bare : E) × ((start : C) × (made s bare × (stood start ≡ a) × tells bare s start e))

-- a failure whose error has the label; it is made in one way for a backtrack, in another for a cut
abbrev pub IsNamed : {E S C T : Type 0} → (S → E → Type 0) → (S → E → Type 0)
    → (E → S → C → E → Type 0) → (C → Ahead T) → Ahead T → S → Failure E Needed → Type 0
IsNamed found asserted tells stood a s (Backtrack e) = HasLabel found tells stood a s e
IsNamed found asserted tells stood a s (Cut e) = HasLabel asserted tells stood a s e
IsNamed found asserted tells stood a s (Incomplete n) = ⊤
IsNamed found asserted tells stood a s (Refused r) = ⊤

-- a cut whose error has the label
abbrev pub IsLabelled : {E S C T : Type 0} → (S → E → Type 0) → (E → S → C → E → Type 0)
    → (C → Ahead T) → Ahead T → S → Failure E Needed → Type 0
IsLabelled made tells stood a s (Backtrack e) = ⊥
IsLabelled made tells stood a s (Cut e) = HasLabel made tells stood a s e
IsLabelled made tells stood a s (Incomplete n) = ⊤
IsLabelled made tells stood a s (Refused r) = ⊤

-- a backtrack, with an error that is joined of two and then appended to: the first is made of a
-- stream that stands where the parser began, the second of the stream as it is left; it is appended
-- to by that stream and a checkpoint of where the parser began
abbrev pub IsJoined : {E S C T : Type 0} → (S → E → Type 0) → (E → E → E → Type 0)
    → (E → S → C → E → Type 0) → (C → Ahead T) → (S → Ahead T) → Ahead T → S → Failure E Needed
    → Type 0
IsJoined {E} {S} {C} made joins appends stood stands a s (Backtrack e) = (left : E) × ((right : E) × ((whole : E) × ((r : S) × ((start : C)
    × (made r left × (stands r ≡ a) × made s right × joins left right whole × (stood start ≡ a)
    × appends whole s start e)))))
IsJoined made joins appends stood stands a s (Cut e) = ⊥
IsJoined made joins appends stood stands a s (Incomplete n) = ⊤
IsJoined made joins appends stood stands a s (Refused r) = ⊤

-- a backtrack, with an error that is made of the stream as it is left
abbrev pub IsOwn : {E S : Type 0} → (S → E → Type 0) → S → Failure E Needed → Type 0
IsOwn made s (Backtrack e) = made s e
IsOwn made s (Cut e) = ⊥
IsOwn made s (Incomplete n) = ⊤
IsOwn made s (Refused r) = ⊤

-- a backtrack, or a need for more, where nothing is ahead; the backtrack's error is made of a
-- stream that still stands there
abbrev pub IsAtEnd : {E S T : Type 0} → (S → E → Type 0) → (S → Ahead T) → Ahead T
    → Failure E Needed → Type 0
IsAtEnd {S = S} made stands a (Backtrack e) = (a.tokens ≡ [])
    × ((s : S) × (made s e × (stands s ≡ a)))
IsAtEnd made stands a (Cut e) = ⊥
IsAtEnd made stands a (Incomplete n) = a.tokens ≡ []
IsAtEnd made stands a (Refused r) = ⊥
