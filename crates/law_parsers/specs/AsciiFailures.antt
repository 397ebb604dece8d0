-- Which errors the failures of text with escapes and of numbers carry.
use Rattle.std.specs.Prelude.{◌≡◌, Bool, ◌⊎◌, None, ⊤}
use Rattle.winnow_stream.specs.declared.needed.Needed.{Needed}
use Rattle.winnow_count.specs.Reading.{IsSomeExactly}
use Rattle.winnow_error.specs.declared.failure.Failure.{Failure}
use Rattle.winnow_error.specs.declared.failure.Failure.TheVariants.{Incomplete, Backtrack, Cut, Refused}
use Rattle.winnow_parser.specs.Outcome.{Ahead, Backtracks, Gives, Fails, Meaning}
use Rattle.winnow_parser.specs.Errors.{Errors}
use Rattle.winnow_ascii.specs.Escaped.{IsAbsent}

-- an error of the parser of escapes, after a control character that stands here
abbrev pub AfterControl : {C E S T : Type 0} → Meaning C T → Errors E S T → Bool → Ahead T → S
    → Failure E Needed → Type 0
AfterControl {C} {E} {S} {T} control errors partial a s failure =
    (x : C) × ((b : Ahead T) × (control partial a (Gives x b) × errors partial b s failure))

-- a backtrack of the parser of escapes, after a control character that stands where the normal
-- parser backtracks; or a cut of one of the three
abbrev pub IsOfPart : {O C E S T : Type 0} → Meaning O T → Errors E S T → Meaning C T
    → Errors E S T → Errors E S T → Bool → S → Failure E Needed → Type 0
IsOfPart {T = T} normal normal_errors control control_errors errors partial s (Backtrack e) = (a : Ahead T)
    × (IsAbsent normal partial a × AfterControl control errors partial a s (Backtrack e))
IsOfPart {T = T} normal normal_errors control control_errors errors partial s (Cut e) = (a : Ahead T)
    × (normal_errors partial a s (Cut e)
    ⊎ (IsAbsent normal partial a × (control_errors partial a s (Cut e) ⊎ AfterControl control errors partial a s (Cut e))))
IsOfPart normal normal_errors control control_errors errors partial s (Incomplete n) = ⊤
IsOfPart normal normal_errors control control_errors errors partial s (Refused r) = ⊤

-- an error that joins two and is then appended to: the first is made of a stream that stands where
-- the first alternative backtracks, the second of the stream as it is left; it is appended to by
-- that stream and a checkpoint of where the number began
abbrev pub JoinsTwo : {O E S C T : Type 0} → (S → Ahead T) → (C → Ahead T) → Meaning O T
    → (S → E → Type 0) → (E → E → E → Type 0) → (E → S → C → E → Type 0) → Bool → Ahead T → S → E
    → Type 0
JoinsTwo {E = E} {S = S} {C = C} stands stood first made joins appends partial a s e =
    (one : E) × ((other : E) × ((whole : E) × ((start : C)
    × (((r : S) × (made r one × first partial a (Fails (Backtracks (stands r))))) × made s other
    × joins one other whole × (stood start ≡ a) × appends whole s start e))))

-- a backtrack of a number: its digits stand there, and read as none, and the error is made of the
-- stream; or they do not, and the error joins two. Or a cut, with an error that is made of the
-- stream in another way
abbrev pub IsOfNumber : {G R O E S C T : Type 0} → (G → R → Type 0) → Meaning G T → (S → Ahead T)
    → (C → Ahead T) → Meaning O T → (S → E → Type 0) → (S → E → Type 0) → (E → E → E → Type 0)
    → (E → S → C → E → Type 0) → Bool → Ahead T → S → Failure E Needed → Type 0
IsOfNumber {G = G} {T = T} reads digits stands stood first found asserted joins appends partial a s (Backtrack e) =
    ((slice : G) × ((b : Ahead T) × (digits partial a (Gives slice b)
    × IsSomeExactly (reads slice) None × found s e)))
    ⊎ (IsAbsent digits partial a × JoinsTwo stands stood first found joins appends partial a s e)
IsOfNumber reads digits stands stood first found asserted joins appends partial a s (Cut e) = asserted s e
IsOfNumber reads digits stands stood first found asserted joins appends partial a s (Incomplete n) = ⊤
IsOfNumber reads digits stands stood first found asserted joins appends partial a s (Refused r) = ⊤
