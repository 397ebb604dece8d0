-- Text with escapes: fragments that stand for themselves, and escapes after a control character.
use Rattle.std.specs.Prelude.{◌≡◌, ◌≢◌, ◌<◌, ◌≤◌, Bool, true, false, List, [], ◌∷◌, Option, Some, None, ◌⊎◌, ⊤}
use Rattle.winnow_stream.specs.Source.{width}
use Rattle.winnow_stream.specs.declared.needed.Needed.TheVariants.{Unknown}
use Rattle.winnow_error.specs.declared.failure.Failure.TheVariants.{Incomplete, Backtrack, Cut, Refused}
use Rattle.winnow_parser.specs.Outcome.{Ahead, Backtracks, Needs, Outcome, Gives, Fails, Meaning}
use Rattle.winnow_parser.specs.Errors.{Errors, NoError}
use Rattle.winnow_parser.specs.Meanings.{IsPreceded, IsOpt}
use Rattle.winnow_ascii.specs.declared.fragment.Fragment.{Fragment}
use Rattle.winnow_ascii.specs.declared.fragment.Fragment.TheVariants.{Normal, Escaped}

-- the parser backtracks here
abbrev pub IsAbsent : {O T : Type 0} → Meaning O T → Bool → Ahead T → Type 0
IsAbsent {T = T} inner partial a = (c : Ahead T) × inner partial a (Fails (Backtracks c))

-- what an escape after the control character stands for; or none, where the control character does
-- not stand at the front, and then nothing is taken
abbrev pub Escape : {C P T : Type 0} → Meaning C T → Meaning P T → Meaning (Option P) T
Escape control escapable partial a (Gives (Some y) b) = IsPreceded control escapable partial a (Gives y b)
Escape control escapable partial a (Gives None b) = IsOpt control partial a (Gives None b)
Escape {C} {P} {T} control escapable partial a (Fails f) = IsOpt control partial a (Fails f)
    ⊎ ((x : C) × ((b : Ahead T) × (control partial a (Gives x b) × escapable partial b (Fails f))))

-- the next fragment: what the normal parser reads, or, where it backtracks, what an escape stands
-- for; or none, where there is no escape either
abbrev pub NextFragment : {O C P T : Type 0} → Meaning O T → Meaning C T → Meaning P T
    → Meaning (Option (Fragment O P)) T
NextFragment normal control escapable partial a (Gives (Some (Normal x)) b) = normal partial a (Gives x b)
NextFragment normal control escapable partial a (Gives (Some (Escaped y)) b) =
    IsAbsent normal partial a × Escape control escapable partial a (Gives (Some y) b)
NextFragment normal control escapable partial a (Gives None b) =
    IsAbsent normal partial a × Escape control escapable partial a (Gives None b)
NextFragment normal control escapable partial a (Fails f) = IsOpt normal partial a (Fails f)
    ⊎ (IsAbsent normal partial a × Escape control escapable partial a (Fails f))

-- the answer at the end of the input: none; or more is needed, if more may follow
abbrev pub end_answer : {O T : Type 0} → Bool → Ahead T → Outcome (Option O) T
end_answer true a = Fails (Needs Unknown)
end_answer false a = Gives None a

-- the inner parser, which is not asked at the end of the input
abbrev pub UpToEnd : {O T : Type 0} → Meaning (Option O) T → Meaning (Option O) T
UpToEnd inner partial a v = ((a.tokens ≢ []) × inner partial a v)
    ⊎ ((a.tokens ≡ []) × (v ≡ end_answer partial a))

-- the parser gives these values, one after the other, and then none, or fails; a value for which
-- nothing was taken is the last
abbrev pub GivesInTurn : {O T : Type 0} → Meaning (Option O) T → Bool → List O → Ahead T
    → Outcome (Unit {0}) T → Type 0
GivesInTurn inner partial [] a (Gives u b) = inner partial a (Gives None b)
GivesInTurn inner partial [] a (Fails f) = inner partial a (Fails f)
GivesInTurn {T = T} inner partial (x ∷ xs) a v = (b : Ahead T)
    × (inner partial a (Gives (Some x) b)
    × (((width b.tokens < width a.tokens) × GivesInTurn inner partial xs b v)
    ⊎ ((width a.tokens ≤ width b.tokens) × (xs ≡ []) × (v ≡ Gives tt b))))

-- all values that the parser gives, one after the other
abbrev pub AllInTurn : {O T : Type 0} → Meaning (Option O) T → Meaning (List O) T
AllInTurn inner partial a (Gives xs b) = GivesInTurn inner partial xs a (Gives tt b)
AllInTurn {O} inner partial a (Fails f) = (xs : List O) × GivesInTurn inner partial xs a (Fails f)

-- the fragments of a text, one after the other, up to the end of the input or to what is no
-- fragment
abbrev pub IsEscaped : {O C P T : Type 0} → Meaning O T → Meaning C T → Meaning P T
    → Meaning (List (Fragment O P)) T
IsEscaped normal control escapable = AllInTurn (UpToEnd (NextFragment normal control escapable))

-- the parser gives these values, one after the other, and takes something for each
abbrev pub TakesInTurn : {O T : Type 0} → Meaning (Option O) T → Bool → List O → Ahead T → Ahead T
    → Type 0
TakesInTurn inner partial [] a b = a ≡ b
TakesInTurn {T = T} inner partial (x ∷ xs) a b = (c : Ahead T)
    × (inner partial a (Gives (Some x) c) × (width c.tokens < width a.tokens) × TakesInTurn inner partial xs c b)

-- the errors of the inner parser, except where it backtracks
abbrev pub UnlessBacktrack : {E S T : Type 0} → Errors E S T → Errors E S T
UnlessBacktrack inner partial a s (Backtrack e) = ⊥
UnlessBacktrack inner partial a s (Cut e) = inner partial a s (Cut e)
UnlessBacktrack inner partial a s (Incomplete n) = ⊤
UnlessBacktrack inner partial a s (Refused r) = ⊤

-- a cut of the control character's parser, or, after the control character, an error of the escape
abbrev pub EscapeErrors : {C E S T : Type 0} → Meaning C T → Errors E S T → Errors E S T
    → Errors E S T
EscapeErrors {C} {E} {S} {T} control control_errors errors partial a s failure =
    UnlessBacktrack control_errors partial a s failure
    ⊎ ((x : C) × ((b : Ahead T) × (control partial a (Gives x b) × errors partial b s failure)))

-- a cut of the normal parser, or, where it backtracks, an error at an escape
abbrev pub FragmentErrors : {O E S T : Type 0} → Meaning O T → Errors E S T → Errors E S T
    → Errors E S T
FragmentErrors normal normal_errors escape_errors partial a s failure =
    UnlessBacktrack normal_errors partial a s failure
    ⊎ (IsAbsent normal partial a × escape_errors partial a s failure)

-- the errors of the inner parser; at the end of the input there is none
abbrev pub UpToEndErrors : {E S T : Type 0} → Errors E S T → Errors E S T
UpToEndErrors inner partial a s failure = inner partial a s failure ⊎ NoError partial a s failure

-- the errors of the inner parser, after some of its values
abbrev pub InTurnErrors : {O E S T : Type 0} → Meaning (Option O) T → Errors E S T → Errors E S T
InTurnErrors {O} {E} {S} {T} means inner partial a s failure = (xs : List O) × ((b : Ahead T)
    × (TakesInTurn means partial xs a b × inner partial b s failure))

-- two fragments are the same where both are normal or both are escaped, with values that are the
-- same
abbrev pub AreSameFragments : {O P : Type 0} → (O → O → Type 0) → (P → P → Type 0)
    → Fragment O P → Fragment O P → Type 0
AreSameFragments same alike (Normal x) (Normal y) = same x y
AreSameFragments same alike (Normal x) (Escaped y) = ⊥
AreSameFragments same alike (Escaped x) (Normal y) = ⊥
AreSameFragments same alike (Escaped x) (Escaped y) = alike x y
