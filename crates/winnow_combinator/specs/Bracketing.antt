-- Three alternatives, bracketed in one way or the other.
use Rattle.std.specs.Prelude.{◌≡◌, Bool}
use Rattle.winnow_error.specs.declared.failure.Failure.TheVariants.{Backtrack}
use Rattle.winnow_parser.specs.Outcome.{Ahead, Outcome, Meaning}
use Rattle.winnow_parser.specs.Errors.{Errors, FailsLeaving, AltErrors2}
use Rattle.winnow_parser.specs.Meanings.{IsAlt2}
use Rattle.winnow_parser.specs.Determined.{IsGranted}
use Rattle.winnow_combinator.specs.Appended.{Appending, AppendedErrors}
use Rattle.winnow_combinator.specs.Alt.{IsAlt3}

-- each answer of one parser is one of the other
abbrev pub MeansAlike : {O T : Type 0} → Meaning O T → Meaning O T → Type 0
MeansAlike {O} {T} first second = (partial : Bool) (a : Ahead T) (v : Outcome O T)
    → (first partial a v → second partial a v) × (second partial a v → first partial a v)

-- each answer of one parser is one of the other, unless memory was refused
abbrev pub MeansAlikeGranted : {O T : Type 0} → Meaning O T → Meaning O T → Type 0
MeansAlikeGranted {O} {T} first second = (partial : Bool) (a : Ahead T) (v : Outcome O T) → IsGranted v
    → (first partial a v → second partial a v) × (second partial a v → first partial a v)

-- `alt` of two: memory may be refused while the joined error is appended to (q), and while errors
-- are joined (r)
abbrev pub AltOfTwo : {O T : Type 0} → Type 0 → Type 0 → Meaning O T → Meaning O T → Meaning O T
AltOfTwo q r a b = Appending q (IsAlt2 r a b)

-- `alt` of three: memory may be refused as for two
abbrev pub AltOfThree : {O T : Type 0} → Type 0 → Type 0 → Meaning O T → Meaning O T → Meaning O T
    → Meaning O T
AltOfThree q r a b c = Appending q (IsAlt3 r a b c)

-- the errors of `alt` of two
abbrev pub AltErrors : {O E S C T : Type 0} → (C → Ahead T) → (E → S → C → E → Type 0)
    → (S → Ahead T) → (E → E → E → Type 0) → Meaning O T → Errors E S T → Errors E S T
    → Errors E S T
AltErrors stood gives stands joins means first second = AppendedErrors stood gives (AltErrors2 stands joins means first second)

-- three parsers backtrack here, each with an error of the stream as it left it, and the function
-- joins the errors in their order to this one; the last left this stream
abbrev pub JoinsThree : {O E S T : Type 0} → (S → Ahead T) → (E → E → E) → Meaning O T
    → Errors E S T → Meaning O T → Errors E S T → Errors E S T → Bool → Ahead T → S → E → Type 0
JoinsThree {E = E} stands join mx x my y z partial a s e = (e1 : E) × ((e2 : E) × ((e3 : E)
    × (FailsLeaving stands mx x partial a (Backtrack e1)
    × FailsLeaving stands my y partial a (Backtrack e2) × z partial a s (Backtrack e3)
    × (e ≡ join (join e1 e2) e3))))

-- three parsers backtrack here, the function joins their errors in their order, and the joined
-- error is appended to, by the stream as it is left and a checkpoint of where it stood
abbrev pub AppendsThree : {O E S C T : Type 0} → (C → Ahead T) → (E → S → C → E → Type 0)
    → (S → Ahead T) → (E → E → E) → Meaning O T → Errors E S T → Meaning O T → Errors E S T
    → Errors E S T → Bool → Ahead T → S → E → Type 0
AppendsThree {E = E} {C = C} stood gives stands join mx x my y z partial a s e = (e0 : E) × ((start : C)
    × (JoinsThree stands join mx x my y z partial a s e0 × (stood start ≡ a) × gives e0 s start e))

-- appending changes no error
abbrev pub AppendsNothing : {E S C : Type 0} → (E → S → C → E → Type 0) → Type 0
AppendsNothing {E} {S} {C} gives = (e : E) (s : S) (start : C) (r : E) → gives e s start r → r ≡ e
