-- What combinators make of the meanings of their parts.
use Rattle.std.specs.Prelude.{◌≡◌, Bool, true, false, Option, Some, None, Result, Ok, Err, ◌⊎◌, ⊤}
use Rattle.winnow_parser.specs.Outcome.{Ahead, Backtracks, Cuts, Needs, Refuses, Gives, Fails, Meaning}

-- the parser gives no value at which this does not hold
abbrev pub GivesOnly : {O T : Type 0} → Meaning O T → (O → Type 0) → Type 0
GivesOnly {O} {T} means holds = (partial : Bool) (a b : Ahead T) (x : O) → means partial a (Gives x b) → holds x

-- gives this value and takes nothing
abbrev pub Returns : {O T : Type 0} → O → Meaning O T
Returns x partial a (Gives y b) = (x ≡ y) × (a ≡ b)
Returns x partial a (Fails f) = ⊥

-- what a relation gives for the value
abbrev pub Maps : {O P T : Type 0} → (O → P → Type 0) → Meaning O T → Meaning P T
Maps {O} gives inner partial a (Gives y b) = (x : O) × (gives x y × inner partial a (Gives x b))
Maps gives inner partial a (Fails f) = inner partial a (Fails f)

-- this one value, for each value of the parser
abbrev pub IsAlways : {O P : Type 0} → P → O → P → Type 0
IsAlways value x y = value ≡ y

-- any value of which this holds, for each value of the parser
abbrev pub IsAnyOf : {O P : Type 0} → (P → Type 0) → O → P → Type 0
IsAnyOf holds x y = holds y

-- any value, of which nothing is kept
abbrev pub IsForgotten : {O : Type 0} → O → Unit {0} → Type 0
IsForgotten x y = ⊤

-- first one parser, then the other: both values
abbrev pub Pair : {O P T : Type 0} → Meaning O T → Meaning P T → Meaning (O × P) T
Pair {O} {P} {T} first second partial a (Gives both c) = (b : Ahead T) × (first partial a (Gives both.0 b) × second partial b (Gives both.1 c))
Pair {O} {P} {T} first second partial a (Fails f) = first partial a (Fails f)
    ⊎ ((x : O) × ((b : Ahead T) × (first partial a (Gives x b) × second partial b (Fails f))))

-- the second of two values
abbrev pub Second : {O P : Type 0} → O × P → P → Type 0
Second both y = both.1 ≡ y

-- the first of two values
abbrev pub First : {O P : Type 0} → O × P → O → Type 0
First both x = both.0 ≡ x

-- first one parser, then the other: the second value
abbrev pub IsPreceded : {O P T : Type 0} → Meaning O T → Meaning P T → Meaning P T
IsPreceded first second = Maps Second (Pair first second)

-- first one parser, then the other: the first value
abbrev pub IsTerminated : {O P T : Type 0} → Meaning O T → Meaning P T → Meaning O T
IsTerminated first second = Maps First (Pair first second)

-- the first parser, or, where it backtracks, the second from the same place; where both backtrack,
-- memory may be refused while their errors are joined
abbrev pub IsAlt2 : {O T : Type 0} → Type 0 → Meaning O T → Meaning O T → Meaning O T
IsAlt2 {O} {T} refusable first second partial a (Gives x b) = first partial a (Gives x b)
    ⊎ ((c : Ahead T) × (first partial a (Fails (Backtracks c)) × second partial a (Gives x b)))
IsAlt2 {O} {T} refusable first second partial a (Fails (Backtracks b)) =
    (c : Ahead T)
    × (first partial a (Fails (Backtracks c)) × second partial a (Fails (Backtracks b)))
IsAlt2 {O} {T} refusable first second partial a (Fails (Cuts b)) = first partial a (Fails (Cuts b))
    ⊎ ((c : Ahead T) × (first partial a (Fails (Backtracks c)) × second partial a (Fails (Cuts b))))
IsAlt2 {O} {T} refusable first second partial a (Fails (Needs n)) = first partial a (Fails (Needs n))
    ⊎ ((c : Ahead T) × (first partial a (Fails (Backtracks c)) × second partial a (Fails (Needs n))))
IsAlt2 {O} {T} refusable first second partial a (Fails Refuses) = first partial a (Fails Refuses)
    ⊎ ((c : Ahead T) × (first partial a (Fails (Backtracks c)) × (second partial a (Fails Refuses) ⊎ refusable)))

-- the value, or none where the inner parser backtracks, and then nothing is taken
abbrev pub IsOpt : {O T : Type 0} → Meaning O T → Meaning (Option O) T
IsOpt inner partial a (Gives (Some x) b) = inner partial a (Gives x b)
IsOpt {O} {T} inner partial a (Gives None b) = (a ≡ b) × ((c : Ahead T) × inner partial a (Fails (Backtracks c)))
IsOpt inner partial a (Fails (Backtracks b)) = ⊥
IsOpt inner partial a (Fails (Cuts b)) = inner partial a (Fails (Cuts b))
IsOpt inner partial a (Fails (Needs n)) = inner partial a (Fails (Needs n))
IsOpt inner partial a (Fails Refuses) = inner partial a (Fails Refuses)

-- the value, and nothing is taken
abbrev pub Peeks : {O T : Type 0} → Meaning O T → Meaning O T
Peeks {O} {T} inner partial a (Gives x b) = (a ≡ b) × ((c : Ahead T) × inner partial a (Gives x c))
Peeks inner partial a (Fails f) = inner partial a (Fails f)

-- succeeds where the inner parser backtracks, and takes nothing; backtracks where the inner parser
-- gives a value
abbrev pub IsNot : {O T : Type 0} → Meaning O T → Meaning (Unit {0}) T
IsNot {O} {T} inner partial a (Gives u b) = (a ≡ b) × ((c : Ahead T) × inner partial a (Fails (Backtracks c)))
IsNot {O} {T} inner partial a (Fails (Backtracks b)) = (a ≡ b) × ((x : O) × ((c : Ahead T) × inner partial a (Gives x c)))
IsNot inner partial a (Fails (Cuts b)) = inner partial a (Fails (Cuts b))
IsNot inner partial a (Fails (Needs n)) = inner partial a (Fails (Needs n))
IsNot inner partial a (Fails Refuses) = inner partial a (Fails Refuses)

-- where the inner parser backtracks, this one cuts
abbrev pub CutsErr : {O T : Type 0} → Meaning O T → Meaning O T
CutsErr inner partial a (Gives x b) = inner partial a (Gives x b)
CutsErr inner partial a (Fails (Backtracks b)) = ⊥
CutsErr inner partial a (Fails (Cuts b)) = inner partial a (Fails (Backtracks b)) ⊎ inner partial a (Fails (Cuts b))
CutsErr inner partial a (Fails (Needs n)) = inner partial a (Fails (Needs n))
CutsErr inner partial a (Fails Refuses) = inner partial a (Fails Refuses)

-- where the inner parser cuts, this one backtracks
abbrev pub BacktracksErr : {O T : Type 0} → Meaning O T → Meaning O T
BacktracksErr inner partial a (Gives x b) = inner partial a (Gives x b)
BacktracksErr inner partial a (Fails (Backtracks b)) = inner partial a (Fails (Backtracks b)) ⊎ inner partial a (Fails (Cuts b))
BacktracksErr inner partial a (Fails (Cuts b)) = ⊥
BacktracksErr inner partial a (Fails (Needs n)) = inner partial a (Fails (Needs n))
BacktracksErr inner partial a (Fails Refuses) = inner partial a (Fails Refuses)

-- the value, if a test holds of it; if not, the parser backtracks, from where it began
abbrev pub Verifies : {O T : Type 0} → (O → Bool → Type 0) → Meaning O T → Meaning O T
Verifies answers inner partial a (Gives x b) = inner partial a (Gives x b) × answers x true
Verifies {O} {T} answers inner partial a (Fails (Backtracks b)) = inner partial a (Fails (Backtracks b))
    ⊎ ((a ≡ b) × ((x : O) × ((c : Ahead T) × (inner partial a (Gives x c) × answers x false))))
Verifies answers inner partial a (Fails (Cuts b)) = inner partial a (Fails (Cuts b))
Verifies answers inner partial a (Fails (Needs n)) = inner partial a (Fails (Needs n))
Verifies answers inner partial a (Fails Refuses) = inner partial a (Fails Refuses)

-- what a relation gives for the value, if it gives something; if not, the parser backtracks, from
-- where it began
abbrev pub VerifyMaps : {O P T : Type 0} → (O → Option P → Type 0) → Meaning O T → Meaning P T
VerifyMaps {O} gives inner partial a (Gives y b) = (x : O) × (gives x (Some y) × inner partial a (Gives x b))
VerifyMaps {O} {P} {T} gives inner partial a (Fails (Backtracks b)) = inner partial a (Fails (Backtracks b))
    ⊎ ((a ≡ b) × ((x : O) × ((c : Ahead T) × (inner partial a (Gives x c) × gives x None))))
VerifyMaps gives inner partial a (Fails (Cuts b)) = inner partial a (Fails (Cuts b))
VerifyMaps gives inner partial a (Fails (Needs n)) = inner partial a (Fails (Needs n))
VerifyMaps gives inner partial a (Fails Refuses) = inner partial a (Fails Refuses)

-- the function returns this value, or fails and there is none
abbrev pub TriesTo : {O P E : Type 0} → (O → Result P E → Type 0) → O → Option P → Type 0
TriesTo gives x (Some y) = gives x (Ok y)
TriesTo {O} {P} {E} gives x None = (e : E) × gives x (Err e)
