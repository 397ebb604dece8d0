-- What combinators make of the spellings of their parts.
use Rattle.std.specs.Prelude.{◌≡◌, ℕ, ◌≤◌, Bool, true, List, [], ◌∷◌, ◌++◌, length, Option, Some, None, ◌⊎◌, ⊤}
use Rattle.std.specs.declared.ops.Range.{Range}
use Rattle.winnow_stream.specs.Source.{Source, width}
use Rattle.winnow_match.specs.declared.compare.CompareResult.{CompareResult}
use Rattle.winnow_match.specs.declared.compare.CompareResult.TheVariants as compared
use Rattle.winnow_combinator.specs.Counts.{IsUpTo}
use Rattle.winnow_combinator.specs.Separated.{FoldsLeft}
use Rattle.winnow_grammar.specs.Spelling.{Spelling, tokens_of}

-- ---- Tokens

-- one token, which is the value, and which a set holds
abbrev pub OneToken : {T : Type 0} → (T → Bool) → Spelling T T
OneToken holds x ts = (ts ≡ x ∷ []) × (holds x ≡ true)

-- a set holds each token
abbrev pub AreHeld : {T : Type 0} → (T → Bool) → List T → Type 0
AreHeld holds [] = ⊤
AreHeld holds (t ∷ ts) = (holds t ≡ true) × AreHeld holds ts

-- the slice is that of these tokens, where they stand first
abbrev pub IsSliceOf : {S T : Type 0} → (S → Source T → ℕ → Type 0) → Spelling S T
IsSliceOf {T = T} is_slice s ts = (taken : Source T) × ((rest : Source T)
    × ((tokens_of taken ≡ ts) × is_slice s (taken ++ rest) (width taken)))

-- a slice of tokens that a set holds, of at least and at most so many
abbrev pub Run : {S T : Type 0} → (S → Source T → ℕ → Type 0) → (T → Bool) → ℕ → Option ℕ
    → Spelling S T
Run is_slice holds least greatest s ts = IsSliceOf is_slice s ts × AreHeld holds ts
    × (least ≤ length ts) × IsUpTo greatest (length ts)

-- the slice is that of these tokens, where they stand first, and a relation holds of what remains
-- there and of their width
abbrev pub IsSliceWhere : {S T : Type 0} → (S → Source T → ℕ → Type 0) → (Source T → ℕ → Type 0)
    → Spelling S T
IsSliceWhere {T = T} is_slice holds s ts = (taken : Source T) × ((rest : Source T)
    × ((tokens_of taken ≡ ts) × is_slice s (taken ++ rest) (width taken)
    × holds (taken ++ rest) (width taken)))

-- the slice of the tokens that a literal covers, by a comparison with it
abbrev pub Covered : {S T : Type 0} → (S → Source T → ℕ → Type 0) → (Source T → CompareResult)
    → Spelling S T
Covered is_slice compare = IsSliceWhere is_slice (λ r n. compare r ≡ compared.Ok n)

-- the slice of n tokens
abbrev pub Exactly : {S T : Type 0} → (S → Source T → ℕ → Type 0) → ℕ → Spelling S T
Exactly is_slice n s ts = IsSliceOf is_slice s ts × (length ts ≡ n)

-- the search finds its first hit at this place
abbrev pub FindsAt : {T : Type 0} → (Source T → Option (Range ℕ)) → Source T → ℕ → Type 0
FindsAt find r n = (hit : Range ℕ) × ((find r ≡ Some hit) × (hit.start ≡ n))

-- the slice of the tokens before the first hit of a search, at least and at most so many
abbrev pub UntilHit : {S T : Type 0} → (S → Source T → ℕ → Type 0) → (Source T → Option (Range ℕ))
    → ℕ → Option ℕ → Spelling S T
UntilHit is_slice find least greatest s ts = IsSliceWhere is_slice (FindsAt find) s ts
    × (least ≤ length ts) × IsUpTo greatest (length ts)

-- the slice of the tokens that spell some value
abbrev pub SliceOver : {O S T : Type 0} → (S → Source T → ℕ → Type 0) → Spelling O T
    → Spelling S T
SliceOver {O} is_slice spells s ts = ((x : O) × spells x ts) × IsSliceOf is_slice s ts

-- a value, and the slice of its tokens
abbrev pub WithSlice : {O S T : Type 0} → (S → Source T → ℕ → Type 0) → Spelling O T
    → Spelling (O × S) T
WithSlice is_slice spells both ts = spells both.0 ts × IsSliceOf is_slice both.1 ts

-- no token
abbrev pub NoToken : {O T : Type 0} → Spelling O T
NoToken x ts = ts ≡ []

-- ---- Values in a row

-- one value and then another
abbrev pub Then : {O P T : Type 0} → Spelling O T → Spelling P T → Spelling (O × P) T
Then {T = T} first second both ts = (one : List T) × ((other : List T)
    × ((ts ≡ one ++ other) × first both.0 one × second both.1 other))

-- a value after another, which is dropped
abbrev pub After : {O P T : Type 0} → Spelling O T → Spelling P T → Spelling P T
After {O} first second y ts = (x : O) × Then first second (x, y) ts

-- a value before another, which is dropped
abbrev pub Before : {O P T : Type 0} → Spelling O T → Spelling P T → Spelling O T
Before {P = P} first second x ts = (y : P) × Then first second (x, y) ts

-- values of one kind in a row
abbrev pub InRow : {O T : Type 0} → Spelling O T → Spelling (List O) T
InRow spells [] ts = ts ≡ []
InRow {T = T} spells (x ∷ xs) ts = (one : List T) × ((others : List T)
    × ((ts ≡ one ++ others) × spells x one × InRow spells xs others))

-- ---- Choices

-- one spelling or another
abbrev pub Or : {O T : Type 0} → Spelling O T → Spelling O T → Spelling O T
Or first second x ts = first x ts ⊎ second x ts

-- one of three spellings
abbrev pub Or3 : {O T : Type 0} → Spelling O T → Spelling O T → Spelling O T → Spelling O T
Or3 a b c = Or (Or a b) c

-- one of four spellings
abbrev pub Or4 : {O T : Type 0} → Spelling O T → Spelling O T → Spelling O T → Spelling O T
    → Spelling O T
Or4 a b c d = Or (Or3 a b c) d

-- one of five spellings
abbrev pub Or5 : {O T : Type 0} → Spelling O T → Spelling O T → Spelling O T → Spelling O T
    → Spelling O T → Spelling O T
Or5 a b c d e = Or (Or4 a b c d) e

-- one of six spellings
abbrev pub Or6 : {O T : Type 0} → Spelling O T → Spelling O T → Spelling O T → Spelling O T
    → Spelling O T → Spelling O T → Spelling O T
Or6 a b c d e f = Or (Or5 a b c d e) f

-- one of seven spellings
abbrev pub Or7 : {O T : Type 0} → Spelling O T → Spelling O T → Spelling O T → Spelling O T
    → Spelling O T → Spelling O T → Spelling O T → Spelling O T
Or7 a b c d e f g = Or (Or6 a b c d e f) g

-- one of eight spellings
abbrev pub Or8 : {O T : Type 0} → Spelling O T → Spelling O T → Spelling O T → Spelling O T
    → Spelling O T → Spelling O T → Spelling O T → Spelling O T → Spelling O T
Or8 a b c d e f g h = Or (Or7 a b c d e f g) h

-- one of nine spellings
abbrev pub Or9 : {O T : Type 0} → Spelling O T → Spelling O T → Spelling O T → Spelling O T
    → Spelling O T → Spelling O T → Spelling O T → Spelling O T → Spelling O T → Spelling O T
Or9 a b c d e f g h i = Or (Or8 a b c d e f g h) i

-- one of ten spellings
abbrev pub Or10 : {O T : Type 0} → Spelling O T → Spelling O T → Spelling O T → Spelling O T
    → Spelling O T → Spelling O T → Spelling O T → Spelling O T → Spelling O T → Spelling O T
    → Spelling O T
Or10 a b c d e f g h i j = Or (Or9 a b c d e f g h i) j

-- the value, or none and no token
abbrev pub Perhaps : {O T : Type 0} → Spelling O T → Spelling (Option O) T
Perhaps spells None ts = ts ≡ []
Perhaps spells (Some x) ts = spells x ts

-- ---- Values that are made of others

-- what a relation makes of a value with this spelling
abbrev pub MadeOf : {O P T : Type 0} → (O → P → Type 0) → Spelling O T → Spelling P T
MadeOf {O} makes spells y ts = (x : O) × (makes x y × spells x ts)

-- a value with this spelling of which something holds
abbrev pub Such : {O T : Type 0} → (O → Type 0) → Spelling O T → Spelling O T
Such holds spells x ts = holds x × spells x ts

-- the list has at least and at most so many values
abbrev pub HasLength : {O : Type 0} → ℕ → Option ℕ → List O → Type 0
HasLength least greatest xs = (least ≤ length xs) × IsUpTo greatest (length xs)

-- at least and at most so many values in a row
abbrev pub Several : {O T : Type 0} → ℕ → Option ℕ → Spelling O T → Spelling (List O) T
Several least greatest spells = Such (HasLength least greatest) (InRow spells)

-- so many values in a row, of which one is made
abbrev pub Counted : {O P T : Type 0} → ℕ → Option ℕ → (List O → P → Type 0) → Spelling O T
    → Spelling P T
Counted least greatest makes spells = MadeOf makes (Several least greatest spells)

-- values with separators between them
abbrev pub Listed : {O S T : Type 0} → Spelling S T → Spelling O T → Spelling (List O) T
Listed separator spells [] ts = ts ≡ []
Listed separator spells (x ∷ xs) ts = Then spells (InRow (After separator spells)) (x, xs) ts

-- so many values with separators between them, of which one is made
abbrev pub ListOf : {O P S T : Type 0} → ℕ → Option ℕ → (List O → P → Type 0) → Spelling S T
    → Spelling O T → Spelling P T
ListOf least greatest makes separator spells =
    MadeOf makes (Such (HasLength least greatest) (Listed separator spells))

-- a value, and then others after separators, folded from the left
abbrev pub Chain : {O S T : Type 0} → (O → S × O → O → Type 0) → Spelling S T → Spelling O T
    → Spelling O T
Chain step separator spells =
    MadeOf (FoldsLeft step) (Then spells (Several 0 None (Then separator spells)))
