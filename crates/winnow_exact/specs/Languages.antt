-- Languages that are made of languages, as parsers are made of parsers.
use Rattle.std.specs.Prelude.{◌≡◌, ℕ, zero, suc, ◌≤◌, Bool, true, false, ◌||◌, List, [], ◌∷◌, ◌++◌, length}
use Rattle.winnow_grammar.specs.Spelling.{Spelling}
use Rattle.winnow_grammar.specs.Spellings.{OneToken, AreHeld, Then}

-- no token goes on after it
abbrev pub nothing : {T : Type 0} → T → Bool
nothing t = false

-- a token of the one test, or of the other
abbrev pub either : {T : Type 0} → (T → Bool) → (T → Bool) → T → Bool
either f g t = f t || g t

-- at least so many tokens that pass the test, of which no value is kept
abbrev pub IsRun : {S T : Type 0} → ℕ → (T → Bool) → Spelling S T
IsRun least holds s p = (least ≤ length p) × AreHeld holds p

-- at least so many tokens that pass the test, which are the value
abbrev pub AreTokens : {T : Type 0} → ℕ → (T → Bool) → Spelling (List T) T
AreTokens least holds ts p = (ts ≡ p) × (least ≤ length p) × AreHeld holds p

-- a separator and a value
abbrev pub Link : {O T : Type 0} → Spelling O T → (T → Bool) → Spelling (T × O) T
Link L sign = Then (OneToken sign) L

-- so many of them
abbrev pub Links : {O T : Type 0} → Spelling O T → (T → Bool) → ℕ → List T → Type 0
Links L sign zero t = t ≡ []
Links {O} {T} L sign (suc n) t =
    (q : List T) × ((u : List T) × ((y : T × O) × ((t ≡ q ++ u) × Link L sign y q
    × Links L sign n u)))

-- the first of the tokens passes the test
abbrev pub StartsWith : {T : Type 0} → (T → Bool) → List T → Type 0
StartsWith {T} sign p = (t : T) × ((ts : List T) × ((p ≡ t ∷ ts) × (sign t ≡ true)))
