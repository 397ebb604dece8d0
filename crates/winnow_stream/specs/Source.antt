-- A source: a list of tokens, each with its width. What remains of a stream is one.
use Rattle.std.specs.Prelude.{◌≡◌, ℕ, ◌+◌, ◌≤◌, Bool, true, false, cond, List, [], ◌∷◌, map, take, drop, Option, Some, None, ⊤}

-- a list of pairs of a token and its width
abbrev pub Source : Type 0 → Type 0
Source T = List (T × ℕ)

-- the elements of a list as tokens, each of width 1
abbrev pub units : {T : Type 0} → List T → Source T
units xs = map (λ x. (x, 1)) xs

-- the sum of the widths
abbrev pub width : {T : Type 0} → Source T → ℕ
width [] = 0
width (x ∷ xs) = x.1 + width xs

-- each width is at least 1
abbrev pub HasPositiveWidths : {T : Type 0} → Source T → Type 0
HasPositiveWidths [] = ⊤
HasPositiveWidths (x ∷ xs) = (1 ≤ x.1) × HasPositiveWidths xs

-- r is what is left of the whole after some of its tokens
abbrev pub IsEndOf : {T : Type 0} → Source T → Source T → Type 0
IsEndOf r whole = (k : ℕ) × (r ≡ drop k whole)

-- the first token
abbrev pub first_token : {T : Type 0} → Source T → Option T
first_token [] = None
first_token (x ∷ xs) = Some x.0

-- each token, with n plus the width before it
abbrev pub offsets_from : {T : Type 0} → ℕ → Source T → List (ℕ × T)
offsets_from n [] = []
offsets_from n (x ∷ xs) = (n, x.0) ∷ offsets_from (n + x.1) xs

-- each token, with the width before it
abbrev pub offsets : {T : Type 0} → Source T → List (ℕ × T)
offsets r = offsets_from 0 r

-- the offset of the first token that a set holds
abbrev pub first_held : {T : Type 0} → (T → Bool) → List (ℕ × T) → Option ℕ
first_held holds [] = None
first_held holds (x ∷ xs) = cond (holds x.1) (Some x.0) (first_held holds xs)

-- the offset of the first token of a source that a set holds
abbrev pub first_offset : {T : Type 0} → (T → Bool) → Source T → Option ℕ
first_offset holds r = first_held holds (offsets r)

-- a test, whose answers are a relation, answers false of each token
abbrev pub RefusesAll : {T : Type 0} → (T → Bool → Type 0) → Source T → Type 0
RefusesAll answers [] = ⊤
RefusesAll answers (x ∷ xs) = answers x.0 false × RefusesAll answers xs

-- it answers true of the token after the width w, and false of each token before it
abbrev pub AcceptsFirst : {T : Type 0} → (T → Bool → Type 0) → Source T → ℕ → Type 0
AcceptsFirst {T} answers r w = (k : ℕ) × ((w ≡ width (take k r)) × RefusesAll answers (take k r)
    × ((x : T) × ((first_token (drop k r) ≡ Some x) × answers x true)))

-- the offset of the first token of which it answers true, or `None` if it answers false of each
abbrev pub FindsFirst : {T : Type 0} → (T → Bool → Type 0) → Source T → Option ℕ → Type 0
FindsFirst answers r None = RefusesAll answers r
FindsFirst answers r (Some w) = AcceptsFirst answers r w

-- each answer of a closure or a set is what `holds` says of the token
abbrev pub Computes : {T : Type 0} → (T → Bool → Type 0) → (T → Bool) → Type 0
Computes {T} answers holds = (x : T) (b : Bool) → answers x b → b ≡ holds x

-- the tokens up to the first that a set does not hold
abbrev pub held_front : {T : Type 0} → (T → Bool) → Source T → Source T
held_front holds [] = []
held_front holds (x ∷ xs) = cond (holds x.0) (x ∷ held_front holds xs) []

-- a set holds each token
abbrev pub HoldsAll : {T : Type 0} → (T → Bool) → Source T → Type 0
HoldsAll holds [] = ⊤
HoldsAll holds (x ∷ xs) = (holds x.0 ≡ true) × HoldsAll holds xs
