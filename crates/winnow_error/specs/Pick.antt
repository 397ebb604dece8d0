-- Which error stands for those of several alternatives.
use Rattle.std.specs.Prelude.{◌≡◌, Option, Some, None, List, [], ◌∷◌, ◌++◌, fold}
use Rattle.winnow_stream.specs.declared.needed.Needed.{Needed}
use Rattle.winnow_error.specs.declared.mode.ErrMode.TheVariants.{Incomplete, Backtrack, Cut}
use Rattle.winnow_error.specs.declared.combining.OrTree.{OrTree, One, Both'}
use Rattle.winnow_error.specs.Mode.{Mode}

-- the leaves of a tree, in order
abbrev pub leaves : {E : Type 0} → OrTree E → List E
leaves (One e) = e ∷ []
leaves (Both' p l q r) = leaves l ++ leaves r

-- r is an error of the tree: its leaf, or what `or` gives for an error of each side
abbrev pub Bracketed : {E : Type 0} → (E → E → E → Type 0) → OrTree E → E → Type 0
Bracketed gives (One e) r = r ≡ e
Bracketed {E} gives (Both' p left q right) r = (a : E) × ((b : E) × (Bracketed gives left a × Bracketed gives right b × gives a b r))

-- how much input the first `Incomplete` of a list wanted
abbrev pub first_needed : {E : Type 0} → List (Mode E) → Option Needed
first_needed [] = None
first_needed (Incomplete n ∷ es) = Some n
first_needed (Backtrack e ∷ es) = first_needed es
first_needed (Cut e ∷ es) = first_needed es

-- the inner error of the first `Cut` of a list
abbrev pub first_cut : {E : Type 0} → List (Mode E) → Option E
first_cut [] = None
first_cut (Cut e ∷ es) = Some e
first_cut (Incomplete n ∷ es) = first_cut es
first_cut (Backtrack e ∷ es) = first_cut es

-- the inner errors of the `Backtrack`s of a list, in order
abbrev pub backtracked : {E : Type 0} → List (Mode E) → List E
backtracked [] = []
backtracked (Backtrack e ∷ es) = e ∷ backtracked es
backtracked (Incomplete n ∷ es) = backtracked es
backtracked (Cut e ∷ es) = backtracked es

-- the errors of a list joined in order, or `None` for an empty list
abbrev pub join_all : {E : Type 0} → (E → E → E) → List E → Option E
join_all join [] = None
join_all join (e ∷ es) = Some (fold join e es)

-- `Incomplete` of the first option, else `Cut` of the second, else `Backtrack` of the third
abbrev pub first_of : {E : Type 0} → Option Needed → Option E → Option E → Option (Mode E)
first_of (Some n) cut joined = Some (Incomplete n)
first_of None (Some e) joined = Some (Cut e)
first_of None None (Some e) = Some (Backtrack e)
first_of None None None = None

-- the error that stands for a list: the first `Incomplete`; without one, the first `Cut`; without
-- either, `Backtrack` of all inner errors joined in order
abbrev pub pick : {E : Type 0} → (E → E → E) → List (Mode E) → Option (Mode E)
pick join es = first_of (first_needed es) (first_cut es) (join_all join (backtracked es))

-- some error of a list is no `Backtrack`
abbrev pub HasNonBacktrack : {E : Type 0} → List (Mode E) → Type 0
HasNonBacktrack [] = ⊥
HasNonBacktrack (Backtrack e ∷ es) = HasNonBacktrack es
HasNonBacktrack (Incomplete n ∷ es) = Unit {0}
HasNonBacktrack (Cut e ∷ es) = Unit {0}

-- each error of the first tree equals each error of the second
abbrev pub CombineAlike : {E : Type 0} → (E → E → E → Type 0) → OrTree E → OrTree E → Type 0
CombineAlike {E} gives s t = (a b : E) → Bracketed gives s a → Bracketed gives t b → a ≡ b
