-- The entries of an error: its alternatives, or the error itself alone.
use Rattle.std.specs.Prelude.{◌≡◌, ◌++◌, ℕ, List, [], ◌∷◌, Option, Some, None, option_map, string_bytes}
use Rattle.winnow_tree.specs.declared.tree.TreeError.{TreeError, out-TreeError}
use Rattle.winnow_tree.specs.declared.tree.TreeError.TheOpen.{TreeError-F, Base, Stack, Alt}

-- the alternatives of one layer, if it is an `Alt`
abbrev pub layer_alternatives : {I C A : Type 0} → TreeError-F I C A → Option (List A)
layer_alternatives (Base b) = None
layer_alternatives (Stack b s) = None
layer_alternatives (Alt v) = Some v.items

-- the alternatives of an error, if it is an `Alt`
abbrev pub alternatives : {I C : Type 0} → TreeError I C → Option (List (TreeError I C))
alternatives {I} {C} t = layer_alternatives (out-TreeError I C t)

abbrev pub entries_or : {A : Type 0} → A → Option (List A) → List A
entries_or t (Some ts) = ts
entries_or t None = t ∷ []

-- the alternatives of an error, else the error itself alone
abbrev pub entries : {I C : Type 0} → TreeError I C → List (TreeError I C)
entries t = entries_or t (alternatives t)

-- the entries of two errors: those of the second come last; but if only the second has
-- alternatives, the first comes after them
abbrev pub entries_of_both : {A : Type 0} → A → A → Option (List A) → Option (List A) → List A
entries_of_both a b (Some xs) (Some ys) = xs ++ ys
entries_of_both a b (Some xs) None = xs ++ b ∷ []
entries_of_both a b None (Some ys) = ys ++ a ∷ []
entries_of_both a b None None = a ∷ b ∷ []

-- r is what `or` gives for two errors: an `Alt` of the entries of both
abbrev pub TreeOr : {I C : Type 0} → TreeError I C → TreeError I C → TreeError I C → Type 0
TreeOr a b r = alternatives r ≡ Some (entries_of_both a b (alternatives a) (alternatives b))

abbrev pub LayerIsBase : {I C A : Type 0} → I → Option (List ℕ) → TreeError-F I C A → Type 0
LayerIsBase i cause (Base b) = (b.input ≡ i) × (option_map string_bytes b.cause ≡ cause)
LayerIsBase i cause (Stack b s) = ⊥
LayerIsBase i cause (Alt v) = ⊥

-- the error is at an input, with the text of a cause or without
abbrev pub IsBase : {I C : Type 0} → I → Option (List ℕ) → TreeError I C → Type 0
IsBase {I} {C} i cause t = LayerIsBase i cause (out-TreeError I C t)
