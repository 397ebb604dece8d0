-- The contents of a tree of errors: its inputs, causes and contexts, without the memory that they
-- take.
use Rattle.std.specs.Prelude.{◌≡◌, ℕ, List, [], ◌∷◌, ◌++◌, Option, map, option_map, string_bytes}
use Rattle.winnow_tree.specs.declared.parts.TreeErrorFrame.{TreeErrorFrame}
use Rattle.winnow_tree.specs.declared.parts.TreeErrorFrame.TheVariants.{Kind, Context}
use Rattle.winnow_tree.specs.declared.tree.TreeError.{TreeError, fold-TreeError}
use Rattle.winnow_tree.specs.declared.tree.TreeError.TheOpen.{TreeError-F, Base, Stack, Alt}

-- a frame: an input with the text of a cause, or with a context
pub data Frame (I : Type 0) (C : Type 0) : Type 0 where
  kind : I → Option (List ℕ) → Frame I C
  context : I → C → Frame I C

-- a tree: an input with the text of a cause, an error under frames, or alternatives
mutual
  pub data Tree (I : Type 0) (C : Type 0) : Type 0 where
    base : I → Option (List ℕ) → Tree I C
    stack : Tree I C → List (Frame I C) → Tree I C
    alt : Trees I C → Tree I C

  pub data Trees (I : Type 0) (C : Type 0) : Type 0 where
    none : Trees I C
    more : Tree I C → Trees I C → Trees I C

-- the trees of a list, as `Trees`
abbrev pub trees_of : {I C : Type 0} → List (Tree I C) → Trees I C
trees_of [] = none
trees_of (t ∷ ts) = more t (trees_of ts)

-- the contents of a frame
abbrev pub frame_contents : {I C : Type 0} → TreeErrorFrame I C → Frame I C
frame_contents (Kind b) = kind b.input (option_map string_bytes b.cause)
frame_contents (Context c) = context c.input c.context

-- the contents of a layer, from the contents of the errors in it
abbrev pub layer_contents : {I C : Type 0} → TreeError-F I C (Tree I C) → Tree I C
layer_contents (Base b) = base b.input (option_map string_bytes b.cause)
layer_contents (Stack b s) = stack b.value (map frame_contents s.items)
layer_contents (Alt v) = alt (trees_of v.items)

-- the contents of a tree
abbrev pub tree_contents : {I C : Type 0} → TreeError I C → Tree I C
tree_contents {I} {C} = fold-TreeError I C (Tree I C) layer_contents

-- one more frame: after those that the error has, or alone over an error that has none
abbrev pub with_frame : {I C : Type 0} → Frame I C → Tree I C → Tree I C
with_frame f (base i c) = stack (base i c) (f ∷ [])
with_frame f (stack t fs) = stack t (fs ++ f ∷ [])
with_frame f (alt ts) = stack (alt ts) (f ∷ [])

-- r has one more frame than the tree t: at the input as it stood where `there` remained, at the
-- location `there_location`
abbrev pub PushedAt : {I C S L : Type 0} → (I → S) → (I → L) → (I → Type 0) → (I → I → Type 0) → I
    → S → L → (I → Frame I C) → Tree I C → TreeError I C → Type 0
PushedAt {I} remaining location valid keeps input there there_location frame t r = (at : I) × ((remaining at ≡ there) × (location at ≡ there_location) × valid at × keeps input at × (tree_contents r ≡ with_frame (frame at) t))
