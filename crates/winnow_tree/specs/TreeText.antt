-- The text of a tree of errors, from the texts of its inputs and contexts.
use Rattle.std.specs.Prelude.{◌+◌, ℕ, List, [], ◌∷◌, ◌++◌, Option, Some, None, codes, string_bytes}
use Rattle.std.specs.Fmt.{◌++?◌, decimal}
use Rattle.std.specs.Str.{chars}
use Rattle.std.specs.declared.string.String.{String}
use Rattle.std.specs.declared.alloc.Global.{Global}
use Rattle.winnow_tree.specs.Abbreviation.{abbreviation}
use Rattle.winnow_tree.specs.declared.parts.TreeErrorBase.{TreeErrorBase}
use Rattle.winnow_tree.specs.declared.parts.TreeErrorContext.{TreeErrorContext}
use Rattle.winnow_tree.specs.declared.parts.TreeErrorFrame.{TreeErrorFrame}
use Rattle.winnow_tree.specs.declared.parts.TreeErrorFrame.TheVariants.{Kind, Context}
use Rattle.winnow_tree.specs.declared.tree.TreeError.{TreeError, fold-TreeError}
use Rattle.winnow_tree.specs.declared.tree.TreeError.TheOpen.{TreeError-F, Base, Stack, Alt}

-- the text of the cause, if there is one
abbrev pub cause_text : Option (String Global) → List ℕ
cause_text (Some s) = codes "caused by " ++ string_bytes s
cause_text None = []

-- the front of a text that is known, at most 20 characters of its first line
abbrev pub shortened : Option (List ℕ) → Option (List ℕ)
shortened None = None
shortened (Some text) = Some (abbreviation 20 (chars text))

-- where the error occurred: the front of the input's text
abbrev pub at_text : {I : Type 0} → (I → Option (List ℕ)) → I → Option (List ℕ)
at_text input_text i = Some (codes " at '") ++? shortened (input_text i) ++? Some (codes "'")

abbrev pub base_text : {I : Type 0} → (I → Option (List ℕ)) → TreeErrorBase I → Option (List ℕ)
base_text input_text b = Some (cause_text b.cause) ++? at_text input_text b.input

abbrev pub told_text : {I C : Type 0} → (I → Option (List ℕ)) → (C → Option (List ℕ))
    → TreeErrorContext I C → Option (List ℕ)
told_text input_text context_text c = context_text c.context ++? at_text input_text c.input

abbrev pub frame_text : {I C : Type 0} → (I → Option (List ℕ)) → (C → Option (List ℕ))
    → TreeErrorFrame I C → Option (List ℕ)
frame_text input_text context_text (Kind b) = base_text input_text b
frame_text input_text context_text (Context c) = told_text input_text context_text c

-- an indent, two spaces deeper
abbrev pub deeper : List ℕ → List ℕ
deeper indent = indent ++ 32 ∷ 32 ∷ []

-- a frame's line, with its level
abbrev pub frame_line : {I C : Type 0} → (I → Option (List ℕ)) → (C → Option (List ℕ)) → List ℕ → ℕ
    → TreeErrorFrame I C → Option (List ℕ)
frame_line input_text context_text indent level f = Some (deeper indent) ++? Some (decimal level) ++? Some (codes ": ") ++? frame_text input_text context_text f ++? Some (10 ∷ [])

-- the lines of the frames from a level on
abbrev pub frames_text : {I C : Type 0} → (I → Option (List ℕ)) → (C → Option (List ℕ)) → List ℕ
    → ℕ → List (TreeErrorFrame I C) → Option (List ℕ)
frames_text input_text context_text indent level [] = Some []
frames_text input_text context_text indent level (f ∷ fs) = frame_line input_text context_text indent level f ++? frames_text input_text context_text indent (level + 1) fs

-- the texts of a list, one after the other
abbrev pub all_texts : {A : Type 0} → (A → Option (List ℕ)) → List A → Option (List ℕ)
all_texts text [] = Some []
all_texts text (x ∷ xs) = text x ++? all_texts text xs

-- the text of one layer, in which each inner error is replaced by its text at an indent
abbrev pub layer_text : {I C : Type 0} → (I → Option (List ℕ)) → (C → Option (List ℕ))
    → TreeError-F I C (List ℕ → Option (List ℕ)) → List ℕ → Option (List ℕ)
layer_text input_text context_text (Base b) indent = Some indent ++? base_text input_text b ++? Some (10 ∷ [])
layer_text input_text context_text (Stack b s) indent = b.value indent ++? frames_text input_text context_text indent 0 s.items
layer_text input_text context_text (Alt v) indent = Some (indent ++ codes "during one of:\n") ++? all_texts (λ text. text (deeper indent)) v.items

-- the lines of a tree, each after the indent
abbrev pub tree_text : {I C : Type 0} → (I → Option (List ℕ)) → (C → Option (List ℕ))
    → TreeError I C → List ℕ → Option (List ℕ)
tree_text {I} {C} input_text context_text = fold-TreeError I C (List ℕ → Option (List ℕ)) (layer_text input_text context_text)
