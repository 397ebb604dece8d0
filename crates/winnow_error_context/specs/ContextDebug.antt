-- The debug text of a context, and of an error that holds several.
use Rattle.std.specs.Prelude.{ℕ, List, Option, Some, codes}
use Rattle.std.specs.Fmt.{◌++?◌, debug_char, debug_str, debug_variant, debug_list, debug_option}
use Rattle.winnow_error_context.specs.Explanation.{Explanation}
use Rattle.winnow_error_context.specs.declared.str_context.StrContext.{StrContext}
use Rattle.winnow_error_context.specs.declared.str_context.StrContext.TheVariants.{Label, Expected}
use Rattle.winnow_error_context.specs.declared.str_context.StrContextValue.{StrContextValue}
use Rattle.winnow_error_context.specs.declared.str_context.StrContextValue.TheVariants.{CharLiteral, StringLiteral, Description}

-- the debug text of what was expected
abbrev pub value_debug : StrContextValue → Option (List ℕ)
value_debug (CharLiteral c) = debug_variant (codes "CharLiteral") (debug_char c)
value_debug (StringLiteral s) = debug_variant (codes "StringLiteral") (debug_str s.now)
value_debug (Description s) = debug_variant (codes "Description") (debug_str s.now)

-- the debug text of one context
abbrev pub context_debug : StrContext → Option (List ℕ)
context_debug (Label s) = debug_variant (codes "Label") (debug_str s.now)
context_debug (Expected v) = debug_variant (codes "Expected") (value_debug v)

-- the debug text of the contexts and the cause, if that of each context is known
abbrev pub explanation_debug : {C : Type 0} → (C → Option (List ℕ)) → Explanation C
    → Option (List ℕ)
explanation_debug context e = Some (codes "ContextError { context: ") ++? debug_list context e.contexts ++? Some (codes ", cause: ") ++? debug_option debug_str e.cause ++? Some (codes " }")
