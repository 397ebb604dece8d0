-- The text of a context, and of an error that holds several.
use Rattle.std.specs.Prelude.{Bool, true, false, ℕ, List, [], ◌∷◌, ◌++◌, Option, Some, None, option_map, if◌then◌else◌, ◌==◌, codes, encode_utf8}
use Rattle.std.specs.Char.{is_ascii_control}
use Rattle.std.specs.List.{join_by}
use Rattle.std.specs.Option.{option_to_list}
use Rattle.winnow_kinds.specs.Escapes.{escape}
use Rattle.winnow_error_context.specs.Explanation.{Explanation}
use Rattle.winnow_error_context.specs.declared.str_context.StrContext.{StrContext}
use Rattle.winnow_error_context.specs.declared.str_context.StrContext.TheVariants.{Label, Expected}
use Rattle.winnow_error_context.specs.declared.str_context.StrContextValue.{StrContextValue}
use Rattle.winnow_error_context.specs.declared.str_context.StrContextValue.TheVariants.{CharLiteral, StringLiteral, Description}

-- the text of a character: a newline in words, a backtick between apostrophes, any other between
-- backticks, with control characters escaped
abbrev pub char_text : ℕ → List ℕ
char_text c = if c == 10 then codes "newline" else (if c == 96 then codes "'`'" else (if is_ascii_control c then codes "`" ++ escape c ++ codes "`" else codes "`" ++ encode_utf8 c ++ codes "`"))

-- the text of what was expected: a literal between backticks, a description as it is
abbrev pub value_text : StrContextValue → List ℕ
value_text (CharLiteral c) = char_text c
value_text (StringLiteral s) = codes "`" ++ s.now ++ codes "`"
value_text (Description s) = s.now

-- the text of one context
abbrev pub context_text : StrContext → List ℕ
context_text (Label s) = codes "invalid " ++ s.now
context_text (Expected v) = codes "expected " ++ value_text v

-- the first label, if there is one
abbrev pub first_label : List StrContext → Option (List ℕ)
first_label [] = None
first_label (Label s ∷ cs) = Some s.now
first_label (Expected v ∷ cs) = first_label cs

-- the values that were expected, in order
abbrev pub expected : List StrContext → List StrContextValue
expected [] = []
expected (Label s ∷ cs) = expected cs
expected (Expected v ∷ cs) = v ∷ expected cs

-- the list is not empty
abbrev pub is_any : {A : Type 0} → List A → Bool
is_any [] = false
is_any (x ∷ xs) = true

-- the text of the values, with a comma between each two
abbrev pub values_text : List StrContextValue → List ℕ
values_text vs = join_by value_text (codes ", ") vs

-- the line of the expected values, if there are any
abbrev pub expected_line : List StrContextValue → List (List ℕ)
expected_line [] = []
expected_line (v ∷ vs) = (codes "expected " ++ values_text (v ∷ vs)) ∷ []

-- the lines that there are, of these three: the first label, all expected values, the cause
abbrev pub explanation_lines : Option (List ℕ) → List StrContextValue → Option (List ℕ)
    → List (List ℕ)
explanation_lines label vs cause = option_to_list (option_map (λ l. codes "invalid " ++ l) label) ++ expected_line vs ++ option_to_list cause

-- the lines, with a newline between each two
abbrev pub explanation_text : Explanation StrContext → List ℕ
explanation_text e = join_by (λ line. line) (codes "\n") (explanation_lines (first_label e.contexts) (expected e.contexts) e.cause)
