-- What a token of the lexer is in a formula, which its kind and its first byte in the source tell.
use Rattle.std.specs.Prelude.{ℕ, pos, ◌==◌, Bool, false, if◌then◌else◌, List, slice_get, Option, Some, None}
use Rattle.example_lexer.specs.declared.token.Kind.{Kind}
use Rattle.example_lexer.specs.declared.token.Kind.TheVariants.{Name, Number, Punctuation}
use Rattle.example_lexer.specs.declared.token.Token.{Token}
use Rattle.winnow_expression.specs.declared.operators.Infix.{Infix}
use Rattle.winnow_expression.specs.declared.operators.Infix.TheVariants.{Left}
use Rattle.example_two_stages.specs.declared.tree.Operator.{Operator}
use Rattle.example_two_stages.specs.declared.tree.Operator.TheVariants.{Plus, Minus, Times, Over}

-- the byte at a place, if a token of this kind is a sign: neither a name nor a number
abbrev pub sign_at : List ℕ → Kind → ℕ → Option ℕ
sign_at source Name place = None
sign_at source Number place = None
sign_at source Punctuation place = slice_get source place

-- the sign that a token is, if it is one
abbrev pub sign_of : List ℕ → Token → Option ℕ
sign_of source token = sign_at source token.kind token.span.start

-- the sign is this byte
abbrev pub is_byte : ℕ → Option ℕ → Bool
is_byte byte None = false
is_byte byte (Some sign) = byte == sign

-- the token is this sign
abbrev pub is_sign : List ℕ → ℕ → Token → Bool
is_sign source byte token = is_byte byte (sign_of source token)

-- the operator between two formulas that a sign is, with its binding power: 42 is a star, 43 a
-- plus, 45 a minus, 47 a slash
abbrev pub infix_by : Option ℕ → Option (Infix Operator)
infix_by None = None
infix_by (Some sign) = if 43 == sign then Some (Left (pos 1) Plus)
    else if 45 == sign then Some (Left (pos 1) Minus)
    else if 42 == sign then Some (Left (pos 2) Times)
    else if 47 == sign then Some (Left (pos 2) Over)
    else None

-- the operator between two formulas that a token is
abbrev pub infix_of : List ℕ → Token → Option (Infix Operator)
infix_of source token = infix_by (sign_of source token)
