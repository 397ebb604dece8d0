-- The tokens before a place, the last token first.
use Rattle.std.specs.Prelude.{List, reverse}
use Rattle.winnow_views.specs.declared.previous_tokens.PreviousTokens.{PreviousTokens}

-- the tokens that the iterator still gives, in its order
abbrev pub left_of : {T : Type 0} → PreviousTokens T → List T
left_of p = reverse p.taken.now
