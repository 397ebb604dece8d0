-- The meaning of a part of which only its spelling is known.
use Rattle.std.specs.Prelude.{◌≡◌, Bool, List, ◌++◌}
use Rattle.std.proofs.Common.{ap, ◌∙◌, append_assoc}
use Rattle.winnow_stream.specs.Source.{Source, HasPositiveWidths}
use Rattle.winnow_parser.specs.Outcome.{Ahead, Backtracks, Cuts, Needs, Refuses, Outcome, Gives, Fails, Meaning, Moves}
use Rattle.winnow_parser.specs.Laws.{longer, IsStable, IsOnward, IsParser}
use Rattle.winnow_grammar.specs.AnyAnswer.{AnyAnswer, IsParser-AnyAnswer, AnyAnswer-of}
use Rattle.winnow_grammar.specs.Spelling.{Spelling, tokens_of, TakesFor, IsSpelled, IsWithin}

-- any answer, but the tokens that are taken for a value spell it
abbrev pub Spelt : {O T : Type 0} → Spelling O T → Meaning O T
Spelt spells partial a (Gives x b) = Moves a b × TakesFor spells x a b
Spelt {O} spells partial a (Fails f) = AnyAnswer {O = O} partial a (Fails f)

module _ {O T : Type 0} (spells : Spelling O T) where
  -- a settled answer stays when more input follows
  spelt-stable : IsStable (Spelt spells)
  spelt-stable more partial a (Gives x b) s (m, (taken, (whole, h))) = (
    (IsParser-AnyAnswer {O = O}).onward partial (longer more a) (Gives x (longer more b)) ((IsParser-AnyAnswer {O = O}).stable more partial a (Gives x b) tt (m, tt)),
    (taken, (ap (λ r. r ++ more) whole ∙ append_assoc taken b.tokens more, h)),
  )
  spelt-stable more partial a (Fails f) s h = (IsParser-AnyAnswer {O = O}).stable more partial a (Fails f) s h

  -- the stream only moves on
  spelt-onward : IsOnward (Spelt spells)
  spelt-onward partial a (Gives x b) h = h.0
  spelt-onward partial a (Fails f) h = (IsParser-AnyAnswer {O = O}).onward partial a (Fails f) h

  -- `Spelt` keeps the laws of a parser
  pub IsParser-Spelt : IsParser (Spelt spells)
  IsParser-Spelt = record { stable = spelt-stable; final = λ a n h. (IsParser-AnyAnswer {O = O}).final a n h; onward = spelt-onward }

  -- what it takes for a value spells it
  pub spelled-Spelt : IsSpelled spells (Spelt spells)
  spelled-Spelt partial a b x wide h = h.1

-- what a parser answers whose spelling is known is such an answer
pub Spelt-of : {O T : Type 0} (spells : Spelling O T) (means : Meaning O T) → IsParser means
    → IsSpelled spells means → (partial : Bool) (a : Ahead T) (v : Outcome O T)
    → HasPositiveWidths a.tokens → means partial a v → Spelt spells partial a v
Spelt-of spells means p s partial a (Gives x b) wide h = (p.onward partial a (Gives x b) h, s partial a b x wide h)
Spelt-of spells means p s partial a (Fails f) wide h = AnyAnswer-of means p partial a (Fails f) h

-- what is spelled by a relation is spelled by each weaker one
pub Spelt-on : {O T : Type 0} (spells others : Spelling O T) (partial : Bool) (a : Ahead T)
    (v : Outcome O T) → Spelt spells partial a v
    → IsWithin spells others → Spelt others partial a v
Spelt-on spells others partial a (Gives x b) (m, (taken, (whole, h))) on = (m, (taken, (whole, on x (tokens_of taken) h)))
Spelt-on spells others partial a (Fails f) h on = h
