-- An answer of which no more is said, with what is known of its value.
use Rattle.std.proofs.Common.{◌≡◌, ℕ, Bool, ◌++◌, ap, sym, ◌∙◌, subst, append-nil}
use Rattle.std.specs.Prelude.{Result, Ok, Err, IfOk}
use Rattle.winnow_grammar.specs.AnyAnswer.{AnyAnswer}
use Rattle.winnow_parser.specs.Answer.{outcome}
use Rattle.winnow_parser.specs.Outcome.{Ahead, Failed, Backtracks, Cuts, Needs, Refuses, Fails}
use Rattle.winnow_error.specs.declared.failure.Failure.{Failure}
use Rattle.winnow_parser.specs.Context.{InContext}
use Rattle.winnow_parser.specs.Meanings.{IsTerminated}
use Rattle.winnow_combinator.specs.Ending.{IsEof}
use Rattle.winnow_stream.specs.Source.{Source}
use Rattle.winnow_grammar.specs.Spelling.{Spelling, tokens_of, TakesFor}
use Rattle.winnow_grammar.specs.Spelt.{Spelt}
use Rattle.winnow_stream.specs.declared.needed.Needed.{Needed}

-- a failure is that of a parser of other values
pub fails-as : (O P : Type 0) {T : Type 0} (partial : Bool) (a : Ahead T) (f : Failed T)
    → AnyAnswer {O = O} partial a (Fails f) → AnyAnswer {O = P} partial a (Fails f)
fails-as O P partial a (Backtracks b) h = h
fails-as O P partial a (Cuts b) h = h
fails-as O P partial a (Needs n) h = h
fails-as O P partial a Refuses h = h

-- an answer is spelled, if its value is
pub spelt-by : {O E T : Type 0} (spells : Spelling O T) (partial : Bool) (a b : Ahead T)
    (result : Result O (Failure E Needed)) → AnyAnswer partial a (outcome result b)
    → IfOk result (λ x. TakesFor spells x a b) → Spelt spells partial a (outcome result b)
spelt-by spells partial a b (Ok x) h k = (h.0, k)
spelt-by spells partial a b (Err e) h k = h

-- all tokens spell a value after which nothing remains
pub all-spelled : {O S E T : Type 0} (spells : Spelling O T) (refusable : Type 0)
    (is_slice : S → Source T → ℕ → Type 0) (partial : Bool) (a b : Ahead T)
    (result : Result O (Failure E Needed))
    → IsTerminated (Spelt spells) (InContext refusable (IsEof is_slice)) partial a (outcome result b)
    → IfOk result (λ x. spells x (tokens_of a.tokens))
all-spelled spells refusable is_slice partial a b (Ok x) (both, (same, (c, ((moves, (taken, (whole, h))), ends)))) =
    let all : a.tokens ≡ taken = whole ∙ ap (λ r. taken ++ r) ends.0 ∙ append-nil taken in
    subst (λ r. spells x (tokens_of r)) (sym all) (subst (λ y. spells y (tokens_of taken)) same h)
all-spelled spells refusable is_slice partial a b (Err e) h = tt
