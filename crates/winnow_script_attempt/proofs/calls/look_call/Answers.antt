use Rattle.std.proofs.Common.{◌≡◌, ℕ, ◌+◌, Bool, false, nat_le, List, [], ◌∷◌, ◌++◌, Option, is_some, is_ok, refl, ap, ◌∙◌}
use Rattle.winnow_stream.specs.Span.{span}
use Rattle.winnow_script_run.specs.Script.{PlacedAnswer}
use Rattle.winnow_script_run.specs.declared.script.Answer.TheVariants.{Slice, Offset, At, Flag, First, Items}
use Rattle.winnow_script_run.specs.declared.search_steps.SearchAnswer.TheVariants as search_answered
use Rattle.winnow_script_attempt.specs.Looks.{under}
use Rattle.winnow_script_attempt.specs.declared.calls.Seen.{Seen}
use Rattle.winnow_script_attempt.specs.declared.told.Told.{Told}
use Rattle.winnow_script_attempt.proofs.calls.look_call.Goals as goal

-- what an arm of the code gives is what the look gives, if their parts are equal
seen-same : (s : Seen) (d e : Bool) (p q : ℕ)
    → s ≡ record { definite = d; place = p; marks = false } → d ≡ e → p ≡ q
    → s ≡ record { definite = e; place = q; marks = false }
seen-same s d e p q is definite place = rw (← definite, ← place) is

told-same : {T : Type 0} (new old : List (Told T)) (piece : Option ℕ) (a b : PlacedAnswer T)
    → new ≡ old ++ under piece (search_answered.Call a) ∷ [] → a ≡ b
    → new ≡ old ++ under piece (search_answered.Call b) ∷ []
told-same new old piece a b is same = rw (← same) is

pub returns-in-Next-clause-seen : goal.returns-in-Next-clause-seen
returns-in-Next-clause-seen g c = rw c.in-Next.is (seen-same _ _ _ _ _ c.show_token.ensures.seen refl (ap (λ n. c.args.here.place + n) c.width_of_first.ensures))

pub returns-in-Next-clause-items : goal.returns-in-Next-clause-items
returns-in-Next-clause-items g c = rw c.in-Next.is c.show_token.ensures.items

pub returns-in-Next-clause-grows : goal.returns-in-Next-clause-grows
returns-in-Next-clause-grows g c = c.show_token.ensures.grows

pub returns-in-Peek-clause-seen : goal.returns-in-Peek-clause-seen
returns-in-Peek-clause-seen g c = rw c.in-Peek.is c.show_token-in-Peek.ensures.seen

pub returns-in-Peek-clause-items : goal.returns-in-Peek-clause-items
returns-in-Peek-clause-items g c = rw c.in-Peek.is c.show_token-in-Peek.ensures.items

pub returns-in-Peek-clause-grows : goal.returns-in-Peek-clause-grows
returns-in-Peek-clause-grows g c = c.show_token-in-Peek.ensures.grows

pub returns-in-Take-clause-seen : goal.returns-in-Take-clause-seen
returns-in-Take-clause-seen g c = rw c.in-Take.is c.show_slice.ensures.seen

pub returns-in-Take-clause-items : goal.returns-in-Take-clause-items
returns-in-Take-clause-items g c = rw c.in-Take.is c.show_slice.ensures.items

pub returns-in-Take-clause-grows : goal.returns-in-Take-clause-grows
returns-in-Take-clause-grows g c = c.show_slice.ensures.grows

pub returns-in-Look-clause-seen : goal.returns-in-Look-clause-seen
returns-in-Look-clause-seen g c = rw c.in-Look.is c.show_slice-in-Look.ensures.seen

pub returns-in-Look-clause-items : goal.returns-in-Look-clause-items
returns-in-Look-clause-items g c = rw c.in-Look.is c.show_slice-in-Look.ensures.items

pub returns-in-Look-clause-grows : goal.returns-in-Look-clause-grows
returns-in-Look-clause-grows g c = c.show_slice-in-Look.ensures.grows

pub returns-in-Finish-clause-seen : goal.returns-in-Finish-clause-seen
returns-in-Finish-clause-seen g c = rw c.in-Finish.is (seen-same _ _ _ _ _ c.shown.ensures.seen refl (ap (λ n. c.args.here.place + n) c.eof_offset-left.ensures))

pub returns-in-Finish-clause-items : goal.returns-in-Finish-clause-items
returns-in-Finish-clause-items g c = rw c.in-Finish.is (told-same _ _ _ _ _ c.shown.ensures.items (ap (λ n. Slice (span c.args.here.place n)) c.eof_offset-left.ensures))

pub returns-in-Finish-clause-grows : goal.returns-in-Finish-clause-grows
returns-in-Finish-clause-grows g c = c.shown.ensures.grows

pub returns-in-PeekFinish-clause-seen : goal.returns-in-PeekFinish-clause-seen
returns-in-PeekFinish-clause-seen g c = rw c.in-PeekFinish.is (seen-same _ _ _ _ _ c.shown-in-PeekFinish.ensures.seen refl refl)

pub returns-in-PeekFinish-clause-items : goal.returns-in-PeekFinish-clause-items
returns-in-PeekFinish-clause-items g c = rw c.in-PeekFinish.is (told-same _ _ _ _ _ c.shown-in-PeekFinish.ensures.items (ap (λ n. Slice (span c.args.here.place n)) c.eof_offset-left.ensures))

pub returns-in-PeekFinish-clause-grows : goal.returns-in-PeekFinish-clause-grows
returns-in-PeekFinish-clause-grows g c = c.shown-in-PeekFinish.ensures.grows

pub returns-in-Eof-clause-seen : goal.returns-in-Eof-clause-seen
returns-in-Eof-clause-seen g c = rw c.in-Eof.is (seen-same _ _ _ _ _ c.shown-in-Eof.ensures.seen refl refl)

pub returns-in-Eof-clause-items : goal.returns-in-Eof-clause-items
returns-in-Eof-clause-items g c = rw c.in-Eof.is (told-same _ _ _ _ _ c.shown-in-Eof.ensures.items (ap Offset c.eof_offset-left.ensures))

pub returns-in-Eof-clause-grows : goal.returns-in-Eof-clause-grows
returns-in-Eof-clause-grows g c = c.shown-in-Eof.ensures.grows

pub returns-in-At-clause-seen : goal.returns-in-At-clause-seen
returns-in-At-clause-seen g c = rw c.in-At.is (seen-same _ _ _ _ _ c.shown-in-At.ensures.seen (c.is_ok-definite.ensures.value ∙ ap is_ok c.offset_from-found.ensures) refl)

pub returns-in-At-clause-items : goal.returns-in-At-clause-items
returns-in-At-clause-items g c = rw c.in-At.is (told-same _ _ _ _ _ c.shown-in-At.ensures.items (ap At c.offset_from-found.ensures))

pub returns-in-At-clause-grows : goal.returns-in-At-clause-grows
returns-in-At-clause-grows g c = c.shown-in-At.ensures.grows

pub returns-in-IsOffset-clause-seen : goal.returns-in-IsOffset-clause-seen
returns-in-IsOffset-clause-seen g c = rw c.in-IsOffset.is (seen-same _ _ _ _ _ c.shown-in-IsOffset.ensures.seen (ap (nat_le c.in-IsOffset.n) c.eof_offset-left.ensures) refl)

pub returns-in-IsOffset-clause-items : goal.returns-in-IsOffset-clause-items
returns-in-IsOffset-clause-items g c = rw c.in-IsOffset.is (told-same _ _ _ _ _ c.shown-in-IsOffset.ensures.items (ap Flag c.has_offset-is_valid.ensures.value))

pub returns-in-IsOffset-clause-grows : goal.returns-in-IsOffset-clause-grows
returns-in-IsOffset-clause-grows g c = c.shown-in-IsOffset.ensures.grows

pub returns-in-First-clause-seen : goal.returns-in-First-clause-seen
returns-in-First-clause-seen g c = rw c.in-First.is (seen-same _ _ _ _ _ c.shown-in-First.ensures.seen (c.is_some.ensures ∙ ap is_some c.first_from-found.ensures) refl)

pub returns-in-First-clause-items : goal.returns-in-First-clause-items
returns-in-First-clause-items g c = rw c.in-First.is (told-same _ _ _ _ _ c.shown-in-First.ensures.items (ap First c.first_from-found.ensures))

pub returns-in-First-clause-grows : goal.returns-in-First-clause-grows
returns-in-First-clause-grows g c = c.shown-in-First.ensures.grows

pub returns-in-Each-clause-seen : goal.returns-in-Each-clause-seen
returns-in-Each-clause-seen g c = rw c.in-Each.is (seen-same _ _ _ _ _ c.shown-in-Each.ensures.seen refl refl)

pub returns-in-Each-clause-items : goal.returns-in-Each-clause-items
returns-in-Each-clause-items g c = rw c.in-Each.is (told-same _ _ _ _ _ c.shown-in-Each.ensures.items (ap (λ n. Items (span c.args.here.place n)) c.eof_offset-left.ensures))

pub returns-in-Each-clause-grows : goal.returns-in-Each-clause-grows
returns-in-Each-clause-grows g c = c.shown-in-Each.ensures.grows
