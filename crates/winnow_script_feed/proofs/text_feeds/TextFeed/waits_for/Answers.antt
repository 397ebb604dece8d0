use Rattle.std.proofs.lemmas.Result.{IfOk-from_err}
use Rattle.std.proofs.Common.{◌≡◌, ℕ, ◌<◌, List, length, ap, ◌∙◌, sym, arith, subst}
use Rattle.std.specs.Prelude.{option_map}
use Rattle.std.specs.String.{string_bytes}
use Rattle.std.proofs.lemmas.Bool.{false≢true}
use Rattle.std.proofs.lemmas.Str.{IsUtf8-from_is_utf8}
use Rattle.winnow_script_run.specs.declared.script.Step.TheVariants as call
use Rattle.winnow_script_run.specs.declared.search_steps.SearchStep.TheVariants as step
use Rattle.winnow_script_feed.specs.Inputs.{text_input, joined}
use Rattle.winnow_script_feed.specs.Feeding.{FeedState, Fits, script_of}
use Rattle.winnow_script_feed.specs.Waits.{MissesMore, IsMissing}
use Rattle.winnow_script_feed.proofs.lemmas.InputLemmas.{texts-input}
use Rattle.winnow_script_feed.proofs.lemmas.SpellingLemmas.{text-spelling}
use Rattle.winnow_script_feed.proofs.lemmas.WaitingLemmas.{on-err, next-exists, next-spelt, misses-more, is-missing, missing-input, to-end}
use Rattle.winnow_script_feed.proofs.text_feeds.TextFeed.waits_for.Goals as goal

pub returns-in_err-more-clause-refused : goal.returns-in_err-more-clause-refused
returns-in_err-more-clause-refused c =
    let old : FeedState = record { run = c.self.inside.run; kept = string_bytes c.self.inside.kept } in
    let left : length c.self.inside.run.told.items < length c.self.inside.run.script.now = omega (arith, c.if-self-len.false, c.len.ensures, c.self.inside.run.told.ok.0) in
    let n = next-exists c.self.inside.run left in
    let told = rw (c.new-kept.ensures.input, c.as_str.ensures.value) at c.in_err-more.ensures.refused in
    on-err c.from_residual.result ((pieces : List (List ℕ)) → Fits text_input c.args.self.now pieces → MissesMore text_input (script_of c.args.self.now) pieces)
    (λ pieces h.
    let before = rw (← c.self.view_is) at h in
    let some : 0 < length pieces = omega (arith, c.if-self-eq0.false, before.count) in
    rw (← c.self.view_is) (misses-more text_input texts-input text-spelling old pieces before some n.0 n.1 (told (text_input.source (joined pieces)) before.stands.stands n.0 n.1)))

pub unreachable-requires : goal.unreachable-requires
unreachable-requires c =
    let i = c.self.invariant in
    let old : FeedState = record { run = c.self.inside.run; kept = string_bytes c.self.inside.kept } in
    let n = next-spelt text_input c.self.inside.run c.len-2.result (step.Call call.Next) (omega (arith, c.len-2.ensures, c.self.inside.run.told.ok.0)) (omega (arith, c.if-self-len.false, c.len.ensures, c.len-2.ensures)) c.is_spelt.ensures in
    let told = rw (c.new-kept.ensures.input, c.as_str.ensures.value) at c.in_ok-more.ensures.told in
    let e = ap (option_map (λ v. v.items)) (sym c.in-Some.is) ∙ told (text_input.source i.input) i.stands.stands n.0 n.1 in
    let v = missing-input text_input texts-input text-spelling old i.input i.stands (i.rests (omega (arith, c.if-self-eq0.false))) n.0 n.1 c.in-Some.more.items n.2 e in
    false≢true (c.in-Err.ensures.succeeds (IsUtf8-from_is_utf8 c.in-Some.more.items v))

pub returns-in-Ok-clause-waits : goal.returns-in-Ok-clause-waits
returns-in-Ok-clause-waits c = λ pieces h.
    let old : FeedState = record { run = c.self.inside.run; kept = string_bytes c.self.inside.kept } in
    let n = next-spelt text_input c.self.inside.run c.len-2.result (step.Call call.Next) (omega (arith, c.len-2.ensures, c.self.inside.run.told.ok.0)) (omega (arith, c.if-self-len.false, c.len.ensures, c.len-2.ensures)) c.is_spelt.ensures in
    let told = rw (c.new-kept.ensures.input, c.as_str.ensures.value) at c.in_ok-more.ensures.told in
    let before = rw (← c.self.view_is) at h in
    let some : 0 < length pieces = omega (arith, c.if-self-eq0.false, before.count) in
    let e = ap (option_map (λ v. v.items)) (sym c.in-Some.is) ∙ told (text_input.source (joined pieces)) before.stands.stands n.0 n.1 in
    let same : string_bytes c.in-Ok.more ≡ c.in-Some.more.items = ap (λ v. v.items) c.in-Ok.ensures.ok in
    rw (← c.self.view_is) (some, subst (IsMissing text_input (script_of old) (joined pieces)) (sym same) (is-missing text_input texts-input text-spelling old pieces before some n.0 n.1 c.in-Some.more.items n.2 e))

pub returns-in-None-clause-waits : goal.returns-in-None-clause-waits
returns-in-None-clause-waits c = λ pieces h.
    let old : FeedState = record { run = c.self.inside.run; kept = string_bytes c.self.inside.kept } in
    let left : length c.self.inside.run.told.items < length c.self.inside.run.script.now = omega (arith, c.if-self-len.false, c.len.ensures, c.self.inside.run.told.ok.0) in
    let n = next-exists c.self.inside.run left in
    let told = rw (c.new-kept.ensures.input, c.as_str.ensures.value) at c.in_ok-more.ensures.told in
    let before = rw (← c.self.view_is) at h in
    let some : 0 < length pieces = omega (arith, c.if-self-eq0.false, before.count) in
    let e = ap (option_map (λ v. v.items)) (sym c.in-None.is) ∙ told (text_input.source (joined pieces)) before.stands.stands n.0 n.1 in
    rw (← c.self.view_is) (some, to-end text_input texts-input text-spelling old pieces before some n.0 n.1 e)

-- if memory is refused, there is no value and nothing to promise of it
pub returns-in_err-more-clause-waits : goal.returns-in_err-more-clause-waits
returns-in_err-more-clause-waits c = IfOk-from_err _ _ c.from_residual.ensures.0
