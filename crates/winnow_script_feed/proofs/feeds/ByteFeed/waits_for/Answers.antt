use Rattle.std.proofs.lemmas.Result.{IfOk-from_err}
use Rattle.std.proofs.Common.{ℕ, ◌<◌, List, length, ap, ◌∙◌, sym, arith}
use Rattle.std.specs.Prelude.{option_map}
use Rattle.winnow_script_feed.specs.Inputs.{byte_input, joined}
use Rattle.winnow_script_feed.specs.Feeding.{FeedState, Fits, script_of}
use Rattle.winnow_script_feed.specs.Waits.{MissesMore}
use Rattle.winnow_script_feed.proofs.lemmas.InputLemmas.{bytes-input}
use Rattle.winnow_script_feed.proofs.lemmas.SpellingLemmas.{bytes-spelling}
use Rattle.winnow_script_feed.proofs.lemmas.WaitingLemmas.{on-err, next-exists, misses-more, is-missing, to-end, bytes-spelt}
use Rattle.winnow_script_feed.proofs.feeds.ByteFeed.waits_for.Goals as goal

pub returns-in_err-more-clause-refused : goal.returns-in_err-more-clause-refused
returns-in_err-more-clause-refused c =
    let old : FeedState = record { run = c.self.inside.run; kept = c.self.inside.kept.items } in
    let left : length c.self.inside.run.told.items < length c.self.inside.run.script.now = omega (arith, c.if-self-len.false, c.len.ensures, c.self.inside.run.told.ok.0) in
    let n = next-exists c.self.inside.run left in
    let told = rw (c.new-kept.ensures.input, c.as_slice.ensures.value) at c.in_err-more.ensures.refused in
    on-err c.from_residual.result ((pieces : List (List ℕ)) → Fits byte_input c.args.self.now pieces → MissesMore byte_input (script_of c.args.self.now) pieces)
    (λ pieces h.
    let before = rw (← c.self.view_is) at h in
    let some : 0 < length pieces = omega (arith, c.if-self-eq0.false, before.count) in
    rw (← c.self.view_is) (misses-more byte_input bytes-input bytes-spelling old pieces before some n.0 n.1 (told (byte_input.source (joined pieces)) before.stands.stands n.0 n.1)))

pub returns-in-Some-clause-waits : goal.returns-in-Some-clause-waits
returns-in-Some-clause-waits c = λ pieces h.
    let old : FeedState = record { run = c.self.inside.run; kept = c.self.inside.kept.items } in
    let left : length c.self.inside.run.told.items < length c.self.inside.run.script.now = omega (arith, c.if-self-len.false, c.len.ensures, c.self.inside.run.told.ok.0) in
    let n = next-exists c.self.inside.run left in
    let told = rw (c.new-kept.ensures.input, c.as_slice.ensures.value) at c.in_ok-more.ensures.told in
    let before = rw (← c.self.view_is) at h in
    let some : 0 < length pieces = omega (arith, c.if-self-eq0.false, before.count) in
    let e = ap (option_map (λ v. v.items)) (sym c.in-Some.is) ∙ told (byte_input.source (joined pieces)) before.stands.stands n.0 n.1 in
    rw (← c.self.view_is) (some, is-missing byte_input bytes-input bytes-spelling old pieces before some n.0 n.1 c.in-Some.more.items (bytes-spelt n.0) e)

pub returns-in-None-clause-waits : goal.returns-in-None-clause-waits
returns-in-None-clause-waits c = λ pieces h.
    let old : FeedState = record { run = c.self.inside.run; kept = c.self.inside.kept.items } in
    let left : length c.self.inside.run.told.items < length c.self.inside.run.script.now = omega (arith, c.if-self-len.false, c.len.ensures, c.self.inside.run.told.ok.0) in
    let n = next-exists c.self.inside.run left in
    let told = rw (c.new-kept.ensures.input, c.as_slice.ensures.value) at c.in_ok-more.ensures.told in
    let before = rw (← c.self.view_is) at h in
    let some : 0 < length pieces = omega (arith, c.if-self-eq0.false, before.count) in
    let e = ap (option_map (λ v. v.items)) (sym c.in-None.is) ∙ told (byte_input.source (joined pieces)) before.stands.stands n.0 n.1 in
    rw (← c.self.view_is) (some, to-end byte_input bytes-input bytes-spelling old pieces before some n.0 n.1 e)

-- if memory is refused, there is no value and nothing to promise of it
pub returns-in_err-more-clause-waits : goal.returns-in_err-more-clause-waits
returns-in_err-more-clause-waits c = IfOk-from_err _ _ c.from_residual.ensures.0
