use Rattle.std.proofs.Common.{◌∷◌, ap, sym, ◌∙◌, subst, refl}
use Rattle.winnow_reader.specs.Skips.{skipped}
use Rattle.format_resp.specs.Language.{line}
use Rattle.format_resp_events.specs.Heads.{BeginsArray, Passes, BreaksWithin}
use Rattle.format_resp_events.proofs.lemmas.HeadLemmas.{breaks-deeper, breaks-begins, passes-line}
use Rattle.format_resp_events.proofs.heads.array_or_damage.Goals as goal

pub returns-in_default : goal.returns-in_default
returns-in_default c =
    let f = c.args.replies.now in
    let cause = c.cause_at-cause.result in
    let here = subst (λ d. BreaksWithin d f c.args.place cause) c.requires.flat c.cause_at-cause.ensures in
    (refl, λ depth only. breaks-deeper f c.args.place depth cause (λ e. c.in_default.not-TooDeep e) here)

pub array_head-head-requires : goal.array_head-head-requires
array_head-head-requires c =
    let f = c.args.replies.now in
    let place = c.args.place in
    let here = subst (λ d. BreaksWithin d f place c.cause_at-cause.result) c.requires.flat c.cause_at-cause.ensures in
    let deep = subst (λ k. BreaksWithin 0 f place k) c.in-TooDeep.is here in
    subst BeginsArray (sym c.ahead.ensures) (breaks-begins f place deep)

pub returns : goal.returns
returns c =
    let f = c.args.replies.now in
    let b = c.array_head-head.ensures in
    let skips = c.skip.ensures.state ∙ ap (skipped f) c.skip.ensures.count in
    let passes = passes-line f b.0 b.1.0 c.array_head-head.result.width (sym c.ahead.ensures ∙ b.1.1.1) b.1.1.2 in
    (c.if-deep.false, (b.0, (subst (λ g. Passes f (42 ∷ line b.0) g) (sym skips) passes, b.1.1.0)))
