use Rattle.std.proofs.Common.{◌≡◌, ◌-◌, true, [], ◌∷◌, take, drop, refl, ap, sym, subst, inl, inr}
use Rattle.winnow_reader.specs.State.{ReaderState}
use Rattle.winnow_reader.specs.Answering.{FailsAt-by}
use Rattle.wb_replies.specs.declared.placed.PlacedReply.{PlacedReply}
use Rattle.format_resp.specs.Causes.{IsCauseOf}
use Rattle.format_resp.specs.Scan.{IsScanned}
use Rattle.wb_replies.specs.Positions.{joined_with}
use Rattle.wb_replies.specs.Session.{StandsAt}
use Rattle.wb_replies.specs.contracts.placed.PlacedReplyRecord.TheImpl.{ghosts}
use Rattle.wb_replies.proofs.lemmas.SessionLemmas.{placed-end, end-counted, taken-byte, joined-fits, stands-after, steady-after, stuck-there, waits-none}
use Rattle.wb_replies.proofs.lemmas.CauseLemmas.{fails-for}
use Rattle.wb_replies.proofs.session.next_reply.Goals as goal

pub joined_with-requires-clause-other_counted : goal.joined_with-requires-clause-other_counted
joined_with-requires-clause-other_counted c =
    let v = rw c.in-Ok-Value.field-0-is at c.in-Ok-Value.ensures.next in
    let old = c.args.reader.now in
    let at = ap (λ (f : ReaderState PlacedReply). f.place) v.1.3 in
    let end = placed-end old.place v.0 old.ahead c.read_next.new.self c.in-Ok-Value.placed v.1.2.0 v.1.2.1.0 v.1.2.1.1.1 at in
    rw c.in-Ok-Value.field-0-is (end-counted v.0 old.ahead c.in-Ok-Value.placed.end end)

pub joined_with-requires-clause-fits : goal.joined_with-requires-clause-fits
joined_with-requires-clause-fits c =
    let v = rw c.in-Ok-Value.field-0-is at c.in-Ok-Value.ensures.next in
    let old = c.args.reader.now in
    let at = ap (λ (f : ReaderState PlacedReply). f.place) v.1.3 in
    let end = placed-end old.place v.0 old.ahead c.read_next.new.self c.in-Ok-Value.placed v.1.2.0 v.1.2.1.0 v.1.2.1.1.1 at in
    rw c.in-Ok-Value.field-0-is (joined-fits old c.args.place.now c.in-Ok-Value.placed.end v.0 c.requires v.1.1 (taken-byte v.0 old.ahead c.in-Ok-Value.placed.end v.1.1 end))

pub returns-in-Ok-Value-clause-steady : goal.returns-in-Ok-Value-clause-steady
returns-in-Ok-Value-clause-steady c =
    let v = rw c.in-Ok-Value.field-0-is at c.in-Ok-Value.ensures.next in
    let old = c.args.reader.now in
    let at = ap (λ (f : ReaderState PlacedReply). f.place) v.1.3 in
    let end = placed-end old.place v.0 old.ahead c.read_next.new.self c.in-Ok-Value.placed v.1.2.0 v.1.2.1.0 v.1.2.1.1.1 at in
    let byte = taken-byte v.0 old.ahead c.in-Ok-Value.placed.end v.1.1 end in
    let joined : c.joined_with.result ≡ joined_with c.args.place.now c.in-Ok-Value.placed.end = rw c.in-Ok-Value.field-0-is at c.joined_with.ensures.joined in
    steady-after old c.read_next.new.self c.args.place.now c.in-Ok-Value.placed.end c.joined_with.result v.0 v.1.1 v.1.3 byte c.requires joined c.joined_with.ensures.counted

pub returns-in-Ok-Value-clause-stands : goal.returns-in-Ok-Value-clause-stands
returns-in-Ok-Value-clause-stands c = λ input s.
    let v = rw c.in-Ok-Value.field-0-is at c.in-Ok-Value.ensures.next in
    let old = c.args.reader.now in
    let at = ap (λ (f : ReaderState PlacedReply). f.place) v.1.3 in
    let end = placed-end old.place v.0 old.ahead c.read_next.new.self c.in-Ok-Value.placed v.1.2.0 v.1.2.1.0 v.1.2.1.1.1 at in
    let there = stands-after input old c.args.place.now c.in-Ok-Value.placed.end v.0 v.1.1 end s in
    let moved = subst (λ (f : ReaderState PlacedReply). StandsAt input f (joined_with c.args.place.now c.in-Ok-Value.placed.end)) (sym v.1.3) there in
    let joined : c.joined_with.result ≡ joined_with c.args.place.now c.in-Ok-Value.placed.end = rw c.in-Ok-Value.field-0-is at c.joined_with.ensures.joined in
    subst (λ p. StandsAt input c.read_next.new.self p) (sym joined) moved

pub returns-in-Ok-Value-clause-reads : goal.returns-in-Ok-Value-clause-reads
returns-in-Ok-Value-clause-reads c = λ input values h. (
  c.in-Ok-Value.placed ∷ [],
  ((rw c.in-Ok-Value.field-0-is at c.in-Ok-Value.ensures.read) input values h, rw c.in-Ok-Value.field-0-is refl),
)

pub returns-in-Ok-NeedsMore-clause-reads : goal.returns-in-Ok-NeedsMore-clause-reads
returns-in-Ok-NeedsMore-clause-reads c = λ input values h.
    ([], ((rw c.in-Ok-NeedsMore.field-0-is at c.in-Ok-NeedsMore.ensures.read) input values h, refl))

pub returns-in-Ok-NeedsMore-clause-none : goal.returns-in-Ok-NeedsMore-clause-none
returns-in-Ok-NeedsMore-clause-none c =
    let waits = rw c.in-Ok-NeedsMore.field-0-is at c.in-Ok-NeedsMore.ensures.next in
    waits-none _ (λ (r : PlacedReply). IsScanned r.limits.longest r.limits.depth) c.args.reader.now c.read_next.new.self waits.3 waits.0 waits.1

pub returns-in-Err-Failed-clause-failed : goal.returns-in-Err-Failed-clause-failed
returns-in-Err-Failed-clause-failed c =
    let by = (rw c.in-Err-Failed.field-0-is at c.in-Err-Failed.ensures.next).0 in
    let kept = c.in-Err-Failed.ensures.next.1 in
    let old = c.args.reader.now in
    let told = c.cause_ahead-cause.result in
    let there = c.in-Err-Failed.failed in
    let failed = FailsAt-by ghosts.means old _ there by in
    let is = subst (λ (f : ReaderState PlacedReply). IsCauseOf told (take (there - f.place) f.ahead) (drop (there - f.place) f.ahead)) kept c.cause_ahead-cause.ensures in
    stuck-there ghosts.means c.failure_law.ensures
    old c.read_next.new.self c.args.place.now c.place_ahead.result told c.excerpt_ahead-excerpt.result there
    kept c.requires (inl (failed, fails-for true old there told failed is)) c.place_ahead.ensures c.excerpt_ahead-excerpt.ensures

pub returns-in-Err-TakesNothing-clause-failed : goal.returns-in-Err-TakesNothing-clause-failed
returns-in-Err-TakesNothing-clause-failed c =
    let failed = (rw c.in-Err-TakesNothing.field-0-is at c.in-Err-TakesNothing.ensures.next).0 in
    let kept = c.in-Err-TakesNothing.ensures.next.1 in
    stuck-there ghosts.means c.failure_law.ensures
    c.args.reader.now c.read_next.new.self c.args.place.now c.place_ahead-in-Err-TakesNothing.result c.cause_ahead-cause-in-Err-TakesNothing.result c.excerpt_ahead-excerpt-in-Err-TakesNothing.result c.in-Err-TakesNothing.failed
    kept c.requires (inr failed) c.place_ahead-in-Err-TakesNothing.ensures c.excerpt_ahead-excerpt-in-Err-TakesNothing.ensures
