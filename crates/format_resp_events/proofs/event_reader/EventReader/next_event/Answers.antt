use Rattle.std.proofs.Common.{◌<◌, length, [], ◌∷◌, ap, sym, ◌∙◌, subst, arith}
use Rattle.std.specs.Prelude.{Ok, Err}
use Rattle.std.proofs.lemmas.Bool.Decides.{nat_tests}
use Rattle.format_resp.specs.declared.reply.Reply.TheViews.{out-Reply}
use Rattle.format_resp_events.specs.OpenArrays.{lacks_of, IsDue, after_head}
use Rattle.format_resp_events.specs.Reading.{GivesOn, IsNext}
use Rattle.format_resp_events.specs.declared.event.ReplyEvent.TheVariants as event
use Rattle.winnow_reader.specs.declared.next.Next.TheVariants as next
use Rattle.format_resp_events.proofs.lemmas.TurnLemmas.{state_at, reader_at, gives-end, gives-whole, gives-array, next-failed, next-waits, head-whole, head-array, head-waits, head-failed}
use Rattle.format_resp_events.proofs.event_reader.EventReader.next_event.Goals as goal

pub returns-then-not-is_due-clause-read : goal.returns-then-not-is_due-clause-read
returns-then-not-is_due-clause-read c =
    let old = state_at c.self.inside.replies (lacks_of c.self.inside.open) c.self.inside.depth in
    let lacks = lacks_of c.end_array.new.self in
    subst (λ o. GivesOn o (event.EndArray ∷ []) (reader_at old old.replies lacks)) c.self.view_is
    (gives-end old lacks (sym c.is_due.ensures ∙ c.if-not-is_due.true) c.end_array.ensures)

pub returns-in-Ok-Whole-clause-read : goal.returns-in-Ok-Whole-clause-read
returns-in-Ok-Whole-clause-read c =
    let old = state_at c.self.inside.replies (lacks_of c.self.inside.open) c.self.inside.depth in
    let f = c.next_head.new.replies in
    let y = c.in-Ok-Whole.reply in
    let lacks = lacks_of c.take.new.open in
    let due : IsDue (lacks_of c.self.inside.open) = sym c.is_due.ensures ∙ c.if-not-is_due.false in
    let k = head-whole _ c.self.inside.replies f c.next_head.result y (c.in-Ok-Whole.is ∙ ap Ok c.in-Ok-Whole.field-0-is) c.next_head.ensures in
    let gives = gives-whole old f lacks k.0 y due k.1.0 k.1.1 (c.take.ensures.lacks ∙ ap (after_head (out-Reply y)) c.make_room.ensures.same) in
    subst (λ o. GivesOn o (c.take.result ∷ []) (reader_at old f lacks)) c.self.view_is
    (subst (λ e. GivesOn old (e ∷ []) (reader_at old f lacks)) (sym c.take.ensures.event) gives)

pub returns-in-Ok-Array-clause-read : goal.returns-in-Ok-Array-clause-read
returns-in-Ok-Array-clause-read c =
    let old = state_at c.self.inside.replies (lacks_of c.self.inside.open) c.self.inside.depth in
    let f = c.next_head.new.replies in
    let n = c.in-Ok-Array.count in
    let lacks = lacks_of c.begin.new.self in
    let due : IsDue (lacks_of c.self.inside.open) = sym c.is_due.ensures ∙ c.if-not-is_due.false in
    let k = head-array _ c.self.inside.replies f c.next_head.result n (c.in-Ok-Array.is ∙ ap Ok c.in-Ok-Array.field-0-is) c.next_head.ensures in
    let deep = k.0 in
    let count = c.len.ensures ∙ ap length c.make_room.ensures.same in
    let shallow : length (lacks_of c.self.inside.open) < c.self.inside.depth = grind (arith, nat_tests, deep, count) in
    subst (λ o. GivesOn o (event.StartArray n ∷ []) (reader_at old f lacks)) c.self.view_is
    (gives-array old f lacks k.1.0 n due k.1.1.0 k.1.1.1 shallow (c.begin.ensures ∙ ap (λ l. n ∷ l) c.make_room.ensures.same))

pub returns-in-Ok-NeedsMore-clause-answer : goal.returns-in-Ok-NeedsMore-clause-answer
returns-in-Ok-NeedsMore-clause-answer c =
    let old = state_at c.self.inside.replies (lacks_of c.self.inside.open) c.self.inside.depth in
    let f = c.next_head.new.replies in
    let lacks = lacks_of c.make_room.new.self in
    let due : IsDue (lacks_of c.self.inside.open) = sym c.is_due.ensures ∙ c.if-not-is_due.false in
    let h = head-waits _ c.self.inside.replies f c.next_head.result (c.in-Ok-NeedsMore.is ∙ ap Ok c.in-Ok-NeedsMore.field-0-is) c.next_head.ensures in
    subst (λ o. IsNext o (Ok next.NeedsMore) (reader_at old f lacks)) c.self.view_is
    (next-waits old f lacks due h.0 h.1 c.make_room.ensures.same)

pub returns-in-Err-next_head-clause-answer : goal.returns-in-Err-next_head-clause-answer
returns-in-Err-next_head-clause-answer c =
    let old = state_at c.self.inside.replies (lacks_of c.self.inside.open) c.self.inside.depth in
    let f = c.next_head.new.replies in
    let lacks = lacks_of c.make_room.new.self in
    let error = c.in-Err-next_head.error in
    let count = c.len.ensures ∙ ap length c.make_room.ensures.same in
    let h = head-failed _ c.self.inside.replies f c.next_head.result error c.in-Err-next_head.is c.next_head.ensures in
    subst (λ o. IsNext o (Err error) (reader_at old f lacks)) c.self.view_is
    (next-failed old f lacks _ error h c.make_room.ensures.same (λ is. grind (arith, nat_tests, is, count)))
