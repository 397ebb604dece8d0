-- Bytes with events are those that the events stand for.
use Rattle.std.proofs.Common.{◌≡◌, ℕ, zero, suc, ◌+◌, ◌-◌, List, [], ◌∷◌, ◌++◌, length, ap, sym, ◌∙◌, inl, inr}
use Rattle.std.specs.Prelude.{decimal}
use Rattle.std.proofs.lemmas.List.{append-nil}
use Rattle.std.proofs.lemmas.List.Concat.{flat_map-append}
use Rattle.format_resp.specs.Language.{line}
use Rattle.format_resp_events.specs.Events.{SpellsRow, SpellsScalar, SpellsEither, SpellsNothing, SpellsEvents, SpellsInside}
use Rattle.format_resp_events.specs.Reading.{AreBegun}
use Rattle.format_resp_events.specs.Written.{event_written, events_written}
use Rattle.format_resp_events.specs.declared.event.ReplyEvent.{ReplyEvent}
use Rattle.format_resp_events.specs.declared.event.ReplyEvent.TheVariants as event

-- a reply that is no array is what its event stands for
scalar-written : (longest : ℕ) (e : ReplyEvent) (bytes : List ℕ) → SpellsScalar longest e bytes
    → bytes ≡ event_written e
scalar-written longest (event.StartArray n) bytes h = absurd h
scalar-written longest event.EndArray bytes h = absurd h
scalar-written longest (event.Simple text) bytes h = h.1
scalar-written longest (event.Error text) bytes h = h.1
scalar-written longest (event.Integer n) bytes (text, (is, e)) = e ∙ ap (λ t. 58 ∷ line t) is.1
scalar-written longest (event.Bulk held) bytes (text, (is, e)) =
    e ∙ ap (λ t. 36 ∷ (line t ++ line held.items)) is.2
scalar-written longest event.NullBulk bytes h = h
scalar-written longest event.NullArray bytes h = h

-- the events of two lists in a row stand for the bytes of both
written-both : (xs ys : List ReplyEvent)
    → events_written (xs ++ ys) ≡ events_written xs ++ events_written ys
written-both xs ys = flat_map-append event_written xs ys

module _ (spells : List ℕ → List ReplyEvent → Type 0) (one : (bytes : List ℕ) (events : List ReplyEvent) → spells bytes events → bytes ≡ events_written events) where
  -- the events of replies in a row stand for the bytes of these replies
  row-written : (n : ℕ) (bytes : List ℕ) (events : List ReplyEvent)
      → SpellsRow spells n bytes events
      → bytes ≡ events_written events
  row-written zero bytes events (b, e) = b ∙ sym (ap events_written e)
  row-written (suc n) bytes events (head, (more, (first, (others, (b, e, s, row))))) =
      b ∙ ap (λ t. t ++ more) (one head first s) ∙ ap (λ t. events_written first ++ t) (row-written n more others row)
      ∙ sym (written-both first others) ∙ sym (ap events_written e)

  -- and those of a reply
  either-written : (longest : ℕ) (bytes : List ℕ) (events : List ReplyEvent)
      → SpellsEither longest spells bytes events → bytes ≡ events_written events
  either-written longest bytes events (inl (e, (s, told))) =
      scalar-written longest e bytes s ∙ sym (append-nil (event_written e)) ∙ sym (ap events_written told)
  either-written longest bytes events (inr a) =
      a.whole ∙ ap (λ t. 42 ∷ (line t ++ a.more)) a.number.2
      ∙ ap (λ t. 42 ∷ (line (decimal a.count) ++ t)) (row-written a.count a.more a.inside a.row)
      ∙ ap (λ t. 42 ∷ (line (decimal a.count) ++ t)) (sym (append-nil (events_written a.inside)))
      ∙ ap (λ t. 42 ∷ (line (decimal a.count) ++ t)) (sym (written-both a.inside (event.EndArray ∷ [])))
      ∙ sym (ap events_written a.told)

-- a reply within limits is what its events stand for
reply-written : (longest depth : ℕ) (bytes : List ℕ) (events : List ReplyEvent)
    → SpellsEvents longest depth bytes events → bytes ≡ events_written events
reply-written longest zero bytes events h =
    either-written SpellsNothing (λ bytes events h. absurd h) longest bytes events h
reply-written longest (suc depth) bytes events h =
    either-written (SpellsEvents longest depth) (reply-written longest depth) longest bytes events h

-- the events of a reply in an array stand for the bytes of the reply
inside-written : (longest depth : ℕ) (bytes : List ℕ) (events : List ReplyEvent)
    → SpellsInside longest depth bytes events → bytes ≡ events_written events
inside-written longest zero bytes events h = absurd h
inside-written longest (suc depth) bytes events h = reply-written longest depth bytes events h

-- and so are whole replies, and the beginnings of arrays after them
pub begun-written : (longest depth : ℕ) (lacks bytes : List ℕ) (events : List ReplyEvent)
    → AreBegun longest depth lacks bytes events → bytes ≡ events_written events
begun-written longest depth [] bytes events (n, row) =
    row-written (SpellsEvents longest depth) (reply-written longest depth) n bytes events row
begun-written longest depth (n ∷ lacks) bytes events (due, deep, b) =
    let head : events_written (event.StartArray (b.has + n) ∷ b.inside) ≡ 42 ∷ (line b.text ++ b.more) =
    ap (λ t. 42 ∷ (line t ++ events_written b.inside)) (sym b.number.2)
    ∙ ap (λ t. 42 ∷ (line b.text ++ t))
    (sym (row-written (SpellsInside longest (depth - length lacks)) (inside-written longest (depth - length lacks)) b.has b.more b.inside b.row)) in
    b.whole ∙ ap (λ t. t ++ 42 ∷ (line b.text ++ b.more)) (begun-written longest depth lacks b.outer b.given b.ahead)
    ∙ ap (λ t. events_written b.given ++ t) (sym head)
    ∙ sym (written-both b.given (event.StartArray (b.has + n) ∷ b.inside)) ∙ sym (ap events_written b.told)
