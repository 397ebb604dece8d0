-- The replies that a reader has read are spelled by the bytes that it took.
use Rattle.std.proofs.Common.{◌≡◌, ℕ, ◌-◌, Bool, true, false, List, [], ◌∷◌, ◌++◌, take, drop, refl, ap, sym, ◌∙◌, subst, append_assoc}
use Rattle.std.specs.Prelude.{not, Option, None, Some, IfSome, Result, Ok, Err}
use Rattle.std.specs.Borrow.{Bor}
use Rattle.std.proofs.lemmas.List.{append-nil, append_cancel_right, take-append-drop}
use Rattle.winnow_stream.specs.Source.{HasPositiveWidths}
use Rattle.winnow_stream.specs.Units.{HasPositiveWidths-units}
use Rattle.winnow_stream.specs.SliceBytes.{SlicesHaveBytes}
use Rattle.winnow_parser.specs.Outcome.{Ahead, Meaning}
use Rattle.winnow_reader.specs.Place.{bytes_at, IsByteSlice}
use Rattle.winnow_reader.specs.State.{ReaderState}
use Rattle.winnow_reader.specs.Reading.{MayFollow, Reads, HasRead}
use Rattle.format_lemmas.specs.Bytes.{bytes_of}
use Rattle.format_lemmas.proofs.lemmas.ByteLemmas.{bytes-units, bytes-longer}
use Rattle.format_lemmas.proofs.lemmas.TokenLemmas.{itself}
use Rattle.format_resp.specs.Ahead.{IsAhead}
use Rattle.format_resp.specs.Meanings.{Nested}
use Rattle.format_resp.specs.Language.{SpellAll, Spells}
use Rattle.format_resp.proofs.lemmas.AheadLemmas.{ahead-join, ahead-wide}
use Rattle.format_resp.proofs.lemmas.ReplyLemmas.{yields-nested}
use Rattle.wb_base.specs.Excerpts.{IsExcerpt}
use Rattle.wb_base.specs.declared.excerpt.Excerpt.{Excerpt}
use Rattle.wb_replies.specs.declared.failure.Failure.{Failure}
use Rattle.wb_replies.specs.declared.failure.Failure.TheVariants.{NoReply, EndsInside, Stopped}
use Rattle.wb_replies.specs.declared.layout.Layout.{Layout}
use Rattle.wb_replies.specs.declared.placed.Placed.{Placed}
use Rattle.wb_replies.specs.declared.placed.PlacedReply.{PlacedReply}
use Rattle.wb_replies.specs.declared.positions.Position.{Position}
use Rattle.wb_replies.specs.Placing.{Placing}
use Rattle.wb_replies.specs.Positions.{start, position_after}
use Rattle.wb_replies.specs.Replies.{PrintsFront, PrintsInput}
use Rattle.wb_replies.specs.Session.{OnAnswer, StandsAt, Tells, replies_of}
use Rattle.wb_replies.proofs.lemmas.PositionLemmas.{position_after-append}

-- nothing may follow what a reader has ahead, and then all of it is there, or more may come
may-none : (ended : Bool) → MayFollow ended [] (not ended)
may-none false = tt
may-none true = (refl, refl)

-- slices of bytes have their own bytes
have-bytes : SlicesHaveBytes IsByteSlice (λ (slice : Bor (List ℕ)). slice.now)
have-bytes s r n o h = h

-- an excerpt is also one of more bytes on both sides
excerpt-wider : (front begun after more : List ℕ) (e : Option Excerpt)
    → IfSome e (IsExcerpt begun after) → IfSome e (IsExcerpt (front ++ begun) (after ++ more))
excerpt-wider front begun after more None h = tt
excerpt-wider front begun after more (Some e) h = record {
  start = front ++ h.start;
  more = h.more ++ more;
  ahead = ap (λ t. front ++ t) h.ahead ∙ sym (append_assoc front h.start e.before.items);
  after = ap (λ t. t ++ more) h.after ∙ append_assoc e.after.items h.more more;
  line_ahead = h.line_ahead;
  line_after = h.line_after;
}

-- what a reader took of an input is what stands before the bytes ahead
front-of : (input front : List ℕ) (f : ReaderState PlacedReply) (place : Position)
    → StandsAt input f place → input ≡ front ++ f.ahead → place ≡ position_after start front
front-of input front f place s e =
    s.leads ∙ ap (position_after start) (append_cancel_right s.front front f.ahead (sym s.whole ∙ e))

module _ (counts_shortage : Bool) where
  -- the parser of a reply with its place, over the bytes that a reader has ahead
  abbrev Replying : PlacedReply → Meaning Placed ℕ
  Replying r = Placing (Nested itself counts_shortage IsByteSlice (λ (slice : Bor (List ℕ)). slice.now) r.limits.longest r.limits.depth)

  -- replies that the parser gives one after the other are spelled by the bytes that they take
  reads-spelled : (r : PlacedReply) (partial : Bool) (values : List Placed) (a b : Ahead ℕ)
      → HasPositiveWidths a.tokens → Reads (Replying r) partial a values b
      → (bytes : List ℕ) × (IsAhead a.tokens bytes b.tokens
      × SpellAll (Spells r.limits.longest r.limits.depth) (replies_of values) bytes)
  reads-spelled r partial [] a b wide h =
      ([], (([], (ap (λ (s : Ahead ℕ). s.tokens) h, refl)), refl))
  reads-spelled r partial (placed ∷ values) a b wide h =
      let c = h.0 in
      let both = h.1.0.0 in
      let k = yields-nested counts_shortage IsByteSlice (λ (slice : Bor (List ℕ)). slice.now) have-bytes r.limits.longest r.limits.depth partial a c both.0 wide h.1.0.1.1.0 in
      let l = reads-spelled r partial values c b (ahead-wide k.0 a.tokens c.tokens k.1.0 wide) h.1.2 in
      let one = subst (λ reply. Spells r.limits.longest r.limits.depth reply k.0) (sym h.1.0.1.0.0) k.1.1 in
      (k.0 ++ l.0, (ahead-join k.0 l.0 a.tokens c.tokens b.tokens k.1.0 l.1.0, (k.0, (l.0, (refl, one, l.1.1)))))

  -- the replies that a reader has read are spelled by what stands before the bytes ahead
  has-spelled : (f : ReaderState PlacedReply) (input : List ℕ) (values : List Placed)
      → HasRead Replying f input values
      → (front : List ℕ) × ((input ≡ front ++ f.ahead)
      × SpellAll (Spells f.parser.limits.longest f.parser.limits.depth) (replies_of values) front)
  has-spelled f input values h =
      let partial = not f.ended in
      let reads = h.reads [] partial (may-none f.ended) in
      let here = subst (λ xs. Reads (Replying f.parser) partial (bytes_at 0 xs) values (bytes_at f.place (f.ahead ++ []))) (append-nil input) reads in
      let there = subst (λ xs. Reads (Replying f.parser) partial (bytes_at 0 input) values (bytes_at f.place xs)) (append-nil f.ahead) here in
      let k = reads-spelled f.parser partial values (bytes_at 0 input) (bytes_at f.place f.ahead) (HasPositiveWidths-units input) there in
      (k.0, (sym (bytes-units input) ∙ ap bytes_of k.1.0.1.0 ∙ bytes-longer k.1.0.0 f.ahead ∙ ap (λ t. t ++ f.ahead) k.1.0.1.1, k.1.1))

  module _ (layout : Layout) (parser : PlacedReply) (whole before : List ℕ)
      (new : Option (List ℕ)) where
    -- what the program tells of an input, the rest of which is what the reader has ahead and what
    -- it did not read
    prints-front : (r : Result (Unit {0}) Failure) (rest : List ℕ)
        (t : Tells Replying layout parser whole before new r) → t.reader.ahead ++ t.rest ≡ rest
        → (prints : PrintsFront layout parser.limits whole before rest new)
        × ((t.place ≡ position_after start prints.front))
    prints-front r rest t e =
        let k = has-spelled t.reader t.input t.follows.values t.follows.read in
        let spells = subst (λ (p : PlacedReply). SpellAll (Spells p.limits.longest p.limits.depth) (replies_of t.follows.values) k.0) t.same k.1.1 in (
          record {
            replies = t.replies;
            front = k.0;
            splits = t.splits ∙ ap (λ x. x ++ t.rest) k.1.0 ∙ append_assoc k.0 t.reader.ahead t.rest ∙ ap (λ x. k.0 ++ x) e;
            spells = subst (λ replies. SpellAll (Spells parser.limits.longest parser.limits.depth) replies k.0) t.follows.shows spells;
            printed = t.written;
          },
          front-of t.input k.0 t.reader t.place t.follows.stands k.1.0,
        )

    -- what the program tells of an input, it printed of it
    pub prints-input : (r : Result (Unit {0}) Failure)
        → OnAnswer r (Tells Replying layout parser whole before new r)
        → PrintsInput layout parser.limits whole before new r
    prints-input (Ok done) t =
        (prints-front (Ok done) [] t (ap (λ x. x ++ t.rest) t.ends.2 ∙ t.ends.0)).0
    prints-input (Err (NoReply place cause excerpt)) t =
        let rest = t.reader.ahead ++ t.rest in
        let k = prints-front (Err (NoReply place cause excerpt)) rest t refl in
        let width = place.byte - t.reader.place in
        let begun = take width t.reader.ahead in
        let after = drop width t.reader.ahead in (
          rest,
          (
            k.0,
            record {
              begun = begun;
              after = after ++ t.rest;
              splits = ap (λ x. x ++ t.rest) (sym (take-append-drop width t.reader.ahead)) ∙ append_assoc begun after t.rest;
              leads = t.ends.1 ∙ ap (λ p. position_after p begun) k.1 ∙ sym (position_after-append start k.0.front begun);
              shows = excerpt-wider k.0.front begun after t.rest excerpt t.ends.2;
            },
          ),
        )
    prints-input (Err (EndsInside place excerpt)) t =
        let rest = t.reader.ahead ++ t.rest in
        let k = prints-front (Err (EndsInside place excerpt)) rest t refl in
        (rest, (k.0, t.ends.2 ∙ k.1))
    prints-input (Err (Stopped trouble)) t = tt
