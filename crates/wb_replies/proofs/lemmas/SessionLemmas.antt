-- What a reader's answers say of the place in its input.
use Rattle.std.proofs.Common.{◌≡◌, ℕ, ◌+◌, ◌-◌, ◌<◌, ◌≤◌, ◌^◌, Bool, true, false, List, [], ◌∷◌, ◌++◌, length, take, drop, refl, ap, sym, ◌∙◌, subst, inl, inr, arith, append_assoc}
use Rattle.std.specs.Prelude.{Option, Result, Ok, Err, OnOk, IfErr, IfSome, ◌⊎◌}
use Rattle.std.proofs.lemmas.List.{append-nil, map-append, length-take-le, length-drop, length-append, take-append-drop}
use Rattle.std.proofs.lemmas.Option.{same_Some}
use Rattle.std.specs.Io.KnownBytes.{Appends}
use Rattle.winnow_stream.proofs.lemmas.UnitLemmas.{units-same, units-take, le-from_is_offset}
use Rattle.winnow_parser.specs.Outcome.{Ahead, Fails, Backtracks, Cuts, Meaning, Moves}
use Rattle.winnow_parser.specs.Laws.{IsParser}
use Rattle.winnow_parser.specs.Taken.{IsFrontTaken}
use Rattle.std.specs.Borrow.{Bor}
use Rattle.wb_replies.specs.declared.failure.Failure.{Failure}
use Rattle.wb_replies.specs.declared.failure.Failure.TheVariants.{NoReply, EndsInside, Stopped}
use Rattle.winnow_reader.specs.Place.{bytes_at, IsByteSlice}
use Rattle.winnow_reader.specs.State.{ReaderState, taken_by, waiting_for, pushed, ended_after}
use Rattle.winnow_reader.specs.Reading.{MayFollow, HasRead, Lacks, ReadsAlso, ReadsThrough}
use Rattle.winnow_scan.specs.Scanning.{AwaitsMore}
use Rattle.winnow_scan.specs.Waiting.{ScansOn}
use Rattle.winnow_reader.specs.Answering.{StopsAt, FailsAt, IdlesAt}
use Rattle.winnow_reader.proofs.lemmas.PlaceLemmas.{moved-bytes}
use Rattle.format_resp.specs.declared.causes.Cause.{Cause}
use Rattle.format_resp.specs.declared.reply.Reply.{Reply}
use Rattle.wb_replies.specs.declared.placed.Placed.{Placed}
use Rattle.wb_replies.specs.declared.placed.PlacedReply.{PlacedReply}
use Rattle.wb_replies.specs.declared.positions.Position.{Position}
use Rattle.wb_replies.specs.Positions.{start, position_after, joined_with, IsPosition}
use Rattle.wb_replies.specs.Placing.{IsPlaced}
use Rattle.wb_replies.specs.Session.{FailsFor, StandsOn, ended_as, Follows, Continues, EndsAs, IsSteady, HasSameInput, StandsAt, OnAnswer, ReadsReplies, HasNoneLeft, FailsThere, replies_of}
use Rattle.wb_replies.specs.Layouts.{printed, printed_all}
use Rattle.wb_replies.specs.declared.layout.Layout.{Layout}
use Rattle.wb_base.specs.Excerpts.{IsExcerpt}
use Rattle.wb_base.specs.declared.excerpt.Excerpt.{Excerpt}
use Rattle.wb_replies.proofs.lemmas.PositionLemmas.{position_after-append, position_after-byte, joined-after, after-counted, start-counted}

-- the end of a reply is the place after the bytes that it took
pub placed-end : (place n : ℕ) (ahead : List ℕ) (new : ReaderState PlacedReply) (placed : Placed)
    (both : Reply × Bor (List ℕ)) → IsPlaced both placed
    → IsFrontTaken IsByteSlice both.1 (bytes_at place ahead) (bytes_at new.place new.ahead)
    → new.place ≡ place + n → placed.end ≡ position_after start (take n ahead)
placed-end place n ahead new placed both is (m, front) at =
    let same : place + m ≡ new.place = same_Some _ _ (ap (λ (a : Ahead ℕ). a.location) front.2) in
    let e : m ≡ n = omega (arith, same, at) in
    let slice = units-same both.1.now (take m ahead) (front.1 ∙ sym (units-take ahead m (le-from_is_offset ahead m front.0))) in
    is.1 ∙ ap (position_after start) (slice ∙ ap (λ k. take k ahead) e)

-- the end of a reply is counted
pub end-counted : (n : ℕ) (ahead : List ℕ) (end : Position)
    → end ≡ position_after start (take n ahead)
    → IsPosition end
end-counted n ahead end e = subst IsPosition (sym e) (after-counted start (take n ahead) start-counted)

-- the numbers of a place that is joined with the end of a reply fit
pub joined-fits : (f : ReaderState PlacedReply) (place end : Position) (n : ℕ) → IsSteady f place
    → n ≤ length f.ahead → end.byte ≡ n → place.byte + end.byte + 1 < 2 ^ 64
joined-fits f place end n s h e = omega (arith, s.same, s.fits, h, e)

-- as many bytes are taken as the end of the reply says
pub taken-byte : (n : ℕ) (ahead : List ℕ) (end : Position) → n ≤ length ahead
    → end ≡ position_after start (take n ahead) → end.byte ≡ n
taken-byte n ahead end h e =
    ap (λ (p : Position). p.byte) e ∙ position_after-byte start (take n ahead) ∙ omega (arith, length-take-le n ahead h)

-- after a reply, the reader stands where the place is joined with the end of the reply
pub stands-after : (input : List ℕ) (old : ReaderState PlacedReply) (place end : Position) (n : ℕ)
    → n ≤ length old.ahead → end ≡ position_after start (take n old.ahead)
    → StandsAt input old place
    → StandsAt input (taken_by old n) (joined_with place end)
stands-after input old place end n h e s =
    let taken = take n old.ahead in
    let split : old.ahead ≡ taken ++ drop n old.ahead = sym (take-append-drop n old.ahead) in
    let some : length taken ≡ n = length-take-le n old.ahead h in
    record {
      front = s.front ++ taken;
      whole = s.whole ∙ ap (λ t. s.front ++ t) split ∙ sym (append_assoc s.front taken (drop n old.ahead));
      count = omega (arith, s.count, some, length-append s.front taken);
      leads = ap (joined_with place) e ∙ joined-after place taken ∙ ap (λ p. position_after p taken) s.leads
          ∙ sym (position_after-append start s.front taken);
    }

-- after a reply, the place is still that of the reader
pub steady-after : (old new : ReaderState PlacedReply) (place end there : Position) (n : ℕ)
    → n ≤ length old.ahead → new ≡ taken_by old n → end.byte ≡ n → IsSteady old place
    → there ≡ joined_with place end → IsPosition there → IsSteady new there
steady-after old new place end there n h moved e s joined counted =
    let at : new.place ≡ old.place + n = ap (λ (f : ReaderState PlacedReply). f.place) moved in
    let left : length new.ahead ≡ length old.ahead - n =
    ap (λ (f : ReaderState PlacedReply). length f.ahead) moved ∙ length-drop n old.ahead in
    let byte : there.byte ≡ place.byte + end.byte = ap (λ (p : Position). p.byte) joined in
    record {
      counted = counted;
      same = omega (arith, byte, at, s.same, e);
      fits = omega (arith, s.fits, at, left, h);
    }

-- nothing may follow, where nothing does
may-end : (ended : Bool) → MayFollow ended [] false
may-end false = tt
may-end true = (refl, refl)

-- where a stream moved on, it stands in what was ahead
moved-ahead : (place there : ℕ) (ahead rest : List ℕ)
    → Moves (bytes_at place ahead) (bytes_at there rest)
    → (k : ℕ) × ((k ≤ length ahead) × (there ≡ place + k))
moved-ahead place there ahead rest m =
    let n : ℕ = length ahead - length rest in (
      n,
      (
        omega arith,
        same_Some _ _ (ap (λ (a : Ahead ℕ). a.location)
            (moved-bytes place ahead there rest n m refl)),
      ),
    )

module _ {R O : Type 0} (means : R → Meaning O ℕ) (lawful : (r : R) → IsParser (means r)) where
  -- where a parser stops, it is in what is ahead
  stops-ahead : (r : R) (place there : ℕ) (ahead rest : List ℕ)
      → StopsAt (means r) false (bytes_at place ahead) (bytes_at there rest)
      → (k : ℕ) × ((k ≤ length ahead) × (there ≡ place + k))
  stops-ahead r place there ahead rest (inl h) =
      moved-ahead place there ahead rest ((lawful r).onward false (bytes_at place ahead) (Fails (Backtracks (bytes_at there rest))) h)
  stops-ahead r place there ahead rest (inr h) =
      moved-ahead place there ahead rest ((lawful r).onward false (bytes_at place ahead) (Fails (Cuts (bytes_at there rest))) h)

  -- where a reader's parser fails, no matter what follows, is in what is ahead
  pub fails-ahead : (f : ReaderState R) (there : ℕ) → FailsAt means f there
      → (k : ℕ) × ((k ≤ length f.ahead) × (there ≡ f.place + k))
  fails-ahead f there h =
      let stops = h.1 [] false (may-end f.ended) in
      let here = subst (λ xs. StopsAt (means f.parser) false (bytes_at f.place xs) (bytes_at there (h.0 ++ []))) (append-nil f.ahead) stops in
      stops-ahead f.parser f.place there f.ahead (h.0 ++ []) here

module _ (means : PlacedReply
    → Meaning Placed ℕ) (law : (f : ReaderState PlacedReply) (there : ℕ) → FailsAt means f there
    → (k : ℕ) × ((k ≤ length f.ahead) × (there ≡ f.place + k))) where
  -- the place of a failure, or of a parser that takes nothing, is in what is ahead
  pub stuck-ahead : (f : ReaderState PlacedReply) (there : ℕ)
      → FailsAt means f there ⊎ IdlesAt means f there
      → (k : ℕ) × ((k ≤ length f.ahead) × (there ≡ f.place + k))
  stuck-ahead f there (inl h) = law f there h
  stuck-ahead f there (inr h) = (0, (omega arith, omega (arith, h.0)))

  -- the place that is told for a failure has its byte
  pub stuck-byte : (f : ReaderState PlacedReply) (place p : Position) (there : ℕ) → IsSteady f place
      → FailsAt means f there ⊎ IdlesAt means f there
      → p ≡ position_after place (take (there - f.place) f.ahead) → there ≡ p.byte
  stuck-byte f place p there s h e =
      let k = stuck-ahead f there h in
      let n : there - f.place ≡ k.0 = omega (arith, k.1.1) in
      let some : length (take (there - f.place) f.ahead) ≡ there - f.place =
      length-take-le (there - f.place) f.ahead (omega (arith, n, k.1.0)) in
      let byte : p.byte ≡ place.byte + length (take (there - f.place) f.ahead) =
      ap (λ (q : Position). q.byte) e ∙ position_after-byte place (take (there - f.place) f.ahead) in
      omega (arith, byte, some, n, k.1.1, s.same)

  -- what a reader that is stuck says of the failure that is told
  pub stuck-there : (old new : ReaderState PlacedReply) (place p : Position) (cause : Cause)
      (excerpt : Option Excerpt) (there : ℕ)
      → new ≡ old → IsSteady old place → FailsFor means old there cause ⊎ IdlesAt means old there
      → p ≡ position_after place (take (there - new.place) new.ahead)
      → IfSome excerpt
      (IsExcerpt (take (there - new.place) new.ahead) (drop (there - new.place) new.ahead))
      → FailsThere means new place (NoReply p cause excerpt)
  stuck-there old new place p cause excerpt there kept s h e shows =
      let stuck = subst (λ f. FailsFor means f there cause ⊎ IdlesAt means f there) (sym kept) h in
      let steady = subst (λ f. IsSteady f place) (sym kept) s in
      let byte = stuck-byte new place p there steady (elim stuck [ inl fails ↦ inl fails.0 | inr idles ↦ inr idles ]) e in (
        subst (λ n. FailsFor means new n cause ⊎ IdlesAt means new n) byte stuck,
        e ∙ ap
            (λ n. position_after place (take (n - new.place) new.ahead)) byte,
        subst (λ n. IfSome excerpt
            (IsExcerpt (take (n - new.place) new.ahead) (drop (n - new.place) new.ahead))) byte shows,
      )

-- nothing is both true and false
no-both : (b : Bool) → b ≡ true → b ≡ false → ⊥
no-both true e f = absurd (cc)
no-both false e f = absurd (cc)

-- a reader that waits has none left
pub waits-none : {S : Type 0} (means : PlacedReply → Meaning Placed ℕ)
    (scanned : PlacedReply → List ℕ → S → Type 0) (old new : ReaderState PlacedReply)
    → new ≡ waiting_for old new.wanted → old.ended ≡ false
    → ((input : List ℕ) (values : List Placed) → HasRead means old input values
    → Lacks means old ⊎ ScansOn means scanned old)
    → HasNoneLeft means old new
waits-none means scanned old new kept goes lacks =
    let open_still : new.ended ≡ false = ap (λ (f : ReaderState PlacedReply). f.ended) kept ∙ goes in (
      (λ e. absurd (no-both new.ended e open_still)),
      (λ _ input values h. elim (lacks input values h) [
        | inl k ↦ inl (subst (λ f. Lacks means f) (sym kept) k)
        | inr k ↦ inr (subst (λ (f : ReaderState PlacedReply). AwaitsMore (means f.parser) f.ahead) (sym kept) k.1.1)
      ]),
    )

-- what holds, holds unless a call failed
pub on-answer : (r : Result (Unit {0}) Failure) (P : Type 0) → P → OnAnswer r P
on-answer (Ok done) P h = h
on-answer (Err (NoReply place cause excerpt)) P h = h
on-answer (Err (EndsInside place excerpt)) P h = h
on-answer (Err (Stopped trouble)) P h = tt

-- a reader with the same input as another has that of a third
pub same-trans : (f g h : ReaderState PlacedReply) → HasSameInput f g → HasSameInput g h
    → HasSameInput f h
same-trans f g h p q = record { parser = q.parser ∙ p.parser; ended = q.ended ∙ p.ended; fed = q.fed ∙ p.fed }

-- one reply more, as the layout says
pub printed-next : (layout : Layout) (replies : List Reply) (reply : Reply)
    → printed_all layout (replies ++ reply ∷ [])
    ≡ printed_all layout replies ++ printed layout reply
printed-next layout [] reply = append-nil (printed layout reply)
printed-next layout (first ∷ replies) reply =
    ap (λ t. printed layout first ++ t) (printed-next layout replies reply)
    ∙ sym (append_assoc (printed layout first) (printed_all layout replies) (printed layout reply))

module _ (means : PlacedReply → Meaning Placed ℕ) where
  -- what is read after other replies is read after all of them
  pub reads-trans : (f g h : ReaderState PlacedReply) (xs ys : List Reply)
      → ReadsReplies means f xs g → ReadsReplies means g ys h → ReadsReplies means f (xs ++ ys) h
  reads-trans f g h xs ys p q input values r =
      let first = p input values r in
      let second = q input (values ++ first.0) first.1.0 in (
        first.0 ++ second.0,
        (
          subst (λ vs. HasRead means h input vs) (append_assoc values first.0 second.0) second.1.0,
          map-append (λ (placed : Placed). placed.reply) first.0 second.0
              ∙ ap (λ t. t ++ replies_of second.0) first.1.1 ∙ ap (λ t. xs ++ t) second.1.1,
        ),
      )

  -- a reader that read nothing more
  pub reads-none : (f g : ReaderState PlacedReply) → g ≡ f → ReadsReplies means f [] g
  reads-none f g e input values r = (
    [],
    (
      subst (λ vs. HasRead means g input vs) (sym (append-nil values)) (subst
          (λ x. HasRead means x input values) (sym e) r),
      refl,
    ),
  )

  -- a reader that has none left after other replies has none left after all of them
  pub none-trans : (f g h : ReaderState PlacedReply) (xs : List Reply)
      → ReadsReplies means f xs g → HasNoneLeft means g h → HasNoneLeft means f h
  none-trans f g h xs p n =
      (n.0, λ goes input values r. let first = p input values r in n.1 goes input (values ++ first.0) first.1.0)

  -- replies that are printed after others are printed after all of them
  pub printed-more : (layout : Layout) (f g h : ReaderState PlacedReply) (replies : List Reply)
      (reply : Reply) (base mid new : List ℕ)
      → ReadsReplies means f replies g → mid ≡ base ++ printed_all layout replies
      → ReadsReplies means g (reply ∷ []) h → new ≡ mid ++ printed layout reply
      → (all : List Reply) × (ReadsReplies means f all h × (new ≡ base ++ printed_all layout all))
  printed-more layout f g h replies reply base mid new p e q d = (
    replies ++ reply ∷ [],
    (
      reads-trans f g h replies (reply ∷ []) p q,
      d ∙ ap (λ t. t ++ printed layout reply) e
          ∙ append_assoc base (printed_all layout replies) (printed layout reply)
          ∙ ap (λ t. base ++ t) (sym (printed-next layout replies reply)),
    ),
  )

  -- replies that are printed before nothing more is read
  pub printed-still : (layout : Layout) (f g h : ReaderState PlacedReply) (replies : List Reply)
      (base new : List ℕ)
      → ReadsReplies means f replies g → new ≡ base ++ printed_all layout replies
      → ReadsReplies means g [] h
      → (all : List Reply) × (ReadsReplies means f all h × (new ≡ base ++ printed_all layout all))
  printed-still layout f g h replies base new p e q = (
    replies,
    (
      subst (λ all. ReadsReplies means f all h) (append-nil replies)
          (reads-trans f g h replies [] p q),
      e,
    ),
  )

-- what follows from what holds, holds unless a call failed
pub on-answer-map : (r : Result (Unit {0}) Failure) (P Q : Type 0) → (P → Q) → OnAnswer r P
    → OnAnswer r Q
on-answer-map (Ok done) P Q f h = f h
on-answer-map (Err (NoReply place cause excerpt)) P Q f h = f h
on-answer-map (Err (EndsInside place excerpt)) P Q f h = f h
on-answer-map (Err (Stopped trouble)) P Q f h = tt

-- what holds of an answer holds of it at the end
pub on-ended : (r : Result (Unit {0}) Failure) (place : Position) (excerpt : Option Excerpt)
    (P : Type 0) → OnAnswer r P → OnAnswer (ended_as r place excerpt) P
on-ended (Ok done) place excerpt P h = h
on-ended (Err (NoReply p cause line)) place excerpt P h = h
on-ended (Err (EndsInside p line)) place excerpt P h = h
on-ended (Err (Stopped trouble)) place excerpt P h = tt

module _ (means : PlacedReply → Meaning Placed ℕ) where
  -- a reader that is given a piece follows the input with that piece
  pub follows-pushed : (input piece : List ℕ) (replies : List Reply)
      (f g : ReaderState PlacedReply) (place : Position)
      → g ≡ pushed f piece → ReadsAlso means f piece g → Follows means input replies f place
      → Follows means (input ++ piece) replies g place
  follows-pushed input piece replies f g place e reads h =
      record {
        stands = record {
          front = h.stands.front;
          whole = ap (λ t. t ++ piece) h.stands.whole ∙ append_assoc h.stands.front f.ahead piece
              ∙ ap (λ (x : ReaderState PlacedReply). h.stands.front ++ x.ahead) (sym e);
          count = ap (λ (x : ReaderState PlacedReply). x.place) e ∙ h.stands.count;
          leads = h.stands.leads;
        };
        values = h.values;
        read = reads input h.values h.read;
        shows = h.shows;
      }

  -- a reader whose input ends follows the same input
  pub follows-ended : (input : List ℕ) (replies : List Reply) (f g : ReaderState PlacedReply)
      (place : Position)
      → g ≡ ended_after f → ReadsThrough means f g → Follows means input replies f place
      → Follows means input replies g place
  follows-ended input replies f g place e reads h =
      record {
        stands = record {
          front = h.stands.front;
          whole = h.stands.whole ∙ ap (λ (x : ReaderState PlacedReply). h.stands.front ++ x.ahead) (sym e);
          count = ap (λ (x : ReaderState PlacedReply). x.place) e ∙ h.stands.count;
          leads = h.stands.leads;
        };
        values = h.values;
        read = reads input h.values h.read;
        shows = h.shows;
      }

  -- a reader that reads on, continues
  pub continues : (layout : Layout) (input : List ℕ) (replies : List Reply)
      (f g : ReaderState PlacedReply) (place there : Position) (old new : Option (List ℕ))
      → Follows means input replies f place → StandsOn f place g there
      → ((more : List Reply)
      × (ReadsReplies means f more g × Appends old new (printed_all layout more)))
      → Continues means layout input replies g there old new
  continues layout input replies f g place there old new h stands (more, (reads, written)) =
      let read = reads input h.values h.read in
      record {
        more = more;
        follows = record {
          stands = stands input h.stands;
          values = h.values ++ read.0;
          read = read.1.0;
          shows = map-append (λ (placed : Placed). placed.reply) h.values read.0
              ∙ ap (λ t. t ++ replies_of read.0) h.shows ∙ ap (λ t. replies ++ t) read.1.1;
        };
        written = written;
      }

  -- how a reader stands at the end of the input
  pub ends-as : (r : Result (Unit {0}) Failure) (old f : ReaderState PlacedReply)
      (place : Position) (excerpt : Option Excerpt) → f.ended ≡ true
      → OnOk r (HasNoneLeft means old f) → IfErr r (FailsThere means f place)
      → IfSome excerpt (IsExcerpt [] f.ahead)
      → EndsAs means f place [] (ended_as r place excerpt)
  ends-as (Ok done) old f place excerpt e none failed shows = (refl, e, none.0 e)
  ends-as (Err (NoReply p cause line)) old f place excerpt e none failed shows =
      (refl, e, refl, shows)
  ends-as (Err (EndsInside p line)) old f place excerpt e none failed shows = absurd failed
  ends-as (Err (Stopped trouble)) old f place excerpt e none failed shows = tt
