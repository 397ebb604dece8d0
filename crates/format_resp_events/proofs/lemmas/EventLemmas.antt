-- Bytes with events: one reply more, an array that begins, and one that ends.
use Rattle.std.proofs.Common.{◌≡◌, ℕ, zero, suc, ◌+◌, ◌-◌, ◌<◌, true, false, List, [], ◌∷◌, ◌++◌, length, Some, refl, ap, sym, ◌∙◌, subst, inl, inr, arith, append_assoc}
use Rattle.std.proofs.lemmas.Bool.Decides.{nat_tests}
use Rattle.std.proofs.lemmas.List.{append-nil}
use Rattle.format_resp.specs.Language.{line, IsLength, greatest_count, SpellAll, SpellsNone, SpellsLayer}
use Rattle.format_resp.specs.declared.reply.Reply.{Reply}
use Rattle.format_resp.specs.declared.reply.Reply.TheOpen.{Reply-F, Simple, Error, Integer, Bulk, NullBulk, Array, NullArray}
use Rattle.format_resp_events.specs.Events.{SpellsRow, SpellsScalar, SpellsEither, SpellsEvents, SpellsInside, first_event}
use Rattle.format_resp_events.specs.OpenArrays.{is_due, IsDue, after_reply, after_head}
use Rattle.format_resp_events.specs.Reading.{AreBegun}
use Rattle.format_resp_events.specs.declared.event.ReplyEvent.{ReplyEvent}
use Rattle.format_resp_events.specs.declared.event.ReplyEvent.TheVariants as event

-- ---- Rows

module _ (spells : List ℕ → List ReplyEvent → Type 0) where
  -- one reply more at the end of a row
  pub row-more : (n : ℕ) (bytes one : List ℕ) (events first : List ReplyEvent)
      → SpellsRow spells n bytes events → spells one first
      → SpellsRow spells (suc n) (bytes ++ one) (events ++ first)
  row-more zero bytes one events first (b, e) h = (
    one,
    (
      [],
      (
        first,
        (
          [],
          (
            ap (λ t. t ++ one) b ∙ sym (append-nil one),
            ap (λ t. t ++ first) e ∙ sym (append-nil first),
            h,
            (refl, refl),
          ),
        ),
      ),
    ),
  )
  row-more (suc n) bytes one events first (head, (more, (f, (others, (b, e, s, row))))) h = (
    head,
    (
      more ++ one,
      (
        f,
        (
          others ++ first,
          (
            ap (λ t. t ++ one) b ∙ append_assoc head more one,
            ap (λ t. t ++ first) e ∙ append_assoc f others first,
            s,
            row-more n more one others first row h,
          ),
        ),
      ),
    ),
  )

-- ---- Depths

-- what spells a reply over those that an array may hold at a depth spells one at that depth
pub either-at : (longest depth : ℕ) (bytes : List ℕ) (events : List ReplyEvent)
    → SpellsEither longest (SpellsInside longest depth) bytes events
    → SpellsEvents longest depth bytes events
either-at longest zero bytes events h = h
either-at longest (suc depth) bytes events h = h

-- and the other way round
pub at-either : (longest depth : ℕ) (bytes : List ℕ) (events : List ReplyEvent)
    → SpellsEvents longest depth bytes events
    → SpellsEither longest (SpellsInside longest depth) bytes events
at-either longest zero bytes events h = h
at-either longest (suc depth) bytes events h = h

-- a reply that is no array is one at each depth
scalar-at : (longest depth : ℕ) (e : ReplyEvent) (bytes : List ℕ) → SpellsScalar longest e bytes
    → SpellsEvents longest depth bytes (e ∷ [])
scalar-at longest depth e bytes h = either-at longest depth bytes (e ∷ []) (inl (e, (h, refl)))

-- in an array that may have replies stand those of one depth less
inside-at : (longest m k : ℕ) (bytes : List ℕ) (events : List ReplyEvent) → m ≡ suc k
    → SpellsEvents longest k bytes events → SpellsInside longest m bytes events
inside-at longest m k bytes events e h =
    subst (λ d. SpellsInside longest d bytes events) (sym e) h

-- ---- What has begun

-- an array that lacks replies lacks some
pub due-some : (n : ℕ) (lacks : List ℕ) → IsDue (n ∷ lacks) → 0 < n
due-some n lacks h = grind (arith, nat_tests, h)

-- if none is due, an array is open that lacks none
pub not-due : (lacks : List ℕ) → is_due lacks ≡ false → (outer : List ℕ) × (lacks ≡ 0 ∷ outer)
not-due [] h = let f : true ≡ false = h in cc f
not-due (n ∷ lacks) h = let e : n ≡ 0 = grind (arith, nat_tests, h) in (lacks, ap (λ m. m ∷ lacks) e)

-- three parts, of which the last two are joined
join-last : {A : Type 0} (outer : List A) (x : A) (text more one : List A)
    → (outer ++ x ∷ (text ++ more)) ++ one ≡ outer ++ x ∷ (text ++ (more ++ one))
join-last outer x text more one =
    append_assoc outer (x ∷ (text ++ more)) one
    ∙ ap (λ t. outer ++ x ∷ t) (append_assoc text more one)

module _ (longest depth : ℕ) where
  -- a whole reply more, where one is due
  pub begun-reply : (lacks : List ℕ) (bytes one : List ℕ) (events first : List ReplyEvent)
      → IsDue lacks → AreBegun longest depth lacks bytes events
      → SpellsEvents longest (depth - length lacks) one first
      → AreBegun longest depth (after_reply lacks) (bytes ++ one) (events ++ first)
  begun-reply [] bytes one events first due (n, row) h =
      let level : depth - 0 ≡ depth = omega arith in
      (suc n, row-more (SpellsEvents longest depth) n bytes one events first row (subst (λ d. SpellsEvents longest d one first) level h))
  begun-reply (n ∷ lacks) bytes one events first due (outer, deep, b) h =
      let some = due-some n lacks due in
      let level : depth - length lacks ≡ suc (depth - length (n ∷ lacks)) = omega (arith, deep some) in
      let inside = inside-at longest (depth - length lacks) (depth - length (n ∷ lacks)) one first level h in
      let count : b.has + n ≡ suc b.has + (n - 1) = omega (arith, some) in (
        outer,
        (λ more. deep some),
        record {
          outer = b.outer;
          given = b.given;
          ahead = b.ahead;
          has = suc b.has;
          text = b.text;
          number = subst (λ k. IsLength greatest_count b.text (Some k)) count b.number;
          more = b.more ++ one;
          inside = b.inside ++ first;
          row = row-more (SpellsInside longest (depth - length lacks)) b.has b.more one b.inside first b.row inside;
          whole = ap (λ t. t ++ one) b.whole ∙ join-last b.outer 42 (line b.text) b.more one;
          told = ap (λ t. t ++ first) b.told
              ∙ append_assoc b.given (event.StartArray (b.has + n) ∷ b.inside) first
              ∙ ap (λ k. b.given ++ event.StartArray k ∷ (b.inside ++ first)) count;
        },
      )

  -- an array begins, where a reply is due
  pub begun-array : (lacks : List ℕ) (bytes text : List ℕ) (events : List ReplyEvent) (n : ℕ)
      → IsDue lacks → AreBegun longest depth lacks bytes events
      → IsLength greatest_count text (Some n) → (0 < n → length lacks < depth)
      → AreBegun longest depth (n ∷ lacks) (bytes ++ 42 ∷ line text) (events ++ event.StartArray n ∷ [])
  begun-array lacks bytes text events n due h is deep =
      let count : n ≡ 0 + n = omega arith in (
        due,
        deep,
        record {
          outer = bytes;
          given = events;
          ahead = h;
          has = 0;
          text = text;
          number = subst (λ k. IsLength greatest_count text (Some k)) count is;
          more = [];
          inside = [];
          row = (refl, refl);
          whole = ap (λ t. bytes ++ 42 ∷ t) (sym (append-nil (line text)));
          told = ap (λ k. events ++ event.StartArray k ∷ []) count;
        },
      )

  -- an array ends that lacks no reply
  pub begun-end : (lacks : List ℕ) (bytes : List ℕ) (events : List ReplyEvent)
      → AreBegun longest depth (0 ∷ lacks) bytes events
      → AreBegun longest depth (after_reply lacks) bytes (events ++ event.EndArray ∷ [])
  begun-end lacks bytes events (due, deep, b) =
      let count : b.has + 0 ≡ b.has = omega arith in
      let one = 42 ∷ (line b.text ++ b.more) in
      let first = event.StartArray b.has ∷ (b.inside ++ event.EndArray ∷ []) in
      let array : SpellsEvents longest (depth - length lacks) one first =
      either-at longest (depth - length lacks) one first (inr (record {
        count = b.has;
        text = b.text;
        more = b.more;
        inside = b.inside;
        number = subst (λ k. IsLength greatest_count b.text (Some k)) count b.number;
        row = b.row;
        whole = refl;
        told = refl;
      })) in
      let told : b.given ++ first ≡ events ++ event.EndArray ∷ [] =
      sym (ap (λ t. t ++ event.EndArray ∷ []) b.told
      ∙ append_assoc b.given (event.StartArray (b.has + 0) ∷ b.inside) (event.EndArray ∷ [])
      ∙ ap (λ k. b.given ++ event.StartArray k ∷ (b.inside ++ event.EndArray ∷ [])) count) in
      subst (λ t. AreBegun longest depth (after_reply lacks) bytes t) told
      (subst (λ t. AreBegun longest depth (after_reply lacks) t (b.given ++ first)) (sym b.whole)
      (begun-reply lacks b.outer one b.given first due b.ahead array))

  -- ---- A reply that was read

  -- an array that stands in as many as are allowed has no replies
  none-inside : (replies : List Reply) (more : List ℕ) → SpellAll SpellsNone replies more
      → (replies ≡ []) × (more ≡ [])
  none-inside [] more h = (refl, h)
  none-inside (y ∷ replies) more (one, (rest, (e, none, all))) = absurd none

  -- the head of a reply more, where one is due
  pub begun-head : (f : Reply-F Reply) (lacks : List ℕ) (bytes one : List ℕ)
      (events : List ReplyEvent) → IsDue lacks → AreBegun longest depth lacks bytes events
      → SpellsLayer longest SpellsNone f one
      → AreBegun longest depth (after_head f lacks) (bytes ++ one) (events ++ first_event f ∷ [])
  begun-head (Simple text) lacks bytes one events due h s =
      begun-reply lacks bytes one events (event.Simple text ∷ []) due h (scalar-at longest (depth - length lacks) (event.Simple text) one s)
  begun-head (Error text) lacks bytes one events due h s =
      begun-reply lacks bytes one events (event.Error text ∷ []) due h (scalar-at longest (depth - length lacks) (event.Error text) one s)
  begun-head (Integer n) lacks bytes one events due h s =
      begun-reply lacks bytes one events (event.Integer n ∷ []) due h (scalar-at longest (depth - length lacks) (event.Integer n) one s)
  begun-head (Bulk held) lacks bytes one events due h s =
      begun-reply lacks bytes one events (event.Bulk held ∷ []) due h (scalar-at longest (depth - length lacks) (event.Bulk held) one s)
  begun-head NullBulk lacks bytes one events due h s =
      begun-reply lacks bytes one events (event.NullBulk ∷ []) due h (scalar-at longest (depth - length lacks) event.NullBulk one s)
  begun-head NullArray lacks bytes one events due h s =
      begun-reply lacks bytes one events (event.NullArray ∷ []) due h (scalar-at longest (depth - length lacks) event.NullArray one s)
  begun-head (Array v) lacks bytes one events due h (text, (more, (is, all, e))) =
      let none = none-inside v.items more all in
      let nil : IsLength greatest_count text (Some 0) =
      subst (λ (l : List Reply). IsLength greatest_count text (Some (length l))) none.0 is in
      let here : one ≡ 42 ∷ line text =
      e ∙ ap (λ t. 42 ∷ (line text ++ t)) none.1 ∙ ap (λ t. 42 ∷ t) (append-nil (line text)) in
      subst (λ t. AreBegun longest depth (0 ∷ lacks) (bytes ++ t) (events ++ event.StartArray 0 ∷ [])) (sym here)
      (begun-array lacks bytes text events 0 due h nil (λ some. absurd (omega (arith, some))))
