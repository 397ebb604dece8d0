-- What is appended of a reply, from what is appended of its parts.
use Rattle.std.proofs.Common.{◌≡◌, ℕ, zero, suc, ◌-◌, ◌<◌, List, [], ◌∷◌, ◌++◌, length, get_or, ap, ◌∙◌, refl, arith, append_assoc}
use Rattle.std.specs.Prelude.{Ok, Err}
use Rattle.winnow_codec.specs.Formats.{Spelling}
use Rattle.winnow_codec.specs.FormatRows.{SpellsPair}
use Rattle.winnow_codec.specs.Lists.{SpellsEach}
use Rattle.winnow_codec.specs.declared.unwritten.Unwritten.{Unwritten}
use Rattle.winnow_codec.specs.declared.unwritten.Unwritten.TheVariants.{Unspelled, Refused}
use Rattle.format_resp3.specs.Replies.{held_of, pairs_of, replies_of, IsWithin, SpellsInner, SpellsReply}
use Rattle.format_resp3.specs.Exchange.{SpellsOpening, Appends}
use Rattle.format_resp3.specs.declared.reply.Reply.{Reply}
use Rattle.format_resp3.specs.declared.reply.Reply.TheViews.{out-Reply}

-- where a part has no spelling, a value with that part has none
pub unwritten-as : {V W : Type 0} (inner : Spelling V) (spells : Spelling W) (v : V) (w : W)
    → ((bytes : List ℕ) → spells w bytes → (front : List ℕ) × inner v front)
    → (old new other left : List ℕ) (unwritten : Unwritten) → Appends inner v old (Err unwritten) new
    → Appends spells w other (Err unwritten) left
unwritten-as inner spells v w has old new other left Unspelled h = λ bytes s. let front = has bytes s in h front.0 front.1
unwritten-as inner spells v w has old new other left (Refused e) h = tt

-- replies inside others are replies within one layer less
pub inner-is : (longest depth : ℕ) → 0 < depth
    → SpellsReply longest (depth - 1) ≡ SpellsInner longest depth
inner-is longest zero l = absurd (omega (arith, l))
inner-is longest (suc depth) l = ap (λ n. SpellsReply longest n) (omega arith)

-- each value of a list that is spelled is spelled
pub member-spelled : {V : Type 0} (inner : Spelling V) (vs : List V) (bytes : List ℕ)
    → SpellsEach inner vs bytes
    → (i : ℕ) (d : V) → i < length vs → (front : List ℕ) × inner (get_or vs i d) front
member-spelled inner [] bytes h i d l = absurd (omega (arith, l))
member-spelled inner (v ∷ vs) bytes (front, back, (h, k, e)) zero d l = (front, h)
member-spelled inner (v ∷ vs) bytes (front, back, (h, k, e)) (suc i) d l = member-spelled inner vs back k i d (omega (arith, l))

module _ (longest depth : ℕ) (r : Reply) where
  -- the opening of a reply that is spelled, and the replies inside it, are spelled
  pub has-opening : (bytes : List ℕ) → SpellsReply longest depth r bytes
      → (front : List ℕ) × SpellsOpening longest (out-Reply r) front
  has-opening bytes (f, b, (s, k, e)) = (f ++ held_of (out-Reply r), (f, (s, refl)))

  pub has-pairs : (bytes : List ℕ) → SpellsReply longest depth r bytes
      → (front : List ℕ) × SpellsEach (SpellsPair (SpellsInner longest depth) (SpellsInner longest depth)) (pairs_of (out-Reply r)) front
  has-pairs bytes (f, b, (s, (is, within, (p, q, (i, j, d))), e)) = (p, i)

  pub has-replies : (bytes : List ℕ) → SpellsReply longest depth r bytes
      → (front : List ℕ) × SpellsEach (SpellsInner longest depth) (replies_of (out-Reply r)) front
  has-replies bytes (f, b, (s, (is, within, (p, q, (i, j, d))), e)) = (q, j)

  -- the opening, the keys with their values and the other replies are appended
  pub reply-written : IsWithin longest (out-Reply r) → (old m n new : List ℕ)
      → Appends (SpellsOpening longest) (out-Reply r) old (Ok tt) m
      → Appends (SpellsEach (SpellsPair (SpellsInner longest depth) (SpellsInner longest depth))) (pairs_of (out-Reply r)) m (Ok tt) n
      → Appends (SpellsEach (SpellsInner longest depth)) (replies_of (out-Reply r)) n (Ok tt) new
      → Appends (SpellsReply longest depth) r old (Ok tt) new
  reply-written within old m n new (o, ((f, (s, d)), e)) (p, (i, g)) (q, (j, k)) =
      let held = held_of (out-Reply r) in
      let whole : new ≡ old ++ (f ++ (held ++ (p ++ q))) =
      k ∙ ap (λ l. l ++ q) (g ∙ ap (λ l. l ++ p) (e ∙ ap (λ l. old ++ l) d)) ∙ append_assoc (old ++ (f ++ held)) p q
      ∙ append_assoc old (f ++ held) (p ++ q) ∙ ap (λ l. old ++ l) (append_assoc f held (p ++ q)) in
      (f ++ (held ++ (p ++ q)), ((f, held ++ (p ++ q), (s, (refl, within, (p, q, (i, j, refl))), refl)), whole))
