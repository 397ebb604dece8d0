-- The bytes that spell a reply have its events.
use Rattle.std.proofs.Common.{ℕ, zero, suc, List, [], ◌∷◌, ◌++◌, length, map, refl, ap, sym, subst, inl, inr}
use Rattle.std.specs.List.{flat_map}
use Rattle.std.proofs.lemmas.List.{length-map}
use Rattle.std.proofs.lemmas.List.Folds.{flat_map-map}
use Rattle.format_resp.specs.Language.{SpellAll, SpellsLayer, SpellsNone, Spells}
use Rattle.format_resp.specs.declared.reply.Reply.{Reply, map-Reply}
use Rattle.format_resp.specs.declared.reply.Reply.TheOpen.{Reply-F, Simple, Error, Integer, Bulk, NullBulk, Array, NullArray}
use Rattle.format_resp.specs.declared.reply.Reply.TheViews.{out-Reply}
use Rattle.format_resp.specs.declared.reply.Reply.TheFolds.{fold_out-Reply}
use Rattle.format_resp_events.specs.Events.{layer_events, events_of, SpellsRow, SpellsEither, SpellsNothing, SpellsEvents, AreReplies}
use Rattle.format_resp_events.specs.declared.event.ReplyEvent.{ReplyEvent}
use Rattle.format_resp_events.specs.declared.event.ReplyEvent.TheVariants as event

-- the events of replies, one after the other
abbrev all_events : List Reply → List ReplyEvent
all_events ys = flat_map (λ events. events) (map events_of ys)

module _ (spells : Reply → List ℕ → Type 0) (has : List ℕ → List ReplyEvent → Type 0) (one : (y : Reply) (t : List ℕ) → spells y t → has t (events_of y)) where
  -- replies in a row have their events
  row-has : (ys : List Reply) (t : List ℕ) → SpellAll spells ys t
      → SpellsRow has (length ys) t (all_events ys)
  row-has [] t h = (h, refl)
  row-has (y ∷ ys) t (b, (more, (e, s, all))) =
      (b, (more, (events_of y, (all_events ys, (e, refl, one y b s, row-has ys more all)))))

  -- the layer of a reply has its events
  layer-has : (longest : ℕ) (f : Reply-F Reply) (t : List ℕ) → SpellsLayer longest spells f t
      → SpellsEither longest has t (layer_events (map-Reply Reply (List ReplyEvent) events_of f))
  layer-has longest (Simple v) t h = inl (event.Simple v, (h, refl))
  layer-has longest (Error v) t h = inl (event.Error v, (h, refl))
  layer-has longest (Integer n) t h = inl (event.Integer n, (h, refl))
  layer-has longest (Bulk v) t h = inl (event.Bulk v, (h, refl))
  layer-has longest NullBulk t h = inl (event.NullBulk, (h, refl))
  layer-has longest NullArray t h = inl (event.NullArray, (h, refl))
  layer-has longest (Array v) t (text, (more, (is, all, e))) = inr (record {
    count = length v.items;
    text = text;
    more = more;
    inside = all_events v.items;
    number = is;
    row = row-has v.items more all;
    whole = e;
    told = ap (λ n. event.StartArray n ∷ (all_events v.items ++ event.EndArray ∷ [])) (length-map v.items events_of);
  })

-- a reply has its events
reply-has : (longest depth : ℕ) (y : Reply) (t : List ℕ) → Spells longest depth y t
    → SpellsEvents longest depth t (events_of y)
reply-has longest zero y t h =
    subst (SpellsEither longest SpellsNothing t) (sym (fold_out-Reply (List ReplyEvent) layer_events y))
    (layer-has SpellsNone SpellsNothing (λ y t h. absurd h) longest (out-Reply y) t h)
reply-has longest (suc depth) y t h =
    subst (SpellsEither longest (SpellsEvents longest depth) t) (sym (fold_out-Reply (List ReplyEvent) layer_events y))
    (layer-has (Spells longest depth) (SpellsEvents longest depth) (reply-has longest depth) longest (out-Reply y) t h)

-- replies within limits have their events
pub replies-have : (longest depth : ℕ) (ys : List Reply) (t : List ℕ)
    → SpellAll (Spells longest depth) ys t → AreReplies longest depth t (flat_map events_of ys)
replies-have longest depth ys t h = (
  length ys,
  subst (SpellsRow (SpellsEvents longest depth) (length ys) t) (flat_map-map (λ events. events) events_of ys)
      (row-has (Spells longest depth) (SpellsEvents longest depth) (reply-has longest depth) ys t h),
)
