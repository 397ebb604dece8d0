use Rattle.std.proofs.Common.{◌≡◌, ◌<◌, ◌+◌, ◌∷◌, [], ◌++◌, Err, length, take, ap, sym, ◌∙◌, subst, arith, append_assoc}
use Rattle.std.proofs.lemmas.List.{take_more}
use Rattle.winnow_codec.specs.FormatRows.{SpellsPair}
use Rattle.winnow_codec.specs.Lists.{SpellsEach}
use Rattle.winnow_codec.proofs.lemmas.Lists.{each-more}
use Rattle.format_resp3.specs.Replies.{pairs_of, replies_of, SpellsInner, SpellsReply}
use Rattle.format_resp3.specs.Exchange.{SpellsOpening, Appends}
use Rattle.format_resp3.specs.declared.reply.Reply.TheViews.{out-Reply}
use Rattle.format_resp3.proofs.lemmas.Written.{unwritten-as, inner-is, member-spelled, has-opening, has-pairs, has-replies, reply-written}
use Rattle.format_resp3.proofs.writing.+writing.Goals as goal

pub append_inner-returns : goal.append_inner-returns
append_inner-returns t c =
    subst (λ spells. Appends spells c.args.reply.now c.args.bytes.now.items c.append_nested.result c.append_nested.new.bytes.items)
    (inner-is c.args.longest c.args.depth (omega (arith, c.if-depth-eq0.false))) c.append_nested.ensures

pub append_replies-loop-reply-preserved : goal.append_replies-loop-reply-preserved
append_replies-loop-reply-preserved t c =
    let inner = SpellsInner c.args.longest c.args.depth in
    let values = c.args.replies.now in
    let i = c.loop-reply.reply-index in
    let value = c.reply-item.result in
    let so_far = c.loop-reply.invariant in
    let one = c.in-Ok.ensures in
    let within : i < length values = omega arith in
    let more : take (i + 1) values ≡ take i values ++ value ∷ [] = take_more values i value within ∙ ap (λ v. take i values ++ v ∷ []) (sym c.reply-item.is) in (
      so_far.0 ++ one.0,
      (
        subst (λ vs. SpellsEach inner vs (so_far.0 ++ one.0)) (sym more) (each-more inner (take i values) value so_far.0 one.0 so_far.1.0 one.1.0),
        one.1.1 ∙ ap (λ l. l ++ one.0) so_far.1.1 ∙ append_assoc c.args.bytes.now.items so_far.0 one.0,
      ),
    )

pub append_replies-returns-in-Err : goal.append_replies-returns-in-Err
append_replies-returns-in-Err t c =
    let inner = SpellsInner c.args.longest c.args.depth in
    let values = c.args.replies.now in
    let i = c.loop-reply.reply-index in
    let value = c.reply-item.result in
    let within : i < length values = omega arith in
    unwritten-as inner (SpellsEach inner) value values
    (λ bytes s. let one = member-spelled inner values bytes s i value within in (one.0, subst (λ v. inner v one.0) (sym c.reply-item.is) one.1))
    c.loop-reply.bytes.items c.append_inner.new.bytes.items c.args.bytes.now.items c.append_inner.new.bytes.items c.in-Err.unwritten c.in-Err.ensures

pub append_pairs-loop-pair-preserved : goal.append_pairs-loop-pair-preserved
append_pairs-loop-pair-preserved t c =
    let inner = SpellsPair (SpellsInner c.args.longest c.args.depth) (SpellsInner c.args.longest c.args.depth) in
    let values = c.args.pairs.now in
    let i = c.loop-pair.pair-index in
    let value = c.pair-item.result in
    let so_far = c.loop-pair.invariant in
    let one = c.in-Ok.ensures in
    let within : i < length values = omega arith in
    let more : take (i + 1) values ≡ take i values ++ value ∷ [] = take_more values i value within ∙ ap (λ v. take i values ++ v ∷ []) (sym c.pair-item.is) in (
      so_far.0 ++ one.0,
      (
        subst (λ vs. SpellsEach inner vs (so_far.0 ++ one.0)) (sym more) (each-more inner (take i values) value so_far.0 one.0 so_far.1.0 one.1.0),
        one.1.1 ∙ ap (λ l. l ++ one.0) so_far.1.1 ∙ append_assoc c.args.bytes.now.items so_far.0 one.0,
      ),
    )

pub append_pairs-returns-in-Err : goal.append_pairs-returns-in-Err
append_pairs-returns-in-Err t c =
    let inner = SpellsPair (SpellsInner c.args.longest c.args.depth) (SpellsInner c.args.longest c.args.depth) in
    let values = c.args.pairs.now in
    let i = c.loop-pair.pair-index in
    let value = c.pair-item.result in
    let within : i < length values = omega arith in
    unwritten-as inner (SpellsEach inner) value values
    (λ bytes s. let one = member-spelled inner values bytes s i value within in (one.0, subst (λ v. inner v one.0) (sym c.pair-item.is) one.1))
    c.loop-pair.bytes.items c.append_pair.new.bytes.items c.args.bytes.now.items c.append_pair.new.bytes.items c.in-Err.unwritten c.in-Err.ensures

pub append_nested-returns-in-Err : goal.append_nested-returns-in-Err
append_nested-returns-in-Err t c =
    let r = c.args.reply.now in
    unwritten-as (SpellsOpening c.args.longest) (SpellsReply c.args.longest c.args.depth) (out-Reply r) r (has-opening c.args.longest c.args.depth r)
    c.args.bytes.now.items c.append_opening.new.bytes.items c.args.bytes.now.items c.append_opening.new.bytes.items c.in-Err.unwritten c.in-Err.ensures

pub append_nested-returns-in-Err-append_pairs : goal.append_nested-returns-in-Err-append_pairs
append_nested-returns-in-Err-append_pairs t c =
    let r = c.args.reply.now in
    let inner = SpellsInner c.args.longest c.args.depth in
    unwritten-as (SpellsEach (SpellsPair inner inner)) (SpellsReply c.args.longest c.args.depth) (pairs_of (out-Reply r)) r (has-pairs c.args.longest c.args.depth r)
    c.append_opening.new.bytes.items c.append_pairs.new.bytes.items c.args.bytes.now.items c.append_pairs.new.bytes.items c.in-Err-append_pairs.unwritten
    (subst (λ ps. Appends (SpellsEach (SpellsPair inner inner)) ps c.append_opening.new.bytes.items (Err c.in-Err-append_pairs.unwritten) c.append_pairs.new.bytes.items) c.pairs_of.ensures c.in-Err-append_pairs.ensures)

pub append_nested-returns-in-Err-append_replies : goal.append_nested-returns-in-Err-append_replies
append_nested-returns-in-Err-append_replies t c =
    let r = c.args.reply.now in
    let inner = SpellsInner c.args.longest c.args.depth in
    unwritten-as (SpellsEach inner) (SpellsReply c.args.longest c.args.depth) (replies_of (out-Reply r)) r (has-replies c.args.longest c.args.depth r)
    c.append_pairs.new.bytes.items c.append_replies.new.bytes.items c.args.bytes.now.items c.append_replies.new.bytes.items c.in-Err-append_replies.unwritten
    (subst (λ rs. Appends (SpellsEach inner) rs c.append_pairs.new.bytes.items (Err c.in-Err-append_replies.unwritten) c.append_replies.new.bytes.items) c.replies_of.ensures c.in-Err-append_replies.ensures)

pub append_nested-returns-in-Ok-append_replies : goal.append_nested-returns-in-Ok-append_replies
append_nested-returns-in-Ok-append_replies t c =
    reply-written c.args.longest c.args.depth c.args.reply.now (c.is_within.ensures.0 c.if-not-is_within.false)
    c.args.bytes.now.items c.append_opening.new.bytes.items c.append_pairs.new.bytes.items c.append_replies.new.bytes.items
    c.in-Ok.ensures (rw c.pairs_of.ensures at c.in-Ok-append_pairs.ensures) (rw c.replies_of.ensures at c.in-Ok-append_replies.ensures)
