use Rattle.std.proofs.Common.{◌≡◌, ◌<◌, ◌+◌, length, sym, ◌∙◌, ap, arith, take, take_all}
use Rattle.std.proofs.lemmas.Iterator.Consumers.{YieldsList-turn, YieldsList-end, YieldsList-at}
use Rattle.winnow_stream.specs.Source.{width}
use Rattle.winnow_stream.specs.Text.{text_source}
use Rattle.winnow_stream.proofs.lemmas.ShortageLemmas.{offset_at-fits, offset_at-silent}
use Rattle.std.specs.Prelude.{false}
use Rattle.winnow_stream.proofs.lemmas.FirstTokenLemmas.{length-offsets, offsets-at}
use Rattle.winnow_stream.proofs.lemmas.IndexLemmas.{indices-road}
use Rattle.winnow_stream.proofs.texts.RefStrStream.offset_at.Goals as goal

pub returns-then-count-tokens : goal.returns-then-count-tokens
returns-then-count-tokens c =
    let r = text_source c.args.self.now.now in
    let road = YieldsList-at c.into_iter-offset-iterator.ensures.into_iter_gives (indices-road c.args.self.now.now c.char_indices-offset-items.result c.type_inv.self c.char_indices-offset-items.ensures.rest c.char_indices-offset-items.ensures.offset) in
    let t = YieldsList-turn road c.loop-offset.yielded _ c.loop-offset.yielded_by _ _ (c.in-Some.offset, c.in-Some.field-0-1) c.in-Some.is c.next.ensures.steps in
    let e = length-offsets r 0 in
    let l : c.args.tokens < length r = omega (arith, t.0) in
    let s : length c.loop-offset.yielded ≡ c.args.tokens = omega arith in
    let w = offsets-at r 0 (length c.loop-offset.yielded) (c.in-Some.offset, c.in-Some.field-0-1) (omega arith) in
    let x : c.in-Some.offset ≡ width (take c.args.tokens r) = ap (λ p. p.0) t.1 ∙ w ∙ ap (λ n. 0 + width (take n r)) s ∙ omega arith in
    offset_at-fits r c.args.tokens false c.in-Some.offset (omega arith) x

pub returns-then-count-tokens-2 : goal.returns-then-count-tokens-2
returns-then-count-tokens-2 c =
    let r = text_source c.args.self.now.now in
    let road = YieldsList-at c.into_iter-offset-iterator.ensures.into_iter_gives (indices-road c.args.self.now.now c.char_indices-offset-items.result c.type_inv.self c.char_indices-offset-items.ensures.rest c.char_indices-offset-items.ensures.offset) in
    let t = YieldsList-end road c.loop-offset.yielded _ c.loop-offset.yielded_by _ _ c.in-None.is c.next.ensures.steps in
    let e = length-offsets r 0 in
    let l : c.args.tokens ≡ length r = omega (arith, t.1) in
    offset_at-fits r c.args.tokens false c.eof_offset.result (omega arith) (c.eof_offset.ensures ∙ ap width (sym (take_all c.args.tokens r (omega arith))))

pub returns-else-count-tokens-2 : goal.returns-else-count-tokens-2
returns-else-count-tokens-2 c =
    let r = text_source c.args.self.now.now in
    let road = YieldsList-at c.into_iter-offset-iterator.ensures.into_iter_gives (indices-road c.args.self.now.now c.char_indices-offset-items.result c.type_inv.self c.char_indices-offset-items.ensures.rest c.char_indices-offset-items.ensures.offset) in
    let t = YieldsList-end road c.loop-offset.yielded _ c.loop-offset.yielded_by _ _ c.in-None.is c.next.ensures.steps in
    let e = length-offsets r 0 in
    offset_at-silent r c.args.tokens (omega (arith, t.1))
