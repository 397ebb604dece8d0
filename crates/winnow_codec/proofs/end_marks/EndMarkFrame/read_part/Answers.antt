use Rattle.std.proofs.Common.{◌≡◌, ◌-◌, ◌++◌, length, take, ap, sym, ◌∙◌, subst}
use Rattle.winnow_parser.specs.Answer.{ahead}
use Rattle.winnow_codec.specs.Formats.{Takes}
use Rattle.winnow_codec.specs.EndMarks.{EndsOnly}
use Rattle.winnow_codec.proofs.lemmas.Lists.{takes-none}
use Rattle.winnow_codec.proofs.lemmas.EndMarks.{ends-none, ends-more}
use Rattle.winnow_codec.proofs.lemmas.Reading.{takes-one, takes-both}
use Rattle.winnow_codec.proofs.end_marks.EndMarkFrame.read_part.Goals as goal

pub loop-alloc-init : goal.loop-alloc-init
loop-alloc-init g c =
    let place = ahead g.I.Rest.location g.I.Stream.remaining c.args.input.now in
    record {
      valid = c.requires;
      kept = g.met.I.Stream.keeps_reflexive c.args.input.now;
      taken = subst (λ l. Takes l place place) (sym c.new-part.ensures.items) (takes-none place);
      only = subst (EndsOnly c.args.self.now.mark.now) (sym c.new-part.ensures.items) (ends-none c.args.self.now.mark.now);
    }

pub loop-alloc-preserved : goal.loop-alloc-preserved
loop-alloc-preserved g c =
    let stands = ahead g.I.Rest.location g.I.Stream.remaining in
    let mark = c.args.self.now.mark.now in
    let so_far = c.loop-alloc.invariant in
    let byte = c.in-Some.byte in
    let pushed = c.in-Ok.ensures.items in
    let one = takes-one (stands c.loop-alloc.input) (stands c.next_token.new.self) byte c.in-Some.ensures.answer c.in-Some.ensures.remains c.in-Some.ensures.location in
    record {
      valid = c.in-Some.ensures.valid;
      kept = g.met.I.Stream.keeps_transitive c.args.input.now c.loop-alloc.input c.next_token.new.self so_far.kept c.in-Some.ensures.kept;
      taken = subst (λ l. Takes l (stands c.args.input.now) (stands c.next_token.new.self)) (sym pushed) (takes-both so_far.taken one);
      only = subst (EndsOnly mark) (sym pushed)
          (ends-more mark c.loop-alloc.part.items byte so_far.only
          (λ front e. let yes = c.is_marked.ensures.each front (c.deref.ensures.value ∙ e) in let no = c.loop-alloc-test.true in cc));
    }

pub returns-clause-means : goal.returns-clause-means
returns-clause-means g c =
    let mark = c.args.self.now.mark.now in
    let part = c.loop-alloc.part.items in
    let so_far = c.loop-alloc.invariant in
    let ends : part ≡ take (length part - length mark) part ++ mark =
    subst (λ l. l ≡ take (length l - length mark) l ++ mark) c.deref.ensures.value (c.is_marked.ensures.ends c.loop-alloc-test.false) in
    let long : c.len.result ≡ length part = c.len.ensures ∙ c.loop-alloc.part.ok.0 in
    let cut : take (length part - length mark) part ≡ c.truncate.new.self.items =
    ap (λ n. take (n - length mark) part) (sym long) ∙ sym c.truncate.ensures.items in
    (part, ((ends ∙ ap (λ l. l ++ mark) cut, so_far.only), so_far.taken))
