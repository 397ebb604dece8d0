use Rattle.std.proofs.Common.{◌≡◌, [], ◌∷◌, ◌++◌, length, refl, ap, sym, subst, arith, length-append}
use Rattle.winnow_parser.specs.Answer.{ahead, failed}
use Rattle.winnow_codec.specs.Lists.{SpellsEach}
use Rattle.winnow_codec.proofs.lemmas.Reading.{takes-both}
use Rattle.winnow_codec.proofs.lemmas.Lists.{takes-none, each-more}
use Rattle.format_dns.specs.Parts.{SpellsPart}
use Rattle.format_dns.specs.Names.{SpellsLabel, SpellsLabels}
use Rattle.format_dns.proofs.lemmas.NameLemmas.{name-ended, name-unread, too-many}
use Rattle.format_dns.proofs.name_format.NameFormatFormat.read.Goals as goal

pub loop-k-init : goal.loop-k-init
loop-k-init g c = record {
  valid = c.requires;
  kept = g.met.I.Stream.keeps_reflexive c.args.input.now;
  number = ap length c.new-labels.ensures.items;
  read = ([], (subst (λ vs. SpellsLabels vs []) (sym c.new-labels.ensures.items) refl, takes-none _));
}

pub loop-k-preserved : goal.loop-k-preserved
loop-k-preserved g c =
    let so_far = c.loop-k.invariant in
    let one = c.in-Ok-First.ensures.means in
    let pushed : c.push.new.self.items ≡ c.loop-k.labels.items ++ c.in-Ok-First.label ∷ [] = c.in-Ok.ensures.items in
    record {
      valid = c.in-Ok-First.ensures.valid;
      kept = g.met.I.Stream.keeps_transitive c.args.input.now c.loop-k.input c.read.new.input so_far.kept c.in-Ok-First.ensures.kept;
      number = omega (arith, ap length pushed, length-append c.loop-k.labels.items (c.in-Ok-First.label ∷ []), so_far.number);
      read = (
        so_far.read.0 ++ one.0,
        (
          subst (λ vs. SpellsEach SpellsLabel vs (so_far.read.0 ++ one.0)) (sym pushed) (each-more SpellsLabel c.loop-k.labels.items c.in-Ok-First.label so_far.read.0 one.0 so_far.read.1.0 (subst (λ p. SpellsPart p one.0) c.in-Ok-First.field-0-is one.1.0)),
          takes-both so_far.read.1.1 one.1.1,
        ),
      );
    }

pub returns-in-Ok-Other-clause-means : goal.returns-in-Ok-Other-clause-means
returns-in-Ok-Other-clause-means g c =
    let so_far = c.loop-k.invariant in
    let one = c.in-Ok-Other.ensures.means in
    let stands = ahead g.I.Rest.location g.I.Stream.remaining in
    name-ended (stands c.args.input.now) (stands c.loop-k.input) c.loop-k.labels.items so_far.read.0 so_far.read.1.0 so_far.read.1.1
    (g.I.StreamIsPartial.expects_more c.args.input.now) (stands c.read.new.input) c.in-Ok-Other.ending (record { labels = c.loop-k.labels; ending = c.in-Ok-Other.ending })
    refl refl (omega (arith, so_far.number, c.loop-k-test.true)) (one.0, (subst (λ p. SpellsPart p one.0) c.in-Ok-Other.field-0-is one.1.0, one.1.1))

pub returns-in-Err-clause-means : goal.returns-in-Err-clause-means
returns-in-Err-clause-means g c =
    let so_far = c.loop-k.invariant in
    let stands = ahead g.I.Rest.location g.I.Stream.remaining in
    let flag = g.met.I.StreamIsPartial.keeps_flag c.args.input.now c.loop-k.input so_far.kept in
    name-unread (stands c.args.input.now) (stands c.loop-k.input) c.loop-k.labels.items so_far.read.0 so_far.read.1.0 so_far.read.1.1
    (g.I.StreamIsPartial.expects_more c.args.input.now) (failed c.in-Err.failure (stands c.read.new.input)) (rw flag at c.in-Err.ensures.means)

pub returns-clause-means : goal.returns-clause-means
returns-clause-means g c =
    let so_far = c.loop-k.invariant in
    let stands = ahead g.I.Rest.location g.I.Stream.remaining in
    too-many (stands c.args.input.now) (stands c.loop-k.input) c.loop-k.labels.items so_far.read.0 so_far.read.1.0 so_far.read.1.1
    (g.I.StreamIsPartial.expects_more c.args.input.now) (omega (arith, so_far.number, c.loop-k-test.false))
