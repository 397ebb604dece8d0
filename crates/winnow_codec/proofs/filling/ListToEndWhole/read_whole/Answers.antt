use Rattle.std.proofs.Common.{◌++◌, length, ap, sym, ◌∙◌, subst, append_assoc}
use Rattle.std.specs.Prelude.{◌==◌}
use Rattle.winnow_codec.specs.Lists.{SpellsEach}
use Rattle.winnow_codec.specs.WholeFormats.{SpellsSome}
use Rattle.winnow_codec.proofs.lemmas.Lists.{each-more}
use Rattle.winnow_codec.proofs.lemmas.Wholes.{end-unread}
use Rattle.winnow_codec.proofs.filling.ListToEndWhole.read_whole.Goals as goal

pub loop-rest-preserved : goal.loop-rest-preserved
loop-rest-preserved g c =
    let item = SpellsSome (g.F.Format.spells c.args.self.now.item.inner) in
    let so_far = c.loop-rest.invariant in
    let one = c.in-Ok.ensures in (
      so_far.0 ++ one.0,
      (
        subst (λ vs. SpellsEach item vs (so_far.0 ++ one.0)) (sym c.in-Ok-push.ensures.items) (each-more item c.loop-rest.items.items c.in-Ok.value so_far.0 one.0 so_far.1.0 one.1.0),
        so_far.1.1 ∙ ap (λ l. so_far.0 ++ l) one.1.1 ∙ sym (append_assoc so_far.0 one.0 c.read_first.new.input.now),
      ),
    )

pub returns-in-Err : goal.returns-in-Err
returns-in-Err g c =
    let so_far = c.loop-rest.invariant in
    end-unread g.F.Format.same (g.F.Format.spells c.args.self.now.item.inner) (g.met.F.Format.lawful c.args.self.now.item.inner)
    c.loop-rest.items so_far.0 c.loop-rest.rest.now c.args.part.now _ c.in-Err.unread so_far.1.0 so_far.1.1
    (λ none. let full = sym c.loop-rest-test.true ∙ c.is_empty.ensures ∙ ap (λ l. length l == 0) none in cc) c.in-Err.ensures
