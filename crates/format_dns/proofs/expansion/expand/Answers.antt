use Rattle.std.proofs.Common.{◌≡◌, [], ◌∷◌, ◌++◌, length, ap, sym, ◌∙◌, subst, arith, length-append}
use Rattle.format_dns.specs.Names.{SpellsLabels}
use Rattle.format_dns.specs.Pointers.{Reaches}
use Rattle.format_dns.proofs.lemmas.PointerLemmas.{begins, reaches-on, why-none}
use Rattle.format_dns.proofs.expansion.expand.Goals as goal

pub loop-k-init : goal.loop-k-init
loop-k-init c =
    let one = c.in-Ok.ensures in
    let labels = c.args.name.now.labels.items in
    let same : c.write_labels.new.bytes.items ≡ one.0 = one.1.1 ∙ ap (λ l. l ++ one.0) c.new-text.ensures.items in
    record {
      back = omega arith;
      reaches = begins c.args.message.now c.args.name.now c.write_labels.new.bytes.items (subst (SpellsLabels labels) (sym same) (subst (λ vs. SpellsLabels vs one.0) c.deref.ensures.value one.1.0));
    }

pub returns-then-len-gt-LONGEST-clause-failed : goal.returns-then-len-gt-LONGEST-clause-failed
returns-then-len-gt-LONGEST-clause-failed c =
    (c.loop-k.ending, (c.loop-k.limit, (c.loop-k.text.items, (c.loop-k.invariant.reaches, omega (arith, c.if-len-gt-LONGEST.true, c.loop-k.text.ok.0, c.len.ensures)))))

pub returns-in-Ok-push-clause-expanded : goal.returns-in-Ok-push-clause-expanded
returns-in-Ok-push-clause-expanded c =
    let text = c.loop-k.text.items in
    let pushed : c.push.new.self.items ≡ text ++ 0 ∷ [] = c.in-Ok-push.ensures.items in (
      c.loop-k.limit,
      (
        text,
        (
          subst (λ e. Reaches c.args.message.now c.args.name.now e c.loop-k.limit text) c.in_default.is c.loop-k.invariant.reaches,
          pushed,
          omega (arith, ap length pushed, length-append text (0 ∷ []), c.if-len-gt-LONGEST.false, c.len.ensures, c.loop-k.text.ok.0),
        ),
      ),
    )

pub returns-then-limit-place-clause-failed : goal.returns-then-limit-place-clause-failed
returns-then-limit-place-clause-failed c =
    (c.loop-k.limit, (c.loop-k.text.items, (subst (λ e. Reaches c.args.message.now c.args.name.now e c.loop-k.limit c.loop-k.text.items) c.in-Pointer.is c.loop-k.invariant.reaches, omega (arith, c.if-limit-place.true))))

pub returns-in-Err-append_name-clause-failed : goal.returns-in-Err-append_name-clause-failed
returns-in-Err-append_name-clause-failed c =
    why-none c.args.message.now c.args.name.now c.in-Pointer.place c.loop-k.limit c.loop-k.text.items c.in-Err-append_name.unexpanded
    (subst (λ e. Reaches c.args.message.now c.args.name.now e c.loop-k.limit c.loop-k.text.items) c.in-Pointer.is c.loop-k.invariant.reaches) (omega (arith, c.if-limit-place.false)) c.in-Err-append_name.ensures.failed

pub loop-k-preserved : goal.loop-k-preserved
loop-k-preserved c =
    let one = c.in-Ok-append_name.ensures.appended in
    let reached = subst (λ e. Reaches c.args.message.now c.args.name.now e c.loop-k.limit c.loop-k.text.items) c.in-Pointer.is c.loop-k.invariant.reaches in
    let next = reaches-on c.args.message.now c.args.name.now c.in-Pointer.place c.loop-k.limit c.loop-k.text.items c.append_name.new.text.items one.0 reached (omega (arith, c.if-limit-place.false)) one.1.1 in
    record {
      back = omega (arith, c.if-limit-place.false, c.loop-k.invariant.back);
      reaches = subst (λ e. Reaches c.args.message.now c.args.name.now e c.in-Pointer.place c.append_name.new.text.items) (sym one.1.0) next;
    }

pub unreachable-requires : goal.unreachable-requires
unreachable-requires c = absurd (omega (arith, c.loop-k.invariant.back, c.loop-k-test.false))
