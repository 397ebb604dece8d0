use Rattle.std.proofs.Common.{◌≡◌, ◌++◌, ◌+◌, ◌-◌, suc, length, drop, string_bytes, ap, sym, ◌∙◌, append_assoc, append-nil, arith}
use Rattle.std.specs.Str.{chars}
use Rattle.std.specs.Prelude.{encode_utf8}
use Rattle.std.proofs.lemmas.Iterator.{YieldsList-from_chars}
use Rattle.std.proofs.lemmas.List.{length_push}
use Rattle.std.proofs.lemmas.Iterator.Consumers.{YieldsList-turn, YieldsList-end}
use Rattle.winnow_tree.specs.Abbreviation.{abbreviation}
use Rattle.winnow_tree.proofs.lemmas.AbbreviationLemmas.{cuts_newline, cuts_full, shows_more, shows_all}
use Rattle.winnow_tree.proofs.abbreviation.write_abbreviated.Goals as goal

pub returns-then-c-eq10 : goal.returns-then-c-eq10
returns-then-c-eq10 c =
    let t = YieldsList-turn (YieldsList-from_chars c.args.text.now c.utf8.text cc) c.loop-c.yielded _ c.loop-c.yielded_by _ _ c.in-Some.c c.in-Some.is c.next.ensures.steps in
    c.in_ok-push_str.ensures.bytes ∙ ap (λ l. string_bytes c.loop-c.out ++ l) (sym (cuts_newline c.loop-c.room (length c.loop-c.yielded) c.in-Some.c (chars c.args.text.now) t c.if-c-eq10.true)) ∙ c.loop-c.invariant.1

pub returns-then-room-eq0 : goal.returns-then-room-eq0
returns-then-room-eq0 c =
    let t = YieldsList-turn (YieldsList-from_chars c.args.text.now c.utf8.text cc) c.loop-c.yielded _ c.loop-c.yielded_by _ _ c.in-Some.c c.in-Some.is c.next.ensures.steps in
    c.in_ok-push_str-2.ensures.bytes ∙ ap (λ l. string_bytes c.loop-c.out ++ l) (sym (cuts_full c.loop-c.room (length c.loop-c.yielded) c.in-Some.c (chars c.args.text.now) t c.if-room-eq0.true)) ∙ c.loop-c.invariant.1

pub loop-c-preserved : goal.loop-c-preserved
loop-c-preserved c =
    let t = YieldsList-turn (YieldsList-from_chars c.args.text.now c.utf8.text cc) c.loop-c.yielded _ c.loop-c.yielded_by _ _ c.in-Some.c c.in-Some.is c.next.ensures.steps in
    let n = length_push c.loop-c.yielded c.in-Some.c in
    let s : c.loop-c.room ≡ suc (c.loop-c.room - 1) = omega arith in
    (omega (arith, n), ap (λ k. string_bytes c.push.new.self ++ abbreviation (c.loop-c.room - 1) (drop k (chars c.args.text.now))) n ∙ ap (λ l. l ++ abbreviation (c.loop-c.room - 1) (drop (length c.loop-c.yielded + 1) (chars c.args.text.now))) c.in_ok-push.ensures.bytes ∙ append_assoc (string_bytes c.loop-c.out) (encode_utf8 c.in-Some.c) _ ∙ ap (λ l. string_bytes c.loop-c.out ++ l) (sym (shows_more c.loop-c.room (c.loop-c.room - 1) (length c.loop-c.yielded) c.in-Some.c (chars c.args.text.now) t c.if-c-eq10.false s)) ∙ c.loop-c.invariant.1)

pub returns : goal.returns
returns c =
    let t = YieldsList-end (YieldsList-from_chars c.args.text.now c.utf8.text cc) c.loop-c.yielded _ c.loop-c.yielded_by _ _ c.in-None.is c.next.ensures.steps in
    sym (append-nil (string_bytes c.loop-c.out)) ∙ ap (λ l. string_bytes c.loop-c.out ++ l) (sym (shows_all c.loop-c.room (length c.loop-c.yielded) (chars c.args.text.now) (omega (arith, t.1)))) ∙ c.loop-c.invariant.1
