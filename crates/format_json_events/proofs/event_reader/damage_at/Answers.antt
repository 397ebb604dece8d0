use Rattle.std.proofs.Common.{◌-◌, ◌<◌, length, take, drop, get_or, ap, sym, ◌∙◌, subst, arith}
use Rattle.std.proofs.lemmas.List.{take_rest}
use Rattle.format_lemmas.specs.Bytes.{StartsWith}
use Rattle.format_json_scalars.specs.Numbers.{Tells}
use Rattle.format_json_scalars.specs.StringAnswers.{BeginsChar}
use Rattle.format_json.specs.Language.{after_blanks}
use Rattle.format_json.specs.Causes.{cause_of, IsCut}
use Rattle.format_json_events.specs.Turns.{state_of, bar_from}
use Rattle.format_json_events.specs.Reading.{ahead_from, IsNoNext}
use Rattle.format_json_events.proofs.lemmas.BarLemmas.{barred-none}
use Rattle.format_json_events.proofs.lemmas.AheadLemmas.{damage-after, damage-some, damage-char}
use Rattle.format_json_events.proofs.lemmas.EventLemmas.{none-is}
use Rattle.format_json_events.proofs.event_reader.damage_at.Goals.{else-has_ended-via-then-has_ended+else-is_cut, else-has_ended-via-else-has_ended}
use Rattle.format_json_events.proofs.event_reader.damage_at.Goals as goal

pub overflow_sub-rest : goal.overflow_sub-rest
overflow_sub-rest c =
    omega (arith, c.place.ensures, damage-after c.args.tokens.now c.args.place c.requires)

pub is_cut-requires-clause-some : goal.is_cut-requires-clause-some
is_cut-requires-clause-some c =
    let here = take_rest c.ahead-ahead.result.now c.blank_count.result ∙ c.blank_count.ensures.rest ∙ ap after_blanks c.ahead-ahead.ensures in
    subst (λ l. 0 < length l) (sym here) (damage-some c.args.tokens.now c.args.place c.requires)

pub is_cut-requires-clause-damaged : goal.is_cut-requires-clause-damaged
is_cut-requires-clause-damaged c =
    let f = c.args.tokens.now in
    let all = c.ahead-ahead.result.now in
    let here = take_rest all c.blank_count.result ∙ c.blank_count.ensures.rest ∙ ap after_blanks c.ahead-ahead.ensures in
    let rest = take_rest all (c.args.place - c.place.result) ∙ ap (λ n. drop (c.args.place - n) all) c.place.ensures
    ∙ ap (drop (c.args.place - f.place)) c.ahead-ahead.ensures in
    λ quote begins. damage-char f c.args.place c.requires (subst (StartsWith 34) here quote) (subst BeginsChar rest begins)

pub returns-then-is_cut : goal.returns-then-is_cut
returns-then-is_cut c =
    let f = c.args.tokens.now in
    let all = c.ahead-ahead.result.now in
    let from = take (length all - c.blank_count.result) (drop c.blank_count.result all) in
    let at = take (length all - (c.args.place - c.place.result)) (drop (c.args.place - c.place.result) all) in
    let here = take_rest all c.blank_count.result ∙ c.blank_count.ensures.rest ∙ ap after_blanks c.ahead-ahead.ensures in
    let rest = take_rest all (c.args.place - c.place.result) ∙ ap (λ n. drop (c.args.place - n) all) c.place.ensures
    ∙ ap (drop (c.args.place - f.place)) c.ahead-ahead.ensures in
    let cut = subst (λ t. Tells t (IsCut from at)) c.if-is_cut.true c.is_cut.ensures in
    let free = none-is c.bar_from.result (λ x e. c.in_default.not-Some x e) in
    let first = ap (bar_from (state_of c.args.syntax.now)) (c.byte_or.ensures ∙ ap (λ l. get_or l 0 0) here) in (
      c.fed.ensures,
      (c.args.place, (c.requires, (sym c.has_ended.ensures ∙ c.if-has_ended.true, subst (λ l. IsCut l (ahead_from f c.args.place)) here (subst (λ l. IsCut from l) rest cut)))),
      sym (c.bar_from.ensures ∙ first) ∙ free,
    )

pub returns : goal.returns
returns c =
    let f = c.args.tokens.now in
    let all = c.ahead-ahead.result.now in
    let from = take (length all - c.blank_count.result) (drop c.blank_count.result all) in
    let at = take (length all - (c.args.place - c.place.result)) (drop (c.args.place - c.place.result) all) in
    let here = take_rest all c.blank_count.result ∙ c.blank_count.ensures.rest ∙ ap after_blanks c.ahead-ahead.ensures in
    let rest = take_rest all (c.args.place - c.place.result) ∙ ap (λ n. drop (c.args.place - n) all) c.place.ensures
    ∙ ap (drop (c.args.place - f.place)) c.ahead-ahead.ensures in
    let free = none-is c.bar_from.result (λ x e. c.in_default.not-Some x e) in
    let first = ap (bar_from (state_of c.args.syntax.now)) (c.byte_or.ensures ∙ ap (λ l. get_or l 0 0) here) in (
      c.requires,
      (λ cut. elim c.else-has_ended.branch [
        | else-has_ended-via-then-has_ended+else-is_cut w ↦
            (subst (λ t. Tells t (IsCut from at)) w.if-is_cut.false w.is_cut.ensures)
            (subst (λ l. IsCut l at) (sym here) (subst (λ l. IsCut (after_blanks f.ahead) l) (sym rest) cut.1))
        | else-has_ended-via-else-has_ended w ↦ let z = sym cut.0 ∙ (sym c.has_ended.ensures ∙ w.if-has_ended.false) in cc z
      ]),
      c.cause_of.ensures ∙ ap (λ l. cause_of l at) here ∙ ap (cause_of (after_blanks f.ahead)) rest,
      sym (c.bar_from.ensures ∙ first) ∙ free,
    )

pub returns-in-Some : goal.returns-in-Some
returns-in-Some c =
    let f = c.args.tokens.now in
    let here = take_rest c.ahead-ahead.result.now c.blank_count.result ∙ c.blank_count.ensures.rest ∙ ap after_blanks c.ahead-ahead.ensures in
    let first = ap (bar_from (state_of c.args.syntax.now)) (c.byte_or.ensures ∙ ap (λ l. get_or l 0 0) here) in
    let bar = sym (c.bar_from.ensures ∙ first) ∙ c.in-Some.is in
    subst (IsNoNext (state_of c.args.syntax.now) f) (sym c.error_at.ensures)
    (barred-none (state_of c.args.syntax.now) f c.in-Some.misplaced c.token_start.result c.args.place c.token_start.ensures bar c.requires)
