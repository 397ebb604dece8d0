use Rattle.std.proofs.Common.{ap, sym, ◌∙◌, arith, ◌+◌}
use Rattle.std.specs.Prelude.{option_map}
use Rattle.winnow_stream.specs.Source.{first_offset}
use Rattle.winnow_script_attempt.specs.Looks.{in_set}
use Rattle.winnow_script_attempt.proofs.lemmas.SettledLemmas.{NoneInSet-on, first-fits}
use Rattle.winnow_script_attempt.proofs.calls.first_from.Goals as goal

pub overflow_add-result : goal.overflow_add-result
overflow_add-result g c =
    let holds = in_set g.S.Token.AsChar.code c.args.set.now in
    let r = g.S.Stream.remaining c.args.rest in
    let found = sym (ap (first_offset holds) c.next_slice.ensures.remains) ∙ sym c.first_in.ensures ∙ c.in-Some.is in
    let fits = first-fits holds r c.args.settled c.in-Some.offset (g.met.S.Stream.positive_widths _ c.requires.valid) c.requires.settled.offset found in
    omega (arith, fits)

pub returns-in-Some : goal.returns-in-Some
returns-in-Some g c =
    let holds = in_set g.S.Token.AsChar.code c.args.set.now in
    let r = g.S.Stream.remaining c.args.rest in
    let found = sym (ap (first_offset holds) c.next_slice.ensures.remains) ∙ sym c.first_in.ensures ∙ c.in-Some.is in
    sym (NoneInSet-on holds r c.args.settled c.requires.settled ∙ ap (option_map (λ o. c.args.settled + o)) found)

pub returns-in-None : goal.returns-in-None
returns-in-None g c =
    let holds = in_set g.S.Token.AsChar.code c.args.set.now in
    let r = g.S.Stream.remaining c.args.rest in
    let found = sym (ap (first_offset holds) c.next_slice.ensures.remains) ∙ sym c.first_in.ensures ∙ c.in-None.is in
    sym (NoneInSet-on holds r c.args.settled c.requires.settled ∙ ap (option_map (λ o. c.args.settled + o)) found)
