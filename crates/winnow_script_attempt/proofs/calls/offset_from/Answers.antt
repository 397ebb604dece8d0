use Rattle.std.proofs.Common.{ap, sym, ◌∙◌, arith, ℕ, ◌-◌}
use Rattle.winnow_stream.specs.Shortage.{offset_at}
use Rattle.winnow_script_attempt.specs.Settled.{further}
use Rattle.winnow_script_attempt.proofs.lemmas.SettledLemmas.{AreCounted-on, offset_at-fits}
use Rattle.winnow_script_attempt.proofs.calls.offset_from.Goals as goal

pub overflow_add-result : goal.overflow_add-result
overflow_add-result g c =
    let r = g.S.Stream.remaining c.args.rest in
    let i : ℕ = c.args.asked - c.args.counted in
    let counts = g.S.Stream.counts_shortage in
    let found = sym (ap (λ x. offset_at counts x i) c.next_slice.ensures.remains) ∙ sym c.offset_at.ensures ∙ c.in-Ok.is in
    let fits = offset_at-fits counts r c.args.settled i c.in-Ok.offset (g.met.S.Stream.positive_widths _ c.requires.valid) c.requires.settled.offset found in
    omega (arith, fits)

pub returns-in-Ok : goal.returns-in-Ok
returns-in-Ok g c =
    let r = g.S.Stream.remaining c.args.rest in
    let i : ℕ = c.args.asked - c.args.counted in
    let counts = g.S.Stream.counts_shortage in
    let found = sym (ap (λ x. offset_at counts x i) c.next_slice.ensures.remains) ∙ sym c.offset_at.ensures ∙ c.in-Ok.is in
    sym (AreCounted-on counts c.args.asked r c.args.settled c.args.counted c.requires.settled ∙ ap (further c.args.settled) found)

pub returns-in-Err : goal.returns-in-Err
returns-in-Err g c =
    let r = g.S.Stream.remaining c.args.rest in
    let i : ℕ = c.args.asked - c.args.counted in
    let counts = g.S.Stream.counts_shortage in
    let found = sym (ap (λ x. offset_at counts x i) c.next_slice.ensures.remains) ∙ sym c.offset_at.ensures ∙ c.in-Err.is in
    sym (AreCounted-on counts c.args.asked r c.args.settled c.args.counted c.requires.settled ∙ ap (further c.args.settled) found)
