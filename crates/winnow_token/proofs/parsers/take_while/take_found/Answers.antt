use Rattle.std.proofs.Common.{◌≡◌, ◌&&◌, false, ap, sym, ◌∙◌}
use Rattle.winnow_parser.specs.Answer.{ahead}
use Rattle.winnow_token.proofs.lemmas.TakeWhileLemmas.{and_false, gives_found}
use Rattle.winnow_token.proofs.parsers.take_while.take_found.Goals as goal
use Rattle.winnow_token.proofs.parsers.take_while.take_found.Goals.{else-grows-via-then-grows+else-is_partial, else-grows-via-else-grows}

pub returns-clause-means : goal.returns-clause-means
returns-clause-means g c = λ holds least greatest allowed found.
    let stands = ahead g.I.Rest.location g.I.Stream.remaining c.args.input.now in
    let settled : (g.I.StreamIsPartial.expects_more c.args.input.now && c.args.found.grows) ≡ false = elim c.else-grows.branch [
      | else-grows-via-then-grows+else-is_partial w ↦ ap (λ b. b && c.args.found.grows) (sym w.is_partial.ensures ∙ w.if-is_partial.false)
      | else-grows-via-else-grows w ↦ and_false (g.I.StreamIsPartial.expects_more c.args.input.now) c.args.found.grows w.if-grows.false
    ] in
    gives_found g.I.Stream.is_slice holds least greatest stands c.args.found.end c.args.found.enough c.args.found.grows (g.I.StreamIsPartial.expects_more c.args.input.now) c.next_slice.result (g.I.Rest.location c.next_slice.new.self) (g.I.Stream.remaining c.next_slice.new.self) c.requires.offset found c.if-not-enough.false settled c.next_slice.ensures.answer c.next_slice.ensures.location c.next_slice.ensures.remains
