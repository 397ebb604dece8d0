use Rattle.std.proofs.Common.{◌∙◌, ap, rules}
use Rattle.std.specs.Prelude.{not, unwrap_or}
use Rattle.winnow_token.proofs.lemmas.TakeWhileLemmas.{offset_or_end, IsFound-width}
use Rattle.winnow_token.proofs.parsers.take_while.longest.Goals as goal

pub has_tokens-requires-clause-offset : goal.has_tokens-requires-clause-offset
has_tokens-requires-clause-offset g c =
    rw c.unwrap_or-end.ensures (offset_or_end (g.I.Stream.remaining c.args.input.now) (g.met.I.Stream.positive_widths c.args.input.now c.requires.valid) c.offset_for.result c.eof_offset-room.result c.eof_offset-room.ensures c.offset_for.ensures.offset)

pub returns-clause-offset : goal.returns-clause-offset
returns-clause-offset g c =
    rw c.unwrap_or-end.ensures (offset_or_end (g.I.Stream.remaining c.args.input.now) (g.met.I.Stream.positive_widths c.args.input.now c.requires.valid) c.offset_for.result c.eof_offset-room.result c.eof_offset-room.ensures c.offset_for.ensures.offset)

pub returns-clause-found : goal.returns-clause-found
returns-clause-found g c = λ holds h.
    let r = g.I.Stream.remaining c.args.input.now in
    let positive = g.met.I.Stream.positive_widths c.args.input.now c.requires.valid in
    let first = c.offset_for.ensures.computed (λ token. not (holds token)) (λ token answer p. search (rules, h)) in
    IsFound-width r positive holds c.args.least c.unwrap_or-end.result c.eof_offset-room.result c.has_tokens.result c.eof_offset-room.ensures
    (rw c.unwrap_or-end.ensures (offset_or_end r positive c.offset_for.result c.eof_offset-room.result c.eof_offset-room.ensures c.offset_for.ensures.offset))
    (c.unwrap_or-end.ensures ∙ ap (λ found. unwrap_or found c.eof_offset-room.result) first) c.has_tokens.ensures
