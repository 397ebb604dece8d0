use Rattle.std.proofs.Common.{◌∙◌, ap}
use Rattle.winnow_stream.specs.Front.{back}
use Rattle.winnow_stream.proofs.lemmas.FrontLemmas.{is_offset-whole, back-whole}
use Rattle.winnow_stream.proofs.stream.Stream.finish.Goals as goal

pub next_slice-requires-clause-offset : goal.next_slice-requires-clause-offset
next_slice-requires-clause-offset g c = rw c.eof_offset-end.ensures (is_offset-whole _ (g.met.Self.Stream.positive_widths _ c.requires))

pub returns-clause-remains : goal.returns-clause-remains
returns-clause-remains g c =
    c.next_slice.ensures.remains ∙ ap (back (g.Self.Stream.remaining c.args.self.now)) c.eof_offset-end.ensures ∙ back-whole _ (g.met.Self.Stream.positive_widths _ c.requires)
