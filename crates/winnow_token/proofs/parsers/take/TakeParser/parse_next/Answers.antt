use Rattle.std.proofs.Common.{sym, ◌∙◌}
use Rattle.winnow_parser.proofs.lemmas.OnwardLemmas.{onward_front}
use Rattle.winnow_token.proofs.parsers.take.TakeParser.parse_next.Goals as goal

pub returns-in-Ok-clause-onward : goal.returns-in-Ok-clause-onward
returns-in-Ok-clause-onward g c =
    let here = c.args.input.now in
    let next = c.next_slice.new.self in
    let r = g.I.Stream.remaining here in
    let offset = c.in-Ok.offset in
    let ends = c.offset_law.ensures.at g.I.Stream.counts_shortage r c.args.self.now.count offset (g.met.I.Stream.positive_widths here c.requires.valid) (sym c.offset_at.ensures ∙ c.in-Ok.is) in
    onward_front (g.I.Rest.location here) (g.I.Rest.location next) r (g.I.Stream.remaining next) offset ends c.next_slice.ensures.location c.next_slice.ensures.remains
