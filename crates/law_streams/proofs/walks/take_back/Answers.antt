use Rattle.std.proofs.Common.{rules, arith, ◌≡◌, ap, true}
use Rattle.winnow_stream.specs.Source.{width}
use Rattle.winnow_stream.specs.Front.{is_offset}
use Rattle.winnow_stream.proofs.lemmas.FrontLemmas.{width-back}
use Rattle.law_streams.proofs.walks.take_back.Goals as goal

pub returns-clause-slice : goal.returns-clause-slice
returns-clause-slice g c =
    let o : is_offset (g.S.Stream.remaining c.args.s.now) c.args.offset ≡ true = search rules in
    (c.next_slice-slice.ensures.answer, omega (arith, width-back (g.S.Stream.remaining c.args.s.now) c.args.offset o, ap width c.next_slice-slice.ensures.remains, ap width c.checkpoint-start.ensures.means, c.offset_since-taken.ensures))
