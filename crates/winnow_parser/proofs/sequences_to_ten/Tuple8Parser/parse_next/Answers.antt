use Rattle.std.proofs.Common.{refl, inl, inr}
use Rattle.winnow_parser.specs.Answer.{ahead}
use Rattle.winnow_parser.proofs.sequences_to_ten.Tuple8Parser.parse_next.Goals as goal

pub returns-in-Ok-parse_next-clause-means : goal.returns-in-Ok-parse_next-clause-means
returns-in-Ok-parse_next-clause-means g c =
    let between = ahead g.I.Rest.location g.I.Stream.remaining c.parse_next.new.input in
    let flag = g.met.I.StreamIsPartial.keeps_flag c.args.input.now c.parse_next.new.input c.in-Ok.ensures.kept in
    let rest = rw flag at c.in-Ok-parse_next.ensures.means in
    ((c.in-Ok.first, (c.in-Ok-parse_next.second, c.in-Ok-parse_next.third, c.in-Ok-parse_next.fourth, c.in-Ok-parse_next.fifth, c.in-Ok-parse_next.sixth, c.in-Ok-parse_next.seventh, c.in-Ok-parse_next.eighth)), (refl, (between, (c.in-Ok.ensures.means, rest))))

pub returns-in-Err-parse_next-clause-means : goal.returns-in-Err-parse_next-clause-means
returns-in-Err-parse_next-clause-means g c =
    let between = ahead g.I.Rest.location g.I.Stream.remaining c.parse_next.new.input in
    let flag = g.met.I.StreamIsPartial.keeps_flag c.args.input.now c.parse_next.new.input c.in-Ok.ensures.kept in
    let rest = rw flag at c.in-Err-parse_next.ensures.means in
    inr (c.in-Ok.first, (between, (c.in-Ok.ensures.means, rest)))

pub returns-in-Err-parse_next-clause-error : goal.returns-in-Err-parse_next-clause-error
returns-in-Err-parse_next-clause-error g c =
    let between = ahead g.I.Rest.location g.I.Stream.remaining c.parse_next.new.input in
    let flag = g.met.I.StreamIsPartial.keeps_flag c.args.input.now c.parse_next.new.input c.in-Ok.ensures.kept in
    let rest = rw flag at c.in-Err-parse_next.ensures.error in
    inr (c.in-Ok.first, (between, (c.in-Ok.ensures.means, rest)))

pub returns-in-Err-clause-means : goal.returns-in-Err-clause-means
returns-in-Err-clause-means g c = inl c.in-Err.ensures.means

pub returns-in-Err-clause-error : goal.returns-in-Err-clause-error
returns-in-Err-clause-error g c = inl c.in-Err.ensures.error
