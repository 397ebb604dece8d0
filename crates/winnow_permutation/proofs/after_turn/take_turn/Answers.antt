use Rattle.winnow_parser.specs.Outcome.{Gives, Fails}
use Rattle.winnow_parser.specs.Answer.{ahead, failed}
use Rattle.winnow_permutation.specs.Permutation.{TriesOnce}
use Rattle.winnow_permutation.specs.PermutationErrors.{OnceErrors}
use Rattle.winnow_permutation.proofs.lemmas.ContinuedLemmas.{continued, continued-error}
use Rattle.winnow_permutation.proofs.after_turn.take_turn.Goals as goal

pub returns-in-Ok-clause-means : goal.returns-in-Ok-clause-means
returns-in-Ok-clause-means g c =
    let turns = g.T.Parser.means c.args.turns.now in
    let expects = g.I.StreamIsPartial.expects_more in
    let stands = ahead g.I.Rest.location g.I.Stream.remaining in
    let flag = g.met.I.StreamIsPartial.keeps_flag c.args.input.now c.parse_next.new.input c.in_ok-turn.ensures.kept in
    continued (g.L.AfterTurn.means c.args.list.now) (TriesOnce g.E.ParserError.append_refusable turns) (expects c.args.input.now)
    (expects c.parse_next.new.input) (stands c.args.input.now) (stands c.parse_next.new.input) c.in_ok-turn.turn flag c.in_ok-turn.ensures.means
    (Gives c.in-Ok.all (stands c.finish.new.input)) c.in-Ok.ensures.means

pub returns-in-Ok-clause-kept : goal.returns-in-Ok-clause-kept
returns-in-Ok-clause-kept g c =
    g.met.I.Stream.keeps_transitive c.args.input.now c.parse_next.new.input c.finish.new.input c.in_ok-turn.ensures.kept c.in-Ok.ensures.kept

pub returns-in-Err-clause-means : goal.returns-in-Err-clause-means
returns-in-Err-clause-means g c =
    let turns = g.T.Parser.means c.args.turns.now in
    let expects = g.I.StreamIsPartial.expects_more in
    let stands = ahead g.I.Rest.location g.I.Stream.remaining in
    let flag = g.met.I.StreamIsPartial.keeps_flag c.args.input.now c.parse_next.new.input c.in_ok-turn.ensures.kept in
    continued (g.L.AfterTurn.means c.args.list.now) (TriesOnce g.E.ParserError.append_refusable turns) (expects c.args.input.now)
    (expects c.parse_next.new.input) (stands c.args.input.now) (stands c.parse_next.new.input) c.in_ok-turn.turn flag c.in_ok-turn.ensures.means
    (Fails (failed c.in-Err.failure (stands c.finish.new.input))) c.in-Err.ensures.means

pub returns-in-Err-clause-error : goal.returns-in-Err-clause-error
returns-in-Err-clause-error g c =
    let turns = g.T.Parser.means c.args.turns.now in
    let expects = g.I.StreamIsPartial.expects_more in
    let stands = ahead g.I.Rest.location g.I.Stream.remaining in
    let stood = ahead g.I.Checkpoint.Rest.location g.I.Stream.remained in
    let flag = g.met.I.StreamIsPartial.keeps_flag c.args.input.now c.parse_next.new.input c.in_ok-turn.ensures.kept in
    continued-error (g.L.AfterTurn.means c.args.list.now) (TriesOnce g.E.ParserError.append_refusable turns) (expects c.args.input.now)
    (expects c.parse_next.new.input) (stands c.args.input.now) (stands c.parse_next.new.input) c.in_ok-turn.turn flag c.in_ok-turn.ensures.means
    (g.L.AfterTurn.errors c.args.list.now)
    (OnceErrors stands stood g.E.ParserError.or_gives g.E.ParserError.append_gives turns (g.T.Parser.errors c.args.turns.now))
    c.finish.new.input c.in-Err.failure c.in-Err.ensures.error

pub returns-in-Err-clause-kept : goal.returns-in-Err-clause-kept
returns-in-Err-clause-kept g c =
    g.met.I.Stream.keeps_transitive c.args.input.now c.parse_next.new.input c.finish.new.input c.in_ok-turn.ensures.kept c.in-Err.ensures.kept
