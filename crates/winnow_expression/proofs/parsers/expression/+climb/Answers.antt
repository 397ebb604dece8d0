use Rattle.std.proofs.Common.{◌≡◌, ◌<◌, ◌≤◌, ◌-◌, ℤ, [], ◌∷◌, ◌++◌, Option, None, refl, sym, ◌∙◌, subst, inl, arith, rules, w64, FitsSigned, to_z, of_z}
use Rattle.std.proofs.lemmas.Bool.{false≢true}
use Rattle.std.proofs.lemmas.Int.{to_z-of_z}
use Rattle.std.proofs.lemmas.Result.{err_from_is_err_and}
use Rattle.winnow_stream.specs.Source.{width}
use Rattle.winnow_parser.specs.Outcome.{Moves, Gives, Fails}
use Rattle.winnow_parser.specs.Answer.{ahead, failed, outcome}
use Rattle.winnow_parser.specs.Parts.{Moves-on}
use Rattle.winnow_parser.proofs.lemmas.TakenLemmas.{same-place}
use Rattle.winnow_expression.specs.Levels.{Admits, MayFollow}
use Rattle.winnow_expression.specs.Found.{Absent}
use Rattle.winnow_expression.specs.Turns.{IsFollowed, IsTurn}
use Rattle.winnow_expression.specs.Expression.{IsNext, IsExpression}
use Rattle.winnow_expression.specs.declared.level.Level.TheVariants.{AtLeast}
use Rattle.winnow_expression.specs.declared.turn.Turn.TheVariants.{Ended, Went}
use Rattle.winnow_expression.proofs.lemmas.LayerLemmas.{expression-goes, InTurns-more, operand-prefixed, prefixed-goes, prefixed-fails}
use Rattle.winnow_expression.proofs.lemmas.TurnLemmas.{joins-unfit, joins-side, joins-fails, joins-gives, turns-unfit, turns-fails, turns-gives, turns-absent, advancing-fails, advancing-stays}
use Rattle.winnow_expression.proofs.parsers.expression.+climb.Goals as goal

pub climb-returns-in-Ok-Ended-clause-means : goal.climb-returns-in-Ok-Ended-clause-means
climb-returns-in-Ok-Ended-clause-means g t c =
    let stands = ahead g.I.Rest.location g.I.Stream.remaining in
    let parser = c.args.parser.now in
    let here = stands c.args.input.now in
    let partial = g.I.StreamIsPartial.expects_more c.args.input.now in
    let next = IsNext (g.P.Parser.means parser.operand) (g.A.UnaryOperators.reads parser.prefixes) (g.A.UnaryOperators.folds parser.prefixes) (g.B.UnaryOperators.reads parser.postfixes) (g.B.UnaryOperators.folds parser.postfixes) (g.C.InfixOperators.reads parser.infixes) (g.C.InfixOperators.folds parser.infixes) (IsExpression (g.P.Parser.means parser.operand) (g.A.UnaryOperators.reads parser.prefixes) (g.A.UnaryOperators.folds parser.prefixes) (g.B.UnaryOperators.reads parser.postfixes) (g.B.UnaryOperators.folds parser.postfixes) (g.C.InfixOperators.reads parser.infixes) (g.C.InfixOperators.folds parser.infixes) (c.args.depth - 1)) c.args.level in
    let between = stands c.loop-value.input in
    let flag = g.met.I.StreamIsPartial.keeps_flag c.args.input.now c.loop-value.input c.loop-value.invariant.kept in
    let deep : 0 < c.args.depth = omega (arith, c.if-depth-eq0.false) in
    let turns = c.loop-value.invariant.turns in
    let state : g.row.P-Output.Denot × Option ℤ = (c.loop-value.value, c.loop-value.alone) in
    let last = Gives (Ended c.in-Ok-Ended.value) (stands c.next.new.input) in
    let end = subst (λ more. next c.loop-value.value c.loop-value.alone more between last) flag (rw c.in-Ok-Ended.field-0-is at c.in-Ok-Ended.ensures.means) in
    expression-goes (g.P.Parser.means parser.operand) (g.A.UnaryOperators.reads parser.prefixes) (g.A.UnaryOperators.folds parser.prefixes) (g.B.UnaryOperators.reads parser.postfixes) (g.B.UnaryOperators.folds parser.postfixes) (g.C.InfixOperators.reads parser.infixes) (g.C.InfixOperators.folds parser.infixes) c.args.depth c.args.level partial c.in_ok-value.value turns.0 state here (stands c.first.new.input) between (Gives c.in-Ok-Ended.value (stands c.next.new.input)) deep c.in_ok-value.ensures.means turns.1 end

pub climb-returns-in-Err-clause-means : goal.climb-returns-in-Err-clause-means
climb-returns-in-Err-clause-means g t c =
    let stands = ahead g.I.Rest.location g.I.Stream.remaining in
    let parser = c.args.parser.now in
    let here = stands c.args.input.now in
    let partial = g.I.StreamIsPartial.expects_more c.args.input.now in
    let next = IsNext (g.P.Parser.means parser.operand) (g.A.UnaryOperators.reads parser.prefixes) (g.A.UnaryOperators.folds parser.prefixes) (g.B.UnaryOperators.reads parser.postfixes) (g.B.UnaryOperators.folds parser.postfixes) (g.C.InfixOperators.reads parser.infixes) (g.C.InfixOperators.folds parser.infixes) (IsExpression (g.P.Parser.means parser.operand) (g.A.UnaryOperators.reads parser.prefixes) (g.A.UnaryOperators.folds parser.prefixes) (g.B.UnaryOperators.reads parser.postfixes) (g.B.UnaryOperators.folds parser.postfixes) (g.C.InfixOperators.reads parser.infixes) (g.C.InfixOperators.folds parser.infixes) (c.args.depth - 1)) c.args.level in
    let between = stands c.loop-value.input in
    let flag = g.met.I.StreamIsPartial.keeps_flag c.args.input.now c.loop-value.input c.loop-value.invariant.kept in
    let deep : 0 < c.args.depth = omega (arith, c.if-depth-eq0.false) in
    let turns = c.loop-value.invariant.turns in
    let state : g.row.P-Output.Denot × Option ℤ = (c.loop-value.value, c.loop-value.alone) in
    let failure = failed c.in-Err.failure (stands c.next.new.input) in
    let end = subst (λ more. next c.loop-value.value c.loop-value.alone more between (Fails failure)) flag c.in-Err.ensures.means in
    expression-goes (g.P.Parser.means parser.operand) (g.A.UnaryOperators.reads parser.prefixes) (g.A.UnaryOperators.folds parser.prefixes) (g.B.UnaryOperators.reads parser.postfixes) (g.B.UnaryOperators.folds parser.postfixes) (g.C.InfixOperators.reads parser.infixes) (g.C.InfixOperators.folds parser.infixes) c.args.depth c.args.level partial c.in_ok-value.value turns.0 state here (stands c.first.new.input) between (Fails failure) deep c.in_ok-value.ensures.means turns.1 end

pub climb-loop-value-preserved : goal.climb-loop-value-preserved
climb-loop-value-preserved g t c =
    let stands = ahead g.I.Rest.location g.I.Stream.remaining in
    let parser = c.args.parser.now in
    let here = stands c.args.input.now in
    let partial = g.I.StreamIsPartial.expects_more c.args.input.now in
    let next = IsNext (g.P.Parser.means parser.operand) (g.A.UnaryOperators.reads parser.prefixes) (g.A.UnaryOperators.folds parser.prefixes) (g.B.UnaryOperators.reads parser.postfixes) (g.B.UnaryOperators.folds parser.postfixes) (g.C.InfixOperators.reads parser.infixes) (g.C.InfixOperators.folds parser.infixes) (IsExpression (g.P.Parser.means parser.operand) (g.A.UnaryOperators.reads parser.prefixes) (g.A.UnaryOperators.folds parser.prefixes) (g.B.UnaryOperators.reads parser.postfixes) (g.B.UnaryOperators.folds parser.postfixes) (g.C.InfixOperators.reads parser.infixes) (g.C.InfixOperators.folds parser.infixes) (c.args.depth - 1)) c.args.level in
    let between = stands c.loop-value.input in
    let flag = g.met.I.StreamIsPartial.keeps_flag c.args.input.now c.loop-value.input c.loop-value.invariant.kept in
    let turns = c.loop-value.invariant.turns in
    let state : g.row.P-Output.Denot × Option ℤ = (c.loop-value.value, c.loop-value.alone) in
    let went = Gives (Went c.in-Ok-Went.new c.in-Ok-Went.power) (stands c.next.new.input) in
    let one = subst (λ more. next c.loop-value.value c.loop-value.alone more between went) flag (rw c.in-Ok-Went.field-0-is at c.in-Ok-Went.ensures.means) in
    let new : g.row.P-Output.Denot × Option ℤ = (c.in-Ok-Went.new, c.in-Ok-Went.power) in
    record {
      valid = c.in-Ok-Went.ensures.valid;
      kept = g.met.I.Stream.keeps_transitive c.args.input.now c.loop-value.input c.next.new.input c.loop-value.invariant.kept c.in-Ok-Went.ensures.kept;
      onward = Moves-on here between (stands c.next.new.input) c.loop-value.invariant.onward c.in-Ok-Went.ensures.onward;
      turns = (turns.0 ++ new ∷ [], InTurns-more next partial turns.0 (c.in_ok-value.value, None) state new (stands c.first.new.input) between (stands c.next.new.input) turns.1 one);
    }

pub first-returns-in_err-power-in-Err-Backtrack-clause-means : goal.first-returns-in_err-power-in-Err-Backtrack-clause-means
first-returns-in_err-power-in-Err-Backtrack-clause-means g t c =
    let stands = ahead g.I.Rest.location g.I.Stream.remaining in
    let parser = c.args.parser.now in
    let here = stands c.args.input.now in
    let partial = g.I.StreamIsPartial.expects_more c.args.input.now in
    let back = stands c.reset.new.self in
    let same : here ≡ back = same-place here back (sym (c.reset.ensures.location ∙ c.checkpoint-start.ensures.location)) (sym (c.reset.ensures.remains ∙ c.checkpoint-start.ensures.means)) in
    let kept = g.met.I.Stream.keeps_transitive c.args.input.now c.parse_next.new.input c.reset.new.self c.in-Err-Backtrack.ensures.kept c.reset.ensures.kept in
    let flag = g.met.I.StreamIsPartial.keeps_flag c.args.input.now c.reset.new.self kept in
    let side = IsExpression (g.P.Parser.means parser.operand) (g.A.UnaryOperators.reads parser.prefixes) (g.A.UnaryOperators.folds parser.prefixes) (g.B.UnaryOperators.reads parser.postfixes) (g.B.UnaryOperators.folds parser.postfixes) (g.C.InfixOperators.reads parser.infixes) (g.C.InfixOperators.folds parser.infixes) c.args.depth in
    let stopped = stands c.parse_next.new.input in
    let backtracks = rw c.in-Err-Backtrack.field-0-is at c.in-Err-Backtrack.ensures.means in
    let handed = err_from_is_err_and c.from_residual.result c.from_residual.ensures.1 in
    let failure = failed c.in_err-power-in-Err-Backtrack.field-0.0 (stands c.read_operator.new.input) in
    let sign = subst (λ more. g.A.UnaryOperators.reads parser.prefixes more back (Fails failure)) flag c.in_err-power-in-Err-Backtrack.ensures.means in
    rw (handed.1, handed.2) (operand-prefixed (g.P.Parser.means parser.operand) (g.A.UnaryOperators.reads parser.prefixes) (g.A.UnaryOperators.folds parser.prefixes) (g.B.UnaryOperators.reads parser.postfixes) (g.B.UnaryOperators.folds parser.postfixes) (g.C.InfixOperators.reads parser.infixes) (g.C.InfixOperators.folds parser.infixes) side partial here back stopped (Fails failure) same backtracks (inl sign))

pub first-returns-in_err-operand-in-Err-Backtrack-clause-means : goal.first-returns-in_err-operand-in-Err-Backtrack-clause-means
first-returns-in_err-operand-in-Err-Backtrack-clause-means g t c =
    let stands = ahead g.I.Rest.location g.I.Stream.remaining in
    let parser = c.args.parser.now in
    let here = stands c.args.input.now in
    let partial = g.I.StreamIsPartial.expects_more c.args.input.now in
    let back = stands c.reset.new.self in
    let same : here ≡ back = same-place here back (sym (c.reset.ensures.location ∙ c.checkpoint-start.ensures.location)) (sym (c.reset.ensures.remains ∙ c.checkpoint-start.ensures.means)) in
    let kept = g.met.I.Stream.keeps_transitive c.args.input.now c.parse_next.new.input c.reset.new.self c.in-Err-Backtrack.ensures.kept c.reset.ensures.kept in
    let flag = g.met.I.StreamIsPartial.keeps_flag c.args.input.now c.reset.new.self kept in
    let side = IsExpression (g.P.Parser.means parser.operand) (g.A.UnaryOperators.reads parser.prefixes) (g.A.UnaryOperators.folds parser.prefixes) (g.B.UnaryOperators.reads parser.postfixes) (g.B.UnaryOperators.folds parser.postfixes) (g.C.InfixOperators.reads parser.infixes) (g.C.InfixOperators.folds parser.infixes) c.args.depth in
    let stopped = stands c.parse_next.new.input in
    let backtracks = rw c.in-Err-Backtrack.field-0-is at c.in-Err-Backtrack.ensures.means in
    let after = stands c.read_operator.new.input in
    let both : ℤ × g.row.A-Operator.Denot = (c.in_ok-power-in-Err-Backtrack.power, c.in_ok-power-in-Err-Backtrack.operator) in
    let sign = subst (λ more. g.A.UnaryOperators.reads parser.prefixes more back (Gives both after)) flag c.in_ok-power-in-Err-Backtrack.ensures.means in
    let kept_sign = g.met.I.Stream.keeps_transitive c.args.input.now c.reset.new.self c.read_operator.new.input kept c.in_ok-power-in-Err-Backtrack.ensures.kept in
    let flag_sign = g.met.I.StreamIsPartial.keeps_flag c.args.input.now c.read_operator.new.input kept_sign in
    let in_range : FitsSigned w64 c.in_ok-power-in-Err-Backtrack.power = search rules in
    let passed : to_z w64 (of_z w64 c.in_ok-power-in-Err-Backtrack.power) ≡ c.in_ok-power-in-Err-Backtrack.power = to_z-of_z w64 c.in_ok-power-in-Err-Backtrack.power in_range in
    let residual = c.from_residual-in_err-operand-in-Err-Backtrack in
    let handed = err_from_is_err_and residual.result residual.ensures.1 in
    let failure = failed c.in_err-operand-in-Err-Backtrack.field-0.0 (stands c.climb.new.input) in
    let operand = subst (λ power. side (AtLeast power) partial after (Fails failure)) passed (subst (λ more. side (AtLeast (to_z w64 (of_z w64 c.in_ok-power-in-Err-Backtrack.power))) more after (Fails failure)) flag_sign c.in_err-operand-in-Err-Backtrack.ensures.means) in
    rw (handed.1, handed.2) (operand-prefixed (g.P.Parser.means parser.operand) (g.A.UnaryOperators.reads parser.prefixes) (g.A.UnaryOperators.folds parser.prefixes) (g.B.UnaryOperators.reads parser.postfixes) (g.B.UnaryOperators.folds parser.postfixes) (g.C.InfixOperators.reads parser.infixes) (g.C.InfixOperators.folds parser.infixes) side partial here back stopped (Fails failure) same backtracks (prefixed-fails (g.P.Parser.means parser.operand) (g.A.UnaryOperators.reads parser.prefixes) (g.A.UnaryOperators.folds parser.prefixes) (g.B.UnaryOperators.reads parser.postfixes) (g.B.UnaryOperators.folds parser.postfixes) (g.C.InfixOperators.reads parser.infixes) (g.C.InfixOperators.folds parser.infixes) side partial back after both failure sign operand))

pub first-returns-in-Err-Backtrack-clause-means : goal.first-returns-in-Err-Backtrack-clause-means
first-returns-in-Err-Backtrack-clause-means g t c =
    let stands = ahead g.I.Rest.location g.I.Stream.remaining in
    let parser = c.args.parser.now in
    let here = stands c.args.input.now in
    let partial = g.I.StreamIsPartial.expects_more c.args.input.now in
    let back = stands c.reset.new.self in
    let same : here ≡ back = same-place here back (sym (c.reset.ensures.location ∙ c.checkpoint-start.ensures.location)) (sym (c.reset.ensures.remains ∙ c.checkpoint-start.ensures.means)) in
    let kept = g.met.I.Stream.keeps_transitive c.args.input.now c.parse_next.new.input c.reset.new.self c.in-Err-Backtrack.ensures.kept c.reset.ensures.kept in
    let flag = g.met.I.StreamIsPartial.keeps_flag c.args.input.now c.reset.new.self kept in
    let side = IsExpression (g.P.Parser.means parser.operand) (g.A.UnaryOperators.reads parser.prefixes) (g.A.UnaryOperators.folds parser.prefixes) (g.B.UnaryOperators.reads parser.postfixes) (g.B.UnaryOperators.folds parser.postfixes) (g.C.InfixOperators.reads parser.infixes) (g.C.InfixOperators.folds parser.infixes) c.args.depth in
    let stopped = stands c.parse_next.new.input in
    let backtracks = rw c.in-Err-Backtrack.field-0-is at c.in-Err-Backtrack.ensures.means in
    let after = stands c.read_operator.new.input in
    let both : ℤ × g.row.A-Operator.Denot = (c.in_ok-power-in-Err-Backtrack.power, c.in_ok-power-in-Err-Backtrack.operator) in
    let sign = subst (λ more. g.A.UnaryOperators.reads parser.prefixes more back (Gives both after)) flag c.in_ok-power-in-Err-Backtrack.ensures.means in
    let kept_sign = g.met.I.Stream.keeps_transitive c.args.input.now c.reset.new.self c.read_operator.new.input kept c.in_ok-power-in-Err-Backtrack.ensures.kept in
    let flag_sign = g.met.I.StreamIsPartial.keeps_flag c.args.input.now c.read_operator.new.input kept_sign in
    let in_range : FitsSigned w64 c.in_ok-power-in-Err-Backtrack.power = search rules in
    let passed : to_z w64 (of_z w64 c.in_ok-power-in-Err-Backtrack.power) ≡ c.in_ok-power-in-Err-Backtrack.power = to_z-of_z w64 c.in_ok-power-in-Err-Backtrack.power in_range in
    let beyond = stands c.climb.new.input in
    let operand = subst (λ power. side (AtLeast power) partial after (Gives c.in_ok-operand-in-Err-Backtrack.operand beyond)) passed (subst (λ more. side (AtLeast (to_z w64 (of_z w64 c.in_ok-power-in-Err-Backtrack.power))) more after (Gives c.in_ok-operand-in-Err-Backtrack.operand beyond)) flag_sign c.in_ok-operand-in-Err-Backtrack.ensures.means) in
    let kept_operand = g.met.I.Stream.keeps_transitive c.args.input.now c.read_operator.new.input c.climb.new.input kept_sign c.in_ok-operand-in-Err-Backtrack.ensures.kept in
    let flag_operand = g.met.I.StreamIsPartial.keeps_flag c.args.input.now c.climb.new.input kept_operand in
    let answer = outcome c.apply.result (stands c.apply.new.input) in
    let applied = subst (λ more. g.A.UnaryOperators.folds parser.prefixes c.in_ok-power-in-Err-Backtrack.operator c.in_ok-operand-in-Err-Backtrack.operand more beyond answer) flag_operand c.apply.ensures.means in
    operand-prefixed (g.P.Parser.means parser.operand) (g.A.UnaryOperators.reads parser.prefixes) (g.A.UnaryOperators.folds parser.prefixes) (g.B.UnaryOperators.reads parser.postfixes) (g.B.UnaryOperators.folds parser.postfixes) (g.C.InfixOperators.reads parser.infixes) (g.C.InfixOperators.folds parser.infixes) side partial here back stopped answer same backtracks (prefixed-goes (g.P.Parser.means parser.operand) (g.A.UnaryOperators.reads parser.prefixes) (g.A.UnaryOperators.folds parser.prefixes) (g.B.UnaryOperators.reads parser.postfixes) (g.B.UnaryOperators.folds parser.postfixes) (g.C.InfixOperators.reads parser.infixes) (g.C.InfixOperators.folds parser.infixes) side partial back after beyond both c.in_ok-operand-in-Err-Backtrack.operand answer sign operand applied)

pub first-returns-in-Err-Backtrack-clause-onward : goal.first-returns-in-Err-Backtrack-clause-onward
first-returns-in-Err-Backtrack-clause-onward g t c =
    let stands = ahead g.I.Rest.location g.I.Stream.remaining in
    let here = stands c.args.input.now in
    let back = stands c.reset.new.self in
    let same : here ≡ back = same-place here back (sym (c.reset.ensures.location ∙ c.checkpoint-start.ensures.location)) (sym (c.reset.ensures.remains ∙ c.checkpoint-start.ensures.means)) in
    let after = stands c.read_operator.new.input in
    let beyond = stands c.climb.new.input in
    let end = stands c.apply.new.input in
    subst (λ place. Moves place end) (sym same)
    (Moves-on back after end c.in_ok-power-in-Err-Backtrack.ensures.onward (Moves-on after beyond end c.in_ok-operand-in-Err-Backtrack.ensures.onward c.apply.ensures.onward))

pub join-returns-then-not-admits_after-clause-means : goal.join-returns-then-not-admits_after-clause-means
join-returns-then-not-admits_after-clause-means g t c =
    let stands = ahead g.I.Rest.location g.I.Stream.remaining in
    let parser = c.args.parser.now in
    let here = stands c.args.input.now in
    let partial = g.I.StreamIsPartial.expects_more c.args.input.now in
    let side = IsExpression (g.P.Parser.means parser.operand) (g.A.UnaryOperators.reads parser.prefixes) (g.A.UnaryOperators.folds parser.prefixes) (g.B.UnaryOperators.reads parser.postfixes) (g.B.UnaryOperators.folds parser.postfixes) (g.C.InfixOperators.reads parser.infixes) (g.C.InfixOperators.folds parser.infixes) c.args.side.depth in
    let sign = c.in-Ok.sign in
    let after = stands c.read_operator.new.input in
    let in_range : FitsSigned w64 c.parts-found.result.power = search rules in
    let passed : to_z w64 (of_z w64 c.parts-found.result.power) ≡ c.parts-found.result.power = to_z-of_z w64 c.parts-found.result.power in_range in
    let back = stands c.reset.new.self in
    let same : here ≡ back = same-place here back (sym (c.reset.ensures.location ∙ c.checkpoint-start.ensures.location)) (sym (c.reset.ensures.remains ∙ c.checkpoint-start.ensures.means)) in
    let unfit : ¬ (MayFollow c.args.side.level c.args.side.alone c.parts-found.result.power) = λ fits. absurd (false≢true (c.if-not-admits_after.ensures.1 (subst (MayFollow c.args.side.level c.args.side.alone) (sym passed) fits))) in
    joins-unfit (g.B.UnaryOperators.reads parser.postfixes) (g.B.UnaryOperators.folds parser.postfixes) (g.C.InfixOperators.reads parser.infixes) (g.C.InfixOperators.folds parser.infixes) side c.args.side.level c.args.value c.args.side.alone partial here back after sign c.parts-found.result.power same c.parts-found.ensures.power unfit c.in-Ok.ensures.means

pub join-returns-in_err-right-in-Ok-clause-means : goal.join-returns-in_err-right-in-Ok-clause-means
join-returns-in_err-right-in-Ok-clause-means g t c =
    let stands = ahead g.I.Rest.location g.I.Stream.remaining in
    let parser = c.args.parser.now in
    let here = stands c.args.input.now in
    let partial = g.I.StreamIsPartial.expects_more c.args.input.now in
    let side = IsExpression (g.P.Parser.means parser.operand) (g.A.UnaryOperators.reads parser.prefixes) (g.A.UnaryOperators.folds parser.prefixes) (g.B.UnaryOperators.reads parser.postfixes) (g.B.UnaryOperators.folds parser.postfixes) (g.C.InfixOperators.reads parser.infixes) (g.C.InfixOperators.folds parser.infixes) c.args.side.depth in
    let sign = c.in-Ok.sign in
    let after = stands c.read_operator.new.input in
    let in_range : FitsSigned w64 c.parts-found.result.power = search rules in
    let passed : to_z w64 (of_z w64 c.parts-found.result.power) ≡ c.parts-found.result.power = to_z-of_z w64 c.parts-found.result.power in_range in
    let found = c.parts-found.result in
    let fits = subst (MayFollow c.args.side.level c.args.side.alone) passed (c.if-not-admits_after.ensures.0 refl) in
    let flag = g.met.I.StreamIsPartial.keeps_flag c.args.input.now c.read_operator.new.input c.in-Ok.ensures.kept in
    let handed = err_from_is_err_and c.from_residual.result c.from_residual.ensures.1 in
    let failure = failed c.in_err-right-in-Ok.field-0.0 (stands c.climb.new.input) in
    let right = subst (λ more. side found.right more after (Fails failure)) flag c.in_err-right-in-Ok.ensures.means in
    rw (handed.1, handed.2) (joins-side (g.B.UnaryOperators.reads parser.postfixes) (g.B.UnaryOperators.folds parser.postfixes) (g.C.InfixOperators.reads parser.infixes) (g.C.InfixOperators.folds parser.infixes) side c.args.side.level c.args.value c.args.side.alone partial here after sign found failure c.parts-found.ensures.power c.parts-found.ensures.right fits c.in-Ok.ensures.means right)

pub join-returns-in_err-value-in-Ok-clause-means : goal.join-returns-in_err-value-in-Ok-clause-means
join-returns-in_err-value-in-Ok-clause-means g t c =
    let stands = ahead g.I.Rest.location g.I.Stream.remaining in
    let parser = c.args.parser.now in
    let here = stands c.args.input.now in
    let partial = g.I.StreamIsPartial.expects_more c.args.input.now in
    let side = IsExpression (g.P.Parser.means parser.operand) (g.A.UnaryOperators.reads parser.prefixes) (g.A.UnaryOperators.folds parser.prefixes) (g.B.UnaryOperators.reads parser.postfixes) (g.B.UnaryOperators.folds parser.postfixes) (g.C.InfixOperators.reads parser.infixes) (g.C.InfixOperators.folds parser.infixes) c.args.side.depth in
    let sign = c.in-Ok.sign in
    let after = stands c.read_operator.new.input in
    let in_range : FitsSigned w64 c.parts-found.result.power = search rules in
    let passed : to_z w64 (of_z w64 c.parts-found.result.power) ≡ c.parts-found.result.power = to_z-of_z w64 c.parts-found.result.power in_range in
    let found = c.parts-found.result in
    let fits = subst (MayFollow c.args.side.level c.args.side.alone) passed (c.if-not-admits_after.ensures.0 refl) in
    let flag = g.met.I.StreamIsPartial.keeps_flag c.args.input.now c.read_operator.new.input c.in-Ok.ensures.kept in
    let beyond = stands c.climb.new.input in
    let right = subst (λ more. side found.right more after (Gives c.in_ok-right-in-Ok.right beyond)) flag c.in_ok-right-in-Ok.ensures.means in
    let kept = g.met.I.Stream.keeps_transitive c.args.input.now c.read_operator.new.input c.climb.new.input c.in-Ok.ensures.kept c.in_ok-right-in-Ok.ensures.kept in
    let flag_right = g.met.I.StreamIsPartial.keeps_flag c.args.input.now c.climb.new.input kept in
    let residual = c.from_residual-in_err-value-in-Ok in
    let handed = err_from_is_err_and residual.result residual.ensures.1 in
    let failure = failed c.in_err-value-in-Ok.field-0.0 (stands c.apply.new.input) in
    let applied = subst (λ more. g.C.InfixOperators.folds parser.infixes c.args.value found.operator c.in_ok-right-in-Ok.right more beyond (Fails failure)) flag_right c.in_err-value-in-Ok.ensures.means in
    rw (handed.1, handed.2) (joins-fails (g.B.UnaryOperators.reads parser.postfixes) (g.B.UnaryOperators.folds parser.postfixes) (g.C.InfixOperators.reads parser.infixes) (g.C.InfixOperators.folds parser.infixes) side c.args.side.level c.args.value c.args.side.alone partial here after beyond sign found c.in_ok-right-in-Ok.right failure c.parts-found.ensures.power c.parts-found.ensures.right c.parts-found.ensures.operator fits c.in-Ok.ensures.means right applied)

pub join-returns-in_ok-value-in-Ok-clause-means : goal.join-returns-in_ok-value-in-Ok-clause-means
join-returns-in_ok-value-in-Ok-clause-means g t c =
    let stands = ahead g.I.Rest.location g.I.Stream.remaining in
    let parser = c.args.parser.now in
    let here = stands c.args.input.now in
    let partial = g.I.StreamIsPartial.expects_more c.args.input.now in
    let side = IsExpression (g.P.Parser.means parser.operand) (g.A.UnaryOperators.reads parser.prefixes) (g.A.UnaryOperators.folds parser.prefixes) (g.B.UnaryOperators.reads parser.postfixes) (g.B.UnaryOperators.folds parser.postfixes) (g.C.InfixOperators.reads parser.infixes) (g.C.InfixOperators.folds parser.infixes) c.args.side.depth in
    let sign = c.in-Ok.sign in
    let after = stands c.read_operator.new.input in
    let in_range : FitsSigned w64 c.parts-found.result.power = search rules in
    let passed : to_z w64 (of_z w64 c.parts-found.result.power) ≡ c.parts-found.result.power = to_z-of_z w64 c.parts-found.result.power in_range in
    let found = c.parts-found.result in
    let fits = subst (MayFollow c.args.side.level c.args.side.alone) passed (c.if-not-admits_after.ensures.0 refl) in
    let flag = g.met.I.StreamIsPartial.keeps_flag c.args.input.now c.read_operator.new.input c.in-Ok.ensures.kept in
    let beyond = stands c.climb.new.input in
    let right = subst (λ more. side found.right more after (Gives c.in_ok-right-in-Ok.right beyond)) flag c.in_ok-right-in-Ok.ensures.means in
    let kept = g.met.I.Stream.keeps_transitive c.args.input.now c.read_operator.new.input c.climb.new.input c.in-Ok.ensures.kept c.in_ok-right-in-Ok.ensures.kept in
    let flag_right = g.met.I.StreamIsPartial.keeps_flag c.args.input.now c.climb.new.input kept in
    let end = stands c.apply.new.input in
    let applied = subst (λ more. g.C.InfixOperators.folds parser.infixes c.args.value found.operator c.in_ok-right-in-Ok.right more beyond (Gives c.in_ok-value-in-Ok.value end)) flag_right c.in_ok-value-in-Ok.ensures.means in
    joins-gives (g.B.UnaryOperators.reads parser.postfixes) (g.B.UnaryOperators.folds parser.postfixes) (g.C.InfixOperators.reads parser.infixes) (g.C.InfixOperators.folds parser.infixes) side c.args.side.level c.args.value c.args.side.alone partial here after beyond end sign found c.in_ok-right-in-Ok.right c.in_ok-value-in-Ok.value c.parts-found.ensures.power c.parts-found.ensures.right c.parts-found.ensures.alone c.parts-found.ensures.operator fits c.in-Ok.ensures.means right applied

pub join-returns-in_err-value-in-Ok-clause-onward : goal.join-returns-in_err-value-in-Ok-clause-onward
join-returns-in_err-value-in-Ok-clause-onward g t c =
    let stands = ahead g.I.Rest.location g.I.Stream.remaining in
    let here = stands c.args.input.now in
    let after = stands c.read_operator.new.input in
    let beyond = stands c.climb.new.input in
    let end = stands c.apply.new.input in
    Moves-on here after end c.in-Ok.ensures.onward (Moves-on after beyond end c.in_ok-right-in-Ok.ensures.onward c.in_err-value-in-Ok.ensures.onward)

pub join-returns-in_ok-value-in-Ok-clause-onward : goal.join-returns-in_ok-value-in-Ok-clause-onward
join-returns-in_ok-value-in-Ok-clause-onward g t c =
    let stands = ahead g.I.Rest.location g.I.Stream.remaining in
    let here = stands c.args.input.now in
    let after = stands c.read_operator.new.input in
    let beyond = stands c.climb.new.input in
    let end = stands c.apply.new.input in
    Moves-on here after end c.in-Ok.ensures.onward (Moves-on after beyond end c.in_ok-right-in-Ok.ensures.onward c.in_ok-value-in-Ok.ensures.onward)

pub next-returns-else-eof_offset-before-clause-means : goal.next-returns-else-eof_offset-before-clause-means
next-returns-else-eof_offset-before-clause-means g t c =
    let stands = ahead g.I.Rest.location g.I.Stream.remaining in
    let parser = c.args.parser.now in
    let here = stands c.args.input.now in
    let partial = g.I.StreamIsPartial.expects_more c.args.input.now in
    let turn = IsTurn (g.B.UnaryOperators.reads parser.postfixes) (g.B.UnaryOperators.folds parser.postfixes) (g.C.InfixOperators.reads parser.infixes) (g.C.InfixOperators.folds parser.infixes) (IsExpression (g.P.Parser.means parser.operand) (g.A.UnaryOperators.reads parser.prefixes) (g.A.UnaryOperators.folds parser.prefixes) (g.B.UnaryOperators.reads parser.postfixes) (g.B.UnaryOperators.folds parser.postfixes) (g.C.InfixOperators.reads parser.infixes) (g.C.InfixOperators.folds parser.infixes) c.args.side.depth) c.args.side.level c.args.value c.args.side.alone in
    let after = stands c.turn.new.input in
    let went = rw c.in-Ok-Went.field-0-is at c.in-Ok-Went.ensures.means in
    let stays : width here.tokens ≤ width after.tokens = omega (arith, c.if-eof_offset-before.false, c.eof_offset-before.ensures, c.eof_offset.ensures) in
    advancing-stays turn partial here after c.in-Ok-Went.value c.in-Ok-Went.alone went stays

pub next-returns-in-Ok-Ended-clause-means : goal.next-returns-in-Ok-Ended-clause-means
next-returns-in-Ok-Ended-clause-means g t c =
    rw c.in-Ok-Ended.field-0-is at c.in-Ok-Ended.ensures.means

pub next-returns-in-Err-clause-means : goal.next-returns-in-Err-clause-means
next-returns-in-Err-clause-means g t c =
    let stands = ahead g.I.Rest.location g.I.Stream.remaining in
    let parser = c.args.parser.now in
    let here = stands c.args.input.now in
    let partial = g.I.StreamIsPartial.expects_more c.args.input.now in
    let turn = IsTurn (g.B.UnaryOperators.reads parser.postfixes) (g.B.UnaryOperators.folds parser.postfixes) (g.C.InfixOperators.reads parser.infixes) (g.C.InfixOperators.folds parser.infixes) (IsExpression (g.P.Parser.means parser.operand) (g.A.UnaryOperators.reads parser.prefixes) (g.A.UnaryOperators.folds parser.prefixes) (g.B.UnaryOperators.reads parser.postfixes) (g.B.UnaryOperators.folds parser.postfixes) (g.C.InfixOperators.reads parser.infixes) (g.C.InfixOperators.folds parser.infixes) c.args.side.depth) c.args.side.level c.args.value c.args.side.alone in
    let after = stands c.turn.new.input in
    advancing-fails turn partial here (failed c.in-Err.failure after) c.in-Err.ensures.means

pub turn-returns-then-not-admits-clause-means : goal.turn-returns-then-not-admits-clause-means
turn-returns-then-not-admits-clause-means g t c =
    let stands = ahead g.I.Rest.location g.I.Stream.remaining in
    let parser = c.args.parser.now in
    let here = stands c.args.input.now in
    let partial = g.I.StreamIsPartial.expects_more c.args.input.now in
    let side = IsExpression (g.P.Parser.means parser.operand) (g.A.UnaryOperators.reads parser.prefixes) (g.A.UnaryOperators.folds parser.prefixes) (g.B.UnaryOperators.reads parser.postfixes) (g.B.UnaryOperators.folds parser.postfixes) (g.C.InfixOperators.reads parser.infixes) (g.C.InfixOperators.folds parser.infixes) c.args.side.depth in
    let after = stands c.read_operator.new.input in
    let in_range : FitsSigned w64 c.in-Ok.power = search rules in
    let passed : to_z w64 (of_z w64 c.in-Ok.power) ≡ c.in-Ok.power = to_z-of_z w64 c.in-Ok.power in_range in
    let back = stands c.reset.new.self in
    let same : here ≡ back = same-place here back (sym (c.reset.ensures.location ∙ c.checkpoint-start.ensures.location)) (sym (c.reset.ensures.remains ∙ c.checkpoint-start.ensures.means)) in
    let unfit : ¬ (Admits c.args.side.level c.in-Ok.power) = λ fits. absurd (false≢true (c.if-not-admits.ensures.1 (subst (Admits c.args.side.level) (sym passed) fits))) in
    turns-unfit (g.B.UnaryOperators.reads parser.postfixes) (g.B.UnaryOperators.folds parser.postfixes) (g.C.InfixOperators.reads parser.infixes) (g.C.InfixOperators.folds parser.infixes) side c.args.side.level c.args.value c.args.side.alone partial here back after (c.in-Ok.power, c.in-Ok.operator) same unfit c.in-Ok.ensures.means

pub turn-returns-in_err-value-in-Ok-clause-means : goal.turn-returns-in_err-value-in-Ok-clause-means
turn-returns-in_err-value-in-Ok-clause-means g t c =
    let stands = ahead g.I.Rest.location g.I.Stream.remaining in
    let parser = c.args.parser.now in
    let here = stands c.args.input.now in
    let partial = g.I.StreamIsPartial.expects_more c.args.input.now in
    let side = IsExpression (g.P.Parser.means parser.operand) (g.A.UnaryOperators.reads parser.prefixes) (g.A.UnaryOperators.folds parser.prefixes) (g.B.UnaryOperators.reads parser.postfixes) (g.B.UnaryOperators.folds parser.postfixes) (g.C.InfixOperators.reads parser.infixes) (g.C.InfixOperators.folds parser.infixes) c.args.side.depth in
    let after = stands c.read_operator.new.input in
    let in_range : FitsSigned w64 c.in-Ok.power = search rules in
    let passed : to_z w64 (of_z w64 c.in-Ok.power) ≡ c.in-Ok.power = to_z-of_z w64 c.in-Ok.power in_range in
    let both : ℤ × g.row.B-Operator.Denot = (c.in-Ok.power, c.in-Ok.operator) in
    let fits = subst (Admits c.args.side.level) passed (c.if-not-admits.ensures.0 refl) in
    let flag = g.met.I.StreamIsPartial.keeps_flag c.args.input.now c.read_operator.new.input c.in-Ok.ensures.kept in
    let handed = err_from_is_err_and c.from_residual.result c.from_residual.ensures.1 in
    let failure = failed c.in_err-value-in-Ok.field-0.0 (stands c.apply.new.input) in
    let applied = subst (λ more. g.B.UnaryOperators.folds parser.postfixes c.in-Ok.operator c.args.value more after (Fails failure)) flag c.in_err-value-in-Ok.ensures.means in
    rw (handed.1, handed.2) (turns-fails (g.B.UnaryOperators.reads parser.postfixes) (g.B.UnaryOperators.folds parser.postfixes) (g.C.InfixOperators.reads parser.infixes) (g.C.InfixOperators.folds parser.infixes) side c.args.side.level c.args.value c.args.side.alone partial here after both failure fits c.in-Ok.ensures.means applied)

pub turn-returns-in_ok-value-in-Ok-clause-means : goal.turn-returns-in_ok-value-in-Ok-clause-means
turn-returns-in_ok-value-in-Ok-clause-means g t c =
    let stands = ahead g.I.Rest.location g.I.Stream.remaining in
    let parser = c.args.parser.now in
    let here = stands c.args.input.now in
    let partial = g.I.StreamIsPartial.expects_more c.args.input.now in
    let side = IsExpression (g.P.Parser.means parser.operand) (g.A.UnaryOperators.reads parser.prefixes) (g.A.UnaryOperators.folds parser.prefixes) (g.B.UnaryOperators.reads parser.postfixes) (g.B.UnaryOperators.folds parser.postfixes) (g.C.InfixOperators.reads parser.infixes) (g.C.InfixOperators.folds parser.infixes) c.args.side.depth in
    let after = stands c.read_operator.new.input in
    let in_range : FitsSigned w64 c.in-Ok.power = search rules in
    let passed : to_z w64 (of_z w64 c.in-Ok.power) ≡ c.in-Ok.power = to_z-of_z w64 c.in-Ok.power in_range in
    let both : ℤ × g.row.B-Operator.Denot = (c.in-Ok.power, c.in-Ok.operator) in
    let fits = subst (Admits c.args.side.level) passed (c.if-not-admits.ensures.0 refl) in
    let flag = g.met.I.StreamIsPartial.keeps_flag c.args.input.now c.read_operator.new.input c.in-Ok.ensures.kept in
    let end = stands c.apply.new.input in
    let applied = subst (λ more. g.B.UnaryOperators.folds parser.postfixes c.in-Ok.operator c.args.value more after (Gives c.in_ok-value-in-Ok.value end)) flag c.in_ok-value-in-Ok.ensures.means in
    turns-gives (g.B.UnaryOperators.reads parser.postfixes) (g.B.UnaryOperators.folds parser.postfixes) (g.C.InfixOperators.reads parser.infixes) (g.C.InfixOperators.folds parser.infixes) side c.args.side.level c.args.value c.args.side.alone partial here after end both c.in_ok-value-in-Ok.value fits c.in-Ok.ensures.means applied

pub turn-returns-in-Err-Backtrack-clause-means : goal.turn-returns-in-Err-Backtrack-clause-means
turn-returns-in-Err-Backtrack-clause-means g t c =
    let stands = ahead g.I.Rest.location g.I.Stream.remaining in
    let parser = c.args.parser.now in
    let here = stands c.args.input.now in
    let partial = g.I.StreamIsPartial.expects_more c.args.input.now in
    let side = IsExpression (g.P.Parser.means parser.operand) (g.A.UnaryOperators.reads parser.prefixes) (g.A.UnaryOperators.folds parser.prefixes) (g.B.UnaryOperators.reads parser.postfixes) (g.B.UnaryOperators.folds parser.postfixes) (g.C.InfixOperators.reads parser.infixes) (g.C.InfixOperators.folds parser.infixes) c.args.side.depth in
    let after = stands c.read_operator.new.input in
    let back = stands c.reset-in-Err-Backtrack.new.self in
    let same : here ≡ back = same-place here back (sym (c.reset-in-Err-Backtrack.ensures.location ∙ c.checkpoint-start.ensures.location)) (sym (c.reset-in-Err-Backtrack.ensures.remains ∙ c.checkpoint-start.ensures.means)) in
    let kept = g.met.I.Stream.keeps_transitive c.args.input.now c.read_operator.new.input c.reset-in-Err-Backtrack.new.self c.in-Err-Backtrack.ensures.kept c.reset-in-Err-Backtrack.ensures.kept in
    let flag = g.met.I.StreamIsPartial.keeps_flag c.args.input.now c.reset-in-Err-Backtrack.new.self kept in
    let answer = outcome c.join.result (stands c.join.new.input) in
    let joined = subst (λ more. IsFollowed (g.B.UnaryOperators.reads parser.postfixes) (g.B.UnaryOperators.folds parser.postfixes) (g.C.InfixOperators.reads parser.infixes) (g.C.InfixOperators.folds parser.infixes) side c.args.side.level c.args.value c.args.side.alone Absent more back answer) flag c.join.ensures.means in
    turns-absent (g.B.UnaryOperators.reads parser.postfixes) (g.B.UnaryOperators.folds parser.postfixes) (g.C.InfixOperators.reads parser.infixes) (g.C.InfixOperators.folds parser.infixes) side c.args.side.level c.args.value c.args.side.alone partial here back after answer same (rw c.in-Err-Backtrack.field-0-is at c.in-Err-Backtrack.ensures.means) joined
