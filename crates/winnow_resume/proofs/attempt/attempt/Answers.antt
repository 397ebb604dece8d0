use Rattle.std.proofs.Common.{inl, inr, subst}
use Rattle.winnow_error.specs.declared.failure.Failure.TheVariants.{Cut}
use Rattle.winnow_parser.specs.Outcome.{Fails}
use Rattle.winnow_parser.specs.Answer.{ahead, failed}
use Rattle.winnow_resume.specs.Recording.{FailsAs}
use Rattle.winnow_resume.specs.Failing.{GoesBack}
use Rattle.winnow_resume.proofs.lemmas.FailureLemmas.{same_place, RecoveryEnds-attempts, FollowsFailure-records, FollowsFailure-broken}
use Rattle.winnow_resume.proofs.attempt.attempt.Goals as goal

pub returns-in-Err-clause-means : goal.returns-in-Err-clause-means
returns-in-Err-clause-means g c =
    let stands = ahead g.I.Rest.location g.I.Stream.remaining in
    let means = g.P.Parser.means c.args.parser.now in
    let start = c.args.input.now in
    let left = c.parse_next.new.input in
    let flag = g.met.I.StreamIsPartial.keeps_flag start left c.in-Err-Backtrack.ensures.kept in
    let partial = g.I.StreamIsPartial.expects_more start in
    let fails = subst (λ f. means partial (stands start) (Fails (failed f (stands left)))) c.in-Err-Backtrack.field-0-is c.in-Err-Backtrack.ensures.means in
    RecoveryEnds-attempts g.I.Recover.supports_recovery means (g.R.Parser.means c.args.recover.now) (g.I.StreamIsPartial.expects_more left) partial (stands start) (stands left) (stands c.recover_from.new.input) c.in-Err.failure flag (inl fails) c.in-Err.ensures.answer.1.1

pub returns-in-Err-recover_from-clause-means : goal.returns-in-Err-recover_from-clause-means
returns-in-Err-recover_from-clause-means g c =
    let stands = ahead g.I.Rest.location g.I.Stream.remaining in
    let means = g.P.Parser.means c.args.parser.now in
    let start = c.args.input.now in
    let left = c.parse_next.new.input in
    let flag = g.met.I.StreamIsPartial.keeps_flag start left c.in-Err-Cut.ensures.kept in
    let partial = g.I.StreamIsPartial.expects_more start in
    let fails = subst (λ f. means partial (stands start) (Fails (failed f (stands left)))) c.in-Err-Cut.field-0-is c.in-Err-Cut.ensures.means in
    RecoveryEnds-attempts g.I.Recover.supports_recovery means (g.R.Parser.means c.args.recover.now) (g.I.StreamIsPartial.expects_more left) partial (stands start) (stands left) (stands c.recover_from-in-Err-Cut.new.input) c.in-Err-recover_from.failure flag (inr fails) c.in-Err-recover_from.ensures.answer.1.1

pub returns-in-Ok-Ok-recover_from-clause-told : goal.returns-in-Ok-Ok-recover_from-clause-told
returns-in-Ok-Ok-recover_from-clause-told g c =
    let stands = ahead g.I.Rest.location g.I.Stream.remaining in
    let stood = ahead g.I.Checkpoint.Rest.location g.I.Stream.remained in
    let means = g.P.Parser.means c.args.parser.now in
    let errors = g.P.Parser.errors c.args.parser.now in
    let start = c.args.input.now in
    let left = c.parse_next.new.input in
    let error = c.in-Err-Cut.error in
    let began = c.checkpoint-start.result in
    let flag = g.met.I.StreamIsPartial.keeps_flag start left c.in-Err-Cut.ensures.kept in
    let partial = g.I.StreamIsPartial.expects_more start in
    let follows = c.in-Ok-Ok-recover_from.ensures.answer in
    let cuts : FailsAs stands means errors partial (stands start) left (Cut error) = subst (λ f. FailsAs stands means errors partial (stands start) left f) c.in-Err-Cut.field-0-is (c.in-Err-Cut.ensures.error, c.in-Err-Cut.ensures.means) in
    FollowsFailure-records stands stood g.I.Stream.keeps g.I.Recover.refuses g.I.Recover.records (GoesBack stands g.E.FromRecoverableError.recovered began follows.0 error left) g.E.FromRecoverableError.recovered g.I.Recover.supports_recovery means errors (g.R.Parser.means c.args.recover.now) c.args.advances
    (g.I.StreamIsPartial.expects_more left) partial start left c.recover_from-in-Err-Cut.new.input began follows.0 error c.in-Ok-Ok-recover_from.field-0 c.in-Ok-Ok-recover_from.field-0-0 flag c.in-Ok-Ok-recover_from.field-0-is
    (same_place g.I.Rest.location g.I.Stream.remaining g.I.Checkpoint.Rest.location g.I.Stream.remained start began c.checkpoint-start.ensures.location c.checkpoint-start.ensures.means)
    follows.1.0 (inr cuts) c.in-Err-Cut.ensures.kept follows.1.1

pub returns-in-Ok-Err-recover_from-clause-error : goal.returns-in-Ok-Err-recover_from-clause-error
returns-in-Ok-Err-recover_from-clause-error g c =
    let stands = ahead g.I.Rest.location g.I.Stream.remaining in
    let stood = ahead g.I.Checkpoint.Rest.location g.I.Stream.remained in
    let means = g.P.Parser.means c.args.parser.now in
    let errors = g.P.Parser.errors c.args.parser.now in
    let start = c.args.input.now in
    let left = c.parse_next.new.input in
    let error = c.in-Err-Cut.error in
    let began = c.checkpoint-start.result in
    let flag = g.met.I.StreamIsPartial.keeps_flag start left c.in-Err-Cut.ensures.kept in
    let partial = g.I.StreamIsPartial.expects_more start in
    let follows = c.in-Ok-Err-recover_from.ensures.answer in
    let cuts : FailsAs stands means errors partial (stands start) left (Cut error) = subst (λ f. FailsAs stands means errors partial (stands start) left f) c.in-Err-Cut.field-0-is (c.in-Err-Cut.ensures.error, c.in-Err-Cut.ensures.means) in
    FollowsFailure-broken stands stood g.I.Stream.keeps g.I.Recover.refuses g.I.Recover.records (GoesBack stands g.E.FromRecoverableError.recovered began follows.0 error left) g.E.FromRecoverableError.recovered g.I.Recover.supports_recovery means errors (g.R.Parser.means c.args.recover.now) c.args.advances
    (λ e. Cut e) (g.I.StreamIsPartial.expects_more left) partial start left c.recover_from-in-Err-Cut.new.input began follows.0 error c.in-Ok-Err-recover_from.error c.in-Ok-Err-recover_from.field-0 flag c.in-Ok-Err-recover_from.field-0-is
    (same_place g.I.Rest.location g.I.Stream.remaining g.I.Checkpoint.Rest.location g.I.Stream.remained start began c.checkpoint-start.ensures.location c.checkpoint-start.ensures.means)
    follows.1.0 cuts c.in-Ok-Err-recover_from.ensures.kept follows.1.1
