use Rattle.std.proofs.Common.{[], ◌∷◌, ◌++◌, IfNone, true, refl, subst}
use Rattle.winnow_parser.specs.Outcome.{Gives, Fails}
use Rattle.winnow_parser.specs.Answer.{ahead, failed}
use Rattle.winnow_parser.specs.Parts.{Moves-on, Moves-still}
use Rattle.winnow_resume.specs.Chain.{Chain-more}
use Rattle.winnow_resume.specs.Skipping.{Skips, Attempts}
use Rattle.winnow_resume.specs.Recording.{RecordsOne}
use Rattle.winnow_resume.specs.Failing.{AttemptErrors}
use Rattle.winnow_resume.specs.ResumeAfter.{ResumesAfter}
use Rattle.winnow_resume.proofs.lemmas.SkipLemmas.{Skips-narrower}
use Rattle.winnow_resume.proofs.parsers.retry_after.RetryAfterParser.parse_next.Goals as goal

pub loop-value-init : goal.loop-value-init
loop-value-init g c =
    let here = ahead g.I.Rest.location g.I.Stream.remaining c.args.input.now in (
      [],
      (
        [],
        record {
          valid = c.requires.valid;
          kept = g.met.I.Stream.keeps_reflexive c.args.input.now;
          onward = Moves-still here here refl;
          told = refl;
          skipped = refl;
        },
      ),
    )

pub loop-value-smaller : goal.loop-value-smaller
loop-value-smaller g c =
    let stands = ahead g.I.Rest.location g.I.Stream.remaining in
    let parser = c.args.self.now in
    let means = g.P.Parser.means parser.parser in
    let recover = g.R.Parser.means parser.recover in
    let supports = g.I.Recover.supports_recovery in
    let asked = c.loop-value.input in
    let next = c.attempt.new.input in
    let more = g.I.StreamIsPartial.expects_more asked in
    let skips = subst (λ o. ResumesAfter true supports means recover more (stands asked) (Gives o (stands next))) c.in-Ok-None.field-0-is c.in-Ok-None.ensures.means in
    Skips-narrower means recover (g.met.P.Parser.lawful parser.parser) supports more (stands asked) (stands next) skips

pub loop-value-preserved : goal.loop-value-preserved
loop-value-preserved g c =
    let stands = ahead g.I.Rest.location g.I.Stream.remaining in
    let stood = ahead g.I.Checkpoint.Rest.location g.I.Stream.remained in
    let parser = c.args.self.now in
    let means = g.P.Parser.means parser.parser in
    let errors = g.P.Parser.errors parser.parser in
    let recover = g.R.Parser.means parser.recover in
    let supports = g.I.Recover.supports_recovery in
    let so_far = c.loop-value.invariant.1.1 in
    let start = c.args.input.now in
    let asked = c.loop-value.input in
    let next = c.attempt.new.input in
    let partial = g.I.StreamIsPartial.expects_more start in
    let flag = g.met.I.StreamIsPartial.keeps_flag start asked so_far.kept in
    let skipped = subst (λ o. ResumesAfter true supports means recover (g.I.StreamIsPartial.expects_more asked) (stands asked) (Gives o (stands next))) c.in-Ok-None.field-0-is c.in-Ok-None.ensures.means in
    let skips = subst (λ more. Skips true supports means recover more (stands asked) (stands next)) flag skipped in
    let recorded = subst (λ o. IfNone o (RecordsOne stands stood g.I.Stream.keeps g.I.Recover.records means errors recover (g.I.StreamIsPartial.expects_more asked) asked next)) c.in-Ok-None.field-0-is c.in-Ok-None.ensures.told in
    let records = subst (λ more. RecordsOne stands stood g.I.Stream.keeps g.I.Recover.records means errors recover more asked next) flag recorded in (
      c.loop-value.invariant.0 ++ next ∷ [],
      (
        c.loop-value.invariant.1.0 ++ stands next ∷ [],
        record {
          valid = c.in-Ok-None.ensures.valid;
          kept = g.met.I.Stream.keeps_transitive start asked next so_far.kept c.in-Ok-None.ensures.kept;
          onward = Moves-on (stands start) (stands asked) (stands next) so_far.onward c.in-Ok-None.ensures.onward;
          told = Chain-more (RecordsOne stands stood g.I.Stream.keeps g.I.Recover.records means errors recover partial) c.loop-value.invariant.0 start asked next so_far.told records;
          skipped = Chain-more (Skips true supports means recover partial) c.loop-value.invariant.1.0 (stands start) (stands asked) (stands next) so_far.skipped skips;
        },
      ),
    )

pub returns-in-Ok-Some-clause-means : goal.returns-in-Ok-Some-clause-means
returns-in-Ok-Some-clause-means g c =
    let stands = ahead g.I.Rest.location g.I.Stream.remaining in
    let parser = c.args.self.now in
    let means = g.P.Parser.means parser.parser in
    let recover = g.R.Parser.means parser.recover in
    let so_far = c.loop-value.invariant.1.1 in
    let asked = c.loop-value.input in
    let next = c.attempt.new.input in
    let flag = g.met.I.StreamIsPartial.keeps_flag c.args.input.now asked so_far.kept in
    let gives = subst (λ o. ResumesAfter true g.I.Recover.supports_recovery means recover (g.I.StreamIsPartial.expects_more asked) (stands asked) (Gives o (stands next))) c.in-Ok-Some.field-0-is c.in-Ok-Some.ensures.means in
    (c.loop-value.invariant.1.0, (stands asked, (so_far.skipped, subst (λ more. means more (stands asked) (Gives c.in-Ok-Some.value (stands next))) flag gives)))

pub returns-in-Ok-Some-clause-told : goal.returns-in-Ok-Some-clause-told
returns-in-Ok-Some-clause-told g c =
    (c.loop-value.invariant.0, (c.loop-value.input, (c.loop-value.invariant.1.1.told, c.in-Ok-Some.ensures.kept)))

pub returns-in-Err-clause-means : goal.returns-in-Err-clause-means
returns-in-Err-clause-means g c =
    let stands = ahead g.I.Rest.location g.I.Stream.remaining in
    let parser = c.args.self.now in
    let means = g.P.Parser.means parser.parser in
    let recover = g.R.Parser.means parser.recover in
    let so_far = c.loop-value.invariant.1.1 in
    let asked = c.loop-value.input in
    let failure = failed c.in-Err.failure (stands c.attempt.new.input) in
    let flag = g.met.I.StreamIsPartial.keeps_flag c.args.input.now asked so_far.kept in
    (c.loop-value.invariant.1.0, (stands asked, (so_far.skipped, subst (λ more. Attempts g.I.Recover.supports_recovery means recover more (stands asked) (Fails failure)) flag c.in-Err.ensures.means)))

pub returns-in-Err-clause-error : goal.returns-in-Err-clause-error
returns-in-Err-clause-error g c =
    let stands = ahead g.I.Rest.location g.I.Stream.remaining in
    let stood = ahead g.I.Checkpoint.Rest.location g.I.Stream.remained in
    let parser = c.args.self.now in
    let means = g.P.Parser.means parser.parser in
    let errors = g.P.Parser.errors parser.parser in
    let recover = g.R.Parser.means parser.recover in
    let so_far = c.loop-value.invariant.1.1 in
    let asked = c.loop-value.input in
    let flag = g.met.I.StreamIsPartial.keeps_flag c.args.input.now asked so_far.kept in
    (c.loop-value.invariant.1.0, (stands asked, (so_far.skipped, subst (λ more. AttemptErrors stands stood g.I.Stream.keeps g.I.Recover.refuses g.E.FromRecoverableError.recovered g.I.Recover.supports_recovery means errors recover true more (stands asked) c.attempt.new.input c.in-Err.failure) flag c.in-Err.ensures.error)))

pub returns-in-Err-clause-told : goal.returns-in-Err-clause-told
returns-in-Err-clause-told g c =
    (c.loop-value.invariant.0, (c.loop-value.input, (c.loop-value.invariant.1.1.told, c.in-Err.ensures.kept)))
