use Rattle.std.proofs.Common.{◌≡◌, ◌<◌, [], ◌∷◌, ◌++◌, None, Some, refl, arith, ap, subst, length-append}
use Rattle.std.proofs.lemmas.Fn.{FoldsTo-push}
use Rattle.std.specs.List.{FoldsTo}
use Rattle.winnow_stream.specs.Source.{width}
use Rattle.winnow_parser.specs.Outcome.{Gives, Fails}
use Rattle.winnow_parser.specs.Answer.{ahead, failed}
use Rattle.winnow_parser.specs.Parts.{Moves-on, Moves-still}
use Rattle.winnow_combinator.specs.Misuse.{TakingErrors}
use Rattle.winnow_combinator.specs.Repeat.{Taking}
use Rattle.winnow_combinator.specs.RepeatTill.{EndAfter, RepeatsTill, MakesOfFirst}
use Rattle.winnow_combinator.proofs.lemmas.GatherLemmas.{Gathered-fails}
use Rattle.winnow_combinator.proofs.lemmas.RepeatTillLemmas.{RepeatsTill-more, RepeatsTill-ended, RepeatsTill-no_end, RepeatsTill-no_more, RepeatTillErrors-end, RepeatTillErrors-more}
use Rattle.winnow_combinator.proofs.parsers.repeat_till.go_till.Goals as goal

pub loop-end-init : goal.loop-end-init
loop-end-init g c =
    let here = ahead g.I.Rest.location g.I.Stream.remaining c.args.input.now in
    let room = c.requires.room in (
      [],
      (
        room.0,
        record {
          valid = c.requires.valid;
          kept = g.met.I.Stream.keeps_reflexive c.args.input.now;
          onward = Moves-still here here refl;
          gathered = refl;
          made = room.1.0;
          room = room.1.1;
          counted = refl;
          within = omega arith;
          values = refl;
        },
      ),
    )

pub loop-end-preserved : goal.loop-end-preserved
loop-end-preserved g c =
    let stands = ahead g.I.Rest.location g.I.Stream.remaining in
    let again = c.args.again.now in
    let counts = again.counts in
    let inner = g.P.Parser.means again.parser.now in
    let terminator = g.Q.Parser.means c.args.terminator.now in
    let xs = c.loop-end.invariant.0 in
    let all = c.loop-end.invariant.1.0 in
    let so_far = c.loop-end.invariant.1.1 in
    let start = c.args.input.now in
    let asked = c.loop-end.input in
    let between = c.end_after.new.input in
    let after = c.parse_next.new.input in
    let x = c.in-Ok.value in
    let count = c.loop-end.count in
    let partial = g.I.StreamIsPartial.expects_more start in
    let kept = g.met.I.Stream.keeps_transitive start asked between so_far.kept c.in-Ok-None.ensures.kept in
    let flag = g.met.I.StreamIsPartial.keeps_flag start asked so_far.kept in
    let flag_between = g.met.I.StreamIsPartial.keeps_flag start between kept in
    let at_none = subst (λ o. EndAfter counts.least counts.greatest count terminator (g.I.StreamIsPartial.expects_more asked) (stands asked) (Gives o (stands between))) c.in-Ok-None.field-0-is c.in-Ok-None.ensures.means in
    let none = subst (λ more. EndAfter counts.least counts.greatest count terminator more (stands asked) (Gives None (stands between))) flag at_none in
    let means = subst (λ more. Taking inner more (stands between) (Gives x (stands after))) flag_between c.in-Ok.ensures.means in
    let still : width (g.I.Stream.remaining asked) ≡ width (g.I.Stream.remaining between) = ap (λ s. width s.tokens) none.0 in
    let less : width (g.I.Stream.remaining after) < width (g.I.Stream.remaining between) = means.1 in (
      xs ++ x ∷ [],
      (
        all ++ x ∷ [],
        record {
          valid = c.in-Ok.ensures.valid;
          kept = g.met.I.Stream.keeps_transitive start between after kept c.in-Ok.ensures.kept;
          onward = Moves-on (stands start) (stands between) (stands after) (Moves-on (stands start) (stands asked) (stands between) so_far.onward c.in-Ok-None.ensures.onward) c.in-Ok.ensures.onward;
          gathered = FoldsTo-push (g.G.Gather.takes again.gather.now) c.args.whole xs c.loop-end.whole x c.take.new.whole so_far.gathered c.in-Ok-take.ensures.taken;
          made = g.met.G.Gather.makes_taken again.gather.now all c.loop-end.whole c.take.new.whole x so_far.made c.in-Ok-take.ensures.taken;
          room = omega (arith, still, less, so_far.room, length-append all (x ∷ []));
          counted = omega (arith, so_far.counted, length-append xs (x ∷ []));
          within = omega (arith, still, less, so_far.within);
          values = RepeatsTill-more counts.least counts.greatest inner terminator partial count xs (stands start) (stands asked) so_far.counted so_far.values x (stands between) (stands after) none means;
        },
      ),
    )

pub returns-in-Ok-Some-clause-means : goal.returns-in-Ok-Some-clause-means
returns-in-Ok-Some-clause-means g c =
    let stands = ahead g.I.Rest.location g.I.Stream.remaining in
    let again = c.args.again.now in
    let counts = again.counts in
    let inner = g.P.Parser.means again.parser.now in
    let terminator = g.Q.Parser.means c.args.terminator.now in
    let xs = c.loop-end.invariant.0 in
    let so_far = c.loop-end.invariant.1.1 in
    let start = c.args.input.now in
    let asked = c.loop-end.input in
    let after = c.end_after.new.input in
    let y = c.in-Ok-Some.end in
    let count = c.loop-end.count in
    let partial = g.I.StreamIsPartial.expects_more start in
    let flag = g.met.I.StreamIsPartial.keeps_flag start asked so_far.kept in
    let at_some = subst (λ o. EndAfter counts.least counts.greatest count terminator (g.I.StreamIsPartial.expects_more asked) (stands asked) (Gives o (stands after))) c.in-Ok-Some.field-0-is c.in-Ok-Some.ensures.means in
    let means = subst (λ more. EndAfter counts.least counts.greatest count terminator more (stands asked) (Gives (Some y) (stands after))) flag at_some in
    ((xs, y), ((so_far.gathered, refl), RepeatsTill-ended counts.least counts.greatest inner terminator partial count xs (stands start) (stands asked) so_far.counted so_far.values y (stands after) means))

pub returns-in-Err-clause-means : goal.returns-in-Err-clause-means
returns-in-Err-clause-means g c =
    let stands = ahead g.I.Rest.location g.I.Stream.remaining in
    let again = c.args.again.now in
    let counts = again.counts in
    let inner = g.P.Parser.means again.parser.now in
    let terminator = g.Q.Parser.means c.args.terminator.now in
    let xs = c.loop-end.invariant.0 in
    let so_far = c.loop-end.invariant.1.1 in
    let start = c.args.input.now in
    let asked = c.loop-end.input in
    let count = c.loop-end.count in
    let f = failed c.in-Err.failure (stands c.end_after.new.input) in
    let partial = g.I.StreamIsPartial.expects_more start in
    let flag = g.met.I.StreamIsPartial.keeps_flag start asked so_far.kept in
    let means = subst (λ more. EndAfter counts.least counts.greatest count terminator more (stands asked) (Fails f)) flag c.in-Err.ensures.means in
    Gathered-fails g.G.Gather.refusable (MakesOfFirst (FoldsTo (g.G.Gather.takes again.gather.now) c.args.whole)) (RepeatsTill counts.least counts.greatest inner terminator) partial (stands start) f
    (RepeatsTill-no_end counts.least counts.greatest inner terminator partial count xs (stands start) (stands asked) so_far.counted so_far.values f means)

pub returns-in-Err-clause-error : goal.returns-in-Err-clause-error
returns-in-Err-clause-error g c =
    let stands = ahead g.I.Rest.location g.I.Stream.remaining in
    let again = c.args.again.now in
    let counts = again.counts in
    let inner = g.P.Parser.means again.parser.now in
    let terminator = g.Q.Parser.means c.args.terminator.now in
    let errors = TakingErrors g.E.ParserError.assert_gives inner (g.P.Parser.errors again.parser.now) in
    let terminator_errors = g.Q.Parser.errors c.args.terminator.now in
    let xs = c.loop-end.invariant.0 in
    let so_far = c.loop-end.invariant.1.1 in
    let start = c.args.input.now in
    let asked = c.loop-end.input in
    let left = c.end_after.new.input in
    let count = c.loop-end.count in
    let partial = g.I.StreamIsPartial.expects_more start in
    let flag = g.met.I.StreamIsPartial.keeps_flag start asked so_far.kept in
    let error = subst (λ more. terminator_errors more (stands asked) left c.in-Err.failure) flag c.in-Err.ensures.error in
    RepeatTillErrors-end counts.least counts.greatest inner terminator partial count xs (stands start) (stands asked) so_far.counted so_far.values errors terminator_errors left c.in-Err.failure c.in-Err.ensures.means.0 error

pub returns-in-Err-parse_next-clause-means : goal.returns-in-Err-parse_next-clause-means
returns-in-Err-parse_next-clause-means g c =
    let stands = ahead g.I.Rest.location g.I.Stream.remaining in
    let again = c.args.again.now in
    let counts = again.counts in
    let inner = g.P.Parser.means again.parser.now in
    let terminator = g.Q.Parser.means c.args.terminator.now in
    let xs = c.loop-end.invariant.0 in
    let so_far = c.loop-end.invariant.1.1 in
    let start = c.args.input.now in
    let asked = c.loop-end.input in
    let between = c.end_after.new.input in
    let count = c.loop-end.count in
    let f = failed c.in-Err-parse_next.failure (stands c.parse_next.new.input) in
    let partial = g.I.StreamIsPartial.expects_more start in
    let kept = g.met.I.Stream.keeps_transitive start asked between so_far.kept c.in-Ok-None.ensures.kept in
    let flag = g.met.I.StreamIsPartial.keeps_flag start asked so_far.kept in
    let flag_between = g.met.I.StreamIsPartial.keeps_flag start between kept in
    let at_none = subst (λ o. EndAfter counts.least counts.greatest count terminator (g.I.StreamIsPartial.expects_more asked) (stands asked) (Gives o (stands between))) c.in-Ok-None.field-0-is c.in-Ok-None.ensures.means in
    let none = subst (λ more. EndAfter counts.least counts.greatest count terminator more (stands asked) (Gives None (stands between))) flag at_none in
    let means = subst (λ more. Taking inner more (stands between) (Fails f)) flag_between c.in-Err-parse_next.ensures.means in
    Gathered-fails g.G.Gather.refusable (MakesOfFirst (FoldsTo (g.G.Gather.takes again.gather.now) c.args.whole)) (RepeatsTill counts.least counts.greatest inner terminator) partial (stands start) f
    (RepeatsTill-no_more counts.least counts.greatest inner terminator partial count xs (stands start) (stands asked) so_far.counted so_far.values f (stands between) none means)

pub returns-in-Err-parse_next-clause-error : goal.returns-in-Err-parse_next-clause-error
returns-in-Err-parse_next-clause-error g c =
    let stands = ahead g.I.Rest.location g.I.Stream.remaining in
    let again = c.args.again.now in
    let counts = again.counts in
    let inner = g.P.Parser.means again.parser.now in
    let terminator = g.Q.Parser.means c.args.terminator.now in
    let errors = TakingErrors g.E.ParserError.assert_gives inner (g.P.Parser.errors again.parser.now) in
    let terminator_errors = g.Q.Parser.errors c.args.terminator.now in
    let xs = c.loop-end.invariant.0 in
    let so_far = c.loop-end.invariant.1.1 in
    let start = c.args.input.now in
    let asked = c.loop-end.input in
    let between = c.end_after.new.input in
    let left = c.parse_next.new.input in
    let count = c.loop-end.count in
    let failure = c.in-Err-parse_next.failure in
    let partial = g.I.StreamIsPartial.expects_more start in
    let kept = g.met.I.Stream.keeps_transitive start asked between so_far.kept c.in-Ok-None.ensures.kept in
    let flag = g.met.I.StreamIsPartial.keeps_flag start asked so_far.kept in
    let flag_between = g.met.I.StreamIsPartial.keeps_flag start between kept in
    let at_none = subst (λ o. EndAfter counts.least counts.greatest count terminator (g.I.StreamIsPartial.expects_more asked) (stands asked) (Gives o (stands between))) c.in-Ok-None.field-0-is c.in-Ok-None.ensures.means in
    let none = subst (λ more. EndAfter counts.least counts.greatest count terminator more (stands asked) (Gives None (stands between))) flag at_none in
    let error = subst (λ more. errors more (stands between) left failure) flag_between c.in-Err-parse_next.ensures.error in
    RepeatTillErrors-more counts.least counts.greatest inner terminator partial count xs (stands start) (stands asked) so_far.counted so_far.values errors terminator_errors left failure (stands between) none error
