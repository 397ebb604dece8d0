use Rattle.std.proofs.Common.{◌≡◌, ◌<◌, [], ◌∷◌, ◌++◌, length, None, Some, refl, arith, subst, length-append}
use Rattle.std.proofs.lemmas.Bool.{false≢true}
use Rattle.std.proofs.lemmas.Fn.{FoldsTo-push}
use Rattle.std.specs.List.{FoldsTo}
use Rattle.winnow_stream.specs.Source.{width}
use Rattle.winnow_parser.specs.Outcome.{Gives, Fails}
use Rattle.winnow_parser.specs.Answer.{ahead, failed}
use Rattle.winnow_parser.specs.Parts.{Moves-on, Moves-still}
use Rattle.winnow_combinator.specs.Appended.{Appending, AppendingIf, AppendedErrors, needs_some}
use Rattle.winnow_combinator.specs.Counts.{IsBelow}
use Rattle.winnow_combinator.specs.Repeat.{Taking, OneMore, InTurn-more, Repeats}
use Rattle.winnow_combinator.specs.Misuse.{TakingErrors}
use Rattle.winnow_combinator.proofs.lemmas.CountLemmas.{IsUpTo-zero, IsUpTo-more, IsUpTo-full, Ascends-full}
use Rattle.winnow_combinator.proofs.lemmas.GatherLemmas.{Gathered-fails}
use Rattle.winnow_combinator.proofs.lemmas.RepeatLemmas.{Repeats-ended, Repeats-full}
use Rattle.winnow_combinator.proofs.lemmas.AppendedLemmas.{AppendingIf-gives, Repeats-fails, RepeatErrors-fails}
use Rattle.winnow_combinator.proofs.again.go_on.Goals as goal

pub loop-parser-init : goal.loop-parser-init
loop-parser-init g c =
    let here = ahead g.I.Rest.location g.I.Stream.remaining c.args.input.now in
    let room = c.requires.room in (
      [],
      (
        room.0,
        record {
          valid = c.requires.valid;
          kept = g.met.I.Stream.keeps_reflexive c.args.input.now;
          onward = Moves-still here here refl;
          gathered = refl;
          made = room.1.0;
          room = room.1.1;
          counted = refl;
          within = omega arith;
          up_to = IsUpTo-zero c.args.again.now.counts.greatest;
          values = refl;
        },
      ),
    )

pub loop-parser-preserved : goal.loop-parser-preserved
loop-parser-preserved g c =
    let stands = ahead g.I.Rest.location g.I.Stream.remaining in
    let again = c.args.again.now in
    let taking = Taking (g.P.Parser.means again.parser.now) in
    let xs = c.loop-parser.invariant.0 in
    let all = c.loop-parser.invariant.1.0 in
    let so_far = c.loop-parser.invariant.1.1 in
    let x = c.in-Ok-Some.value in
    let here = stands c.loop-parser.input in
    let next = stands c.one_more.new.input in
    let partial = g.I.StreamIsPartial.expects_more c.args.input.now in
    let flag = g.met.I.StreamIsPartial.keeps_flag c.args.input.now c.loop-parser.input so_far.kept in
    let below = c.loop-parser-test.ensures.0 refl in
    let at_value = subst (λ o. OneMore again.counts.least c.loop-parser.count taking (g.I.StreamIsPartial.expects_more c.loop-parser.input) here (Gives o next)) c.in-Ok-Some.field-0-is c.in-Ok-Some.ensures.means in
    let means = subst (λ more. taking more here (Gives x next)) flag at_value in
    let less : width (g.I.Stream.remaining c.one_more.new.input) < width (g.I.Stream.remaining c.loop-parser.input) = means.1 in (
      xs ++ x ∷ [],
      (
        all ++ x ∷ [],
        record {
          valid = c.in-Ok-Some.ensures.valid;
          kept = g.met.I.Stream.keeps_transitive c.args.input.now c.loop-parser.input c.one_more.new.input so_far.kept c.in-Ok-Some.ensures.kept;
          onward = Moves-on (stands c.args.input.now) here next so_far.onward c.in-Ok-Some.ensures.onward;
          gathered = FoldsTo-push (g.G.Gather.takes again.gather.now) c.args.whole xs c.loop-parser.whole x c.take.new.whole so_far.gathered c.in-Ok.ensures.taken;
          made = g.met.G.Gather.makes_taken again.gather.now all c.loop-parser.whole c.take.new.whole x so_far.made c.in-Ok.ensures.taken;
          room = omega (arith, less, so_far.room, length-append all (x ∷ []));
          counted = omega (arith, so_far.counted, length-append xs (x ∷ []));
          within = omega (arith, less, so_far.within);
          up_to = IsUpTo-more again.counts.greatest c.loop-parser.count below;
          values = InTurn-more taking partial xs x (stands c.args.input.now) here next so_far.values means;
        },
      ),
    )

pub returns-in-Ok-None-clause-means : goal.returns-in-Ok-None-clause-means
returns-in-Ok-None-clause-means g c =
    let stands = ahead g.I.Rest.location g.I.Stream.remaining in
    let again = c.args.again.now in
    let inner = g.P.Parser.means again.parser.now in
    let xs = c.loop-parser.invariant.0 in
    let so_far = c.loop-parser.invariant.1.1 in
    let here = stands c.loop-parser.input in
    let next = stands c.one_more.new.input in
    let partial = g.I.StreamIsPartial.expects_more c.args.input.now in
    let flag = g.met.I.StreamIsPartial.keeps_flag c.args.input.now c.loop-parser.input so_far.kept in
    let below = subst (IsBelow again.counts.greatest) so_far.counted (c.loop-parser-test.ensures.0 refl) in
    let at_none = subst (λ o. OneMore again.counts.least c.loop-parser.count (Taking inner) (g.I.StreamIsPartial.expects_more c.loop-parser.input) here (Gives o next)) c.in-Ok-None.field-0-is c.in-Ok-None.ensures.means in
    let means = subst (λ more. OneMore again.counts.least c.loop-parser.count (Taking inner) more here (Gives None next)) flag at_none in
    let none = subst (λ n. OneMore again.counts.least n (Taking inner) partial here (Gives None next)) so_far.counted means in
    let ended = Repeats-ended again.counts.least again.counts.greatest inner partial xs (stands c.args.input.now) here next so_far.values below none in
    (xs, (so_far.gathered, AppendingIf-gives (needs_some again.counts.least) g.E.ParserError.append_refusable (Repeats again.counts.least again.counts.greatest inner) partial (stands c.args.input.now) next xs ended))

pub returns-in-Err-clause-means : goal.returns-in-Err-clause-means
returns-in-Err-clause-means g c =
    let stands = ahead g.I.Rest.location g.I.Stream.remaining in
    let again = c.args.again.now in
    let inner = g.P.Parser.means again.parser.now in
    let xs = c.loop-parser.invariant.0 in
    let so_far = c.loop-parser.invariant.1.1 in
    let here = stands c.loop-parser.input in
    let next = stands c.one_more.new.input in
    let f = failed c.in-Err.failure next in
    let partial = g.I.StreamIsPartial.expects_more c.args.input.now in
    let flag = g.met.I.StreamIsPartial.keeps_flag c.args.input.now c.loop-parser.input so_far.kept in
    let below = subst (IsBelow again.counts.greatest) so_far.counted (c.loop-parser-test.ensures.0 refl) in
    let refusable = g.E.ParserError.append_refusable in
    let means = subst (λ more. Appending refusable (OneMore again.counts.least c.loop-parser.count (Taking inner)) more here (Fails f)) flag c.in-Err.ensures.means in
    let fails = subst (λ n. Appending refusable (OneMore again.counts.least n (Taking inner)) partial here (Fails f)) so_far.counted means in
    Gathered-fails g.G.Gather.refusable (FoldsTo (g.G.Gather.takes again.gather.now) c.args.whole) (AppendingIf (needs_some again.counts.least) refusable (Repeats again.counts.least again.counts.greatest inner)) partial (stands c.args.input.now) f
    (Repeats-fails refusable again.counts.greatest inner partial xs (stands c.args.input.now) here so_far.values below again.counts.least f fails)

pub returns-clause-means : goal.returns-clause-means
returns-clause-means g c =
    let stands = ahead g.I.Rest.location g.I.Stream.remaining in
    let again = c.args.again.now in
    let counts = again.counts in
    let inner = g.P.Parser.means again.parser.now in
    let xs = c.loop-parser.invariant.0 in
    let so_far = c.loop-parser.invariant.1.1 in
    let none_more : ¬ (IsBelow counts.greatest c.loop-parser.count) = λ more. absurd (false≢true (c.loop-parser-test.ensures.1 more)) in
    let full = subst (λ n. counts.greatest ≡ Some n) so_far.counted (IsUpTo-full counts.greatest c.loop-parser.count so_far.up_to none_more) in
    let enough = Ascends-full counts.least counts.greatest (length xs) c.requires.ascend full in
    let partial = g.I.StreamIsPartial.expects_more c.args.input.now in
    let whole = Repeats-full counts.least counts.greatest inner partial xs (stands c.args.input.now) (stands c.loop-parser.input) so_far.values enough full in
    (xs, (so_far.gathered, AppendingIf-gives (needs_some counts.least) g.E.ParserError.append_refusable (Repeats counts.least counts.greatest inner) partial (stands c.args.input.now) (stands c.loop-parser.input) xs whole))

pub returns-in-Err-clause-error : goal.returns-in-Err-clause-error
returns-in-Err-clause-error g c =
    let stands = ahead g.I.Rest.location g.I.Stream.remaining in
    let stood = ahead g.I.Checkpoint.Rest.location g.I.Stream.remained in
    let appends = g.E.ParserError.append_gives in
    let refusable = g.E.ParserError.append_refusable in
    let again = c.args.again.now in
    let inner = g.P.Parser.means again.parser.now in
    let xs = c.loop-parser.invariant.0 in
    let so_far = c.loop-parser.invariant.1.1 in
    let here = stands c.loop-parser.input in
    let left = c.one_more.new.input in
    let failure = c.in-Err.failure in
    let f = failed failure (stands left) in
    let partial = g.I.StreamIsPartial.expects_more c.args.input.now in
    let flag = g.met.I.StreamIsPartial.keeps_flag c.args.input.now c.loop-parser.input so_far.kept in
    let below = subst (IsBelow again.counts.greatest) so_far.counted (c.loop-parser-test.ensures.0 refl) in
    let means = subst (λ more. Appending refusable (OneMore again.counts.least c.loop-parser.count (Taking inner)) more here (Fails f)) flag c.in-Err.ensures.means in
    let fails = subst (λ n. Appending refusable (OneMore again.counts.least n (Taking inner)) partial here (Fails f)) so_far.counted means in
    let errors = TakingErrors g.E.ParserError.assert_gives inner (g.P.Parser.errors again.parser.now) in
    let error = subst (λ more. AppendedErrors stood appends errors more here left failure) flag c.in-Err.ensures.error in
    RepeatErrors-fails refusable again.counts.greatest inner partial xs (stands c.args.input.now) here so_far.values below stood appends errors left (stands left) again.counts.least failure fails error
