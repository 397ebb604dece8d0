use Rattle.std.proofs.Common.{◌≡◌, ◌<◌, ◌∙◌, [], ◌∷◌, ◌++◌, length, None, Some, refl, arith, ap, subst, inl, inr, length-append}
use Rattle.std.proofs.lemmas.Bool.{false≢true}
use Rattle.winnow_stream.specs.Source.{width}
use Rattle.winnow_parser.specs.Outcome.{Gives, Fails, Backtracks}
use Rattle.winnow_parser.specs.Answer.{ahead, failed}
use Rattle.winnow_parser.specs.Parts.{Moves-on, Moves-still}
use Rattle.winnow_parser.proofs.lemmas.TakenLemmas.{same-place}
use Rattle.winnow_combinator.specs.Appended.{Appending, AppendedErrors}
use Rattle.winnow_combinator.specs.Counts.{IsBelow}
use Rattle.winnow_combinator.specs.Gathering.{Folds-taken}
use Rattle.winnow_combinator.specs.Misuse.{TakingErrors}
use Rattle.winnow_combinator.specs.Repeat.{Taking, OneMore, InTurn-more}
use Rattle.winnow_combinator.proofs.lemmas.AppendedLemmas.{RepeatErrors-fails}
use Rattle.winnow_combinator.proofs.lemmas.CountLemmas.{IsUpTo-zero, IsUpTo-more, IsUpTo-full, Ascends-full}
use Rattle.winnow_combinator.proofs.lemmas.RepeatLemmas.{Repeats-ended, Repeats-full}
use Rattle.winnow_combinator.specs.TryFold.{StepsTo}
use Rattle.winnow_combinator.proofs.folding.fold_all.Goals as goal

pub values-init : goal.values-init
values-init g c =
    let here = ahead g.I.Rest.location g.I.Stream.remaining c.args.input.now in (
      [],
      record {
        valid = c.requires.valid;
        kept = g.met.I.Stream.keeps_reflexive c.args.input.now;
        onward = Moves-still here here refl;
        folds = (c.init-whole.result, (c.init-whole.ensures, refl));
        fits = c.requires.room;
        counted = refl;
        within = omega arith;
        up_to = IsUpTo-zero c.args.fold.now.counts.greatest;
        values = refl;
      },
    )

pub values-preserved : goal.values-preserved
values-preserved g c =
    let stands = ahead g.I.Rest.location g.I.Stream.remaining in
    let fold = c.args.fold.now in
    let counts = fold.counts in
    let taking = Taking (g.P.Parser.means fold.parser.now) in
    let xs = c.values.invariant.0 in
    let so_far = c.values.invariant.1 in
    let x = c.in-Ok-Some.value in
    let here = stands c.values.input in
    let next = stands c.one_more.new.input in
    let partial = g.I.StreamIsPartial.expects_more c.args.input.now in
    let flag = g.met.I.StreamIsPartial.keeps_flag c.args.input.now c.values.input so_far.kept in
    let below = c.values-test.ensures.0 refl in
    let at_value = subst (λ o. OneMore counts.least c.values.count taking (g.I.StreamIsPartial.expects_more c.values.input) here (Gives o next)) c.in-Ok-Some.field-0-is c.in-Ok-Some.ensures.means in
    let means = subst (λ more. taking more here (Gives x next)) flag at_value in
    let less : width (g.I.Stream.remaining c.one_more.new.input) < width (g.I.Stream.remaining c.values.input) = means.1 in (
      xs ++ x ∷ [],
      record {
        valid = c.in-Ok-Some.ensures.valid;
        kept = g.met.I.Stream.keeps_transitive c.args.input.now c.values.input c.one_more.new.input so_far.kept c.in-Ok-Some.ensures.kept;
        onward = Moves-on (stands c.args.input.now) here next so_far.onward c.in-Ok-Some.ensures.onward;
        folds = Folds-taken (λ w. g.N.Fn.post fold.init.now tt w) (StepsTo (g.S.FoldStep.gives fold.step)) xs c.values.whole c.in-Ok.made x so_far.folds c.in-Ok.ensures;
        fits = so_far.fits;
        counted = omega (arith, so_far.counted, length-append xs (x ∷ []));
        within = omega (arith, less, so_far.within);
        up_to = IsUpTo-more counts.greatest c.values.count below;
        values = InTurn-more taking partial xs x (stands c.args.input.now) here next so_far.values means;
      },
    )

pub returns-in-Ok-None-clause-means : goal.returns-in-Ok-None-clause-means
returns-in-Ok-None-clause-means g c =
    let stands = ahead g.I.Rest.location g.I.Stream.remaining in
    let counts = c.args.fold.now.counts in
    let inner = g.P.Parser.means c.args.fold.now.parser.now in
    let xs = c.values.invariant.0 in
    let so_far = c.values.invariant.1 in
    let here = stands c.values.input in
    let next = stands c.one_more.new.input in
    let partial = g.I.StreamIsPartial.expects_more c.args.input.now in
    let flag = g.met.I.StreamIsPartial.keeps_flag c.args.input.now c.values.input so_far.kept in
    let below = subst (IsBelow counts.greatest) so_far.counted (c.values-test.ensures.0 refl) in
    let at_none = subst (λ o. OneMore counts.least c.values.count (Taking inner) (g.I.StreamIsPartial.expects_more c.values.input) here (Gives o next)) c.in-Ok-None.field-0-is c.in-Ok-None.ensures.means in
    let means = subst (λ more. OneMore counts.least c.values.count (Taking inner) more here (Gives None next)) flag at_none in
    let none = subst (λ n. OneMore counts.least n (Taking inner) partial here (Gives None next)) so_far.counted means in
    (xs, (so_far.folds, Repeats-ended counts.least counts.greatest inner partial xs (stands c.args.input.now) here next so_far.values below none))

pub returns-in-Err-clause-means : goal.returns-in-Err-clause-means
returns-in-Err-clause-means g c =
    let stands = ahead g.I.Rest.location g.I.Stream.remaining in
    let counts = c.args.fold.now.counts in
    let inner = g.P.Parser.means c.args.fold.now.parser.now in
    let xs = c.values.invariant.0 in
    let so_far = c.values.invariant.1 in
    let here = stands c.values.input in
    let f = failed c.in-Err.failure (stands c.one_more.new.input) in
    let partial = g.I.StreamIsPartial.expects_more c.args.input.now in
    let flag = g.met.I.StreamIsPartial.keeps_flag c.args.input.now c.values.input so_far.kept in
    let below = subst (IsBelow counts.greatest) so_far.counted (c.values-test.ensures.0 refl) in
    let refusable = g.E.ParserError.append_refusable in
    let means = subst (λ more. Appending refusable (OneMore counts.least c.values.count (Taking inner)) more here (Fails f)) flag c.in-Err.ensures.means in
    let fails = subst (λ n. Appending refusable (OneMore counts.least n (Taking inner)) partial here (Fails f)) so_far.counted means in
    (xs, (c.values.whole, (here, ((so_far.values, so_far.folds), below, inl fails))))

pub returns-clause-means : goal.returns-clause-means
returns-clause-means g c =
    let stands = ahead g.I.Rest.location g.I.Stream.remaining in
    let counts = c.args.fold.now.counts in
    let inner = g.P.Parser.means c.args.fold.now.parser.now in
    let xs = c.values.invariant.0 in
    let so_far = c.values.invariant.1 in
    let none_more : ¬ (IsBelow counts.greatest c.values.count) = λ more. absurd (false≢true (c.values-test.ensures.1 more)) in
    let full = subst (λ n. counts.greatest ≡ Some n) so_far.counted (IsUpTo-full counts.greatest c.values.count so_far.up_to none_more) in
    let enough = Ascends-full counts.least counts.greatest (length xs) c.requires.ascend full in
    let partial = g.I.StreamIsPartial.expects_more c.args.input.now in
    (xs, (so_far.folds, Repeats-full counts.least counts.greatest inner partial xs (stands c.args.input.now) (stands c.values.input) so_far.values enough full))

pub returns-in-Err-clause-error : goal.returns-in-Err-clause-error
returns-in-Err-clause-error g c =
    let stands = ahead g.I.Rest.location g.I.Stream.remaining in
    let stood = ahead g.I.Checkpoint.Rest.location g.I.Stream.remained in
    let appends = g.E.ParserError.append_gives in
    let refusable = g.E.ParserError.append_refusable in
    let fold = c.args.fold.now in
    let counts = fold.counts in
    let inner = g.P.Parser.means fold.parser.now in
    let xs = c.values.invariant.0 in
    let so_far = c.values.invariant.1 in
    let here = stands c.values.input in
    let left = c.one_more.new.input in
    let failure = c.in-Err.failure in
    let f = failed failure (stands left) in
    let partial = g.I.StreamIsPartial.expects_more c.args.input.now in
    let flag = g.met.I.StreamIsPartial.keeps_flag c.args.input.now c.values.input so_far.kept in
    let below = subst (IsBelow counts.greatest) so_far.counted (c.values-test.ensures.0 refl) in
    let means = subst (λ more. Appending refusable (OneMore counts.least c.values.count (Taking inner)) more here (Fails f)) flag c.in-Err.ensures.means in
    let fails = subst (λ n. Appending refusable (OneMore counts.least n (Taking inner)) partial here (Fails f)) so_far.counted means in
    let errors = TakingErrors g.E.ParserError.assert_gives inner (g.P.Parser.errors fold.parser.now) in
    let error = subst (λ more. AppendedErrors stood appends errors more here left failure) flag c.in-Err.ensures.error in
    inl (RepeatErrors-fails refusable counts.greatest inner partial xs (stands c.args.input.now) here so_far.values below stood appends errors left (stands left) counts.least failure fails error)

pub returns-in-Err-step-clause-means : goal.returns-in-Err-step-clause-means
returns-in-Err-step-clause-means g c =
    let stands = ahead g.I.Rest.location g.I.Stream.remaining in
    let counts = c.args.fold.now.counts in
    let taking = Taking (g.P.Parser.means c.args.fold.now.parser.now) in
    let xs = c.values.invariant.0 in
    let so_far = c.values.invariant.1 in
    let x = c.in-Ok-Some.value in
    let here = stands c.values.input in
    let next = stands c.one_more.new.input in
    let flag = g.met.I.StreamIsPartial.keeps_flag c.args.input.now c.values.input so_far.kept in
    let below = subst (IsBelow counts.greatest) so_far.counted (c.values-test.ensures.0 refl) in
    let at_value = subst (λ o. OneMore counts.least c.values.count taking (g.I.StreamIsPartial.expects_more c.values.input) here (Gives o next)) c.in-Ok-Some.field-0-is c.in-Ok-Some.ensures.means in
    let means = subst (λ more. taking more here (Gives x next)) flag at_value in
    let back = same-place (stands c.reset.new.self) here (c.reset.ensures.location ∙ c.checkpoint-start.ensures.location) (c.reset.ensures.remains ∙ c.checkpoint-start.ensures.means) in
    (xs, (c.values.whole, (here, ((so_far.values, so_far.folds), below, inr (c.in-Err-step.cause, ((x, (next, (means, c.in-Err-step.ensures))), ap Backtracks back))))))

pub returns-in-Err-step-clause-error : goal.returns-in-Err-step-clause-error
returns-in-Err-step-clause-error g c =
    let stands = ahead g.I.Rest.location g.I.Stream.remaining in
    let taking = Taking (g.P.Parser.means c.args.fold.now.parser.now) in
    let xs = c.values.invariant.0 in
    let so_far = c.values.invariant.1 in
    let x = c.in-Ok-Some.value in
    let here = stands c.values.input in
    let next = stands c.one_more.new.input in
    let flag = g.met.I.StreamIsPartial.keeps_flag c.args.input.now c.values.input so_far.kept in
    let at_value = subst (λ o. OneMore c.args.fold.now.counts.least c.values.count taking (g.I.StreamIsPartial.expects_more c.values.input) here (Gives o next)) c.in-Ok-Some.field-0-is c.in-Ok-Some.ensures.means in
    let means = subst (λ more. taking more here (Gives x next)) flag at_value in
    inr (xs, (c.values.whole, (here, (c.in-Err-step.cause, ((so_far.values, so_far.folds), (x, (next, (means, c.in-Err-step.ensures))), c.tell.ensures)))))
