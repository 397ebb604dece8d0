use Rattle.std.proofs.Common.{◌<◌, ◌≤◌, [], ◌∷◌, ◌++◌, None, Some, inl, arith, subst, length-append}
use Rattle.winnow_stream.specs.Source.{width}
use Rattle.winnow_parser.specs.Outcome.{Gives, Fails}
use Rattle.winnow_parser.specs.Answer.{ahead, failed}
use Rattle.winnow_parser.specs.Parts.{Moves-on}
use Rattle.winnow_combinator.proofs.lemmas.GatherLemmas.{Gathered-fails}
use Rattle.winnow_ascii.specs.Escaped.{NextFragment, UpToEnd, IsEscaped, EscapeErrors, FragmentErrors, UpToEndErrors}
use Rattle.winnow_ascii.proofs.lemmas.EscapedLemmas.{some-width, value-before-end, TakesInTurn-more, GivesInTurn-ended, GivesInTurn-last}
use Rattle.winnow_ascii.proofs.parsers.escaped.gather_fragments.Goals as goal

pub accumulate-requires : goal.accumulate-requires
accumulate-requires g c =
    let stands = ahead g.I.Rest.location g.I.Stream.remaining in
    let text = c.args.text.now in
    let next = NextFragment (g.P.Parser.means text.normal) (g.C.Parser.means text.control) (g.Q.Parser.means text.escapable) in
    let xs = c.loop-fragment.invariant.0 in
    let so_far = c.loop-fragment.invariant.1 in
    let here = c.loop-fragment.input in
    let after = stands c.fragment_or_end.new.input in
    let more = g.I.StreamIsPartial.expects_more here in
    let means = subst (λ o. UpToEnd next more (stands here) (Gives o after)) c.in-Ok-Some.field-0-is c.in-Ok-Some.ensures.means in
    let some = some-width (g.I.Stream.remaining here) (g.met.I.Stream.positive_widths here so_far.valid) (value-before-end next more c.in-Ok-Some.fragment (stands here) after means) in
    g.met.A.Accumulate.fits c.loop-fragment.whole xs so_far.made (omega (arith, some, so_far.room))

pub returns-in-Ok-None-clause-means : goal.returns-in-Ok-None-clause-means
returns-in-Ok-None-clause-means g c =
    let stands = ahead g.I.Rest.location g.I.Stream.remaining in
    let text = c.args.text.now in
    let step = UpToEnd (NextFragment (g.P.Parser.means text.normal) (g.C.Parser.means text.control) (g.Q.Parser.means text.escapable)) in
    let xs = c.loop-fragment.invariant.0 in
    let so_far = c.loop-fragment.invariant.1 in
    let start = c.args.input.now in
    let here = c.loop-fragment.input in
    let after = stands c.fragment_or_end.new.input in
    let partial = g.I.StreamIsPartial.expects_more start in
    let flag = g.met.I.StreamIsPartial.keeps_flag start here so_far.kept in
    let at_none = subst (λ o. step (g.I.StreamIsPartial.expects_more here) (stands here) (Gives o after)) {x = c.in-Ok-None.field-0} c.in-Ok-None.field-0-is c.in-Ok-None.ensures.means in
    let none = subst (λ more. step more (stands here) (Gives None after)) flag at_none in
    (xs, (so_far.made, GivesInTurn-ended step partial xs (stands start) (stands here) (Gives tt after) so_far.values none))

pub returns-in-Err-clause-means : goal.returns-in-Err-clause-means
returns-in-Err-clause-means g c =
    let stands = ahead g.I.Rest.location g.I.Stream.remaining in
    let text = c.args.text.now in
    let all = IsEscaped (g.P.Parser.means text.normal) (g.C.Parser.means text.control) (g.Q.Parser.means text.escapable) in
    let step = UpToEnd (NextFragment (g.P.Parser.means text.normal) (g.C.Parser.means text.control) (g.Q.Parser.means text.escapable)) in
    let xs = c.loop-fragment.invariant.0 in
    let so_far = c.loop-fragment.invariant.1 in
    let start = c.args.input.now in
    let here = c.loop-fragment.input in
    let f = failed c.in-Err.failure (stands c.fragment_or_end.new.input) in
    let partial = g.I.StreamIsPartial.expects_more start in
    let flag = g.met.I.StreamIsPartial.keeps_flag start here so_far.kept in
    let fails = subst (λ more. step more (stands here) (Fails f)) flag c.in-Err.ensures.means in
    Gathered-fails g.A.Accumulate.refusable (λ fragments made. g.A.Accumulate.holds made fragments) all partial (stands start) f
    (xs, GivesInTurn-ended step partial xs (stands start) (stands here) (Fails f) so_far.values fails)

pub returns-in-Err-clause-error : goal.returns-in-Err-clause-error
returns-in-Err-clause-error g c =
    let stands = ahead g.I.Rest.location g.I.Stream.remaining in
    let text = c.args.text.now in
    let at_escape = EscapeErrors (g.C.Parser.means text.control) (g.C.Parser.errors text.control) (g.Q.Parser.errors text.escapable) in
    let errors = UpToEndErrors (FragmentErrors (g.P.Parser.means text.normal) (g.P.Parser.errors text.normal) at_escape) in
    let so_far = c.loop-fragment.invariant.1 in
    let here = c.loop-fragment.input in
    let flag = g.met.I.StreamIsPartial.keeps_flag c.args.input.now here so_far.kept in
    let error = subst (λ more. errors more (stands here) c.fragment_or_end.new.input c.in-Err.failure) flag c.in-Err.ensures.error in
    inl (c.loop-fragment.invariant.0, (stands here, (so_far.values, error)))

pub returns-then-eof_offset-before-clause-means : goal.returns-then-eof_offset-before-clause-means
returns-then-eof_offset-before-clause-means g c =
    let stands = ahead g.I.Rest.location g.I.Stream.remaining in
    let text = c.args.text.now in
    let step = UpToEnd (NextFragment (g.P.Parser.means text.normal) (g.C.Parser.means text.control) (g.Q.Parser.means text.escapable)) in
    let xs = c.loop-fragment.invariant.0 in
    let so_far = c.loop-fragment.invariant.1 in
    let x = c.in-Ok-Some.fragment in
    let start = c.args.input.now in
    let here = c.loop-fragment.input in
    let after = c.fragment_or_end.new.input in
    let partial = g.I.StreamIsPartial.expects_more start in
    let flag = g.met.I.StreamIsPartial.keeps_flag start here so_far.kept in
    let at_some = subst (λ o. step (g.I.StreamIsPartial.expects_more here) (stands here) (Gives o (stands after))) c.in-Ok-Some.field-0-is c.in-Ok-Some.ensures.means in
    let means = subst (λ more. step more (stands here) (Gives (Some x) (stands after))) flag at_some in
    let still : width (g.I.Stream.remaining here) ≤ width (g.I.Stream.remaining after) = omega (arith, c.if-eof_offset-before.true, c.eof_offset.ensures, c.eof_offset-before.ensures) in (
      xs ++ x ∷ [],
      (
        g.met.A.Accumulate.holds_taken c.loop-fragment.whole c.accumulate.new.self xs x so_far.made c.in-Ok.ensures.taken,
        GivesInTurn-last step partial xs x (stands start) (stands here) (stands after) so_far.values means still,
      ),
    )

pub loop-fragment-preserved : goal.loop-fragment-preserved
loop-fragment-preserved g c =
    let stands = ahead g.I.Rest.location g.I.Stream.remaining in
    let text = c.args.text.now in
    let step = UpToEnd (NextFragment (g.P.Parser.means text.normal) (g.C.Parser.means text.control) (g.Q.Parser.means text.escapable)) in
    let xs = c.loop-fragment.invariant.0 in
    let so_far = c.loop-fragment.invariant.1 in
    let x = c.in-Ok-Some.fragment in
    let start = c.args.input.now in
    let here = c.loop-fragment.input in
    let after = c.fragment_or_end.new.input in
    let partial = g.I.StreamIsPartial.expects_more start in
    let flag = g.met.I.StreamIsPartial.keeps_flag start here so_far.kept in
    let at_some = subst (λ o. step (g.I.StreamIsPartial.expects_more here) (stands here) (Gives o (stands after))) c.in-Ok-Some.field-0-is c.in-Ok-Some.ensures.means in
    let means = subst (λ more. step more (stands here) (Gives (Some x) (stands after))) flag at_some in
    let less : width (g.I.Stream.remaining after) < width (g.I.Stream.remaining here) = omega (arith, c.if-eof_offset-before.false, c.eof_offset.ensures, c.eof_offset-before.ensures) in (
      xs ++ x ∷ [],
      record {
        valid = c.in-Ok-Some.ensures.valid;
        kept = g.met.I.Stream.keeps_transitive start here after so_far.kept c.in-Ok-Some.ensures.kept;
        onward = Moves-on (stands start) (stands here) (stands after) so_far.onward c.in-Ok-Some.ensures.onward;
        made = g.met.A.Accumulate.holds_taken c.loop-fragment.whole c.accumulate.new.self xs x so_far.made c.in-Ok.ensures.taken;
        room = omega (arith, less, so_far.room, length-append xs (x ∷ []));
        values = TakesInTurn-more step partial xs x (stands start) (stands here) (stands after) so_far.values means less;
      },
    )
