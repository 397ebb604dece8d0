use Rattle.std.proofs.Common.{[], ◌∷◌, ◌++◌, All, refl, sym, ◌∙◌, ap, subst}
use Rattle.std.proofs.lemmas.List.{append_assoc}
use Rattle.std.proofs.lemmas.List.Elements.{All-tail}
use Rattle.winnow_error.specs.declared.failure.Failure.TheVariants.{Incomplete, Backtrack, Cut, Refused}
use Rattle.winnow_parser.specs.Outcome.{Moves, Backtracks, Cuts, Needs, Refuses, Gives, Fails}
use Rattle.winnow_parser.specs.Answer.{ahead, failed}
use Rattle.winnow_parser.proofs.lemmas.TakenLemmas.{same-place}
use Rattle.winnow_combinator.proofs.lemmas.AltOfLemmas.{there, IsAltOf-settles, IsAltOf-at, IsAltOf-refused, IsAltOf-next, AltErrorsOf-settles, AltErrorsOf-at, AltErrorsOf-refused, AltErrorsOf-next}
use Rattle.winnow_combinator.proofs.parsers.alt_of_many.FirstOfParser.parse_next.Goals as goal

pub returns-in-Err-Cut-clause-means : goal.returns-in-Err-Cut-clause-means
returns-in-Err-Cut-clause-means g c =
    let stands = ahead g.I.Rest.location g.I.Stream.remaining in
    let means = g.P.Parser.means in
    let errors = g.P.Parser.errors in
    let r = g.E.ParserError.or_refusable in
    let joins = g.E.ParserError.or_gives in
    let first = c.args.self.now.first.now in
    let whole = c.args.self.now.rest.now in
    let partial = g.I.StreamIsPartial.expects_more c.args.input.now in
    let here = stands c.args.input.now in
    IsAltOf-settles r means partial here (means first) whole (Fails (Cuts (stands c.parse_next.new.input))) tt (subst (λ f. means first partial here (Fails (failed f (stands c.parse_next.new.input)))) c.in-Err-Cut.field-0-is c.in-Err-Cut.ensures.means)

pub returns-in-Err-Cut-clause-error : goal.returns-in-Err-Cut-clause-error
returns-in-Err-Cut-clause-error g c =
    let stands = ahead g.I.Rest.location g.I.Stream.remaining in
    let means = g.P.Parser.means in
    let errors = g.P.Parser.errors in
    let r = g.E.ParserError.or_refusable in
    let joins = g.E.ParserError.or_gives in
    let first = c.args.self.now.first.now in
    let whole = c.args.self.now.rest.now in
    let partial = g.I.StreamIsPartial.expects_more c.args.input.now in
    let here = stands c.args.input.now in
    AltErrorsOf-settles stands r joins means errors partial here c.parse_next.new.input (means first) (errors first) whole (Cut c.in-Err-Cut.error) tt (subst (λ f. errors first partial here c.parse_next.new.input f) c.in-Err-Cut.field-0-is c.in-Err-Cut.ensures.error)

pub returns-in-Err-Incomplete-clause-means : goal.returns-in-Err-Incomplete-clause-means
returns-in-Err-Incomplete-clause-means g c =
    let stands = ahead g.I.Rest.location g.I.Stream.remaining in
    let means = g.P.Parser.means in
    let errors = g.P.Parser.errors in
    let r = g.E.ParserError.or_refusable in
    let joins = g.E.ParserError.or_gives in
    let first = c.args.self.now.first.now in
    let whole = c.args.self.now.rest.now in
    let partial = g.I.StreamIsPartial.expects_more c.args.input.now in
    let here = stands c.args.input.now in
    IsAltOf-settles r means partial here (means first) whole (Fails (Needs c.in-Err-Incomplete.needed)) tt (subst (λ f. means first partial here (Fails (failed f (stands c.parse_next.new.input)))) c.in-Err-Incomplete.field-0-is c.in-Err-Incomplete.ensures.means)

pub returns-in-Err-Incomplete-clause-error : goal.returns-in-Err-Incomplete-clause-error
returns-in-Err-Incomplete-clause-error g c =
    let stands = ahead g.I.Rest.location g.I.Stream.remaining in
    let means = g.P.Parser.means in
    let errors = g.P.Parser.errors in
    let r = g.E.ParserError.or_refusable in
    let joins = g.E.ParserError.or_gives in
    let first = c.args.self.now.first.now in
    let whole = c.args.self.now.rest.now in
    let partial = g.I.StreamIsPartial.expects_more c.args.input.now in
    let here = stands c.args.input.now in
    AltErrorsOf-settles stands r joins means errors partial here c.parse_next.new.input (means first) (errors first) whole (Incomplete c.in-Err-Incomplete.needed) tt (subst (λ f. errors first partial here c.parse_next.new.input f) c.in-Err-Incomplete.field-0-is c.in-Err-Incomplete.ensures.error)

pub returns-in-Err-Refused-clause-means : goal.returns-in-Err-Refused-clause-means
returns-in-Err-Refused-clause-means g c =
    let stands = ahead g.I.Rest.location g.I.Stream.remaining in
    let means = g.P.Parser.means in
    let errors = g.P.Parser.errors in
    let r = g.E.ParserError.or_refusable in
    let joins = g.E.ParserError.or_gives in
    let first = c.args.self.now.first.now in
    let whole = c.args.self.now.rest.now in
    let partial = g.I.StreamIsPartial.expects_more c.args.input.now in
    let here = stands c.args.input.now in
    IsAltOf-settles r means partial here (means first) whole (Fails Refuses) tt (subst (λ f. means first partial here (Fails (failed f (stands c.parse_next.new.input)))) c.in-Err-Refused.field-0-is c.in-Err-Refused.ensures.means)

pub returns-in-Err-Refused-clause-error : goal.returns-in-Err-Refused-clause-error
returns-in-Err-Refused-clause-error g c =
    let stands = ahead g.I.Rest.location g.I.Stream.remaining in
    let means = g.P.Parser.means in
    let errors = g.P.Parser.errors in
    let r = g.E.ParserError.or_refusable in
    let joins = g.E.ParserError.or_gives in
    let first = c.args.self.now.first.now in
    let whole = c.args.self.now.rest.now in
    let partial = g.I.StreamIsPartial.expects_more c.args.input.now in
    let here = stands c.args.input.now in
    AltErrorsOf-settles stands r joins means errors partial here c.parse_next.new.input (means first) (errors first) whole (Refused c.in-Err-Refused.refused) tt (subst (λ f. errors first partial here c.parse_next.new.input f) c.in-Err-Refused.field-0-is c.in-Err-Refused.ensures.error)

pub returns-in-Ok-clause-means : goal.returns-in-Ok-clause-means
returns-in-Ok-clause-means g c =
    let stands = ahead g.I.Rest.location g.I.Stream.remaining in
    let means = g.P.Parser.means in
    let errors = g.P.Parser.errors in
    let r = g.E.ParserError.or_refusable in
    let joins = g.E.ParserError.or_gives in
    let first = c.args.self.now.first.now in
    let whole = c.args.self.now.rest.now in
    let partial = g.I.StreamIsPartial.expects_more c.args.input.now in
    let here = stands c.args.input.now in
    IsAltOf-settles r means partial here (means first) whole (Gives c.in-Ok.value (stands c.parse_next.new.input)) tt c.in-Ok.ensures.means

pub parsers-init : goal.parsers-init
parsers-init g c =
    let stands = ahead g.I.Rest.location g.I.Stream.remaining in
    let means = g.P.Parser.means in
    let errors = g.P.Parser.errors in
    let r = g.E.ParserError.or_refusable in
    let joins = g.E.ParserError.or_gives in
    let first = c.args.self.now.first.now in
    let whole = c.args.self.now.rest.now in
    let partial = g.I.StreamIsPartial.expects_more c.args.input.now in
    let here = stands c.args.input.now in (
      [],
      record {
        valid = c.parse_next.ensures.valid;
        kept = c.parse_next.ensures.kept;
        onward = c.parse_next.ensures.onward;
        ready = c.requires.ready.1;
        split = refl;
        means = subst (λ f. means first partial here (Fails (failed f (stands c.parse_next.new.input)))) c.in-Err-Backtrack.field-0-is c.in-Err-Backtrack.ensures.means;
        error = subst (λ f. errors first partial here c.parse_next.new.input f) c.in-Err-Backtrack.field-0-is c.in-Err-Backtrack.ensures.error;
      },
    )

pub returns-in-Err-Cut-parse_next-clause-means : goal.returns-in-Err-Cut-parse_next-clause-means
returns-in-Err-Cut-parse_next-clause-means g c =
    let stands = ahead g.I.Rest.location g.I.Stream.remaining in
    let means = g.P.Parser.means in
    let errors = g.P.Parser.errors in
    let r = g.E.ParserError.or_refusable in
    let joins = g.E.ParserError.or_gives in
    let first = c.args.self.now.first.now in
    let whole = c.args.self.now.rest.now in
    let partial = g.I.StreamIsPartial.expects_more c.args.input.now in
    let here = stands c.args.input.now in
    let done = c.parsers.invariant.0 in
    let so_far = c.parsers.invariant.1 in
    let next = c.in-Some.parser.now in
    let later = c.in-Some.later.now in
    let back = same-place (stands c.reset.new.self) here (c.reset.ensures.location ∙ c.checkpoint-start.ensures.location) (c.reset.ensures.remains ∙ c.checkpoint-start.ensures.means) in
    let kept = g.met.I.Stream.keeps_transitive c.args.input.now c.parsers.input c.reset.new.self so_far.kept c.reset.ensures.kept in
    let flag = g.met.I.StreamIsPartial.keeps_flag c.args.input.now c.reset.new.self kept in
    let split = so_far.split ∙ ap (λ list. done ++ list) c.in-Some.ensures.cases.0 in
    let left = c.parse_next-in-Some.new.input in
    IsAltOf-at r means partial here (means first) done next later (stands c.parsers.input) so_far.means whole split (Fails (Cuts (stands left))) tt
    (there (λ more a. means next more a (Fails (Cuts (stands left)))) flag back (subst (λ f. means next (g.I.StreamIsPartial.expects_more c.reset.new.self) (stands c.reset.new.self) (Fails (failed f (stands left)))) c.in-Err-Cut-parse_next.field-0-is c.in-Err-Cut-parse_next.ensures.means))

pub returns-in-Err-Cut-parse_next-clause-error : goal.returns-in-Err-Cut-parse_next-clause-error
returns-in-Err-Cut-parse_next-clause-error g c =
    let stands = ahead g.I.Rest.location g.I.Stream.remaining in
    let means = g.P.Parser.means in
    let errors = g.P.Parser.errors in
    let r = g.E.ParserError.or_refusable in
    let joins = g.E.ParserError.or_gives in
    let first = c.args.self.now.first.now in
    let whole = c.args.self.now.rest.now in
    let partial = g.I.StreamIsPartial.expects_more c.args.input.now in
    let here = stands c.args.input.now in
    let done = c.parsers.invariant.0 in
    let so_far = c.parsers.invariant.1 in
    let next = c.in-Some.parser.now in
    let later = c.in-Some.later.now in
    let back = same-place (stands c.reset.new.self) here (c.reset.ensures.location ∙ c.checkpoint-start.ensures.location) (c.reset.ensures.remains ∙ c.checkpoint-start.ensures.means) in
    let kept = g.met.I.Stream.keeps_transitive c.args.input.now c.parsers.input c.reset.new.self so_far.kept c.reset.ensures.kept in
    let flag = g.met.I.StreamIsPartial.keeps_flag c.args.input.now c.reset.new.self kept in
    let split = so_far.split ∙ ap (λ list. done ++ list) c.in-Some.ensures.cases.0 in
    let left = c.parse_next-in-Some.new.input in
    AltErrorsOf-at stands r joins means errors partial here (means first) (errors first) done next later c.parsers.error (c.parsers.input, (so_far.error, so_far.means)) left whole split (Cut c.in-Err-Cut-parse_next.error) tt
    (there (λ more a. errors next more a left (Cut c.in-Err-Cut-parse_next.error)) flag back (subst (λ f. errors next (g.I.StreamIsPartial.expects_more c.reset.new.self) (stands c.reset.new.self) left f) c.in-Err-Cut-parse_next.field-0-is c.in-Err-Cut-parse_next.ensures.error))

pub returns-in-Err-Incomplete-parse_next-clause-means : goal.returns-in-Err-Incomplete-parse_next-clause-means
returns-in-Err-Incomplete-parse_next-clause-means g c =
    let stands = ahead g.I.Rest.location g.I.Stream.remaining in
    let means = g.P.Parser.means in
    let errors = g.P.Parser.errors in
    let r = g.E.ParserError.or_refusable in
    let joins = g.E.ParserError.or_gives in
    let first = c.args.self.now.first.now in
    let whole = c.args.self.now.rest.now in
    let partial = g.I.StreamIsPartial.expects_more c.args.input.now in
    let here = stands c.args.input.now in
    let done = c.parsers.invariant.0 in
    let so_far = c.parsers.invariant.1 in
    let next = c.in-Some.parser.now in
    let later = c.in-Some.later.now in
    let back = same-place (stands c.reset.new.self) here (c.reset.ensures.location ∙ c.checkpoint-start.ensures.location) (c.reset.ensures.remains ∙ c.checkpoint-start.ensures.means) in
    let kept = g.met.I.Stream.keeps_transitive c.args.input.now c.parsers.input c.reset.new.self so_far.kept c.reset.ensures.kept in
    let flag = g.met.I.StreamIsPartial.keeps_flag c.args.input.now c.reset.new.self kept in
    let split = so_far.split ∙ ap (λ list. done ++ list) c.in-Some.ensures.cases.0 in
    let left = c.parse_next-in-Some.new.input in
    IsAltOf-at r means partial here (means first) done next later (stands c.parsers.input) so_far.means whole split (Fails (Needs c.in-Err-Incomplete-parse_next.needed)) tt
    (there (λ more a. means next more a (Fails (Needs c.in-Err-Incomplete-parse_next.needed))) flag back (subst (λ f. means next (g.I.StreamIsPartial.expects_more c.reset.new.self) (stands c.reset.new.self) (Fails (failed f (stands left)))) c.in-Err-Incomplete-parse_next.field-0-is c.in-Err-Incomplete-parse_next.ensures.means))

pub returns-in-Err-Incomplete-parse_next-clause-error : goal.returns-in-Err-Incomplete-parse_next-clause-error
returns-in-Err-Incomplete-parse_next-clause-error g c =
    let stands = ahead g.I.Rest.location g.I.Stream.remaining in
    let means = g.P.Parser.means in
    let errors = g.P.Parser.errors in
    let r = g.E.ParserError.or_refusable in
    let joins = g.E.ParserError.or_gives in
    let first = c.args.self.now.first.now in
    let whole = c.args.self.now.rest.now in
    let partial = g.I.StreamIsPartial.expects_more c.args.input.now in
    let here = stands c.args.input.now in
    let done = c.parsers.invariant.0 in
    let so_far = c.parsers.invariant.1 in
    let next = c.in-Some.parser.now in
    let later = c.in-Some.later.now in
    let back = same-place (stands c.reset.new.self) here (c.reset.ensures.location ∙ c.checkpoint-start.ensures.location) (c.reset.ensures.remains ∙ c.checkpoint-start.ensures.means) in
    let kept = g.met.I.Stream.keeps_transitive c.args.input.now c.parsers.input c.reset.new.self so_far.kept c.reset.ensures.kept in
    let flag = g.met.I.StreamIsPartial.keeps_flag c.args.input.now c.reset.new.self kept in
    let split = so_far.split ∙ ap (λ list. done ++ list) c.in-Some.ensures.cases.0 in
    let left = c.parse_next-in-Some.new.input in
    AltErrorsOf-at stands r joins means errors partial here (means first) (errors first) done next later c.parsers.error (c.parsers.input, (so_far.error, so_far.means)) left whole split (Incomplete c.in-Err-Incomplete-parse_next.needed) tt
    (there (λ more a. errors next more a left (Incomplete c.in-Err-Incomplete-parse_next.needed)) flag back (subst (λ f. errors next (g.I.StreamIsPartial.expects_more c.reset.new.self) (stands c.reset.new.self) left f) c.in-Err-Incomplete-parse_next.field-0-is c.in-Err-Incomplete-parse_next.ensures.error))

pub returns-in-Err-Refused-parse_next-clause-means : goal.returns-in-Err-Refused-parse_next-clause-means
returns-in-Err-Refused-parse_next-clause-means g c =
    let stands = ahead g.I.Rest.location g.I.Stream.remaining in
    let means = g.P.Parser.means in
    let errors = g.P.Parser.errors in
    let r = g.E.ParserError.or_refusable in
    let joins = g.E.ParserError.or_gives in
    let first = c.args.self.now.first.now in
    let whole = c.args.self.now.rest.now in
    let partial = g.I.StreamIsPartial.expects_more c.args.input.now in
    let here = stands c.args.input.now in
    let done = c.parsers.invariant.0 in
    let so_far = c.parsers.invariant.1 in
    let next = c.in-Some.parser.now in
    let later = c.in-Some.later.now in
    let back = same-place (stands c.reset.new.self) here (c.reset.ensures.location ∙ c.checkpoint-start.ensures.location) (c.reset.ensures.remains ∙ c.checkpoint-start.ensures.means) in
    let kept = g.met.I.Stream.keeps_transitive c.args.input.now c.parsers.input c.reset.new.self so_far.kept c.reset.ensures.kept in
    let flag = g.met.I.StreamIsPartial.keeps_flag c.args.input.now c.reset.new.self kept in
    let split = so_far.split ∙ ap (λ list. done ++ list) c.in-Some.ensures.cases.0 in
    let left = c.parse_next-in-Some.new.input in
    IsAltOf-at r means partial here (means first) done next later (stands c.parsers.input) so_far.means whole split (Fails Refuses) tt
    (there (λ more a. means next more a (Fails Refuses)) flag back (subst (λ f. means next (g.I.StreamIsPartial.expects_more c.reset.new.self) (stands c.reset.new.self) (Fails (failed f (stands left)))) c.in-Err-Refused-parse_next.field-0-is c.in-Err-Refused-parse_next.ensures.means))

pub returns-in-Err-Refused-parse_next-clause-error : goal.returns-in-Err-Refused-parse_next-clause-error
returns-in-Err-Refused-parse_next-clause-error g c =
    let stands = ahead g.I.Rest.location g.I.Stream.remaining in
    let means = g.P.Parser.means in
    let errors = g.P.Parser.errors in
    let r = g.E.ParserError.or_refusable in
    let joins = g.E.ParserError.or_gives in
    let first = c.args.self.now.first.now in
    let whole = c.args.self.now.rest.now in
    let partial = g.I.StreamIsPartial.expects_more c.args.input.now in
    let here = stands c.args.input.now in
    let done = c.parsers.invariant.0 in
    let so_far = c.parsers.invariant.1 in
    let next = c.in-Some.parser.now in
    let later = c.in-Some.later.now in
    let back = same-place (stands c.reset.new.self) here (c.reset.ensures.location ∙ c.checkpoint-start.ensures.location) (c.reset.ensures.remains ∙ c.checkpoint-start.ensures.means) in
    let kept = g.met.I.Stream.keeps_transitive c.args.input.now c.parsers.input c.reset.new.self so_far.kept c.reset.ensures.kept in
    let flag = g.met.I.StreamIsPartial.keeps_flag c.args.input.now c.reset.new.self kept in
    let split = so_far.split ∙ ap (λ list. done ++ list) c.in-Some.ensures.cases.0 in
    let left = c.parse_next-in-Some.new.input in
    AltErrorsOf-at stands r joins means errors partial here (means first) (errors first) done next later c.parsers.error (c.parsers.input, (so_far.error, so_far.means)) left whole split (Refused c.in-Err-Refused-parse_next.refused) tt
    (there (λ more a. errors next more a left (Refused c.in-Err-Refused-parse_next.refused)) flag back (subst (λ f. errors next (g.I.StreamIsPartial.expects_more c.reset.new.self) (stands c.reset.new.self) left f) c.in-Err-Refused-parse_next.field-0-is c.in-Err-Refused-parse_next.ensures.error))

pub returns-in-Ok-parse_next-clause-means : goal.returns-in-Ok-parse_next-clause-means
returns-in-Ok-parse_next-clause-means g c =
    let stands = ahead g.I.Rest.location g.I.Stream.remaining in
    let means = g.P.Parser.means in
    let errors = g.P.Parser.errors in
    let r = g.E.ParserError.or_refusable in
    let joins = g.E.ParserError.or_gives in
    let first = c.args.self.now.first.now in
    let whole = c.args.self.now.rest.now in
    let partial = g.I.StreamIsPartial.expects_more c.args.input.now in
    let here = stands c.args.input.now in
    let done = c.parsers.invariant.0 in
    let so_far = c.parsers.invariant.1 in
    let next = c.in-Some.parser.now in
    let later = c.in-Some.later.now in
    let back = same-place (stands c.reset.new.self) here (c.reset.ensures.location ∙ c.checkpoint-start.ensures.location) (c.reset.ensures.remains ∙ c.checkpoint-start.ensures.means) in
    let kept = g.met.I.Stream.keeps_transitive c.args.input.now c.parsers.input c.reset.new.self so_far.kept c.reset.ensures.kept in
    let flag = g.met.I.StreamIsPartial.keeps_flag c.args.input.now c.reset.new.self kept in
    let split = so_far.split ∙ ap (λ list. done ++ list) c.in-Some.ensures.cases.0 in
    let left = c.parse_next-in-Some.new.input in
    IsAltOf-at r means partial here (means first) done next later (stands c.parsers.input) so_far.means whole split (Gives c.in-Ok-parse_next.value (stands left)) tt
    (there (λ more a. means next more a (Gives c.in-Ok-parse_next.value (stands left))) flag back c.in-Ok-parse_next.ensures.means)

pub returns-in-Err-clause-means : goal.returns-in-Err-clause-means
returns-in-Err-clause-means g c =
    let stands = ahead g.I.Rest.location g.I.Stream.remaining in
    let means = g.P.Parser.means in
    let errors = g.P.Parser.errors in
    let r = g.E.ParserError.or_refusable in
    let joins = g.E.ParserError.or_gives in
    let first = c.args.self.now.first.now in
    let whole = c.args.self.now.rest.now in
    let partial = g.I.StreamIsPartial.expects_more c.args.input.now in
    let here = stands c.args.input.now in
    let done = c.parsers.invariant.0 in
    let so_far = c.parsers.invariant.1 in
    let next = c.in-Some.parser.now in
    let later = c.in-Some.later.now in
    let back = same-place (stands c.reset.new.self) here (c.reset.ensures.location ∙ c.checkpoint-start.ensures.location) (c.reset.ensures.remains ∙ c.checkpoint-start.ensures.means) in
    let kept = g.met.I.Stream.keeps_transitive c.args.input.now c.parsers.input c.reset.new.self so_far.kept c.reset.ensures.kept in
    let flag = g.met.I.StreamIsPartial.keeps_flag c.args.input.now c.reset.new.self kept in
    let split = so_far.split ∙ ap (λ list. done ++ list) c.in-Some.ensures.cases.0 in
    let left = c.parse_next-in-Some.new.input in
    IsAltOf-refused r means partial here (means first) done next later (stands c.parsers.input) so_far.means c.in-Err.ensures.err whole split

pub returns-in-Err-clause-error : goal.returns-in-Err-clause-error
returns-in-Err-clause-error g c =
    let stands = ahead g.I.Rest.location g.I.Stream.remaining in
    let means = g.P.Parser.means in
    let errors = g.P.Parser.errors in
    let r = g.E.ParserError.or_refusable in
    let joins = g.E.ParserError.or_gives in
    let first = c.args.self.now.first.now in
    let whole = c.args.self.now.rest.now in
    let partial = g.I.StreamIsPartial.expects_more c.args.input.now in
    let here = stands c.args.input.now in
    let done = c.parsers.invariant.0 in
    let so_far = c.parsers.invariant.1 in
    let next = c.in-Some.parser.now in
    let later = c.in-Some.later.now in
    let back = same-place (stands c.reset.new.self) here (c.reset.ensures.location ∙ c.checkpoint-start.ensures.location) (c.reset.ensures.remains ∙ c.checkpoint-start.ensures.means) in
    let kept = g.met.I.Stream.keeps_transitive c.args.input.now c.parsers.input c.reset.new.self so_far.kept c.reset.ensures.kept in
    let flag = g.met.I.StreamIsPartial.keeps_flag c.args.input.now c.reset.new.self kept in
    let split = so_far.split ∙ ap (λ list. done ++ list) c.in-Some.ensures.cases.0 in
    let left = c.parse_next-in-Some.new.input in
    AltErrorsOf-refused stands r joins means errors partial here (means first) (errors first) done next later c.parsers.error (c.parsers.input, (so_far.error, so_far.means)) left whole split c.in-Err.refused

pub parsers-preserved : goal.parsers-preserved
parsers-preserved g c =
    let stands = ahead g.I.Rest.location g.I.Stream.remaining in
    let means = g.P.Parser.means in
    let errors = g.P.Parser.errors in
    let r = g.E.ParserError.or_refusable in
    let joins = g.E.ParserError.or_gives in
    let first = c.args.self.now.first.now in
    let whole = c.args.self.now.rest.now in
    let partial = g.I.StreamIsPartial.expects_more c.args.input.now in
    let here = stands c.args.input.now in
    let done = c.parsers.invariant.0 in
    let so_far = c.parsers.invariant.1 in
    let next = c.in-Some.parser.now in
    let later = c.in-Some.later.now in
    let back = same-place (stands c.reset.new.self) here (c.reset.ensures.location ∙ c.checkpoint-start.ensures.location) (c.reset.ensures.remains ∙ c.checkpoint-start.ensures.means) in
    let kept = g.met.I.Stream.keeps_transitive c.args.input.now c.parsers.input c.reset.new.self so_far.kept c.reset.ensures.kept in
    let flag = g.met.I.StreamIsPartial.keeps_flag c.args.input.now c.reset.new.self kept in
    let split = so_far.split ∙ ap (λ list. done ++ list) c.in-Some.ensures.cases.0 in
    let left = c.parse_next-in-Some.new.input in (
      done ++ next ∷ [],
      record {
        valid = c.parse_next-in-Some.ensures.valid;
        kept = g.met.I.Stream.keeps_transitive c.args.input.now c.reset.new.self left kept c.parse_next-in-Some.ensures.kept;
        onward = subst (λ a. Moves a (stands left)) back c.parse_next-in-Some.ensures.onward;
        ready = All-tail g.P.Parser.ready next later (subst (All g.P.Parser.ready) c.in-Some.ensures.cases.0 so_far.ready);
        split = split ∙ sym (append_assoc done (next ∷ []) later);
        means = IsAltOf-next r means partial here (means first) done next later (stands c.parsers.input) so_far.means (stands left)
            (there (λ more a. means next more a (Fails (Backtracks (stands left)))) flag back (subst (λ f. means next (g.I.StreamIsPartial.expects_more c.reset.new.self) (stands c.reset.new.self) (Fails (failed f (stands left)))) c.in-Err-Backtrack-parse_next.field-0-is c.in-Err-Backtrack-parse_next.ensures.means));
        error = AltErrorsOf-next stands r joins means errors partial here (means first) (errors first) done next later c.parsers.error (c.parsers.input, (so_far.error, so_far.means)) left
            c.in-Err-Backtrack-parse_next.other c.in-Ok-or.joined
            (there (λ more a. errors next more a left (Backtrack c.in-Err-Backtrack-parse_next.other)) flag back (subst (λ f. errors next (g.I.StreamIsPartial.expects_more c.reset.new.self) (stands c.reset.new.self) left f) c.in-Err-Backtrack-parse_next.field-0-is c.in-Err-Backtrack-parse_next.ensures.error)) c.in-Ok-or.ensures.ok;
      },
    )
