use Rattle.std.specs.Prelude.{◌≡◌, List, Err}
use Rattle.std.specs.declared.alloc.Global.{Global}
use Rattle.std.specs.declared.vec.Vec.{Vec}
use Rattle.std.proofs.Common.{inl, inr, subst}
use Rattle.winnow_parser.specs.Answer.{ahead, failed}
use Rattle.winnow_parser.specs.Meanings.{Pair}
use Rattle.winnow_parser.specs.Errors.{PairErrors}
use Rattle.winnow_combinator.specs.Misuse.{TakingErrors, GatheredErrors}
use Rattle.winnow_combinator.specs.Repeat.{RepeatErrors}
use Rattle.winnow_combinator.proofs.lemmas.ErrorLemmas.{PairErrors-after}
use Rattle.winnow_combinator.specs.SeparatedFoldr1.{FoldsRight}
use Rattle.winnow_combinator.proofs.lemmas.RightLemmas.{IsSeparatedFoldr1-gives, IsSeparatedFoldr1-fails}
use Rattle.winnow_combinator.proofs.parsers.separated_foldr1.SeparatedFoldr1Parser.parse_next.Goals as goal

pub returns-in-Ok-clause-means : goal.returns-in-Ok-clause-means
returns-in-Ok-clause-means g c =
    let stands = ahead g.I.Rest.location g.I.Stream.remaining in
    let parser = c.args.self.now in
    let here = stands c.args.input.now in
    let between = stands c.parse_next.new.input in
    let left = stands c.parse_next-2.new.input in
    let first = c.in_ok-first.first in
    let partial = g.I.StreamIsPartial.expects_more c.args.input.now in
    let flag = g.met.I.StreamIsPartial.keeps_flag c.args.input.now c.parse_next.new.input c.in_ok-first.ensures.kept in
    let separator = g.S.Parser.means parser.separator in
    let inner = g.P.Parser.means parser.inner in
    let step = λ (one : g.row.O.Denot) (sign : g.row.T.Denot) (right new : g.row.O.Denot). goal.F-post g parser.op one sign right new in
    let gathered = rw (c.repeat-pairs.ensures.counts.0, c.repeat-pairs.ensures.counts.1, c.repeat-pairs.ensures.inner) at c.in-Ok.ensures.means in
    let folds = subst (λ l. FoldsRight step first l c.fold_right.result) gathered.1.0 c.fold_right.ensures in
    IsSeparatedFoldr1-gives step separator inner _ partial flag here between first c.in_ok-first.ensures.means gathered.0 c.fold_right.result left gathered.1.1 folds

pub returns-in-Err-clause-means : goal.returns-in-Err-clause-means
returns-in-Err-clause-means g c =
    let stands = ahead g.I.Rest.location g.I.Stream.remaining in
    let parser = c.args.self.now in
    let here = stands c.args.input.now in
    let between = stands c.parse_next.new.input in
    let partial = g.I.StreamIsPartial.expects_more c.args.input.now in
    let flag = g.met.I.StreamIsPartial.keeps_flag c.args.input.now c.parse_next.new.input c.in_ok-first.ensures.kept in
    let separator = g.S.Parser.means parser.separator in
    let inner = g.P.Parser.means parser.inner in
    let step = λ (one : g.row.O.Denot) (sign : g.row.T.Denot) (right new : g.row.O.Denot). goal.F-post g parser.op one sign right new in
    let f = failed c.in-Err.failure (stands c.parse_next-2.new.input) in
    let gathered = rw (c.repeat-pairs.ensures.counts.0, c.repeat-pairs.ensures.counts.1, c.repeat-pairs.ensures.inner) at c.in-Err.ensures.means in
    IsSeparatedFoldr1-fails step separator inner _ partial flag here between c.in_ok-first.first c.in_ok-first.ensures.means (λ (ys : List (g.row.T.Denot × g.row.O.Denot)) (whole : Vec (g.row.T.Denot × g.row.O.Denot) Global). whole.items ≡ ys) f gathered

pub returns-in-Err-clause-error : goal.returns-in-Err-clause-error
returns-in-Err-clause-error g c =
    let stands = ahead g.I.Rest.location g.I.Stream.remaining in
    let parser = c.args.self.now in
    let here = stands c.args.input.now in
    let between = stands c.parse_next.new.input in
    let left = c.parse_next-2.new.input in
    let failure = c.in-Err.failure in
    let partial = g.I.StreamIsPartial.expects_more c.args.input.now in
    let flag = g.met.I.StreamIsPartial.keeps_flag c.args.input.now c.parse_next.new.input c.in_ok-first.ensures.kept in
    let separator = g.S.Parser.means parser.separator in
    let inner = g.P.Parser.means parser.inner in
    let errors = g.P.Parser.errors parser.inner in
    let pairs = Pair separator inner in
    let later = RepeatErrors pairs (TakingErrors g.E.ParserError.assert_gives pairs (PairErrors separator (g.S.Parser.errors parser.separator) errors)) in
    let ascending = rw (c.repeat-pairs.ensures.counts.0, c.repeat-pairs.ensures.counts.1, c.repeat-pairs.ensures.inner) at c.in-Err.ensures.error in
    let gathered : GatheredErrors later (g.I.StreamIsPartial.expects_more c.parse_next.new.input) between left failure = elim ascending [ inl e ↦ e | inr none ↦ absurd (none.0 tt) ] in
    let rest = subst (λ more. GatheredErrors later more between left failure) flag gathered in
    PairErrors-after inner errors partial here between left {A = g.row.O.Denot} later c.in_ok-first.first (Err failure) c.in_ok-first.ensures.means rest
