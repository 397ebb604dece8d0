use Rattle.winnow_parser.specs.Determined.{Shows}
use Rattle.winnow_combinator.proofs.lemmas.AgreeingFoldLemmas.{determined-try_fold, verifies-respects}
use Rattle.winnow_combinator.proofs.laws.determined_try_fold_law.Goals as goal

pub returns-clause-verify_fold : goal.returns-clause-verify_fold
returns-clause-verify_fold g c = λ v x init op a least greatest start respects.
    determined-try_fold {C = Unit {0}} (Shows x) (Shows v) _ _ start (verifies-respects (Shows x) (Shows v) _ respects) g.E.ParserError.append_refusable (g.A.Parser.means a.parser) a.one least greatest

pub returns-clause-try_fold : goal.returns-clause-try_fold
returns-clause-try_fold g c = λ v x init op a least greatest start respects.
    determined-try_fold (Shows x) (Shows v) _ _ start respects g.E.ParserError.append_refusable (g.A.Parser.means a.parser) a.one least greatest
