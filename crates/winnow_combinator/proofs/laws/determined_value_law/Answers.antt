use Rattle.std.specs.Prelude.{◌≡◌}
use Rattle.winnow_parser.specs.Determined.{Shows}
use Rattle.winnow_parser.specs.Meanings.{IsAlways, IsForgotten}
use Rattle.winnow_parser.proofs.lemmas.DeterminedLemmas.{determined-maps}
use Rattle.winnow_parser.proofs.lemmas.MadeLemmas.{determined-context}
use Rattle.winnow_combinator.proofs.lemmas.PartLemmas.{always-respects, forgotten-respects}
use Rattle.winnow_combinator.proofs.laws.determined_value_law.Goals as goal

pub returns-clause-value : goal.returns-clause-value
returns-clause-value g c = λ v w value a. determined-maps (Shows v) (Shows w) (IsAlways value) (always-respects (Shows v) w value) (g.A.Parser.means a.parser) a.one

pub returns-clause-void : goal.returns-clause-void
returns-clause-void g c = λ v a. determined-maps (Shows v) ◌≡◌ IsForgotten (forgotten-respects (Shows v)) (g.A.Parser.means a.parser) a.one

pub returns-clause-context : goal.returns-clause-context
returns-clause-context g c = λ v a. determined-context (g.A.Parser.means a.parser) (Shows v) a.one g.E.AddContext.add_context_refusable
