use Rattle.winnow_parser.specs.Determined.{Shows}
use Rattle.winnow_parser.proofs.lemmas.ImageLemmas.{determined-opt, determined-peek, determined-not, determined-cut_err, determined-backtrack_err}
use Rattle.winnow_parser.proofs.lemmas.MadeLemmas.{determined-span, determined-with_span}
use Rattle.winnow_parser.proofs.laws.determined_law.Goals as goal

pub returns-clause-optional : goal.returns-clause-optional
returns-clause-optional g c = λ view a d. determined-opt (g.A.Parser.means a) (Shows view) d

pub returns-clause-looked_at : goal.returns-clause-looked_at
returns-clause-looked_at g c = λ view a d. determined-peek (g.A.Parser.means a) (Shows view) d

pub returns-clause-negated : goal.returns-clause-negated
returns-clause-negated g c = λ view a d. determined-not (g.A.Parser.means a) (Shows view) d

pub returns-clause-cut_off : goal.returns-clause-cut_off
returns-clause-cut_off g c = λ view a d. determined-cut_err (g.A.Parser.means a) (Shows view) d

pub returns-clause-softened : goal.returns-clause-softened
returns-clause-softened g c = λ view a d. determined-backtrack_err (g.A.Parser.means a) (Shows view) d

pub returns-clause-spanned : goal.returns-clause-spanned
returns-clause-spanned g c = λ view a d. determined-span (g.A.Parser.means a) (Shows view) d

pub returns-clause-with_span : goal.returns-clause-with_span
returns-clause-with_span g c = λ view a d. determined-with_span (g.A.Parser.means a) (Shows view) d
