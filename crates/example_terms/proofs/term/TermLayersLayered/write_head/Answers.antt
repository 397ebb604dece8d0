use Rattle.std.proofs.Common.{rules}
use Rattle.example_terms.specs.Layers.{head_of}
use Rattle.example_terms.specs.declared.term.Term.TheViews.{the_lemmas}
use Rattle.example_terms.proofs.term.TermLayersLayered.write_head.Goals as goal

pub returns-in-Small : goal.returns-in-Small
returns-in-Small c = c.write_first.ensures (head_of c.args.value.now) (search (rules, the_lemmas))

pub returns-in-Integer : goal.returns-in-Integer
returns-in-Integer c = c.write_second.ensures (head_of c.args.value.now) (search (rules, the_lemmas))

pub returns-in-Tuple : goal.returns-in-Tuple
returns-in-Tuple c = c.write_third.ensures (head_of c.args.value.now) (search (rules, the_lemmas))

pub returns-in-Binary : goal.returns-in-Binary
returns-in-Binary c = c.write_last_of_four.ensures (head_of c.args.value.now) (search (rules, the_lemmas))
