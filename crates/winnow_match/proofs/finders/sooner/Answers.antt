use Rattle.winnow_match.proofs.lemmas.SearchLemmas.{sooner-some, sooner-none}
use Rattle.winnow_match.proofs.finders.sooner.Goals as goal

pub returns-in-Some : goal.returns-in-Some
returns-in-Some c = λ listed first.
    let before = rw c.in-Some.is at first in
    rw c.unwrap_or.ensures (sooner-some listed c.args.needle.now c.args.input.now c.args.limit c.in-Some.at c.place_below.result before c.place_below.ensures)

pub returns-in-None : goal.returns-in-None
returns-in-None c = λ listed first.
    let before = rw c.in-None.is at first in
    sooner-none listed c.args.needle.now c.args.input.now c.args.limit c.place_below-in-None.result before c.place_below-in-None.ensures
