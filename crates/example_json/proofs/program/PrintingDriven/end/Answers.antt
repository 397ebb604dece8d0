use Rattle.example_json.proofs.lemmas.FollowLemmas.{tells-end}
use Rattle.example_json.proofs.program.PrintingDriven.end.Goals as goal

pub returns : goal.returns
returns g c = λ start bytes had prints.
    let old = c.args.self.now in
    tells-end start.reader.text.depth bytes old.reader c.print_last.new.reader old.progress c.print_last.new.progress had _ _ c.print_last.result prints
    c.print_last.ensures.limit c.print_last.ensures.done c.print_last.ensures.printed c.print_last.ensures.failed
