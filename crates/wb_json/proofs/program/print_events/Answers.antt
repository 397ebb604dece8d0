use Rattle.wb_json.proofs.lemmas.ValueLemmas.{prints-value, prints-none}
use Rattle.wb_json.proofs.lemmas.LimitLemmas.{within-known}
use Rattle.wb_json.proofs.program.print_events.Goals as goal

pub returns-clause-value : goal.returns-clause-value
returns-clause-value g c = λ plain.
    let had = g.R.Read.remaining c.args.input.now in
    let held = g.W.Write.contents c.args.output.now in
    let now = g.W.Write.contents c.print_pieces.new.output in
    prints-value c.events_law.ensures.whole c.events_law.ensures.only c.args.settings c.print_pieces.result had held now plain c.print_pieces.ensures.printed

pub returns-clause-none : goal.returns-clause-none
returns-clause-none g c = λ plain.
    let had = g.R.Read.remaining c.args.input.now in
    let held = g.W.Write.contents c.args.output.now in
    let now = g.W.Write.contents c.print_pieces.new.output in
    prints-none c.events_law.ensures.sound c.args.settings c.print_pieces.result had held now plain c.print_pieces.ensures.failed

pub returns-clause-within : goal.returns-clause-within
returns-clause-within g c =
    let had = g.R.Read.remaining c.args.input.now in
    let held = g.W.Write.contents c.args.output.now in
    let now = g.W.Write.contents c.print_pieces.new.output in
    within-known c.args.settings held now had c.print_pieces.result c.print_pieces.ensures.printed
