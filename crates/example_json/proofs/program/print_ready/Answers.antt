use Rattle.std.proofs.Common.{◌++◌, ap, ◌∙◌, subst}
use Rattle.std.specs.Io.KnownBytes.{Appends}
use Rattle.example_json.proofs.lemmas.TakenLemmas.{taken-map}
use Rattle.example_json.proofs.lemmas.FailureLemmas.{answer-says}
use Rattle.example_json.proofs.lemmas.FollowLemmas.{on-ok}
use Rattle.example_json.proofs.program.print_ready.Goals as goal

pub returns-in-Ok-clause-printed : goal.returns-in-Ok-clause-printed
returns-in-Ok-clause-printed g c =
    let old = c.args.reader.now in
    let new = c.take_events-taken.new.reader in
    let there = c.take_events-taken.new.level in
    let taken = c.take_events-taken.result in
    let held = g.W.Write.contents c.args.output.now in
    let now = g.W.Write.contents c.write_all.new.self in
    let printed = taken-map old new c.args.progress.now.level there taken _ (Appends held now)
    (λ lines e. subst (λ bs. Appends held now bs) (c.deref.ensures.value ∙ e ∙ ap (λ t. t ++ lines) c.new-text.ensures.items) c.in-Ok.ensures.bytes)
    c.take_events-taken.ensures.taken in
    on-ok c.answer.result (λ ready. ready.prints)
    (answer-says old new c.args.progress.now there c.args.piece.now taken c.answer.result (Appends held now) printed c.answer.ensures).0

pub returns-in-Ok-clause-failed : goal.returns-in-Ok-clause-failed
returns-in-Ok-clause-failed g c =
    let old = c.args.reader.now in
    let new = c.take_events-taken.new.reader in
    let there = c.take_events-taken.new.level in
    let taken = c.take_events-taken.result in
    let held = g.W.Write.contents c.args.output.now in
    let now = g.W.Write.contents c.write_all.new.self in
    let printed = taken-map old new c.args.progress.now.level there taken _ (Appends held now)
    (λ lines e. subst (λ bs. Appends held now bs) (c.deref.ensures.value ∙ e ∙ ap (λ t. t ++ lines) c.new-text.ensures.items) c.in-Ok.ensures.bytes)
    c.take_events-taken.ensures.taken in
    (answer-says old new c.args.progress.now there c.args.piece.now taken c.answer.result (Appends held now) printed c.answer.ensures).1
