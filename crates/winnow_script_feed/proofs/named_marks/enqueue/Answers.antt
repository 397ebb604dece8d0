use Rattle.winnow_script_feed.proofs.lemmas.NamingLemmas.{Queues-push}
use Rattle.winnow_script_feed.proofs.named_marks.enqueue.Goals as goal

pub returns-clause-queues : goal.returns-clause-queues
returns-clause-queues c = λ ends marks seen at is h. Queues-push ends marks c.args.told seen _ h c.args.place c.args.end _ at is c.in-Ok.ensures.permutation c.in-Ok.ensures.heap_order
