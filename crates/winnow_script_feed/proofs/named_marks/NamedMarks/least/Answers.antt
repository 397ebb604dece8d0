use Rattle.winnow_script_feed.proofs.named_marks.NamedMarks.least.Goals as goal

pub returns-clause-least : goal.returns-clause-least
returns-clause-least c = (c.first_named.ensures.finds _ _ _ c.see.ensures.queues).1

pub returns-clause-queues : goal.returns-clause-queues
returns-clause-queues c = (c.first_named.ensures.finds _ _ _ c.see.ensures.queues).0
