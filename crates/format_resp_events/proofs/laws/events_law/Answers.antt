use Rattle.format_resp_events.proofs.lemmas.LawLemmas.{given-passed, given-begins, given-whole}
use Rattle.format_resp_events.proofs.lemmas.ReplyEventLemmas.{replies-have}
use Rattle.format_resp_events.proofs.lemmas.SameLemmas.{replies-once}
use Rattle.format_resp_events.proofs.laws.events_law.Goals as goal

pub returns-clause-passed : goal.returns-clause-passed
returns-clause-passed c r input events h = given-passed r input events h

pub returns-clause-begins : goal.returns-clause-begins
returns-clause-begins c r input more events all h are = given-begins r input more events all h are

pub returns-clause-whole : goal.returns-clause-whole
returns-clause-whole c r input events h whole = given-whole r input events h whole

pub returns-clause-spelled : goal.returns-clause-spelled
returns-clause-spelled c longest depth replies bytes h = replies-have longest depth replies bytes h

pub returns-clause-once : goal.returns-clause-once
returns-clause-once c longest depth bytes events others h k = replies-once longest depth bytes events others h k
