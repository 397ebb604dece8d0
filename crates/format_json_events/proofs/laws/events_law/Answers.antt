use Rattle.format_json_events.proofs.lemmas.EventLawLemmas.{value-first, value-whole, value-sound, value-goes_on, whole-unbroken, needs-waits}
use Rattle.format_json_events.proofs.laws.events_law.Goals as goal

pub returns-clause-begins : goal.returns-clause-begins
returns-clause-begins c r input events value h = value-first r input events value h

pub returns-clause-whole : goal.returns-clause-whole
returns-clause-whole c r input events value h whole = value-whole r input events value h whole

pub returns-clause-sound : goal.returns-clause-sound
returns-clause-sound c r new input events value e h next = value-sound r new input events value e h next

pub returns-clause-goes_on : goal.returns-clause-goes_on
returns-clause-goes_on c r new input events given value h gives keeps = value-goes_on r input events value h given new gives keeps

pub returns-clause-only : goal.returns-clause-only
returns-clause-only c r input events damage given going whole damaged = whole-unbroken r input events damage given going whole damaged

pub returns-clause-waits : goal.returns-clause-waits
returns-clause-waits c r new input events given next = needs-waits r new input events given next
