use Rattle.std.proofs.Common.{sym, ◌∙◌, subst, true≢false}
use Rattle.format_resp.specs.Writing.{written, TellsLineEnd}
use Rattle.format_resp.proofs.lemmas.WritingLemmas.{spelled, once, writable}
use Rattle.format_resp.proofs.laws.spelling_law.Goals as goal

pub returns-clause-spelled : goal.returns-clause-spelled
returns-clause-spelled c = spelled

pub returns-clause-once : goal.returns-clause-once
returns-clause-once c = once

pub returns-clause-writable : goal.returns-clause-writable
returns-clause-writable c = writable

pub returns-clause-never_refused : goal.returns-clause-never_refused
returns-clause-never_refused c longest depth reply bytes result spells tells =
    λ e. true≢false (sym (writable longest depth reply bytes spells) ∙ subst (TellsLineEnd reply) e tells)

pub returns-clause-read_back : goal.returns-clause-read_back
returns-clause-read_back c longest depth reply whole rest within ahead =
    (written reply, (ahead, spelled longest depth reply within))
