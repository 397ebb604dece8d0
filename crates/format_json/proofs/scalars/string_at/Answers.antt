use Rattle.std.proofs.Common.{inr, subst}
use Rattle.format_json_scalars.specs.Steps.{IsReading}
use Rattle.format_json.proofs.lemmas.ScalarLemmas.{string-damaged, string-begun, string-ended}
use Rattle.format_json_scalars.proofs.lemmas.StringLemmas.{damaged-at, begun-at, begun-begun, nothing-is-begun}
use Rattle.format_json.proofs.scalars.string_at.Goals as goal

pub returns-in-Damaged-clause-found : goal.returns-in-Damaged-clause-found
returns-in-Damaged-clause-found c =
    string-damaged c.args.partial c.args.bytes.now c.in-Damaged.width (subst (IsReading c.args.bytes.now) c.in-Damaged.is c.in_ok-value.ensures)

pub returns-in-Begun-clause-found : goal.returns-in-Begun-clause-found
returns-in-Begun-clause-found c =
    string-begun c.args.partial c.args.bytes.now c.in-Begun.field-0 c.if-partial-2.true (subst (IsReading c.args.bytes.now) c.in-Begun.is c.in_ok-value.ensures)

pub returns-in-Begun-2-clause-found : goal.returns-in-Begun-2-clause-found
returns-in-Begun-2-clause-found c =
    string-ended c.args.partial c.args.bytes.now c.in-Begun.field-0 c.if-partial-2.false (subst (IsReading c.args.bytes.now) c.in-Begun.is c.in_ok-value.ensures)

pub returns-in-Damaged-clause-place : goal.returns-in-Damaged-clause-place
returns-in-Damaged-clause-place c =
    inr (damaged-at c.args.partial c.args.bytes.now c.in-Damaged.width (subst (IsReading c.args.bytes.now) c.in-Damaged.is c.in_ok-value.ensures))

pub returns-in-Begun-2-clause-place : goal.returns-in-Begun-2-clause-place
returns-in-Begun-2-clause-place c =
    inr (begun-at c.args.partial c.args.bytes.now c.in-Begun.field-0 c.if-partial-2.false (subst (IsReading c.args.bytes.now) c.in-Begun.is c.in_ok-value.ensures))

pub returns-in-Begun-clause-begun : goal.returns-in-Begun-clause-begun
returns-in-Begun-clause-begun c =
    begun-begun c.args.bytes.now c.in-Begun.field-0 (subst (IsReading c.args.bytes.now) c.in-Begun.is c.in_ok-value.ensures)

pub returns-in-Nothing-clause-begun : goal.returns-in-Nothing-clause-begun
returns-in-Nothing-clause-begun c =
    nothing-is-begun c.args.bytes.now (subst (IsReading c.args.bytes.now) c.in-Nothing.is c.in_ok-value.ensures)
