use Rattle.std.proofs.Common.{subst, inl}
use Rattle.format_json_scalars.specs.Steps.{IsReading}
use Rattle.format_json_scalars.proofs.lemmas.StringLemmas.{damaged-at, begun-at}
use Rattle.format_json.proofs.lemmas.JsonTokenLemmas.{string-needs}
use Rattle.format_json.proofs.tokens.string_here.Goals as goal

pub returns-in-Damaged : goal.returns-in-Damaged
returns-in-Damaged c =
    let is = subst (IsReading c.args.bytes.now) c.in-Damaged.is c.in_ok-value.ensures in
    (is.0.0, inl (damaged-at c.args.partial c.args.bytes.now c.in-Damaged.width is))

pub returns-in-Begun : goal.returns-in-Begun
returns-in-Begun c =
    let is = subst (IsReading c.args.bytes.now) c.in-Begun.is c.in_ok-value.ensures in
    (c.if-partial.true, string-needs c.args.bytes.now c.in-Begun.field-0 c.requires is)

pub returns-in-Begun-2 : goal.returns-in-Begun-2
returns-in-Begun-2 c =
    let is = subst (IsReading c.args.bytes.now) c.in-Begun.is c.in_ok-value.ensures in
    (is.0.0, inl (begun-at c.args.partial c.args.bytes.now c.in-Begun.field-0 c.if-partial.false is))
