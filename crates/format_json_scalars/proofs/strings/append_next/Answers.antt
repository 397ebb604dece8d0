use Rattle.std.proofs.Common.{◌∷◌, subst}
use Rattle.std.proofs.lemmas.List.{take_rest}
use Rattle.std.specs.String.{string_bytes}
use Rattle.format_json_scalars.specs.Escapes.{IsEscape}
use Rattle.format_json_scalars.specs.declared.escapes.Escape.TheVariants.{Whole, Begun, Wrong}
use Rattle.format_json_scalars.proofs.lemmas.StringLemmas.{starts-not, slash-escape, escape-taken}
use Rattle.format_json_scalars.proofs.strings.append_next.Goals as goal

pub returns-in_ok-push-in-Whole : goal.returns-in_ok-push-in-Whole
returns-in_ok-push-in-Whole c =
    let answer = Whole c.in-Whole.character c.in-Whole.width in
    escape-taken c.args.bytes.now (string_bytes c.args.value.now) (string_bytes c.push.new.self) c.in-Whole.character c.in-Whole.width
    (slash-escape c.args.bytes.now answer c.requires c.if-first-ne92.false (subst (λ t. IsEscape (92 ∷ t) answer) (take_rest c.args.bytes.now 1) c.in-Whole.ensures)) c.in_ok-push-in-Whole.ensures.bytes

pub returns-in-Begun : goal.returns-in-Begun
returns-in-Begun c =
    (starts-not c.args.bytes.now 34 c.if-first-eq34.false, slash-escape c.args.bytes.now Begun c.requires c.if-first-ne92.false (subst (λ t. IsEscape (92 ∷ t) Begun) (take_rest c.args.bytes.now 1) c.in-Begun.ensures))

pub returns-in-Wrong : goal.returns-in-Wrong
returns-in-Wrong c =
    (starts-not c.args.bytes.now 34 c.if-first-eq34.false, slash-escape c.args.bytes.now Wrong c.requires c.if-first-ne92.false (subst (λ t. IsEscape (92 ∷ t) Wrong) (take_rest c.args.bytes.now 1) c.in-Wrong.ensures))
