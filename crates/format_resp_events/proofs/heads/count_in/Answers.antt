use Rattle.std.proofs.Common.{◌≡◌, ap, sym, ◌∙◌, subst}
use Rattle.std.specs.Prelude.{decimal}
use Rattle.std.specs.Str.{IsAscii}
use Rattle.std.proofs.lemmas.Fmt.{IsAscii-decimal, parse-decimal}
use Rattle.std.proofs.lemmas.Str.{IsUtf8-from_ascii}
use Rattle.format_resp_events.proofs.heads.count_in.Goals as goal

pub unreachable-requires : goal.unreachable-requires
unreachable-requires c =
    let b = c.requires in
    c.in_default.ensures.cases.0 (IsUtf8-from_ascii c.args.text.now (subst IsAscii (sym b.1.1) (IsAscii-decimal b.0 b.1.0)))

pub unreachable-requires-in_default-parse : goal.unreachable-requires-in_default-parse
unreachable-requires-in_default-parse c =
    let b = c.requires in
    let ok = parse-decimal 64 b.0 c.in-Ok.text.now c.parse.result b.1.0 b.1.0 (c.in-Ok.ensures.cases.0 ∙ b.1.1) c.parse.ensures.value.0 in
    c.in_default-parse.not-Ok b.0 ok

pub returns : goal.returns
returns c =
    let b = c.requires in
    let ok = parse-decimal 64 b.0 c.in-Ok.text.now c.parse.result b.1.0 b.1.0 (c.in-Ok.ensures.cases.0 ∙ b.1.1) c.parse.ensures.value.0 in
    let read = c.in-Ok-parse.is in
    let same : b.0 ≡ c.in-Ok-parse.count = cc in
    b.1.1 ∙ ap decimal same
