use Rattle.std.proofs.Common.{ap, sym, ◌∙◌, subst}
use Rattle.std.specs.Prelude.{Ok, Err}
use Rattle.winnow_reader.specs.Answering.{ReadsNext}
use Rattle.winnow_scan.specs.Waiting.{WaitsByScan}
use Rattle.winnow_reader.specs.declared.next.Next.TheVariants as next
use Rattle.format_json.specs.TokenAnswers.{OneToken}
use Rattle.format_json.specs.Reading.{FindsDamage}
use Rattle.format_json.specs.Scan.{IsScanned}
use Rattle.format_json_events.specs.Blanks.{DropsBlanks}
use Rattle.format_json_events.specs.Turns.{state_of}
use Rattle.format_json_events.specs.Reading.{IsNoNext}
use Rattle.format_json.specs.declared.tokens.Token.TheVariants as token
use Rattle.format_json_events.proofs.lemmas.NextTokenLemmas.{value-brings, end-brings, failed-there, never-idle}
use Rattle.format_json_events.proofs.lemmas.DroppedLemmas.{taken-dropped}
use Rattle.format_json_events.proofs.lemmas.WaitLemmas.{awaits-scanned, taken-scanned}
use Rattle.format_json_events.proofs.event_reader.next_token.Goals as goal

pub returns-in-Ok-Value-End : goal.returns-in-Ok-Value-End
returns-in-Ok-Value-End c =
    let e = c.in-Ok-Value-End.is ∙ ap Ok (c.in-Ok-Value-End.field-0-is ∙ ap next.Value c.in-Ok-Value-End.field-0-0-is) in
    end-brings c.args.tokens.now c.read_next.new.self
    (value-brings c.args.tokens.now c.read_next.new.self token.End c.read_next.result e c.read_next.ensures.next)

pub returns-in-Ok-Value : goal.returns-in-Ok-Value
returns-in-Ok-Value c =
    let e = c.in-Ok-Value.is ∙ ap Ok c.in-Ok-Value.field-0-is in
    value-brings c.args.tokens.now c.read_next.new.self c.in-Ok-Value.token c.read_next.result e c.read_next.ensures.next

pub returns-in-Ok-NeedsMore : goal.returns-in-Ok-NeedsMore
returns-in-Ok-NeedsMore c =
    let e = c.in-Ok-NeedsMore.is ∙ ap Ok c.in-Ok-NeedsMore.field-0-is in
    let old = c.args.tokens.now in
    let there = c.read_next.new.self in
    let new = c.drop_blanks.new.tokens in
    let waits = subst (λ r. ReadsNext (λ p. OneToken) (WaitsByScan (λ p. OneToken) (λ p. IsScanned)) old r there) e c.read_next.ensures.next in
    let stays = taken-scanned old there waits (λ goes less. (c.read_next.ensures.early goes less).1) in (
      (there.wanted, subst (λ f. DropsBlanks f new) waits.3 c.drop_blanks.ensures),
      awaits-scanned old there waits,
      λ input tokens h. taken-dropped there new c.drop_blanks.ensures input tokens (stays input tokens h),
    )

pub damage_at-requires : goal.damage_at-requires
damage_at-requires c =
    let e = c.in-Err-Failed.is ∙ ap Err c.in-Err-Failed.field-0-is in
    let there = failed-there c.args.tokens.now c.read_next.new.self _ c.in-Err-Failed.place _ c.read_next.result e c.read_next.ensures.next in
    subst (λ r. FindsDamage r c.in-Err-Failed.place) (sym there.0) there.1

pub returns-in-Err-Failed : goal.returns-in-Err-Failed
returns-in-Err-Failed c =
    let e = c.in-Err-Failed.is ∙ ap Err c.in-Err-Failed.field-0-is in
    let there = failed-there c.args.tokens.now c.read_next.new.self _ c.in-Err-Failed.place _ c.read_next.result e c.read_next.ensures.next in
    (there.0, subst (λ r. IsNoNext (state_of c.args.syntax.now) r c.damage_at.result) there.0 c.damage_at.ensures)

-- a reader with nothing left is done, and elsewhere a token takes something
pub unreachable-requires : goal.unreachable-requires
unreachable-requires c =
    let e = c.in-Err-TakesNothing.is ∙ ap Err c.in-Err-TakesNothing.field-0-is in
    never-idle c.args.tokens.now c.read_next.new.self _ c.read_next.result e c.read_next.ensures.next c.read_next.ensures.done
