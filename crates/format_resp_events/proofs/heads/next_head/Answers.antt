use Rattle.std.proofs.Common.{ap, sym, ◌∙◌, subst}
use Rattle.winnow_reader.specs.State.{ReaderState}
use Rattle.winnow_reader.specs.Answering.{FailsAt, FailsAt-by}
use Rattle.format_resp.specs.Language.{Spells}
use Rattle.format_resp.specs.declared.grammar.ReplyTo.{ReplyTo}
use Rattle.format_resp_events.specs.Heads.{IsHead, Reading}
use Rattle.format_resp_events.proofs.lemmas.HeadLemmas.{passes-reply, never-idle}
use Rattle.format_resp_events.proofs.heads.next_head.Goals as goal

pub returns-in-Ok-Value : goal.returns-in-Ok-Value
returns-in-Ok-Value c =
    let v = rw c.in-Ok-Value.field-0-is at c.in-Ok-Value.ensures.next in
    let old = c.args.replies.now in
    let k = passes-reply old c.read_next.new.self c.in-Ok-Value.reply v in
    (k.0, (k.1.0, subst (λ d. Spells old.parser.longest d c.in-Ok-Value.reply k.0) c.requires k.1.1))

pub returns-in-Ok-NeedsMore : goal.returns-in-Ok-NeedsMore
returns-in-Ok-NeedsMore c =
    let waits = rw c.in-Ok-NeedsMore.field-0-is at c.in-Ok-NeedsMore.ensures.next in (
      record {
        goes_on = waits.0;
        asked = waits.2;
        early = λ fewer. (c.in-Ok-NeedsMore.ensures.early waits.0 fewer).1;
      },
      waits.3,
    )

pub returns-in-Ok-Done : goal.returns-in-Ok-Done
returns-in-Ok-Done c = rw c.in-Ok-Done.field-0-is at c.in-Ok-Done.ensures.next

pub array_or_damage-requires-clause-flat : goal.array_or_damage-requires-clause-flat
array_or_damage-requires-clause-flat c =
    ap (λ (f : ReaderState ReplyTo). f.parser.depth) c.in-Err-Failed.ensures.next.1 ∙ c.requires

pub array_or_damage-requires-clause-fails : goal.array_or_damage-requires-clause-fails
array_or_damage-requires-clause-fails c =
    let by = (rw c.in-Err-Failed.field-0-is at c.in-Err-Failed.ensures.next).0 in
    let old = c.args.replies.now in
    subst (λ f. FailsAt Reading f c.in-Err-Failed.place) (sym c.in-Err-Failed.ensures.next.1)
    (FailsAt-by Reading old _ c.in-Err-Failed.place by)

pub returns-in-Err-Failed : goal.returns-in-Err-Failed
returns-in-Err-Failed c =
    subst (λ f. IsHead c.args.deep f c.array_or_damage.result c.array_or_damage.new.replies) c.in-Err-Failed.ensures.next.1
    c.array_or_damage.ensures

pub unreachable-requires : goal.unreachable-requires
unreachable-requires c =
    let idles = (rw c.in-Err-TakesNothing.field-0-is at c.in-Err-TakesNothing.ensures.next).0 in
    never-idle c.args.replies.now _ idles

pub returns-in-Err-Refused : goal.returns-in-Err-Refused
returns-in-Err-Refused c = c.in-Err-Refused.ensures.next.1
