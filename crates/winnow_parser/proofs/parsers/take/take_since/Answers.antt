use Rattle.std.proofs.Common.{subst, ap, ◌∙◌}
use Rattle.winnow_parser.specs.Outcome.{after}
use Rattle.winnow_parser.specs.Answer.{ahead}
use Rattle.winnow_parser.proofs.lemmas.TakenLemmas.{same-place}
use Rattle.winnow_parser.proofs.parsers.take.take_since.Goals as goal

pub offset_since-width-requires-clause-is_end : goal.offset_since-width-requires-clause-is_end
offset_since-width-requires-clause-is_end g c =
    let start = ahead g.I.Checkpoint.Rest.location g.I.Stream.remained c.args.start.now in
    c.taken_width_law.ensures.rest start (ahead g.I.Rest.location g.I.Stream.remaining c.args.input.now) c.requires.moved

pub next_slice-requires-clause-offset : goal.next_slice-requires-clause-offset
next_slice-requires-clause-offset g c =
    let start = ahead g.I.Checkpoint.Rest.location g.I.Stream.remained c.args.start.now in
    let here = ahead g.I.Rest.location g.I.Stream.remaining c.args.input.now in
    let widths = g.met.I.Stream.positive_widths_remained c.args.start.now c.requires.valid_checkpoint in
    rw (c.reset.ensures.remains, c.offset_since-width.ensures) (c.taken_width_law.ensures.offset start here widths c.requires.moved)

pub returns-clause-taken : goal.returns-clause-taken
returns-clause-taken g c =
    let start = ahead g.I.Checkpoint.Rest.location g.I.Stream.remained c.args.start.now in
    let here = ahead g.I.Rest.location g.I.Stream.remaining c.args.input.now in
    let widths = g.met.I.Stream.positive_widths_remained c.args.start.now c.requires.valid_checkpoint in
    let width = c.offset_since-width.result in (
      width,
      (
        rw c.offset_since-width.ensures (c.taken_width_law.ensures.offset start here widths c.requires.moved),
        subst (λ r. g.I.Stream.is_slice c.next_slice.result r width) c.reset.ensures.remains c.next_slice.ensures.answer,
        ap (after start) c.offset_since-width.ensures ∙ c.taken_width_law.ensures.after start here widths c.requires.moved,
      ),
    )

pub returns-clause-stands : goal.returns-clause-stands
returns-clause-stands g c =
    let stands = ahead g.I.Rest.location g.I.Stream.remaining in
    let start = ahead g.I.Checkpoint.Rest.location g.I.Stream.remained c.args.start.now in
    let here = stands c.args.input.now in
    let widths = g.met.I.Stream.positive_widths_remained c.args.start.now c.requires.valid_checkpoint in
    let width = c.offset_since-width.result in
    same-place (stands c.next_slice.new.self) (after (stands c.reset.new.self) width) c.next_slice.ensures.location c.next_slice.ensures.remains
    ∙ ap (λ place. after place width) (same-place (stands c.reset.new.self) start c.reset.ensures.location c.reset.ensures.remains)
    ∙ ap (after start) c.offset_since-width.ensures
    ∙ c.taken_width_law.ensures.after start here widths c.requires.moved
