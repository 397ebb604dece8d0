use Rattle.std.proofs.Common.{◌≡◌, ℕ, List, Option, Some, None, refl, ◌∙◌, sym, subst}
use Rattle.std.specs.Option.{IfSome}
use Rattle.winnow_stream.specs.Source.{width, held_front}
use Rattle.winnow_count.specs.Reading.{ReadsUnsigned}
use Rattle.law_streams.proofs.numbers.text_number.Goals as goal

-- what holds of each value that an option may be, holds if it is one
IfSome-from : {T : Type 0} (o : Option T) (P : T → Type 0) → ((v : T) → o ≡ Some v → P v)
    → IfSome o P
IfSome-from None P h = tt
IfSome-from (Some v) P h = h v refl

pub returns-clause-number : goal.returns-clause-number
returns-clause-number g c = IfSome-from c.parse_slice.result _ (λ v some text utf8 is.
    let holds = g.C.FixedSet.holds c.args.digits.now in
    let ahead = g.S.Stream.remaining c.args.input.now in
    let positive = g.met.S.Stream.positive_widths c.args.input.now c.requires.valid in
    let taken = c.take_while-taken.result in
    let read : ReadsUnsigned 32 (g.S.Slice.AsBStr.text_bytes taken) v = (c.requires.reads taken v).0 ((c.parse_slice.ensures v).0 some) in
    let same = c.text_law.ensures (g.S.Slice.AsBStr.text_bytes taken) text (c.number_law.ensures.unsigned_text 32 v (g.S.Slice.AsBStr.text_bytes taken) read) utf8
    (c.requires.text taken ahead (width (held_front holds ahead)) (c.held_law.ensures.offset holds ahead positive) c.take_while-taken.ensures.slice
    ∙ c.held_law.ensures.exact holds ahead positive ∙ sym is) in
    subst (λ t. ReadsUnsigned 32 t v) same read)
