use Rattle.std.proofs.Common.{ap, sym, ◌∙◌, zero-add}
use Rattle.std.specs.Prelude.{not, unwrap_or}
use Rattle.winnow_stream.specs.Source.{width, first_offset, held_front}
use Rattle.winnow_stream.proofs.lemmas.HeldLemmas.{width-held_front, is_offset-held_front, take-held_front, back-held_front, HoldsAll-held_front, next-held_front, append-held_front, all-held_front, behind-held_front, front-held_front, held_front-append}
use Rattle.winnow_stream.proofs.laws.held_law.Goals as goal

pub returns-clause-width : goal.returns-clause-width
returns-clause-width g c = λ holds r.
    ap (unwrap_or (first_offset (λ x. not (holds x)) r)) (sym (zero-add (width r))) ∙ width-held_front holds 0 r ∙ zero-add (width (held_front holds r))

pub returns-clause-offset : goal.returns-clause-offset
returns-clause-offset g c = λ holds r h. is_offset-held_front holds r h

pub returns-clause-front : goal.returns-clause-front
returns-clause-front g c = λ holds r. take-held_front holds r

pub returns-clause-back : goal.returns-clause-back
returns-clause-back g c = λ holds r h. back-held_front holds r h

pub returns-clause-held : goal.returns-clause-held
returns-clause-held g c = λ holds r. HoldsAll-held_front holds r

pub returns-clause-next : goal.returns-clause-next
returns-clause-next g c = λ holds r x e. next-held_front holds r x e

pub returns-clause-whole : goal.returns-clause-whole
returns-clause-whole g c = λ holds r. append-held_front holds r

pub returns-clause-all : goal.returns-clause-all
returns-clause-all g c = λ holds r e. all-held_front holds r e

pub returns-clause-further : goal.returns-clause-further
returns-clause-further g c = λ holds also r within. behind-held_front holds also within r

pub returns-clause-exact : goal.returns-clause-exact
returns-clause-exact g c = λ holds r h. front-held_front holds r h

pub returns-clause-known : goal.returns-clause-known
returns-clause-known g c = λ holds text rest all next. held_front-append holds text rest all next
