use Rattle.std.proofs.Common.{[], ap, sym, ◌∙◌, length}
use Rattle.std.specs.Prelude.{◌==◌}
use Rattle.std.proofs.lemmas.List.{append-nil}
use Rattle.winnow_codec.proofs.lemmas.Wholes.{first-unread, none-left}
use Rattle.winnow_codec.proofs.filling.FilledWhole.read_whole.Goals as goal

pub returns-else-is_empty : goal.returns-else-is_empty
returns-else-is_empty g c = λ v s.
    let part = c.args.part.now in
    let h = c.in-Ok.ensures in
    let same = (g.met.F.Format.lawful c.args.self.now.inner).prefix_free c.in-Ok.value v h.0 part c.read_first.new.input.now [] h.1.0 s (sym h.1.1 ∙ sym (append-nil part)) in
    let none = none-left h.0 part c.read_first.new.input.now h.1.1 same.1 in
    let empty = sym c.if-is_empty.false ∙ c.is_empty.ensures ∙ ap (λ l. length l == 0) none in
    absurd (cc)

pub returns-in-Err : goal.returns-in-Err
returns-in-Err g c =
    first-unread (g.F.Format.spells c.args.self.now.inner) c.args.part.now _ c.in-Err.unread c.in-Err.ensures
