use Rattle.std.proofs.Common.{[], ◌++◌, refl, ap, sym, ◌∙◌}
use Rattle.std.proofs.lemmas.List.{append-nil}
use Rattle.winnow_codec.proofs.lemmas.Reading.{takes-front}
use Rattle.winnow_codec.proofs.lemmas.Wholes.{bytes-units}
use Rattle.winnow_codec.proofs.filling.read_first.Goals as goal

pub returns-in-Ok : goal.returns-in-Ok
returns-in-Ok g c =
    let h = c.in-Ok.ensures.means in
    (h.0, (h.1.0, sym (bytes-units c.args.input.now.now) ∙ takes-front h.1.1 ∙ ap (λ l. h.0 ++ l) (bytes-units c.read-read.new.input.now)))

pub returns-in-Backtrack : goal.returns-in-Backtrack
returns-in-Backtrack g c =
    let h = rw c.in-Backtrack.is at c.in-Err.ensures.means in
    λ v front rest s e. h.1 v front [] rest (λ _. refl) s (append-nil _ ∙ bytes-units c.args.input.now.now ∙ e)
