use Rattle.std.proofs.Common.{◌++◌, [], refl, sym, ap, subst, append-nil}
use Rattle.format_json_events.specs.Reading.{HasGiven, events_unspent}
use Rattle.woldbraid_readers.proofs.lemmas.PushLemmas.{unspent_has}
use Rattle.woldbraid_readers.proofs.json_reader.JsonReader.push.Goals as goal

pub returns-in-Err : goal.returns-in-Err
returns-in-Err c =
    let old = c.args.self.now.reader in
    let same = c.in-Err.ensures.refused in (
      (
        (refl, refl),
        λ input before given.
            subst (λ r. HasGiven r input (before ++ [])) (sym same)
            (subst (λ events. HasGiven (events_unspent old) input events) (sym (append-nil before)) (unspent_has old input before given)),
        ap events_unspent same,
      ),
      sym c.if-has_ended.ensures,
    )
