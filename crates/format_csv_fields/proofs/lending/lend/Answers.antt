use Rattle.std.proofs.Common.{drop, ◌+◌}
use Rattle.format_csv.proofs.lemmas.FillByteLemmas.{slice-from}
use Rattle.format_csv_fields.proofs.lemmas.LendLemmas.{value-closes, lends-quoted}
use Rattle.format_csv_fields.proofs.lending.lend.Goals as goal

pub returns-then-doubled-clause-value : goal.returns-then-doubled-clause-value
returns-then-doubled-clause-value c = λ field is.
    let kept = c.args.kept.now in
    let at = c.args.at in
    let q = c.in-Quoted in
    c.in_ok-unescape-in-Quoted.ensures field (drop (q.close + 1) (drop at kept))
    (value-closes kept at q.close q.doubled (rw q.is at c.requires.text) field _ (slice-from kept (at + 1)) (rw q.is at is))

pub returns-else-doubled-clause-value : goal.returns-else-doubled-clause-value
returns-else-doubled-clause-value c = λ field is.
    let kept = c.args.kept.now in
    let at = c.args.at in
    let q = c.in-Quoted in
    lends-quoted kept at q.close q.doubled (rw q.is at c.requires.text) c.args.value.now.items c.if-doubled.false field (rw q.is at is)
