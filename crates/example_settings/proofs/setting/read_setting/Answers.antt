use Rattle.example_settings.proofs.lemmas.LineLemmas.{tells}
use Rattle.example_settings.proofs.setting.read_setting.Goals as goal

pub returns : goal.returns
returns g c =
    let line = rw (c.opt-line.ensures, c.opt-2.ensures, c.opt.ensures, c.one_of.ensures) at c.parse_next-parts.ensures.means in
    let key = rw (c.take_while.ensures.set, c.take_while.ensures.counts.0, c.take_while.ensures.counts.1, c.new.ensures.start, c.new.ensures.end, c.new-2.ensures.start, c.new-2.ensures.end) at line in
    let blanks = rw (c.take_while-blanks.ensures.set, c.take_while-blanks.ensures.counts.0, c.take_while-blanks.ensures.counts.1) at key in
    let value = rw (c.take_till.ensures.set, c.take_till.ensures.counts.0, c.take_till.ensures.counts.1, c.in-Ok.is) at blanks in
    let all = tells g.I.Stream.is_slice c.in-Ok.parts _ _ _ value in
    record { setting = rw c.told.ensures all.0; behind = rw c.told.ensures all.1; lacks = rw c.told.ensures all.2; valid = c.in-Ok.ensures.valid; kept = c.in-Ok.ensures.kept }
