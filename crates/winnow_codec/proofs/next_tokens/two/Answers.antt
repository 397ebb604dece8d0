use Rattle.winnow_codec.proofs.lemmas.Reading.{takes-both}
use Rattle.winnow_codec.proofs.next_tokens.two.Goals as goal

pub returns-clause-taken : goal.returns-clause-taken
returns-clause-taken g c =
    takes-both c.one-first.ensures.taken c.one-second.ensures.taken
