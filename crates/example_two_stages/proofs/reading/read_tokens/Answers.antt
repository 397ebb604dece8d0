use Rattle.std.proofs.lemmas.Result.{IfOk-at_ok}
use Rattle.example_two_stages.proofs.lemmas.StreamLemmas.{here-references, spans-by}
use Rattle.example_two_stages.proofs.reading.read_tokens.Goals as goal

pub read_all-requires-clause-spans : goal.read_all-requires-clause-spans
read_all-requires-clause-spans c = λ s r n at slice. spans-by _ s.ref_ptr s.now r n slice

pub returns-in-Ok : goal.returns-in-Ok
returns-in-Ok c =
    rw (c.new-input.ensures.remains, here-references _ _ c.args.tokens.now) at (IfOk-at_ok _ c.in-Ok.is c.read_all.ensures.written)
