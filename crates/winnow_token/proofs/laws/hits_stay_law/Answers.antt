use Rattle.std.proofs.Common.{[], ◌∷◌}
use Rattle.std.specs.Char.{encode_utf8}
use Rattle.winnow_token.proofs.lemmas.TakeUntilLemmas.{HitsStay-written, one_needle}
use Rattle.winnow_token.proofs.laws.hits_stay_law.Goals as goal

pub returns-clause-in_bytes : goal.returns-clause-in_bytes
returns-clause-in_bytes c = λ needle. HitsStay-written (λ byte. byte ∷ []) (needle ∷ []) (one_needle needle)

pub returns-clause-in_text : goal.returns-clause-in_text
returns-clause-in_text c = λ needle. HitsStay-written encode_utf8 (needle ∷ []) (one_needle needle)

pub returns-clause-several_in_bytes : goal.returns-clause-several_in_bytes
returns-clause-several_in_bytes c = λ needles one. HitsStay-written (λ byte. byte ∷ []) needles one

pub returns-clause-several_in_text : goal.returns-clause-several_in_text
returns-clause-several_in_text c = λ needles one. HitsStay-written encode_utf8 needles one
