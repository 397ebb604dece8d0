use Rattle.winnow_views.proofs.lemmas.BitLemmas.{place-of_width, bits_from-front}
use Rattle.winnow_views.proofs.bit_laws.bit_place_law.Goals as goal

pub returns-clause-place : goal.returns-clause-place
returns-clause-place c = λ bytes place h. place-of_width bytes place h

pub returns-clause-front : goal.returns-clause-front
returns-clause-front c = λ bytes place count h l. bits_from-front bytes place count h l
