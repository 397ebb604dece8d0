use Rattle.winnow_stream.proofs.lemmas.MovingLemmas.{MovesOn-still, MovesOn-token, MovesOn-front, MovesOn-on, MovesOn-end, IsEndOf-moved}
use Rattle.winnow_stream.proofs.laws.moving_law.Goals as goal

pub returns-clause-still : goal.returns-clause-still
returns-clause-still g c = λ a r. MovesOn-still a r

pub returns-clause-token : goal.returns-clause-token
returns-clause-token g c = λ a r. MovesOn-token a r

pub returns-clause-front : goal.returns-clause-front
returns-clause-front g c = λ a r n h. MovesOn-front a r n h

pub returns-clause-on : goal.returns-clause-on
returns-clause-on g c = λ a b d r s t first second. MovesOn-on a b d r s t first second

pub returns-clause-end : goal.returns-clause-end
returns-clause-end g c = λ a b r s m. MovesOn-end a b r s m

pub returns-clause-rest : goal.returns-clause-rest
returns-clause-rest g c = λ a b r s m. IsEndOf-moved a b r s m
