use Rattle.format_json.proofs.lemmas.PlaceLemmas.{value-place, value-unbroken}
use Rattle.format_json.specs.Language.{after_blanks}
use Rattle.format_json.proofs.laws.place_law.Goals as goal

pub returns-clause-once : goal.returns-clause-once
returns-clause-once c partial depth bytes rest other h g = value-place partial depth (after_blanks bytes) rest other h g

pub returns-clause-none : goal.returns-clause-none
returns-clause-none c partial depth bytes rest h value after is = value-unbroken partial depth (after_blanks bytes) rest value after h is
