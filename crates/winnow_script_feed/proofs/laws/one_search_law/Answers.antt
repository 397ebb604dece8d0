use Rattle.winnow_script_feed.proofs.lemmas.OneSearchLemmas.{told-byte_hit, told-text_hit}
use Rattle.winnow_script_feed.proofs.laws.one_search_law.Goals as goal

pub returns-clause-bytes : goal.returns-clause-bytes
returns-clause-bytes c = told-byte_hit

pub returns-clause-text : goal.returns-clause-text
returns-clause-text c = told-text_hit
