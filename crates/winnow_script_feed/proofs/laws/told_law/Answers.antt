use Rattle.winnow_script_feed.specs.Inputs.{byte_input, text_input}
use Rattle.winnow_script_feed.proofs.lemmas.InputLemmas.{bytes-input, texts-input}
use Rattle.winnow_script_feed.proofs.lemmas.ToldLemmas.{are-bytes, told_of-more, answers-told_to_end}
use Rattle.winnow_script_feed.proofs.laws.told_law.Goals as goal

pub returns-clause-bytes : goal.returns-clause-bytes
returns-clause-bytes c = λ script pieces piece. told_of-more byte_input bytes-input script pieces piece (are-bytes pieces)

pub returns-clause-text : goal.returns-clause-text
returns-clause-text c = λ script pieces piece us. told_of-more text_input texts-input script pieces piece us

pub returns-clause-all : goal.returns-clause-all
returns-clause-all c = answers-told_to_end
