use Rattle.winnow_match.proofs.lemmas.ByteLemmas.{utf8_of-text_source}
use Rattle.winnow_script_print.proofs.words.push_text.Goals as goal

pub returns-clause-chars : goal.returns-clause-chars
returns-clause-chars c =
    rw (utf8_of-text_source c.args.word.now c.utf8.word) (rw c.as_bytes.ensures.value at c.push_words.ensures)
