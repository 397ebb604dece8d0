use Rattle.winnow_script_print.proofs.words.VecTuple2UsizePushWords.push_words.Goals as goal

pub returns : goal.returns
returns g c = rw c.as_slice.ensures.value at c.push_items.ensures
