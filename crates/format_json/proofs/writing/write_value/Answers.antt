use Rattle.format_json.proofs.lemmas.WritingLemmas.{written-document}
use Rattle.format_json.proofs.writing.write_value.Goals as goal

pub returns-clause-document : goal.returns-clause-document
returns-clause-document c =
    written-document c.args.depth c.args.value.now c.in_ok-append_value.ensures.1
