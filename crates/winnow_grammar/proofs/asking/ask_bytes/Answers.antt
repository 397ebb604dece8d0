use Rattle.std.specs.Prelude.{false, None}
use Rattle.winnow_grammar.specs.Texts.{SpelledBytes-of}
use Rattle.winnow_grammar.proofs.asking.ask_bytes.Goals as goal

pub returns : goal.returns
returns g c =
    SpelledBytes-of (g.P.Spells.spells c.args.parser.now) false None None c.args.input.now.now c.ask_as.new.input.now c.ask_as.result c.ask_as.ensures.answer
