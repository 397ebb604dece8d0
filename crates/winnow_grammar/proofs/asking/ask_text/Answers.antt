use Rattle.std.specs.Prelude.{false, None}
use Rattle.winnow_grammar.specs.Texts.{SpelledText-of}
use Rattle.winnow_grammar.proofs.asking.ask_text.Goals as goal

pub returns : goal.returns
returns g c =
    SpelledText-of (g.P.Spells.spells c.args.parser.now) false None None c.args.input.now.now c.ask_as.new.input.now c.ask_as.result c.ask_as.ensures.answer
