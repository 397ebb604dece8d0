-- A parser that needs n more tokens has no settled answer with fewer.
use Rattle.std.specs.Prelude.{◌<◌, true, length}
use Rattle.std.specs.declared.num.NonZeroUsize.{NonZeroUsize}
use Rattle.winnow_stream.specs.Source.{Source}
use Rattle.winnow_stream.specs.declared.needed.Needed.TheVariants.{Size}
use Rattle.winnow_parser.specs.Outcome.{Ahead, Needs, Outcome, Fails, Meaning}
use Rattle.winnow_parser.specs.Laws.{longer, IsSettled}

-- where the parser needs n more tokens, no answer is settled with fewer than n more
abbrev pub IsPrompt : {O T : Type 0} → Meaning O T → Type 0
IsPrompt {O} {T} means = (a : Ahead T) (n : NonZeroUsize) (more : Source T) (v : Outcome O T)
    → means true a (Fails (Needs (Size n))) → length more < n.value → means true (longer more a) v → ¬ IsSettled v
