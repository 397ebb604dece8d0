use Rattle.std.proofs.Common.{◌≡◌, ℕ, true, List, ◌++◌}
use Rattle.wb_json.specs.Printing.{IsReady, PrintsMore}
use Rattle.wb_json.proofs.printing.Printing.print_lines.Given as goal

-- the lines so far were printed
abbrev pub invariant-loop-turn : goal.invariant-loop-turn
invariant-loop-turn g l = record {
  ready : IsReady l.self;
  lines : l.self.settings.by_lines ≡ true;
  settings : l.self.settings ≡ l.fn.self.settings;
  prints : (first : List ℕ) × ((l.fn.piece ≡ first ++ l.rest)
      × PrintsMore l.fn.self first l.self (g.W.Write.contents l.fn.output) (g.W.Write.contents l.output));
}
