-- A parser that adds to its errors what was being read.
use Rattle.std.specs.Prelude.{◌⊎◌}
use Rattle.winnow_parser.specs.Outcome.{Ahead, Backtracks, Cuts, Needs, Refuses, Gives, Fails, Meaning}
use Rattle.winnow_parser.specs.Laws.{IsStable, IsOnward, IsParser}

-- the same as the inner parser; where that fails, memory may be refused while the context is added
abbrev pub InContext : {O T : Type 0} → Type 0 → Meaning O T → Meaning O T
InContext refusable inner partial a (Gives x b) = inner partial a (Gives x b)
InContext refusable inner partial a (Fails (Backtracks b)) = inner partial a (Fails (Backtracks b))
InContext refusable inner partial a (Fails (Cuts b)) = inner partial a (Fails (Cuts b))
InContext refusable inner partial a (Fails (Needs n)) = inner partial a (Fails (Needs n))
InContext {O} {T} refusable inner partial a (Fails Refuses) = inner partial a (Fails Refuses)
    ⊎ (refusable × ((c : Ahead T) × (inner partial a (Fails (Backtracks c)) ⊎ inner partial a (Fails (Cuts c)))))

module _ {O T : Type 0} (refusable : Type 0) (inner : Meaning O T) (p : IsParser inner) where
  -- a settled answer of `InContext` stays when more input follows
  in_context-stable : IsStable (InContext refusable inner)
  in_context-stable more partial a (Gives x b) s h = p.stable more partial a (Gives x b) s h
  in_context-stable more partial a (Fails (Backtracks b)) s h = p.stable more partial a (Fails (Backtracks b)) s h
  in_context-stable more partial a (Fails (Cuts b)) s h = p.stable more partial a (Fails (Cuts b)) s h
  in_context-stable more partial a (Fails (Needs n)) s h = absurd s
  in_context-stable more partial a (Fails Refuses) s h = absurd s

  -- `InContext` only moves the stream on
  in_context-onward : IsOnward (InContext refusable inner)
  in_context-onward partial a (Gives x b) h = p.onward partial a (Gives x b) h
  in_context-onward partial a (Fails (Backtracks b)) h = p.onward partial a (Fails (Backtracks b)) h
  in_context-onward partial a (Fails (Cuts b)) h = p.onward partial a (Fails (Cuts b)) h
  in_context-onward partial a (Fails (Needs n)) h = tt
  in_context-onward partial a (Fails Refuses) h = tt

  -- `InContext` keeps the laws of a parser
  pub IsParser-InContext : IsParser (InContext refusable inner)
  IsParser-InContext = record { stable = in_context-stable; final = p.final; onward = in_context-onward }
