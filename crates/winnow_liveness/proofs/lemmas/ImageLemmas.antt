-- Parsers that need more just where another one does.
use Rattle.std.proofs.Common.{Bool, true, Option, Some, None, inl, inr}
use Rattle.winnow_stream.specs.declared.needed.Needed.{Needed}
use Rattle.winnow_parser.specs.Outcome.{Ahead, Backtracks, Cuts, Needs, Refuses, Outcome, Gives, Fails, Meaning}
use Rattle.winnow_parser.specs.Laws.{longer, IsSettled}
use Rattle.winnow_parser.specs.Meanings.{Maps, IsOpt, Peeks, IsNot, CutsErr, BacktracksErr, Verifies, VerifyMaps}
use Rattle.winnow_combinator.specs.Appended.{Appending}
use Rattle.winnow_combinator.specs.Gathering.{Gathered}
use Rattle.winnow_combinator.specs.Repeat.{Taking}
use Rattle.winnow_combinator.specs.Separated.{Countable}
use Rattle.winnow_liveness.specs.Live.{IsLive}

-- a settled answer of the inner parser
abbrev Settles : {O T : Type 0} → Meaning O T → Ahead T → Type 0
Settles {O} {T} inner a = (w : Outcome O T) × (inner true a w × IsSettled w)

module _ {O P T : Type 0} (inner : Meaning O T) (outer : Meaning P T) (live : IsLive inner)
    (needs : (a : Ahead T) (need : Needed) → outer true a (Fails (Needs need))
    → inner true a (Fails (Needs need)))
    (settles : (a : Ahead T)
    (v : Outcome P T) → outer true a v → IsSettled v → Settles inner a) where
  -- a parser that needs more where the inner one does, and is settled only where that is
  live-image : IsLive outer
  live-image a need more h l v k s =
      let w = settles (longer more a) v k s in live a need more (needs a need h) l w.0 w.1.0 w.1.1

module _ {O T : Type 0} (inner : Meaning O T) (live : IsLive inner) where
  -- another value
  pub IsLive-Maps : {P : Type 0} (gives : O → P → Type 0) → IsLive (Maps gives inner)
  IsLive-Maps {P} gives = live-image inner (Maps gives inner) live (λ a need h. h) settles
    where
      settles : (a : Ahead T) (v : Outcome P T) → Maps gives inner true a v → IsSettled v
          → Settles inner a
      settles a (Gives y b) h s = (Gives h.0 b, (h.1.1, tt))
      settles a (Fails f) h s = (Fails f, (h, s))

  -- a value that takes memory
  pub IsLive-Gathered : {P : Type 0} (refusable : Type 0) (gives : O → P → Type 0)
      → IsLive (Gathered refusable gives inner)
  IsLive-Gathered {P} refusable gives = live-image inner (Gathered refusable gives inner) live (λ a need h. h) settles
    where
      settles : (a : Ahead T) (v : Outcome P T) → Gathered refusable gives inner true a v
          → IsSettled v
          → Settles inner a
      settles a (Gives y b) h s = (Gives h.0 b, (h.1.1, tt))
      settles a (Fails (Backtracks b)) h s = (Fails (Backtracks b), (h, tt))
      settles a (Fails (Cuts b)) h s = (Fails (Cuts b), (h, tt))
      settles a (Fails (Needs n)) h s = absurd s
      settles a (Fails Refuses) h s = absurd s

  -- an error that is appended to
  pub IsLive-Appending : (refusable : Type 0) → IsLive (Appending refusable inner)
  IsLive-Appending refusable = live-image inner (Appending refusable inner) live (λ a need h. h) settles
    where
      settles : (a : Ahead T) (v : Outcome O T) → Appending refusable inner true a v → IsSettled v
          → Settles inner a
      settles a (Gives y b) h s = (Gives y b, (h, tt))
      settles a (Fails (Backtracks b)) h s = (Fails (Backtracks b), (h, tt))
      settles a (Fails (Cuts b)) h s = (Fails (Cuts b), (h, tt))
      settles a (Fails (Needs n)) h s = absurd s
      settles a (Fails Refuses) h s = absurd s

  -- a list that is too long to be counted
  pub IsLive-Countable : IsLive (Countable inner)
  IsLive-Countable = live-image inner (Countable inner) live (λ a need h. h) settles
    where
      settles : (a : Ahead T) (v : Outcome O T) → Countable inner true a v → IsSettled v
          → Settles inner a
      settles a (Gives y b) h s = (Gives y b, (h, tt))
      settles a (Fails (Backtracks b)) h s = (Fails (Backtracks b), (h, tt))
      settles a (Fails (Cuts b)) h s = (Fails (Cuts b), (h, tt))
      settles a (Fails (Needs n)) h s = absurd s
      settles a (Fails Refuses) h s = absurd s

  -- `opt`
  pub IsLive-IsOpt : IsLive (IsOpt inner)
  IsLive-IsOpt = live-image inner (IsOpt inner) live (λ a need h. h) settles
    where
      settles : (a : Ahead T) (v : Outcome (Option O) T) → IsOpt inner true a v → IsSettled v
          → Settles inner a
      settles a (Gives (Some x) b) h s = (Gives x b, (h, tt))
      settles a (Gives None b) h s = (Fails (Backtracks h.1.0), (h.1.1, tt))
      settles a (Fails (Backtracks b)) h s = absurd h
      settles a (Fails (Cuts b)) h s = (Fails (Cuts b), (h, tt))
      settles a (Fails (Needs n)) h s = absurd s
      settles a (Fails Refuses) h s = absurd s

  -- `peek`
  pub IsLive-Peeks : IsLive (Peeks inner)
  IsLive-Peeks = live-image inner (Peeks inner) live (λ a need h. h) settles
    where
      settles : (a : Ahead T) (v : Outcome O T) → Peeks inner true a v → IsSettled v
          → Settles inner a
      settles a (Gives x b) h s = (Gives x h.1.0, (h.1.1, tt))
      settles a (Fails f) h s = (Fails f, (h, s))

  -- `not`
  pub IsLive-IsNot : IsLive (IsNot inner)
  IsLive-IsNot = live-image inner (IsNot inner) live (λ a need h. h) settles
    where
      settles : (a : Ahead T) (v : Outcome (Unit {0}) T) → IsNot inner true a v → IsSettled v
          → Settles inner a
      settles a (Gives u b) h s = (Fails (Backtracks h.1.0), (h.1.1, tt))
      settles a (Fails (Backtracks b)) h s = (Gives h.1.0 h.1.1.0, (h.1.1.1, tt))
      settles a (Fails (Cuts b)) h s = (Fails (Cuts b), (h, tt))
      settles a (Fails (Needs n)) h s = absurd s
      settles a (Fails Refuses) h s = absurd s

  -- `cut_err`
  pub IsLive-CutsErr : IsLive (CutsErr inner)
  IsLive-CutsErr = live-image inner (CutsErr inner) live (λ a need h. h) settles
    where
      settles : (a : Ahead T) (v : Outcome O T) → CutsErr inner true a v → IsSettled v
          → Settles inner a
      settles a (Gives x b) h s = (Gives x b, (h, tt))
      settles a (Fails (Backtracks b)) h s = absurd h
      settles a (Fails (Cuts b)) (inl h) s = (Fails (Backtracks b), (h, tt))
      settles a (Fails (Cuts b)) (inr h) s = (Fails (Cuts b), (h, tt))
      settles a (Fails (Needs n)) h s = absurd s
      settles a (Fails Refuses) h s = absurd s

  -- `backtrack_err`
  pub IsLive-BacktracksErr : IsLive (BacktracksErr inner)
  IsLive-BacktracksErr = live-image inner (BacktracksErr inner) live (λ a need h. h) settles
    where
      settles : (a : Ahead T) (v : Outcome O T) → BacktracksErr inner true a v → IsSettled v
          → Settles inner a
      settles a (Gives x b) h s = (Gives x b, (h, tt))
      settles a (Fails (Backtracks b)) (inl h) s = (Fails (Backtracks b), (h, tt))
      settles a (Fails (Backtracks b)) (inr h) s = (Fails (Cuts b), (h, tt))
      settles a (Fails (Cuts b)) h s = absurd h
      settles a (Fails (Needs n)) h s = absurd s
      settles a (Fails Refuses) h s = absurd s

  -- `verify`
  pub IsLive-Verifies : (answers : O → Bool → Type 0) → IsLive (Verifies answers inner)
  IsLive-Verifies answers = live-image inner (Verifies answers inner) live (λ a need h. h) settles
    where
      settles : (a : Ahead T) (v : Outcome O T) → Verifies answers inner true a v → IsSettled v
          → Settles inner a
      settles a (Gives x b) h s = (Gives x b, (h.0, tt))
      settles a (Fails (Backtracks b)) (inl h) s = (Fails (Backtracks b), (h, tt))
      settles a (Fails (Backtracks b)) (inr h) s = (Gives h.1.0 h.1.1.0, (h.1.1.1.0, tt))
      settles a (Fails (Cuts b)) h s = (Fails (Cuts b), (h, tt))
      settles a (Fails (Needs n)) h s = absurd s
      settles a (Fails Refuses) h s = absurd s

  -- `verify_map`
  pub IsLive-VerifyMaps : {P : Type 0} (gives : O → Option P → Type 0)
      → IsLive (VerifyMaps gives inner)
  IsLive-VerifyMaps {P} gives = live-image inner (VerifyMaps gives inner) live (λ a need h. h) settles
    where
      settles : (a : Ahead T) (v : Outcome P T) → VerifyMaps gives inner true a v → IsSettled v
          → Settles inner a
      settles a (Gives y b) h s = (Gives h.0 b, (h.1.1, tt))
      settles a (Fails (Backtracks b)) (inl h) s = (Fails (Backtracks b), (h, tt))
      settles a (Fails (Backtracks b)) (inr h) s = (Gives h.1.0 h.1.1.0, (h.1.1.1.0, tt))
      settles a (Fails (Cuts b)) h s = (Fails (Cuts b), (h, tt))
      settles a (Fails (Needs n)) h s = absurd s
      settles a (Fails Refuses) h s = absurd s

  -- a value for which something is taken
  pub IsLive-Taking : IsLive (Taking inner)
  IsLive-Taking = live-image inner (Taking inner) live (λ a need h. h) settles
    where
      settles : (a : Ahead T) (v : Outcome O T) → Taking inner true a v → IsSettled v
          → Settles inner a
      settles a (Gives x b) h s = (Gives x b, (h.0, tt))
      settles a (Fails (Backtracks b)) h s = (Fails (Backtracks b), (h, tt))
      settles a (Fails (Cuts b)) (inl h) s = (Fails (Cuts b), (h, tt))
      settles a (Fails (Cuts b)) (inr h) s = (Gives h.0 b, (h.1.0, tt))
      settles a (Fails (Needs n)) h s = absurd s
      settles a (Fails Refuses) h s = absurd s
