-- The parsers of what remains and of its width have one answer.
use Rattle.std.proofs.Common.{◌≡◌, ℕ, sym, ◌∙◌, ap}
use Rattle.winnow_stream.specs.Source.{Source}
use Rattle.winnow_parser.specs.Outcome.{Backtracks, Cuts, Needs, Refuses, Gives, Fails}
use Rattle.winnow_parser.specs.Determined.{IsDetermined}
use Rattle.winnow_token.specs.Rest.{IsRest, IsRestLen, WholesRespect}

module _ {S T : Type 0} (is_slice : S → Source T → ℕ → Type 0) (alike : S → S → Type 0) (wholes : WholesRespect is_slice alike) where
  -- `IsRest` has one answer where slices of one whole are the same
  pub determined-rest : IsDetermined alike (IsRest is_slice)
  determined-rest partial a (Gives x b) (Gives y c) s t h k = (wholes x y a.tokens h.1 k.1, h.2 ∙ sym k.2)
  determined-rest partial a (Gives x b) (Fails (Backtracks c)) s t h k = k
  determined-rest partial a (Gives x b) (Fails (Cuts c)) s t h k = k
  determined-rest partial a (Gives x b) (Fails (Needs n)) s t h k = cc
  determined-rest partial a (Gives x b) (Fails Refuses) s t h k = k
  determined-rest partial a (Fails (Backtracks b)) w s t h k = absurd h
  determined-rest partial a (Fails (Cuts b)) w s t h k = absurd h
  determined-rest partial a (Fails (Needs n)) (Gives y c) s t h k = cc
  determined-rest partial a (Fails (Needs n)) (Fails (Backtracks c)) s t h k = absurd k
  determined-rest partial a (Fails (Needs n)) (Fails (Cuts c)) s t h k = absurd k
  determined-rest partial a (Fails (Needs n)) (Fails (Needs m)) s t h k = ap Needs (h.1 ∙ sym k.1)
  determined-rest partial a (Fails (Needs n)) (Fails Refuses) s t h k = absurd k
  determined-rest partial a (Fails Refuses) w s t h k = absurd h

module _ {T : Type 0} where
  -- `IsRestLen` has one answer
  pub determined-rest_len : IsDetermined {O = ℕ} {T = T} ◌≡◌ IsRestLen
  determined-rest_len partial a (Gives x b) (Gives y c) s t h k = (h.1 ∙ sym k.1, sym h.2 ∙ k.2)
  determined-rest_len partial a (Gives x b) (Fails (Backtracks c)) s t h k = k
  determined-rest_len partial a (Gives x b) (Fails (Cuts c)) s t h k = k
  determined-rest_len partial a (Gives x b) (Fails (Needs n)) s t h k = cc
  determined-rest_len partial a (Gives x b) (Fails Refuses) s t h k = k
  determined-rest_len partial a (Fails (Backtracks b)) w s t h k = absurd h
  determined-rest_len partial a (Fails (Cuts b)) w s t h k = absurd h
  determined-rest_len partial a (Fails (Needs n)) (Gives y c) s t h k = cc
  determined-rest_len partial a (Fails (Needs n)) (Fails (Backtracks c)) s t h k = absurd k
  determined-rest_len partial a (Fails (Needs n)) (Fails (Cuts c)) s t h k = absurd k
  determined-rest_len partial a (Fails (Needs n)) (Fails (Needs m)) s t h k = ap Needs (h.1 ∙ sym k.1)
  determined-rest_len partial a (Fails (Needs n)) (Fails Refuses) s t h k = absurd k
  determined-rest_len partial a (Fails Refuses) w s t h k = absurd h
