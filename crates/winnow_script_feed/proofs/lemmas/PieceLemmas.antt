-- Lists of references to pieces, of which a front was fed.
use Rattle.std.proofs.Common.{◌≡◌, ℕ, zero, suc, ◌+◌, ◌≤◌, ◌<◌, List, [], ◌∷◌, ◌++◌, length, take, get_or, ap, ◌∙◌, arith}
use Rattle.std.specs.Borrow.{Bor}
use Rattle.std.proofs.lemmas.List.{length-append, take_more, map-append}
use Rattle.winnow_script_feed.specs.Inputs.{joined, pieces_in}

-- one more reference gives one more piece
pub taken-more : (ps : List (Bor (List ℕ))) (i : ℕ) (d : Bor (List ℕ)) → i < length ps
    → pieces_in (take (i + 1) ps) ≡ pieces_in (take i ps) ++ (get_or ps i d).now ∷ []
taken-more ps i d h = ap pieces_in (take_more ps i d h) ∙ map-append (λ (p : Bor (List ℕ)). p.now) (take i ps) (get_or ps i d ∷ [])

-- the joined front and the next piece are no longer than all pieces joined
pub taken-fits : (ps : List (Bor (List ℕ))) (i : ℕ) (d : Bor (List ℕ)) → i < length ps
    → length (joined (pieces_in (take i ps))) + length (get_or ps i d).now ≤ length
    (joined (pieces_in ps))
taken-fits [] i d h = absurd (omega arith)
taken-fits (p ∷ ps) zero d h = omega (arith, length-append p.now (joined (pieces_in ps)))
taken-fits (p ∷ ps) (suc i) d h =
    omega (arith, taken-fits ps i d (omega arith), length-append p.now (joined (pieces_in ps)), length-append p.now (joined (pieces_in (take i ps))))
