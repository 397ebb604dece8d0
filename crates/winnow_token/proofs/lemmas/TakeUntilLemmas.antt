-- Needles of one length are found at the same place when more follows.
use Rattle.std.specs.Prelude.{ℕ, IsTrue}
use Rattle.std.proofs.Common.{List, [], ◌∷◌, ap, ◌∙◌, arith}
use Rattle.std.proofs.lemmas.Bool.Decides.{nat_tests}
use Rattle.winnow_match.specs.Bytes.{written}
use Rattle.winnow_match.specs.Search.{hit, have_one_length}
use Rattle.winnow_match.specs.Staying.{written-append}
use Rattle.winnow_match.proofs.lemmas.MoveLemmas.{find-stable}
use Rattle.winnow_match.proofs.lemmas.TailLemmas.{one-length}
use Rattle.winnow_token.specs.TakeUntil.{HitsStay}

-- a hit of needles of one length, in what tokens write, stays when more follows
pub HitsStay-written : {T : Type 0} (write : T → List ℕ) (needles : List (List ℕ))
    → IsTrue (have_one_length needles) → HitsStay (λ r. hit needles (written write r))
HitsStay-written write needles one r more at h =
    ap (hit needles) (written-append write r more)
    ∙ (find-stable needles (written write r) (written write more) (one-length needles (written write r) at one h)).0 ∙ h

-- a single needle is a list of needles of one length
pub one_needle : (needle : List ℕ) → IsTrue (have_one_length (needle ∷ []))
one_needle needle = grind (arith, nat_tests)
