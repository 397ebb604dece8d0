-- The steps of an iterator over the values of a parser.
use Rattle.std.specs.Prelude.{◌≡◌, Bool, Option, Some, None, Result, Ok, Err, ⊤}
use Rattle.winnow_stream.specs.declared.needed.Needed.{Needed}
use Rattle.winnow_error.specs.declared.failure.Failure.{Failure}
use Rattle.winnow_parser.specs.Outcome.{Ahead, Gives, Fails, Meaning}
use Rattle.winnow_parser.specs.Answer.{failed}
use Rattle.winnow_parser.specs.Errors.{Errors}
use Rattle.winnow_combinator.specs.Repeat.{Taking, OneMore}

-- how the values ended: not yet, at a backtrack, or at another failure
abbrev pub Ended : Type 0 → Type 0
Ended E = Option (Result (Unit {0}) (Failure E Needed))

-- one more value of the parser, for which some tokens are taken, and values go on; or it
-- backtracks, nothing is taken, and they have ended; or it fails otherwise, and they have ended so
abbrev pub GivesNext : {O E T : Type 0} → Meaning O T → Bool → Ahead T → Option O → Ended E
    → Ahead T → Type 0
GivesNext inner partial a (Some x) None b = Taking inner partial a (Gives x b)
GivesNext inner partial a (Some x) (Some r) b = ⊥
GivesNext inner partial a None None b = ⊥
GivesNext inner partial a None (Some (Ok u)) b =
    OneMore 0 0 (Taking inner) partial a (Gives None b)
GivesNext inner partial a None (Some (Err f)) b =
    OneMore 0 0 (Taking inner) partial a (Fails (failed f b))

-- a call of `next`: while values go on, it gives the next one or ends them; after their end it
-- gives nothing, reads nothing and changes nothing
abbrev pub Steps : {O E T : Type 0} → Meaning O T → Bool → Ended E → Ahead T → Option O → Ended E
    → Ahead T → Type 0
Steps inner partial None a r t b = GivesNext inner partial a r t b
Steps inner partial (Some e) a r t b = (r ≡ None) × (t ≡ Some e) × (b ≡ a)

-- a call that ends the values with a failure has one of these errors
abbrev pub EndsWith : {E S T : Type 0} → Errors E S T → Bool → Ended E → Ahead T → Ended E → S
    → Type 0
EndsWith errors partial None a (Some (Err f)) s = errors partial a s f
EndsWith errors partial None a (Some (Ok u)) s = ⊤
EndsWith errors partial None a None s = ⊤
EndsWith errors partial (Some e) a t s = ⊤
