-- Of bytes without a line feed the parser of a line needs more.
use Rattle.std.specs.Prelude.{◌≡◌, ◌≢◌, ℕ, ◌==◌, Bool, true, false, cond, List, [], ◌∷◌, ◌++◌, Option, Some, None, is_some}
use Rattle.std.proofs.Common.{refl, ap, sym, ◌∙◌, subst, inl, arith}
use Rattle.std.proofs.lemmas.Bool.Decides.{nat_tests}
use Rattle.std.proofs.lemmas.List.Elements.{recursion_from_All, All-from_get_or}
use Rattle.memchr.specs.Find.{IsFirstByte, is_byte}
use Rattle.winnow_stream.specs.Source.{Source, units, held_front}
use Rattle.winnow_stream.specs.Shortage.{needed}
use Rattle.std.specs.Borrow.{Bor}
use Rattle.winnow_parser.specs.Outcome.{Ahead, Outcome}
use Rattle.winnow_token.specs.TakeWhile.{may_grow}
use Rattle.winnow_scan.specs.Scanning.{AwaitsMore, GoesOn}
use Rattle.winnow_scan.specs.Line.{LineBefore, LineSlice, OneLine, HasNoFeed, is_other}

-- bytes without a line feed, and more without one
no_feed-append : (xs ys : List ℕ) → HasNoFeed xs → HasNoFeed ys → HasNoFeed (xs ++ ys)
no_feed-append [] ys h k = k
no_feed-append (x ∷ xs) ys h k = (h.0, no_feed-append xs ys h.1 k)

-- a byte that is no line feed is another one
other : (x : ℕ) → x ≢ 10 → is_other x ≡ true
other x n = grind (arith, nat_tests, n)

-- bytes without a line feed are all held
all-held : (xs : List ℕ) → HasNoFeed xs → held_front is_other (units xs) ≡ units xs
all-held [] h = refl
all-held (x ∷ xs) h =
    ap (λ b. cond b ((x, 1) ∷ held_front is_other (units xs)) []) (other x h.0) ∙ ap (λ r. (x, 1) ∷ r) (all-held xs h.1)

-- a search that finds no line feed looked at bytes without one
none-found : (bytes : List ℕ) → IsFirstByte (is_byte 10) bytes None → HasNoFeed bytes
none-found bytes h =
    recursion_from_All (λ byte. byte ≢ 10) bytes
    (All-from_get_or (λ byte. byte ≢ 10) bytes 0 (λ k l e. h k (omega arith) l (ap (λ byte. byte == 10) e)))

-- so did a search whose answer is not some index
not-found : (bytes : List ℕ) (found : Option ℕ) → IsFirstByte (is_byte 10) bytes found
    → false ≡ is_some found → HasNoFeed bytes
not-found bytes None h e = none-found bytes h
not-found bytes (Some n) h e = absurd (cc e)

-- the whole may grow
whole-grows : (r : Source ℕ) → may_grow None r r ≡ true
whole-grows r = grind (arith, nat_tests)

-- of bytes without a line feed the parser of a line needs one more
awaits-feed : (bytes : List ℕ) → HasNoFeed bytes → AwaitsMore OneLine bytes
awaits-feed bytes h place =
    inl (needed 1, inl (inl (refl, refl, subst (λ r. may_grow None r (units bytes) ≡ true) (sym (all-held bytes h)) (whole-grows (units bytes)))))

-- so a search that finds none goes on
pub goes-on : (front more : List ℕ) (found : Option ℕ) (result : Bool) (state : Unit {0})
    → IsFirstByte (is_byte 10) more found → result ≡ is_some found → HasNoFeed front
    → GoesOn OneLine (λ bytes s. HasNoFeed bytes) (front ++ more) result state
goes-on front more found true state first e h = tt
goes-on front more found false state first e h =
    let none = no_feed-append front more h (not-found more found first e) in
    (none, awaits-feed (front ++ more) none)

-- what a parser of a line answers whose last byte is a line feed
pub line-of : (end : ℕ) (partial : Bool) (a : Ahead ℕ) (v : Outcome (Bor (List ℕ)) ℕ) → end ≡ 10
    → LineBefore end partial a v → LineSlice partial a v
line-of end partial a v e h = subst (λ n. LineBefore n partial a v) e h
