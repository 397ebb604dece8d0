-- Lines and positions of a front of some bytes.
use Rattle.std.proofs.Common.{◌≡◌, ℕ, ◌+◌, ◌≤◌, Bool, true, false, cond, List, [], ◌∷◌, ◌++◌, length, take, drop, refl, ap, sym, ◌∙◌, subst, arith, append_assoc, length-append}
use Rattle.std.specs.Prelude.{◌==◌}
use Rattle.std.specs.List.{fold}
use Rattle.std.proofs.lemmas.List.{take-append-drop, take-append-le, length-drop}
use Rattle.std.proofs.lemmas.List.Sums.{fold-append, sum_by-cons, sum_by-append}
use Rattle.example_json.specs.declared.positions.Line.{Line}
use Rattle.example_json.specs.declared.positions.Position.{Position}
use Rattle.example_json.specs.Positions.{line_feeds, after_feed, LeadsTo, IsPositionAfter, IsPlaced}

-- the weight of a byte in a count of line feeds
abbrev feed : ℕ → ℕ
feed byte = cond (byte == 10) 1 0

-- how many bytes stand after the last line feed, with one byte more
abbrev count : ℕ → ℕ → ℕ
count n byte = cond (byte == 10) 0 (n + 1)

-- the line feeds of two texts
feeds-append : (xs ys : List ℕ) → line_feeds (xs ++ ys) ≡ line_feeds xs + line_feeds ys
feeds-append xs ys = sum_by-append feed xs ys

-- the step of `none-after`
none-step : (t : Bool) (n y : ℕ) (ys : List ℕ) → (y == 10) ≡ t
    → ((m : ℕ) → length ys ≤ fold count m ys → (line_feeds ys ≡ 0) × (fold count m ys ≡ m + length ys))
    → length (y ∷ ys) ≤ fold count n (y ∷ ys)
    → (line_feeds (y ∷ ys) ≡ 0) × (fold count n (y ∷ ys) ≡ n + length (y ∷ ys))
none-step true n y ys e more h =
    let is : fold count n (y ∷ ys) ≡ fold count 0 ys = ap (λ t. fold count (cond t 0 (n + 1)) ys) e in
    absurd (omega (arith, is, h, (more 0 (omega (arith, is, h))).1))
none-step false n y ys e more h =
    let is : fold count n (y ∷ ys) ≡ fold count (n + 1) ys = ap (λ t. fold count (cond t 0 (n + 1)) ys) e in
    let none : feed y ≡ 0 = ap (λ t. cond t 1 0) e in
    let far = more (n + 1) (omega (arith, is, h)) in
    (omega (arith, far.0, none, sum_by-cons feed y ys), omega (arith, is, far.1))

-- where as many bytes stand after the last line feed as come last, none of these is one
none-after : (n : ℕ) (ys : List ℕ) → length ys ≤ fold count n ys
    → (line_feeds ys ≡ 0) × (fold count n ys ≡ n + length ys)
none-after n [] h = (refl, omega arith)
none-after n (y ∷ ys) h = none-step (y == 10) n y ys refl (λ m l. none-after m ys l) h

-- a front of the bytes within which the last line begins is on that line
pub front-line : (input : List ℕ) (l : Line) (n : ℕ) → LeadsTo input l → l.start ≤ n
    → n ≤ length input
    → (l.ended ≡ line_feeds (take n input)) × (l.start + after_feed (take n input) ≡ n)
front-line input l n h begun within =
    let xs = take n input in
    let ys = drop n input in
    let whole : xs ++ ys ≡ input = take-append-drop n input in
    let all : after_feed input ≡ fold count (after_feed xs) ys = ap after_feed (sym whole) ∙ fold-append count 0 xs ys in
    let none = none-after (after_feed xs) ys (omega (arith, all, h.begins, length-drop n input)) in (
      omega (arith, h.feeds, ap line_feeds whole, feeds-append xs ys, none.0),
      omega (arith, h.begins, all, none.1, length-drop n input),
    )

-- a place within the bytes before which a piece ends has its position with the whole piece too
pub placed-longer : (input piece : List ℕ) (place : ℕ) (p : Position) → IsPlaced input place p
    → IsPlaced (input ++ piece) place p
placed-longer input piece place p (within, at) = (
  omega (arith, within, length-append input piece),
  subst (λ xs. IsPositionAfter xs p) (sym (take-append-le place input piece within)) at,
)

-- a place in a front of a piece has its position with the whole piece too
pub placed-front : (input piece : List ℕ) (n place : ℕ) (p : Position)
    → IsPlaced (input ++ take n piece) place p → IsPlaced (input ++ piece) place p
placed-front input piece n place p h =
    subst (λ xs. IsPlaced xs place p)
    (append_assoc input (take n piece) (drop n piece) ∙ ap (λ xs. input ++ xs) (take-append-drop n piece))
    (placed-longer (input ++ take n piece) (drop n piece) place p h)
