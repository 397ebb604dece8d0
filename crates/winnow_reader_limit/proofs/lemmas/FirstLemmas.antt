-- What a record answered of the first bytes at a place.
use Rattle.std.specs.Prelude.{Bool, true, false, ◌||◌, nat_lt, Some, Result, Ok, Err, IfErr}
use Rattle.std.proofs.Common.{◌≡◌, ℕ, ◌+◌, ◌-◌, ◌≤◌, ◌<◌, List, ◌++◌, length, take, drop, ap, sym, ◌∙◌, subst, arith, length-take, take-append-drop}
use Rattle.std.proofs.lemmas.Bool.Decides.{nat_tests}
use Rattle.std.proofs.lemmas.List.{take-map, drop-map, map-append, drop-append-le}
use Rattle.winnow_stream.specs.Source.{units, width}
use Rattle.winnow_stream.specs.Location.{location_behind}
use Rattle.winnow_stream.specs.Units.{width-units}
use Rattle.winnow_stream.proofs.lemmas.UnitLemmas.{width-take_units, length-units}
use Rattle.winnow_parser.specs.Outcome.{Ahead, Outcome, Meaning, Moves}
use Rattle.winnow_stream.specs.declared.needed.Needed.{Needed}
use Rattle.winnow_error.specs.declared.failure.Failure.{Failure}
use Rattle.winnow_parser.specs.Errors.{Errors}
use Rattle.winnow_reader.specs.Place.{bytes_at}
use Rattle.winnow_reader.specs.InUtf8.{past}
use Rattle.winnow_reader.proofs.lemmas.PlaceLemmas.{moved-bytes}
use Rattle.winnow_reader_limit.specs.declared.limit.LimitedError.{LimitedError}
use Rattle.winnow_reader_limit.specs.LimitTelling.{FirstTold, LimitErrors}
use Rattle.winnow_reader.specs.First.{first_ahead, left_ahead}
use Rattle.winnow_reader_limit.specs.Within.{AnswersFirst}

module _ (greatest place : ℕ) (bs : List ℕ) where
  -- the first bytes at a place
  first-bytes : bytes_at place (take greatest bs) ≡ first_ahead greatest (bytes_at place bs)
  first-bytes =
      ap (λ r. record { location = Some place; tokens = r }) (sym (take-map {Y = ℕ × ℕ} (λ x. (x, 1)) greatest bs))

  -- what was answered of the stream over the first bytes is an answer of them
  pub answers-of : {O : Type 0} (means : Meaning O ℕ) (partial flag over : Bool) (b : Ahead ℕ)
      (first : List ℕ) (v : Outcome O ℕ) → first ≡ take greatest bs
      → over ≡ nat_lt greatest (length bs) → flag ≡ (partial || over) → b ≡ bytes_at place first
      → means flag b v → AnswersFirst greatest means partial (bytes_at place bs) v
  answers-of means partial flag over b first v is over-is told stands h =
      let len : length (units bs) ≡ length bs = length-units bs in
      let flag_is = told ∙ ap (λ q. partial || q) (over-is ∙ ap (nat_lt greatest) (sym len)) in
      let place_is = stands ∙ ap (bytes_at place) is ∙ first-bytes in
      subst (λ q. means q (first_ahead greatest (bytes_at place bs)) v) flag_is (subst (λ a. means flag a v) place_is h)

  -- the bytes that are left of the first ones and those after them are those after the bytes taken
  rest-bytes : (n : ℕ) → n ≤ length (take greatest bs)
      → units (drop n (take greatest bs)) ++ drop greatest (units bs) ≡ drop n (units bs)
  rest-bytes n within =
      let left : drop n (take greatest bs) ++ drop greatest bs ≡ drop n bs =
      sym (drop-append-le n (take greatest bs) (drop greatest bs) within) ∙ ap (drop n) (take-append-drop greatest bs) in
      ap (λ r. units (drop n (take greatest bs)) ++ r) (drop-map {Y = ℕ × ℕ} (λ x. (x, 1)) greatest bs)
      ∙ sym (map-append {B = ℕ × ℕ} (λ x. (x, 1)) (drop n (take greatest bs)) (drop greatest bs))
      ∙ ap units left ∙ sym (drop-map {Y = ℕ × ℕ} (λ x. (x, 1)) n bs)

  -- the place after the bytes that were taken
  pub left-of : (there : ℕ) (rest first : List ℕ) (n left : ℕ)
      → Moves (first_ahead greatest (bytes_at place bs)) (bytes_at there rest)
      → first ≡ take greatest bs → n ≡ length first - left → left ≡ width (units rest)
      → past (bytes_at place bs) n ≡ left_ahead greatest (bytes_at place bs) (bytes_at there rest)
  left-of there rest given n left moves given-is n-is left-is =
      let is : n ≡ length (take greatest bs) - length rest =
      omega (arith, n-is, left-is, width-units rest, ap length given-is) in
      let first = take greatest bs in
      let within : n ≤ length first = omega (arith, is) in
      let fits : n ≤ length bs = omega (arith, within, length-take greatest bs) in
      let moved = subst (λ a. Moves a (bytes_at there rest)) (sym first-bytes) moves in
      let after_them = moved-bytes place first there rest n moved is in
      let at = ap (location_behind (Some place)) (sym (width-take_units bs n fits)) in
      let placed : past (bytes_at place bs) n ≡ record { location = Some (place + n); tokens = drop n (units bs) } =
      ap (λ l. record { location = l; tokens = drop n (units bs) }) at in
      let joined : record { location = Some (place + n); tokens = drop n (units bs) }
      ≡ left_ahead greatest (bytes_at place bs) (bytes_at (place + n) (drop n first)) =
      ap (λ r. record { location = Some (place + n); tokens = r }) (sym (rest-bytes n within)) in
      placed ∙ joined ∙ ap (left_ahead greatest (bytes_at place bs)) (sym after_them)

-- the place after no bytes is the same
pub still-of : (place : ℕ) (bs : List ℕ) → past (bytes_at place bs) 0 ≡ bytes_at place bs
still-of place bs =
    let same : place + 0 ≡ place = omega arith in
    ap (λ p. bytes_at p bs) same

-- more bytes are ahead than may be
pub over-of : (greatest n : ℕ) (over : Bool) → over ≡ nat_lt greatest n → over ≡ true → greatest < n
over-of greatest n over is e =
    let more : nat_lt greatest n ≡ true = sym is ∙ e in
    grind (arith, nat_tests)

-- no more bytes are ahead than may be
pub within-of : (greatest n : ℕ) (over : Bool) → over ≡ nat_lt greatest n → over ≡ false
    → n ≤ greatest
within-of greatest n over is e =
    let no : nat_lt greatest n ≡ false = sym is ∙ e in
    grind (arith, nat_tests)

-- what was answered of the bytes of a stream is an answer of the stream
pub asked-of : {O : Type 0} (means : Meaning O ℕ) (answer : Ahead ℕ → Outcome O ℕ)
    (told flag : Bool)
    (place location : ℕ) (bs now : List ℕ) (n : ℕ) (b : Ahead ℕ) → told ≡ flag → place ≡ location
    → bs ≡ now → b ≡ past (bytes_at location now) n
    → means told (bytes_at place bs) (answer (past (bytes_at place bs) n))
    → means flag (bytes_at location now) (answer b)
asked-of means answer told flag place location bs now n b flag_is place_is bs_is there h =
    let at = ap (λ p. bytes_at p bs) place_is ∙ ap (bytes_at location) bs_is in
    subst (λ a. means flag (bytes_at location now) (answer a)) (sym there)
    (subst (λ a. means flag a (answer (past a n))) at (subst (λ q. means q (bytes_at place bs) (answer (past (bytes_at place bs) n))) flag_is h))

-- what was told of the bytes of a stream is told of the stream
pub told-of : {V : Type 0} (tells : Bool → Ahead ℕ → V → Type 0) (v : V) (told flag : Bool)
    (place location : ℕ) (bs now : List ℕ) → told ≡ flag → place ≡ location → bs ≡ now
    → tells told (bytes_at place bs) v → tells flag (bytes_at location now) v
told-of tells v told flag place location bs now flag_is place_is bs_is h =
    let at = ap (λ p. bytes_at p bs) place_is ∙ ap (bytes_at location) bs_is in
    subst (λ a. tells flag a v) at (subst (λ q. tells q (bytes_at place bs) v) flag_is h)

-- what is told of the same bytes at the same place is told of the stream
pub told-here : {O E : Type 0} (greatest : ℕ) (errors : Errors E (Ahead ℕ) ℕ) (place : ℕ)
    (bytes : List ℕ) (a left : Ahead ℕ) (partial : Bool)
    (answer : Result O (Failure (LimitedError E) Needed)) → a ≡ bytes_at place bytes
    → IfErr answer (FirstTold greatest errors place bytes)
    → IfErr answer (LimitErrors greatest errors partial a left)
told-here greatest errors place bytes a left partial (Ok x) same h = h
told-here greatest errors place bytes a left partial (Err f) same h = (place, (bytes, (same, h)))
