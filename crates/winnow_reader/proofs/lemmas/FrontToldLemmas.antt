-- What a record of text tells of a front of the bytes ahead is told of all of them.
use Rattle.std.specs.Prelude.{Bool, true, false, ◌||◌, nat_lt, min, suc, Some, Result, Ok, Err, IfErr}
use Rattle.std.proofs.Common.{◌≡◌, ℕ, ◌+◌, ◌*◌, ◌^◌, ◌-◌, ◌<◌, ◌≤◌, List, ◌++◌, length, take, drop, refl, ap, sym, ◌∙◌, subst, inl, inr, arith, take-append-drop}
use Rattle.std.proofs.lemmas.Bool.Decides.{nat_tests}
use Rattle.std.proofs.lemmas.List.{append-nil, take_all, drop_all, take-map}
use Rattle.winnow_stream.specs.Source.{Source, units}
use Rattle.winnow_stream.proofs.lemmas.UnitLemmas.{length-units}
use Rattle.winnow_stream.specs.declared.needed.Needed.{Needed}
use Rattle.winnow_error.specs.declared.failure.Failure.{Failure}
use Rattle.winnow_error.specs.declared.failure.Failure.TheVariants.{Incomplete, Backtrack, Cut, Refused}
use Rattle.winnow_parser.specs.Errors.{Errors}
use Rattle.winnow_parser.specs.Answer.{outcome}
use Rattle.winnow_parser.specs.Outcome.{Ahead, Backtracks, Cuts, Fails, Meaning}
use Rattle.winnow_parser.specs.Laws.{longer, IsSettled, IsParser}
use Rattle.winnow_reader.specs.declared.utf8_record.TextError.{TextError}
use Rattle.winnow_reader.specs.declared.utf8_record.TextError.TheVariants.{Text, Damaged}
use Rattle.winnow_reader.specs.Place.{bytes_at}
use Rattle.winnow_reader.specs.First.{first_ahead, left_ahead, goes_on}
use Rattle.winnow_reader.specs.InUtf8.{past, InUtf8}
use Rattle.winnow_reader.specs.Utf8Laws.{past-longer, came, left_at-longer, past-damaged, answers-longer, meets-longer}
use Rattle.winnow_reader.specs.TextTelling.{TellsDamage, TextTold, front_length, IsUnanswered, FrontTold}

-- if both are told of a failure, both are
pub both-told : {O F : Type 0} (says tells : F → Type 0) (answer : Result O F) → IfErr answer says
    → IfErr answer tells → IfErr answer (λ failure. says failure × tells failure)
both-told says tells (Ok x) h k = tt
both-told says tells (Err failure) h k = (h, k)

-- what is told of the bytes of a stream is told of the stream
pub told-there : {V : Type 0} (tells : Bool → Ahead ℕ → Ahead ℕ → V → Type 0) (v : V)
    (told flag : Bool) (place location : ℕ) (bs now : List ℕ) (n : ℕ) (b : Ahead ℕ) → told ≡ flag
    → place ≡ location → bs ≡ now → b ≡ past (bytes_at location now) n
    → tells told (bytes_at place bs) (past (bytes_at place bs) n) v
    → tells flag (bytes_at location now) b v
told-there tells v told flag place location bs now n b flag_is place_is bs_is there h =
    let at = ap (λ p. bytes_at p bs) place_is ∙ ap (bytes_at location) bs_is in
    subst (λ c. tells flag (bytes_at location now) c v) (sym there)
    (subst (λ a. tells flag a (past a n) v) at (subst (λ q. tells q (bytes_at place bs) (past (bytes_at place bs) n) v) flag_is h))

module _ {O E : Type 0} (inner : Meaning O ℕ) (p : IsParser inner) where
  -- with more bytes after those ahead, the same is told
  TellsDamage-longer : (more : Source ℕ) (partial : Bool) (a : Ahead ℕ) (n : ℕ)
      (failure : Failure (TextError E) Needed) → n ≤ length a.tokens
      → TellsDamage inner true a (past a n) failure
      → TellsDamage inner partial (longer more a) (past (longer more a) n) failure
  TellsDamage-longer more partial a n (Backtrack (Text e)) within h =
      (longer (came a more) h.0, (answers-longer inner p more partial a (Fails (Backtracks h.0)) tt h.1.0, past-longer a more n within ∙ ap (longer more) h.1.1 ∙ sym (left_at-longer a more h.0)))
  TellsDamage-longer more partial a n (Backtrack Damaged) within h = h
  TellsDamage-longer more partial a n (Cut (Text e)) within h =
      (longer (came a more) h.0, (answers-longer inner p more partial a (Fails (Cuts h.0)) tt h.1.0, past-longer a more n within ∙ ap (longer more) h.1.1 ∙ sym (left_at-longer a more h.0)))
  TellsDamage-longer more partial a n (Cut Damaged) within h =
      (meets-longer inner p more partial a h.0, past-longer a more n within ∙ ap (longer more) h.1 ∙ sym (past-damaged a more h.0.0))
  TellsDamage-longer more partial a n (Incomplete m) within h = tt
  TellsDamage-longer more partial a n (Refused r) within h = tt

module _ (place : ℕ) (bs : List ℕ) (len : ℕ) where
  -- the first bytes at a place
  first-bytes : bytes_at place (take len bs) ≡ first_ahead len (bytes_at place bs)
  first-bytes = ap (λ r. record { location = Some place; tokens = r }) (sym (take-map {Y = ℕ × ℕ} (λ x. (x, 1)) len bs))

  -- with the others after them, they are all
  first-whole : longer (drop len (units bs)) (bytes_at place (take len bs)) ≡ bytes_at place bs
  first-whole =
      ap (longer (drop len (units bs))) first-bytes
      ∙ ap (λ r. record { location = Some place; tokens = r }) (take-append-drop len (units bs))

  -- the place after some of them
  past-first : (n : ℕ) → n ≤ length (take len bs)
      → past (bytes_at place bs) n ≡ left_ahead len (bytes_at place bs) (past (bytes_at place (take len bs)) n)
  past-first n within =
      ap (λ a. past a n) (sym first-whole)
      ∙ past-longer (bytes_at place (take len bs)) (drop len (units bs)) n (omega (arith, within, length-units (take len bs)))

  module _ {O E : Type 0} (inner : Meaning O ℕ) (p : IsParser inner) where
    -- whether a failure is damage is told of all bytes
    pub TellsDamage-front : (partial : Bool) (n : ℕ)
        (answer : Result O (Failure (TextError E) Needed))
        → n ≤ length (take len bs)
        → IfErr answer (TellsDamage inner true (bytes_at place (take len bs)) (past (bytes_at place (take len bs)) n))
        → IfErr answer (TellsDamage inner partial (bytes_at place bs) (past (bytes_at place bs) n))
    TellsDamage-front partial n (Ok x) within h = h
    TellsDamage-front partial n (Err failure) within h =
        subst (λ a. TellsDamage inner partial a (past a n) failure) first-whole
        (TellsDamage-longer inner p (drop len (units bs)) partial (bytes_at place (take len bs)) n failure (omega (arith, within, length-units (take len bs))) h)

  -- a front that is not settled is unanswered
  pub IsUnanswered-front : {O E : Type 0} (inner : Meaning O ℕ) (n : ℕ)
      (answer : Result O (Failure E Needed))
      → ((a : Ahead ℕ) → ¬ (IsSettled (outcome answer a)))
      → InUtf8 inner true (bytes_at place (take len bs)) (outcome answer (past (bytes_at place (take len bs)) n))
      → IsUnanswered inner (first_ahead len (bytes_at place bs))
  IsUnanswered-front inner n (Ok x) unsettled h = absurd (unsettled (bytes_at place bs) tt)
  IsUnanswered-front inner n (Err (Backtrack e)) unsettled h = absurd (unsettled (bytes_at place bs) tt)
  IsUnanswered-front inner n (Err (Cut e)) unsettled h = absurd (unsettled (bytes_at place bs) tt)
  IsUnanswered-front inner n (Err (Incomplete m)) unsettled h =
      subst (λ a. IsUnanswered inner a) first-bytes (inl (m, h))
  IsUnanswered-front inner n (Err (Refused r)) unsettled h =
      subst (λ a. IsUnanswered inner a) first-bytes (inr h)

-- the least of two numbers, where it is less than the second
pub min-below : (n len greatest : ℕ) → len ≡ min n (2 ^ 64 - 1) → greatest < 2 ^ 64
    → len < greatest → len ≡ n
min-below n len greatest is fits less = grind (arith, nat_tests)

-- twice the least of two numbers, up to the second, is the least of twice the first and the second
min-twice : (n len twice : ℕ) → len ≡ min n (2 ^ 64 - 1) → twice ≡ min (len * 2) (2 ^ 64 - 1)
    → twice ≡ min (2 * n) (2 ^ 64 - 1)
min-twice n len twice is doubled = grind (arith, nat_tests)

-- each front is twice as long as the one before
length-next : (k : ℕ) → front_length (k + 1) ≡ 2 * front_length k
length-next k =
    let next : k + 1 ≡ suc k = omega arith in
    ap front_length next

-- so is the number of bytes that a record of text is asked of
pub length-twice : (k len twice : ℕ) → len ≡ min (front_length k) (2 ^ 64 - 1)
    → twice ≡ min (len * 2) (2 ^ 64 - 1)
    → twice ≡ min (front_length (k + 1)) (2 ^ 64 - 1)
length-twice k len twice is doubled =
    min-twice (front_length k) len twice is doubled ∙ ap (λ n. min n (2 ^ 64 - 1)) (sym (length-next k))

-- the last front has all bytes
pub length-last : (k n : ℕ) → k ≡ 64 → n < 2 ^ 64 → n ≤ front_length k
length-last k n last fits =
    let enough : 2 ^ 64 ≤ front_length 64 = omega arith in
    omega (arith, fits, enough, ap front_length last)

-- what is at most the least of two numbers is at most the first
pub min-at_most : (n len greatest : ℕ) → len ≡ min n (2 ^ 64 - 1) → greatest ≤ len → greatest ≤ n
min-at_most n len greatest is enough = grind (arith, nat_tests)

-- of fewer tokens than there are, more may follow
goes_on-front : (len n : ℕ) (partial : Bool) → len < n → (partial || nat_lt len n) ≡ true
goes_on-front len n true less = refl
goes_on-front len n false less = grind (arith, nat_tests)

-- of all, more may follow if it may
goes_on-all : (len n : ℕ) (partial : Bool) → n ≤ len → (partial || nat_lt len n) ≡ partial
goes_on-all len n true all = refl
goes_on-all len n false all = grind (arith, nat_tests)

module _ {O E : Type 0} (inner : Meaning O ℕ) (errors : Errors E (Ahead ℕ) ℕ) (partial : Bool) (place : ℕ) (bs : List ℕ) (k : ℕ)
    (before : (j : ℕ) → j < k
    → IsUnanswered inner (first_ahead (front_length j) (bytes_at place bs))) where
  -- what is told of the first front that is answered is told of a front
  pub FrontTold-front : (len n : ℕ) (answer : Result O (Failure (TextError E) Needed))
      → len ≡ front_length k → len < length bs → n ≤ length (take len bs)
      → IfErr answer (TextTold errors true (bytes_at place (take len bs)) (past (bytes_at place (take len bs)) n))
      → IfErr answer (FrontTold inner errors partial (bytes_at place bs) (past (bytes_at place bs) n))
  FrontTold-front len n (Ok x) is less within h = h
  FrontTold-front len n (Err failure) is less within h =
      let here = past (bytes_at place (take len bs)) n in
      let told = goes_on-front len (length (units bs)) partial (omega (arith, less, length-units bs)) in
      let first = subst (λ a. TextTold errors true a here failure) (first-bytes place bs len) h in
      let asked = subst (λ q. TextTold errors q (first_ahead len (bytes_at place bs)) here failure) (sym told) first in (
        k,
        (
          before,
          (
            here,
            (
              subst (λ m. TextTold errors (goes_on m partial (bytes_at place bs)) (first_ahead m (bytes_at place bs)) here failure) is asked,
              past-first place bs len n within ∙ ap (λ m. left_ahead m (bytes_at place bs) here) is,
            ),
          ),
        ),
      )

  -- so is what is told of all bytes, if no shorter front is answered
  pub FrontTold-all : (n : ℕ) (answer : Result O (Failure (TextError E) Needed))
      → length bs ≤ front_length k
      → IfErr answer (TextTold errors partial (bytes_at place bs) (past (bytes_at place bs) n))
      → IfErr answer (FrontTold inner errors partial (bytes_at place bs) (past (bytes_at place bs) n))
  FrontTold-all n (Ok x) all h = h
  FrontTold-all n (Err failure) all h =
      let here = past (bytes_at place bs) n in
      let len = front_length k in
      let enough : length (units bs) ≤ len = omega (arith, all, length-units bs) in
      let told = goes_on-all len (length (units bs)) partial enough in
      let same = ap (λ r. record { location = Some place; tokens = r }) (sym (take_all len (units bs) enough)) in
      let first = subst (λ a. TextTold errors partial a here failure) same h in
      let none : here ≡ left_ahead len (bytes_at place bs) here =
      ap (λ r. record { location = here.location; tokens = r }) (sym (append-nil here.tokens) ∙ ap (λ r. here.tokens ++ r) (sym (drop_all len (units bs) enough))) in
      (k, (before, (here, (subst (λ q. TextTold errors q (first_ahead len (bytes_at place bs)) here failure) (sym told) first, none))))
