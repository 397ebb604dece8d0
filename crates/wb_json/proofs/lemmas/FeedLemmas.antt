-- Where the first line feed of some bytes stands.
use Rattle.std.proofs.Common.{◌≡◌, ℕ, zero, suc, ◌-◌, ◌<◌, Bool, true, false, cond, List, [], ◌∷◌, ◌++◌, length, take, drop, take_all, length-drop, refl, ap, sym, ◌∙◌, subst, arith}
use Rattle.std.specs.Prelude.{◌==◌, slice_index}
use Rattle.std.proofs.lemmas.List.{take-append-drop}
use Rattle.std.proofs.lemmas.List.Sums.{sum_by-cons}
use Rattle.std.proofs.lemmas.Bool.Decides.{nat_tests}
use Rattle.memchr.specs.Find.{Nowhere, NoneBefore, Passes, is_byte}
use Rattle.wb_base.specs.Positions.{line_feeds}
use Rattle.wb_json.specs.Texts.{IsLine}

-- the weight of a byte in a count of line feeds
abbrev feed : ℕ → ℕ
feed byte = cond (byte == 10) 1 0

-- the step of `feeds-before`
before-step : (t : Bool) (x : ℕ) (xs : List ℕ) → (x == 10) ≡ t → ((x == 10) ≡ true → ⊥)
    → line_feeds xs ≡ 0 → line_feeds (x ∷ xs) ≡ 0
before-step true x xs e never none = absurd (never e)
before-step false x xs e never none =
    let weight : feed x ≡ 0 = ap (λ t. cond t 1 0) e in
    omega (arith, sum_by-cons feed x xs, weight, none)

-- the bytes before each line feed have none
feeds-before : (bytes : List ℕ) (n : ℕ)
    → ((k : ℕ) → k < n → k < length bytes → (slice_index bytes k == 10) ≡ true → ⊥)
    → line_feeds (take n bytes) ≡ 0
feeds-before bytes zero h = refl
feeds-before [] (suc n) h = refl
feeds-before (x ∷ xs) (suc n) h =
    before-step (x == 10) x (take n xs) refl (h 0 (omega arith) (omega arith))
    (feeds-before xs n (λ k low high. h (suc k) (omega (arith, low)) (omega (arith, high))))

-- a byte that is a line feed
same-feed : (x : ℕ) → (x == 10) ≡ true → x ≡ 10
same-feed x is = grind (arith, nat_tests)

-- at a line feed stands a line feed
feed-at : (bytes : List ℕ) (n : ℕ) → n < length bytes → (slice_index bytes n == 10) ≡ true
    → drop n bytes ≡ 10 ∷ drop 1 (drop n bytes)
feed-at [] n fits is = absurd (omega (arith, fits))
feed-at (x ∷ xs) zero fits is = ap (λ y. y ∷ xs) (same-feed x is)
feed-at (x ∷ xs) (suc n) fits is = feed-at xs n (omega (arith, fits)) is

-- bytes without a line feed are of one line
pub line-whole : (bytes : List ℕ) → Nowhere (Passes (is_byte 10) bytes) 0 (length bytes)
    → IsLine bytes
line-whole bytes h =
    subst IsLine (take_all (length bytes) bytes (omega arith)) (feeds-before bytes (length bytes) (λ k low high is. h k (omega arith) high is))

-- the first line feed ends a line, and the rest follows it
pub line-first : (bytes : List ℕ) (n : ℕ)
    → NoneBefore (Passes (is_byte 10) bytes) 0 (length bytes) n × Passes (is_byte 10) bytes n
    → IsLine (take n bytes) × (bytes ≡ take n bytes ++ 10 ∷ drop 1 (drop n bytes))
line-first bytes n (first, is) = (
  feeds-before bytes n (λ k low high e. first.before k (omega arith) low e),
  sym (take-append-drop n bytes) ∙ ap (λ xs. take n bytes ++ xs) (feed-at bytes n first.high is),
)

-- the same where the bytes are split there
pub line-split : (bytes line rest : List ℕ) (n : ℕ) → line ≡ take n bytes → rest ≡ drop n bytes
    → NoneBefore (Passes (is_byte 10) bytes) 0 (length bytes) n × Passes (is_byte 10) bytes n
    → IsLine line × (bytes ≡ line ++ 10 ∷ take (length rest - 1) (drop 1 rest))
line-split bytes line rest n front back h =
    let first = line-first bytes n h in
    let all : take (length rest - 1) (drop 1 rest) ≡ drop 1 rest = take_all (length rest - 1) (drop 1 rest) (omega (arith, length-drop 1 rest)) in (
      subst IsLine (sym front) first.0,
      first.1 ∙ ap (λ xs. xs ++ 10 ∷ drop 1 (drop n bytes)) (sym front)
          ∙ ap (λ xs. line ++ 10 ∷ drop 1 xs) (sym back) ∙ ap (λ xs. line ++ 10 ∷ xs) (sym all),
    )
