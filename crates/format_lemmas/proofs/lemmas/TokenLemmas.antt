-- From the meanings of parsers of bytes to the bytes that stand at the front.
use Rattle.std.proofs.Common.{◌≡◌, ◌≢◌, ℕ, ◌<◌, ◌≤◌, ◌==◌, nat_le, Bool, true, false, ◌&&◌, List, [], ◌∷◌, ◌++◌, length, drop, cond, Some, None, ap, sym, ◌∙◌, subst, refl, arith, length-append}
use Rattle.std.specs.Prelude.{IfSome}
use Rattle.std.proofs.lemmas.Bool.Decides.{nat_tests}
use Rattle.std.proofs.lemmas.List.{map-append}
use Rattle.std.proofs.lemmas.Option.{none-some, same_Some}
use Rattle.winnow_stream.specs.Source.{Source, width, first_token, held_front, HoldsAll, HasPositiveWidths}
use Rattle.winnow_stream.specs.SliceBytes.{SlicesHaveBytes}
use Rattle.winnow_stream.proofs.lemmas.HeldLemmas.{HoldsAll-held_front, next-held_front, is_offset-held_front, back-held_front, front-held_front, append-held_front}
use Rattle.winnow_parser.specs.Outcome.{Ahead, Failed, Backtracks, Cuts, Needs, Refuses, Gives, Fails, Moves}
use Rattle.winnow_token.specs.OneOf.{IsOneOf}
use Rattle.winnow_token.specs.TakeWhile.{TakesWhile}
use Rattle.format_lemmas.specs.Bytes.{bytes_of, Each, StartsWith, Starts, EndsRun}
use Rattle.format_lemmas.proofs.lemmas.ByteLemmas.{bytes-units, none-left, positive-after}

-- the code of a byte
abbrev pub itself : ℕ → ℕ
itself c = c

-- where a stream moves on, the tokens that remain have positive widths, too
pub positive-moved : (a b : Ahead ℕ) → Moves a b → HasPositiveWidths a.tokens
    → HasPositiveWidths b.tokens
positive-moved a b m h = positive-after m.taken b.tokens (subst HasPositiveWidths m.whole h)

-- ---- One byte

-- a first token that passes the test of a byte is this byte
first : (n : ℕ) (r : Source ℕ) (x : ℕ) → first_token r ≡ Some x → (n == x) ≡ true
    → (y : ℕ × ℕ) × ((r ≡ y ∷ drop 1 r) × (y.0 ≡ n))
first n [] x e is = absurd (none-some _ e)
first n (y ∷ ys) x e is = let same : y.0 ≡ x = same_Some _ _ e in (y, (refl, grind (arith, nat_tests, same, is)))

-- a source whose first token fails the test does not begin with the byte
other : (n : ℕ) (r : Source ℕ) → IfSome (first_token r) (λ x. (n == x) ≡ false)
    → ¬ (StartsWith n (bytes_of r))
other n [] h = λ e. e
other n (y ∷ ys) h = λ e. absurd (grind (arith, nat_tests, h, e))

module _ (n : ℕ) (partial : Bool) (a b : Ahead ℕ) where
  -- the token that was taken, which is the byte, and the rest
  taken : (x : ℕ) → IsOneOf (λ token. n == token) partial a (Gives x b)
      → (y : ℕ × ℕ) × ((a.tokens ≡ y ∷ b.tokens) × (y.0 ≡ n))
  taken x h =
      let at = first n a.tokens x h.0 h.1 in
      (at.0, (at.1.0 ∙ ap (λ s. at.0 ∷ s) (sym (ap (λ s. s.tokens) h.2)), at.1.1))

  -- a byte that is taken stands first
  pub byte-given : (x : ℕ) → IsOneOf (λ token. n == token) partial a (Gives x b)
      → bytes_of a.tokens ≡ n ∷ bytes_of b.tokens
  byte-given x h = let at = taken x h in ap bytes_of at.1.0 ∙ ap (λ m. m ∷ bytes_of b.tokens) at.1.1

  -- fewer widths remain after a byte that is taken
  pub byte-narrower : (x : ℕ) → HasPositiveWidths a.tokens
      → IsOneOf (λ token. n == token) partial a (Gives x b) → width b.tokens < width a.tokens
  byte-narrower x wide h =
      let at = taken x h in
      let one = subst HasPositiveWidths at.1.0 wide in omega (arith, one.0, ap width at.1.0)

  -- where a byte is wanted and backtracks, it does not stand first, and nothing moves
  pub byte-missing : IsOneOf (λ token. n == token) partial a (Fails (Backtracks b))
      → ¬ (StartsWith n (bytes_of a.tokens)) × (b ≡ a)
  byte-missing h = (other n a.tokens h.0, h.2)

-- where it backtracks at the end, nothing more may follow
pub byte-complete : (n : ℕ) (partial : Bool) (a b : Ahead ℕ)
    → IsOneOf (λ token. n == token) partial a (Fails (Backtracks b)) → a.tokens ≡ []
    → partial ≡ false
byte-complete n true a b h e = absurd (h.1 refl e)
byte-complete n false a b h e = refl

-- ---- The bytes of a set

-- tokens that a set holds are bytes that it holds
pub each-held : (holds : ℕ → Bool) (r : Source ℕ) → HoldsAll holds r → Each holds (bytes_of r)
each-held holds [] h = tt
each-held holds (x ∷ xs) h = (h.0, each-held holds xs h.1)

-- a source whose first token a set does not hold begins with no byte of the set
not-held : (holds : ℕ → Bool) (r : Source ℕ) → ((x : ℕ) → first_token r ≡ Some x → holds x ≡ false)
    → ¬ (Starts holds (bytes_of r))
not-held holds [] h = λ e. e
not-held holds (x ∷ xs) h = λ e. let f = sym e ∙ h x.0 refl in cc

-- a front that more input cannot lengthen ends before the input does, where more may follow
grows : (partial : Bool) (m n : ℕ) → (partial && (nat_le m n && true)) ≡ false → partial ≡ true
    → n < m
grows true m n h e = grind (arith, nat_tests, h)
grows false m n h e = absurd (cc)

-- something is left after a front that ends before the input does
left-over : (front rest whole : Source ℕ) → front ++ rest ≡ whole → length front < length whole
    → bytes_of rest ≢ []
left-over front rest whole e l none =
    omega (arith, l, ap length e, length-append front rest, ap length (none-left rest none))

-- the step of `all-held`
all-step : (holds : ℕ → Bool) (b : Bool) (x : ℕ × ℕ) (xs held : Source ℕ) → holds x.0 ≡ b
    → (length xs ≤ length held → HoldsAll holds xs)
    → length (x ∷ xs) ≤ length (cond b (x ∷ held) []) → HoldsAll holds (x ∷ xs)
all-step holds true x xs held e later l = (e, later (omega (arith, l)))
all-step holds false x xs held e later l = absurd (omega (arith, l))

-- where the held front is all that remains, the set holds each token
pub all-held : (holds : ℕ → Bool) (r : Source ℕ) → length r ≤ length (held_front holds r)
    → HoldsAll holds r
all-held holds [] l = tt
all-held holds (x ∷ xs) l = all-step holds (holds x.0) x xs (held_front holds xs) refl (all-held holds xs) l

-- where a set fails whose least count is at most 1: its run ends before the first byte; or more may
-- follow what it holds, which is all that remains
abbrev pub HeldFails : (ℕ → Bool) → Bool → Ahead ℕ → Failed ℕ → Type 0
HeldFails holds partial a (Backtracks b) = (b ≡ a) × EndsRun holds partial (bytes_of a.tokens)
HeldFails holds partial a (Cuts b) = ⊥
HeldFails holds partial a (Needs n) = (partial ≡ true) × Each holds (bytes_of a.tokens)
HeldFails holds partial a Refuses = ⊥

module _ {S : Type 0} (is_slice : S → Source ℕ → ℕ → Type 0) (holds : ℕ → Bool) (least : ℕ) where
  -- a set fails only there
  pub held-fails : (partial : Bool) (a : Ahead ℕ) (f : Failed ℕ) → least ≤ 1
      → TakesWhile is_slice holds least None partial a (Fails f) → HeldFails holds partial a f
  held-fails partial a (Backtracks b) small h =
      let none : length (held_front holds a.tokens) ≡ 0 = omega (arith, h.1, small) in (
        h.0,
        (
          not-held holds a.tokens (subst (λ n. (x : ℕ) → first_token (drop n a.tokens) ≡ Some x → holds x ≡ false) none (next-held_front holds a.tokens)),
          λ more e. omega (arith, grows partial (length a.tokens) (length (held_front holds a.tokens)) h.3 more, ap length (none-left a.tokens e)),
        ),
      )
  held-fails partial a (Cuts b) small h = absurd (let e = h.1 in cc)
  held-fails true a (Needs n) small h = (refl, each-held holds a.tokens (all-held holds a.tokens (grind (arith, nat_tests, h.2))))
  held-fails false a (Needs n) small h = absurd (let e = h.2 in cc)
  held-fails partial a Refuses small h = absurd h

  -- the bytes of a set that are taken stand first, and end before the rest
  pub held-given : (bytes : S → List ℕ) → SlicesHaveBytes is_slice bytes
      → (partial : Bool) (a b : Ahead ℕ) (s : S) → HasPositiveWidths a.tokens
      → TakesWhile is_slice holds least None partial a (Gives s b)
      → (bytes_of a.tokens ≡ bytes s ++ bytes_of b.tokens) × Each holds (bytes s)
      × EndsRun holds partial (bytes_of b.tokens)
  held-given bytes have partial a b s wide h =
      let held = held_front holds a.tokens in
      let rest = drop (length held) a.tokens in
      let text : bytes s ≡ bytes_of held =
      sym (bytes-units (bytes s)) ∙ ap bytes_of (have s a.tokens (width held) (is_offset-held_front holds a.tokens wide) h.0 ∙ front-held_front holds a.tokens wide) in
      let left : b.tokens ≡ rest = ap (λ p. p.tokens) h.1 ∙ back-held_front holds a.tokens wide in
      let whole : bytes_of a.tokens ≡ bytes_of held ++ bytes_of rest =
      ap bytes_of (sym (append-held_front holds a.tokens)) ∙ map-append (λ x. x.0) held rest in
      let ends : EndsRun holds partial (bytes_of rest) = (
        not-held holds rest (next-held_front holds a.tokens),
        λ more. left-over held rest a.tokens (append-held_front holds a.tokens) (grows partial (length a.tokens) (length held) h.3 more),
      ) in (
        whole ∙ ap (λ t. t ++ bytes_of rest) (sym text) ∙ ap (λ r. bytes s ++ bytes_of r) (sym left),
        subst (Each holds) (sym text) (each-held holds held (HoldsAll-held_front holds a.tokens)),
        subst (λ r. EndsRun holds partial (bytes_of r)) (sym left) ends,
      )
