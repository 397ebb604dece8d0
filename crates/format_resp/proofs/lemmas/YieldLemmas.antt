-- Which bytes stand where a parser gives a value.
use Rattle.std.proofs.Common.{◌≡◌, ℕ, zero, suc, ◌<◌, ◌≤◌, ◌==◌, nat_le, nat_lt, Bool, true, false, ◌&&◌, List, [], ◌∷◌, ◌++◌, length, take, drop, inl, inr, Option, Some, None, ap, sym, ◌∙◌, subst, refl, arith, append_assoc, take-append-drop}
use Rattle.std.specs.Prelude.{IsTrue, IfSome, ◌⊎◌}
use Rattle.std.proofs.lemmas.Bool.Decides.{nat_tests}
use Rattle.std.proofs.lemmas.List.{append-nil}
use Rattle.std.proofs.lemmas.Option.{none-some, same_Some}
use Rattle.winnow_stream.specs.Source.{Source, width, first_token, held_front, HoldsAll, HasPositiveWidths}
use Rattle.winnow_stream.specs.Front.{is_offset, front, back}
use Rattle.winnow_stream.specs.SliceBytes.{SlicesHaveBytes}
use Rattle.winnow_stream.proofs.lemmas.HeldLemmas.{append-held_front, HoldsAll-held_front, next-held_front}
use Rattle.winnow_count.specs.Reading.{IsSomeExactly}
use Rattle.winnow_parser.specs.Outcome.{Ahead, Gives, Meaning}
use Rattle.winnow_parser.specs.Meanings.{Pair, IsTerminated, CutsErr, VerifyMaps}
use Rattle.winnow_parser.specs.FlatMap.{FlatMaps}
use Rattle.winnow_token.specs.OneOf.{IsOneOf}
use Rattle.winnow_token.specs.TakeWhile.{TakesWhile, held_within, may_grow, is_offset-within}
use Rattle.winnow_token.specs.Take.{Takes}
use Rattle.format_lemmas.specs.Bytes.{bytes_of}
use Rattle.format_lemmas.proofs.lemmas.TokenLemmas.{itself, each-held, all-held}
use Rattle.format_lemmas.proofs.lemmas.ByteLemmas.{bytes-units, length-bytes}
use Rattle.format_resp.specs.Language.{line_end, is_in_line, IsText, line, IsInteger, IsLength}
use Rattle.format_resp.specs.Meanings.{most_digits, LineEnd, Line, Text, Number, Length, Bytes}
use Rattle.format_resp.specs.Ahead.{IsAhead}
use Rattle.format_resp.specs.Damage.{EndsText}
use Rattle.format_resp.proofs.lemmas.AheadLemmas.{ahead-join, ahead-wide, wide-front, front-seam, back-seam}

-- a value stands with bytes that are its own by a relation, and then the rest
abbrev pub Stands : {O : Type 0} → (O → List ℕ → Type 0) → Source ℕ → O → Source ℕ → Type 0
Stands Q r x s = (t : List ℕ) × (IsAhead r t s × Q x t)

-- where the parser gives a value, the value stands
abbrev pub Yields : {O : Type 0} → Meaning O ℕ → (O → List ℕ → Type 0) → Type 0
Yields {O} means Q = (partial : Bool) (a b : Ahead ℕ) (x : O) → HasPositiveWidths a.tokens → means partial a (Gives x b) → Stands Q a.tokens x b.tokens

-- one value and then another
abbrev pub Both : {O P : Type 0} → (O → List ℕ → Type 0) → (P → List ℕ → Type 0) → O × P → List ℕ
    → Type 0
Both Q R both text = (t : List ℕ) × ((u : List ℕ) × ((text ≡ t ++ u) × Q both.0 t × R both.1 u))

-- what `Pair` gives stands in two parts
pub yields-pair : {O P : Type 0} (first : Meaning O ℕ) (second : Meaning P ℕ) (Q : O → List ℕ
    → Type 0) (R : P → List ℕ → Type 0) → Yields first Q → Yields second R
    → Yields (Pair first second) (Both Q R)
yields-pair first second Q R one two partial a c both wide h =
    let b = h.0 in
    let k = one partial a b both.0 wide h.1.0 in
    let l = two partial b c both.1 (ahead-wide k.0 a.tokens b.tokens k.1.0 wide) h.1.1 in
    (k.0 ++ l.0, (ahead-join k.0 l.0 a.tokens b.tokens c.tokens k.1.0 l.1.0, (k.0, (l.0, (refl, k.1.1, l.1.1)))))

-- what `IsTerminated` gives stands before what the second parser takes
pub yields-terminated : {O P : Type 0} (first : Meaning O ℕ) (second : Meaning P ℕ) (Q : O → List ℕ
    → Type 0) (R : P → List ℕ → Type 0) (whole : O → List ℕ → Type 0) → Yields first Q
    → Yields second R → ((x : O) (y : P) (t u : List ℕ) → Q x t → R y u → whole x (t ++ u))
    → Yields (IsTerminated first second) whole
yields-terminated first second Q R whole one two on partial a c x wide h =
    let both = h.0 in
    let k = yields-pair first second Q R one two partial a c both wide h.1.1 in (
      k.0,
      (
        k.1.0,
        subst (λ y. whole y k.0) h.1.0 (subst (λ t. whole both.0 t) (sym k.1.1.1.1.0) (on both.0 both.1 k.1.1.0 k.1.1.1.0 k.1.1.1.1.1 k.1.1.1.1.2)),
      ),
    )

-- what `FlatMaps` gives stands after the value that it is made of
pub yields-continued : {O P V : Type 0} (makes : O → V → Type 0) (means : V
    → Meaning P ℕ) (first : Meaning O ℕ) (Q : O → List ℕ → Type 0) (R : O → P → List ℕ
    → Type 0) (whole : P → List ℕ → Type 0) → Yields first Q
    → ((x : O) (v : V) → makes x v → Yields (means v) (R x))
    → ((x : O) (y : P) (t u : List ℕ) → Q x t → R x y u → whole y (t ++ u))
    → Yields (FlatMaps makes means first) whole
yields-continued makes means first Q R whole one two on partial a c y wide h =
    let x = h.0 in
    let b = h.1.0 in
    let v = h.1.1.0 in
    let k = one partial a b x wide h.1.1.1.0 in
    let l = two x v h.1.1.1.1 partial b c y (ahead-wide k.0 a.tokens b.tokens k.1.0 wide) h.1.1.1.2 in
    (k.0 ++ l.0, (ahead-join k.0 l.0 a.tokens b.tokens c.tokens k.1.0 l.1.0, on x y k.0 l.0 k.1.1 l.1.1))

-- a source begins with the byte of its first token
first-ahead : (r s : Source ℕ) (x : ℕ) → first_token r ≡ Some x → s ≡ drop 1 r
    → IsAhead r (x ∷ []) s
first-ahead [] s x e f = absurd (none-some _ e)
first-ahead (y ∷ ys) s x e f = (y ∷ [], (ap (λ t. y ∷ t) (sym f), ap (λ c. c ∷ []) (same_Some _ _ e)))

-- a first token that is held stands as its byte
pub yields-one : (holds : ℕ → Bool)
    → Yields (IsOneOf holds) (λ x t. (holds x ≡ true) × (t ≡ x ∷ []))
yields-one holds partial a b x wide h = (x ∷ [], (first-ahead a.tokens b.tokens x h.0 (ap (λ s. s.tokens) h.2), (h.1, refl)))

-- the end of a line stands as a carriage return and a newline
pub yields-end : Yields (LineEnd itself) (λ both t. t ≡ line_end)
yields-end partial a b both wide h =
    let k = yields-pair (IsOneOf (λ token. 13 == token)) (IsOneOf (λ token. 10 == token)) (λ x t. ((13 == x) ≡ true) × (t ≡ x ∷ [])) (λ x t. ((10 == x) ≡ true) × (t ≡ x ∷ [])) (yields-one (λ token. 13 == token)) (yields-one (λ token. 10 == token)) partial a b both wide h in
    let one = k.1.1.1.1.1 in
    let two = k.1.1.1.1.2 in
    let cr : both.0 ≡ 13 = grind (arith, nat_tests, one.0) in
    let nl : both.1 ≡ 10 = grind (arith, nat_tests, two.0) in
    (k.0, (k.1.0, k.1.1.1.1.0 ∙ ap (λ t. t ++ k.1.1.1.0) one.1 ∙ ap (λ t. both.0 ∷ t) two.1 ∙ ap (λ c. c ∷ both.1 ∷ []) cr ∙ ap (λ c. 13 ∷ c ∷ []) nl))

-- ---- Slices

-- the first tokens of a list of which a test holds are such tokens
all-take : (holds : ℕ → Bool) (n : ℕ) (xs : Source ℕ) → HoldsAll holds xs
    → HoldsAll holds (take n xs)
all-take holds zero [] h = tt
all-take holds zero (x ∷ xs) h = tt
all-take holds (suc n) [] h = tt
all-take holds (suc n) (x ∷ xs) h = (h.0, all-take holds n xs h.1)

-- at most that many tokens are taken
take-short : (n : ℕ) (xs : Source ℕ) → length (take n xs) ≤ n
take-short zero [] = omega arith
take-short zero (x ∷ xs) = omega arith
take-short (suc n) [] = omega arith
take-short (suc n) (x ∷ xs) = let l = take-short n xs in omega (arith, l)

-- and at most as many as there are
take-less : (n : ℕ) (xs : Source ℕ) → length (take n xs) ≤ length xs
take-less zero [] = omega arith
take-less zero (x ∷ xs) = omega arith
take-less (suc n) [] = omega arith
take-less (suc n) (x ∷ xs) = let l = take-less n xs in omega (arith, l)

-- exactly that many, where there are as many
take-exact : (n : ℕ) (xs : Source ℕ) → n ≤ length xs → length (take n xs) ≡ n
take-exact zero [] l = refl
take-exact zero (x ∷ xs) l = refl
take-exact (suc n) [] l = absurd (omega (arith, l))
take-exact (suc n) (x ∷ xs) l = let e = take-exact n xs (omega (arith, l)) in omega (arith, e)

-- the longest prefix of members, cut off at a count, and the tokens after it are the whole
held-whole : (holds : ℕ → Bool) (n : ℕ) (r : Source ℕ)
    → r ≡ take n (held_front holds r) ++ (drop n (held_front holds r) ++ drop (length (held_front holds r)) r)
held-whole holds n r =
    let all = held_front holds r in
    let rest = drop (length all) r in
    sym (append-held_front holds r) ∙ ap (λ t. t ++ rest) (sym (take-append-drop n all)) ∙ append_assoc (take n all) (drop n all) rest

-- a list is cut off at a count, or nothing of it is
take-ends : (n : ℕ) (xs : Source ℕ) → (length (take n xs) ≡ n) ⊎ (drop n xs ≡ [])
take-ends zero [] = inl refl
take-ends zero (x ∷ xs) = inl refl
take-ends (suc n) [] = inr refl
take-ends (suc n) (x ∷ xs) = elim (take-ends n xs) [
  | inl e ↦ inl (ap suc e)
  | inr e ↦ inr e
]

-- what holds of each value that there may be holds of the one that there is
if-some : (P : ℕ → Type 0) (o : Option ℕ) → ((x : ℕ) → o ≡ Some x → P x) → IfSome o P
if-some P None h = tt
if-some P (Some x) h = h x refl

-- a prefix that more input may lengthen is all that remains, and below the greatest count
grows : (partial : Bool) (m n greatest : ℕ)
    → (partial && (nat_le m n && nat_lt n greatest)) ≡ true → (m ≤ n) × (n < greatest)
grows true m n greatest h = (grind (arith, nat_tests, h), grind (arith, nat_tests, h))
grows false m n greatest h = absurd (cc)

module _ {S : Type 0} (counts_shortage : Bool) (is_slice : S → Source ℕ → ℕ → Type 0) (bytes : S → List ℕ) (have : SlicesHaveBytes is_slice bytes) where
  -- a slice that was consumed has the bytes of the prefix, and the rest follows it
  pub slice-taken : (r f s : Source ℕ) (slice : S) → r ≡ f ++ s → HasPositiveWidths r
      → IsTrue (is_offset r (width f)) → is_slice slice r (width f)
      → (bytes slice ≡ bytes_of f) × (back r (width f) ≡ s)
  slice-taken r f s slice e wide offset is =
      let narrow = wide-front f s (subst HasPositiveWidths e wide) in (
        sym (bytes-units (bytes slice)) ∙ ap bytes_of (have slice r (width f) offset is ∙ ap (λ t. front t (width f)) e ∙ front-seam f s narrow),
        ap (λ t. back t (width f)) e ∙ back-seam f s narrow,
      )

  -- the source begins with a text that is consumed up to the end of its line, and the text ends
  -- there
  pub held-stands : (longest : ℕ) (partial : Bool) (a b : Ahead ℕ) (slice : S)
      → HasPositiveWidths a.tokens
      → TakesWhile is_slice is_in_line 0 (Some longest) partial a (Gives slice b)
      → (t : List ℕ)
      × (IsAhead a.tokens t b.tokens × IsText longest t × EndsText longest t b.tokens × (bytes slice ≡ t))
  held-stands longest partial a b slice wide h =
      let held = held_front is_in_line a.tokens in
      let f = take longest held in
      let after = drop (length held) a.tokens in
      let whole = held-whole is_in_line longest a.tokens in
      let got = slice-taken a.tokens f (drop longest held ++ after) slice whole wide (is_offset-within is_in_line (Some longest) a.tokens) h.0 in
      let rest : b.tokens ≡ drop longest held ++ after = ap (λ c. c.tokens) h.1 ∙ got.1 in
      let all = all-take is_in_line longest held (HoldsAll-held_front is_in_line a.tokens) in
      let next = if-some (λ c. is_in_line c ≡ false) (first_token after) (next-held_front is_in_line a.tokens) in (
        bytes_of f,
        (
          (f, (whole ∙ ap (λ t. f ++ t) (sym rest), refl)),
          (each-held is_in_line f all, omega (arith, take-short longest held, length-bytes f)),
          elim (take-ends longest held) [
            | inl e ↦ inl (length-bytes f ∙ e)
            | inr e ↦ inr (subst (λ s. IfSome (first_token s) (λ c. is_in_line c ≡ false)) (sym (rest ∙ ap (λ d. d ++ after) e)) next)
          ],
          got.0,
        ),
      )

  -- where more of a text may follow, all that remains is text
  pub held-short : (longest : ℕ) (partial : Bool) (r : Source ℕ)
      → IsTrue (partial && may_grow (Some longest) (held_within (Some longest) is_in_line r) r)
      → (t : List ℕ) × (IsAhead r t [] × IsText longest t)
  held-short longest partial r h =
      let held = held_front is_in_line r in
      let short = grows partial (length r) (length (take longest held)) longest h in
      let all = all-held is_in_line r (omega (arith, short.0, take-less longest held)) in
      (bytes_of r, ((r, (sym (append-nil r), refl)), (each-held is_in_line r all, omega (arith, short.0, short.1, length-bytes r))))

  -- the source begins with a text that is consumed up to the end of its line
  yields-held : (longest : ℕ)
      → Yields (TakesWhile is_slice is_in_line 0 (Some longest)) (λ slice t. IsText longest t
      × (bytes slice ≡ t))
  yields-held longest partial a b slice wide h =
      let k = held-stands longest partial a b slice wide h in (k.0, (k.1.0, (k.1.1, k.1.3)))

  -- the source begins with a line, with the text that is returned
  pub yields-line : (longest : ℕ)
      → Yields (Line itself counts_shortage is_slice bytes longest)
      (λ slice t. IsText longest (bytes slice) × (t ≡ line (bytes slice)))
  yields-line longest = yields-terminated (TakesWhile is_slice is_in_line 0 (Some longest)) (LineEnd itself) (λ slice t. IsText longest t × (bytes slice ≡ t)) (λ both t. t ≡ line_end) (λ slice t. IsText longest (bytes slice) × (t ≡ line (bytes slice))) (yields-held longest) yields-end
      (λ slice end t u h k. (subst (IsText longest) (sym h.1) h.0, ap (λ s. s ++ u) (sym h.1) ∙ ap (λ s. bytes slice ++ s) k))

  -- the source begins with the bytes of a text in its line
  pub yields-text : (longest : ℕ)
      → Yields (Text itself counts_shortage is_slice bytes longest) (λ v t. IsText longest v.items
      × (t ≡ line v.items))
  yields-text longest partial a b v wide h =
      let k = yields-line longest partial a b h.0 wide h.1.1 in
      (k.0, (k.1.0, (subst (IsText longest) (sym h.1.0) k.1.1.0, k.1.1.1 ∙ ap line (sym h.1.0))))

  -- the source begins with the line of a value that is read of one
  yields-read : {R : Type 0} (reads : List ℕ → R → Type 0)
      → Yields
      (CutsErr
      (VerifyMaps (λ slice n. IsSomeExactly (reads (bytes slice)) n)
      (Line itself counts_shortage is_slice bytes most_digits))) (λ n t. (text : List ℕ)
      × (reads text n × (t ≡ line text)))
  yields-read reads partial a b n wide h =
      let slice = h.0 in
      let k = yields-line most_digits partial a b slice wide h.1.1 in
      (k.0, (k.1.0, (bytes slice, ((h.1.0 n).0 refl, k.1.1.1))))

  -- the source begins with an integer in its line
  pub yields-number : Yields (Number itself counts_shortage is_slice bytes) (λ n t. (text : List ℕ)
      × (IsInteger text n × (t ≡ line text)))
  yields-number = yields-read IsInteger

  -- the source begins with a length in its line
  pub yields-length : (greatest : ℕ)
      → Yields (Length itself counts_shortage is_slice bytes greatest) (λ n t. (text : List ℕ)
      × (IsLength greatest text n × (t ≡ line text)))
  yields-length greatest = yields-read (IsLength greatest)

  -- the source begins with that many bytes
  pub yields-counted : (n : ℕ)
      → Yields (Takes counts_shortage is_slice n) (λ slice t. (length t ≡ n) × (bytes slice ≡ t))
  yields-counted n partial a b slice wide h =
      let f = take n a.tokens in
      let e : a.tokens ≡ f ++ drop n a.tokens = sym (take-append-drop n a.tokens) in
      let got = slice-taken a.tokens f (drop n a.tokens) slice e wide h.1 h.2 in
      let rest : b.tokens ≡ drop n a.tokens = ap (λ c. c.tokens) h.3 ∙ got.1 in
      (bytes_of f, ((f, (e ∙ ap (λ t. f ++ t) (sym rest), refl)), (length-bytes f ∙ take-exact n a.tokens h.0, got.0)))

  -- the source begins with that many bytes and the end of a line
  pub yields-bytes : (n : ℕ)
      → Yields (Bytes itself counts_shortage is_slice bytes n) (λ v t. (length v.items ≡ n)
      × (t ≡ line v.items))
  yields-bytes n partial a b v wide h =
      let k = yields-terminated (Takes counts_shortage is_slice n) (LineEnd itself) (λ slice t. (length t ≡ n) × (bytes slice ≡ t)) (λ both t. t ≡ line_end) (λ slice t. (length (bytes slice) ≡ n) × (t ≡ line (bytes slice))) (yields-counted n) yields-end
      (λ slice end t u h k. (ap length h.1 ∙ h.0, ap (λ s. s ++ u) (sym h.1) ∙ ap (λ s. bytes slice ++ s) k))
      partial a b h.0 wide h.1.1 in
      (k.0, (k.1.0, (ap length h.1.0 ∙ k.1.1.0, k.1.1.1 ∙ ap line (sym h.1.0))))
