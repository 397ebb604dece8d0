-- The numbers that bytes write, in two halves.
use Rattle.std.specs.Prelude.{◌≡◌, ℕ, suc, ◌+◌, ◌*◌, ◌^◌, ◌≤◌, List, [], ◌∷◌, ◌++◌, length, take, drop, reverse, Bool, Option, Some, None, is_some}
use Rattle.std.proofs.Common.{refl, ap, sym, ◌∙◌, subst, arith, length-append, length-take, length-drop, take-append-drop}
use Rattle.std.proofs.Math.Nat.{pow-suc}
use Rattle.std.proofs.Math.Seq.{take-add}
use Rattle.std.proofs.lemmas.Nat.{pow-add}
use Rattle.std.proofs.lemmas.Grind.{reverse_onto}
use Rattle.std.proofs.lemmas.List.{drop-drop, length-reverse, append_cancel_right}
use Rattle.winnow_stream.specs.Source.{Source, width, HasPositiveWidths}
use Rattle.winnow_stream.specs.Front.{front, back}
use Rattle.winnow_stream.specs.Location.{location_behind}
use Rattle.winnow_stream.proofs.lemmas.FrontLemmas.{width-append, front_count-place, front-place, back-place}
use Rattle.winnow_match.specs.Bytes.{bytes_of}
use Rattle.winnow_match.specs.Staying.{written-append}
use Rattle.winnow_parser.specs.Outcome.{Ahead, Gives, Fails, after}
use Rattle.winnow_parser.specs.Determined.{IsDetermined, SlicesRespect}
use Rattle.winnow_parser.proofs.lemmas.DeterminedLemmas.{determined-maps}
use Rattle.winnow_token.specs.Take.{Takes}
use Rattle.winnow_token.specs.Prompt.{IsPrompt}
use Rattle.winnow_token.proofs.lemmas.PromptLemmas.{prompt-take}
use Rattle.winnow_token.proofs.lemmas.ToldLemmas.{determined-take}
use Rattle.winnow_binary.specs.declared.endianness.Endianness.{Endianness}
use Rattle.winnow_binary.specs.declared.endianness.Endianness.TheVariants.{Big, Little, Native}
use Rattle.winnow_binary.specs.Numerals.{most_first, least_first, number_in, joined, after_tokens, AreFrontBytes, FixedNumeral}

-- ---- Bytes

-- there are as many bytes as tokens
length-bytes_of : (r : Source ℕ) → length (bytes_of r) ≡ length r
length-bytes_of [] = refl
length-bytes_of (x ∷ xs) = ap suc (length-bytes_of xs)

-- the first bytes of a number whose most significant byte comes first count 256 times more for each
-- byte after them
most_first-append : (xs ys : List ℕ)
    → most_first (xs ++ ys) ≡ most_first xs * 256 ^ length ys + most_first ys
most_first-append [] ys = omega arith
most_first-append (x ∷ xs) ys =
    let p : 256 ^ length (xs ++ ys) ≡ 256 ^ length xs * 256 ^ length ys = ap (λ n. 256 ^ n) (length-append xs ys) ∙ pow-add 256 (length xs) (length ys) in
    let q : x * 256 ^ length (xs ++ ys) ≡ x * (256 ^ length xs * 256 ^ length ys) = ap (λ n. x * n) p in
    omega (arith, q, most_first-append xs ys)

-- the last bytes of a number whose least significant byte comes first count 256 times more for each
-- byte before them
least_first-append : (xs ys : List ℕ)
    → least_first (xs ++ ys) ≡ least_first xs + 256 ^ length xs * least_first ys
least_first-append [] ys = omega arith
least_first-append (x ∷ xs) ys =
    let p : 256 ^ suc (length xs) * least_first ys ≡ (256 ^ length xs * 256) * least_first ys = ap (λ n. n * least_first ys) (pow-suc 256 (length xs)) in
    omega (arith, p, least_first-append xs ys)

-- the number of one byte is the byte, in either order
pub number_in-one : (order : Endianness) (x : ℕ) → number_in order (x ∷ []) ≡ x
number_in-one Big x = omega arith
number_in-one Little x = omega arith
number_in-one Native x = omega arith

-- two halves of a number make it
joined-halves : (order : Endianness) (k : ℕ) (xs ys : List ℕ) → length xs ≡ k → length ys ≡ k
    → joined order k (number_in order xs) (number_in order ys) ≡ number_in order (xs ++ ys)
joined-halves Big k xs ys l m = sym (most_first-append xs ys ∙ ap (λ n. most_first xs * 256 ^ n + most_first ys) m)
joined-halves Little k xs ys l m = sym (least_first-append xs ys ∙ ap (λ n. least_first xs + 256 ^ n * least_first ys) l)
joined-halves Native k xs ys l m = sym (least_first-append xs ys ∙ ap (λ n. least_first xs + 256 ^ n * least_first ys) l)

-- the first k bytes and the k bytes after them are halves of the first 2 k
number_in-halves : (order : Endianness) (k : ℕ) (r : Source ℕ) → k + k ≤ length r
    → joined order k (number_in order (bytes_of (take k r)))
    (number_in order (bytes_of (take k (drop k r)))) ≡ number_in order (bytes_of (take (k + k) r))
number_in-halves order k r l =
    let first : length (bytes_of (take k r)) ≡ k = omega (arith, l, length-bytes_of (take k r), length-take k r) in
    let second : length (bytes_of (take k (drop k r))) ≡ k = omega (arith, l, length-bytes_of (take k (drop k r)), length-take k (drop k r), length-drop k r) in
    joined-halves order k _ _ first second
    ∙ ap (number_in order) (sym (written-append (λ byte. byte ∷ []) (take k r) (take k (drop k r))) ∙ ap bytes_of (sym (take-add k k r)))

-- the same for numbers that were read, one after the other
pub halves-number : (order : Endianness) (k : ℕ) (r mid : Source ℕ) (x y : ℕ) → k + k ≤ length r
    → mid ≡ drop k r → x ≡ number_in order (bytes_of (take k r))
    → y ≡ number_in order (bytes_of (take k mid))
    → joined order k x y ≡ number_in order (bytes_of (take (k + k) r))
halves-number order k r mid x y l e f h =
    ap (λ n. joined order k n y) f
    ∙ ap (λ n. joined order k (number_in order (bytes_of (take k r))) n) (h ∙ ap (λ s. number_in order (bytes_of (take k s))) e)
    ∙ number_in-halves order k r l

-- three bytes that were read one after the other are the first three
pub three-number : (order : Endianness) (r s t : Source ℕ) (x y z : ℕ) → 3 ≤ length r
    → s ≡ drop 1 r → t ≡ drop 1 s → x ≡ number_in order (bytes_of (take 1 r))
    → y ≡ number_in order (bytes_of (take 1 s)) → z ≡ number_in order (bytes_of (take 1 t))
    → number_in order (x ∷ y ∷ z ∷ []) ≡ number_in order (bytes_of (take 3 r))
three-number order [] s t x y z l e f g h i = absurd (omega (arith, l))
three-number order (a ∷ []) s t x y z l e f g h i = absurd (omega (arith, l))
three-number order (a ∷ b ∷ []) s t x y z l e f g h i = absurd (omega (arith, l))
three-number order (a ∷ b ∷ c ∷ r) s t x y z l e f g h i =
    let first : x ≡ a.0 = g ∙ number_in-one order a.0 in
    let second : y ≡ b.0 = h ∙ ap (λ u. number_in order (bytes_of (take 1 u))) e ∙ number_in-one order b.0 in
    let third : z ≡ c.0 = i ∙ ap (λ u. number_in order (bytes_of (take 1 u))) (f ∙ ap (drop 1) e) ∙ number_in-one order c.0 in
    ap (λ n. number_in order (n ∷ y ∷ z ∷ [])) first
    ∙ ap (λ n. number_in order (a.0 ∷ n ∷ z ∷ [])) second
    ∙ ap (λ n. number_in order (a.0 ∷ b.0 ∷ n ∷ [])) third

-- ---- Places

-- a location after two widths is after their sum
location_behind-sum : (a : Option ℕ) (m n : ℕ)
    → location_behind (location_behind a m) n ≡ location_behind a (m + n)
location_behind-sum None m n = refl
location_behind-sum (Some l) m n = ap Some (omega arith)

module _ {T : Type 0} where
  -- j tokens and then k tokens are j + k tokens
  after_tokens-sum : (j k : ℕ) (a : Ahead T)
      → after_tokens k (after_tokens j a) ≡ after_tokens (j + k) a
  after_tokens-sum j k a =
      let w : width (take j a.tokens) + width (take k (drop j a.tokens)) ≡ width (take (j + k) a.tokens) = sym (width-append (take j a.tokens) (take k (drop j a.tokens))) ∙ ap width (sym (take-add j k a.tokens)) in
      ap (λ l. record { location = l; tokens = drop k (drop j a.tokens) }) (location_behind-sum a.location (width (take j a.tokens)) (width (take k (drop j a.tokens))) ∙ ap (location_behind a.location) w)
      ∙ ap (λ r. record { location = location_behind a.location (width (take (j + k) a.tokens)); tokens = r }) (drop-drop k j a.tokens)

  -- the place after k tokens and then k tokens is that after k + k tokens
  pub halves-place : (k : ℕ) (a b c : Ahead T) → b ≡ after_tokens k a → c ≡ after_tokens k b
      → c ≡ after_tokens (k + k) a
  halves-place k a b c e f = f ∙ ap (after_tokens k) e ∙ after_tokens-sum k k a

  -- three tokens, one after the other, are the first three
  pub three-place : (a b c d : Ahead T) → b ≡ after_tokens 1 a → c ≡ after_tokens 1 b
      → d ≡ after_tokens 1 c → d ≡ after_tokens 3 a
  three-place a b c d e f g = g ∙ ap (after_tokens 1) (halves-place 1 a b c e f) ∙ after_tokens-sum 2 1 a

  -- the place after the front of the first k tokens is after k tokens
  after-tokens : (k : ℕ) (a : Ahead T) → HasPositiveWidths a.tokens → k ≤ length a.tokens
      → after a (width (take k a.tokens)) ≡ after_tokens k a
  after-tokens k a h l = ap (λ r. record { location = location_behind a.location (width (take k a.tokens)); tokens = r }) (back-place a.tokens k h l)

-- ---- Orders

-- bytes write, the most significant first, what they write from the last to the first, the least
-- significant first
pub most_first-reversed : (bytes : List ℕ) → most_first bytes ≡ least_first (reverse bytes)
most_first-reversed [] = refl
most_first-reversed (x ∷ xs) =
    let last = x ∷ [] in
    let p : least_first (reverse (x ∷ xs)) ≡ least_first (reverse xs) + 256 ^ length (reverse xs) * least_first last = ap least_first (reverse_onto xs x []) ∙ least_first-append (reverse xs) last in
    let q : 256 ^ length (reverse xs) * least_first last ≡ 256 ^ length xs * least_first last = ap (λ n. 256 ^ n * least_first last) (length-reverse xs) in
    omega (arith, p, q, most_first-reversed xs)

-- the bytes of the first k tokens are what a parser of k bytes gives
counted-bytes : (counts_shortage partial : Bool) (k : ℕ) (a : Ahead ℕ) → HasPositiveWidths a.tokens
    → k ≤ length a.tokens
    → Takes counts_shortage AreFrontBytes k partial a
    (Gives (bytes_of (take k a.tokens)) (after_tokens k a))
counted-bytes counts_shortage partial k a h l = (
  l,
  ap is_some (front_count-place a.tokens k h l),
  ap bytes_of (sym (front-place a.tokens k h l)),
  sym (after-tokens k a h l),
)

-- a number that was read, by what each call answered
pub fixed-numeral : {N : Type 0} (counts_shortage partial : Bool) (k count : ℕ) (of : ℕ → N)
    (order : Endianness) (a b : Ahead ℕ) (number : ℕ) (n : N) → HasPositiveWidths a.tokens
    → k ≤ length a.tokens → k ≡ count → number ≡ number_in order (bytes_of (take k a.tokens))
    → b ≡ after_tokens k a → n ≡ of number
    → FixedNumeral counts_shortage count of order partial a (Gives n b)
fixed-numeral counts_shortage partial k count of order a b number n h l e f g i =
    let bytes = bytes_of (take k a.tokens) in
    let counted = subst (λ p. Takes counts_shortage AreFrontBytes k partial a (Gives bytes p)) (sym g) (counted-bytes counts_shortage partial k a h l) in
    subst (λ m. FixedNumeral counts_shortage m of order partial a (Gives n b)) e (bytes, (i ∙ ap of f, counted))

-- ---- One answer

-- bytes of one front are the same
bytes-respect : SlicesRespect AreFrontBytes (λ xs ys. xs ≡ ys)
bytes-respect xs ys a b (m, (o, h, p)) (n, (q, k, r)) =
    let rest : back a.tokens m ≡ back a.tokens n = ap (λ place. place.tokens) (p ∙ sym r) in
    let whole : front a.tokens m ++ back a.tokens m ≡ front a.tokens n ++ back a.tokens n = take-append-drop _ a.tokens ∙ sym (take-append-drop _ a.tokens) in
    let same : front a.tokens m ++ back a.tokens n ≡ front a.tokens n ++ back a.tokens n = ap (λ l. front a.tokens m ++ l) (sym rest) ∙ whole in
    h ∙ ap bytes_of (append_cancel_right _ _ _ same) ∙ sym k

module _ {N : Type 0} (counts_shortage : Bool) (count : ℕ) (of : ℕ → N) (order : Endianness) where
  -- `FixedNumeral` has one answer
  pub determined-numeral : IsDetermined (λ x y. x ≡ y) (FixedNumeral counts_shortage count of order)
  determined-numeral = determined-maps (λ xs ys. xs ≡ ys) (λ x y. x ≡ y) (λ bytes n. n ≡ of (number_in order bytes)) (λ xs ys m n e h k. h ∙ ap (λ bytes. of (number_in order bytes)) e ∙ sym k) _
      (determined-take AreFrontBytes (λ xs ys. xs ≡ ys) bytes-respect counts_shortage count)

  -- where `FixedNumeral` needs k more bytes, it has no settled answer before k have come
  pub prompt-numeral : IsPrompt (FixedNumeral counts_shortage count of order)
  prompt-numeral a n more (Gives x b) h l k = prompt-take counts_shortage AreFrontBytes count a n more (Gives k.0 b) h l k.1.1
  prompt-numeral a n more (Fails f) h l k = prompt-take counts_shortage AreFrontBytes count a n more (Fails f) h l k
