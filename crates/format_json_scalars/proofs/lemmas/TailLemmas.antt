-- The first bytes of a character: what one more byte makes of them.
use Rattle.std.specs.Prelude.{◌==◌, Bool, true, false, encode_utf8_all}
use Rattle.std.specs.Char.{IsScalar}
use Rattle.std.proofs.Common.{◌≡◌, ◌≢◌, ℕ, ◌+◌, ◌≤◌, ◌<◌, List, [], ◌∷◌, ◌++◌, length, drop, refl, ap, sym, ◌∙◌, subst, inl, inr, arith, length-append, length-drop, append_assoc}
use Rattle.std.proofs.lemmas.Bool.Decides.{nat_tests}
use Rattle.std.proofs.lemmas.List.{drop-append-le, drop_all, take_all}
use Rattle.std.proofs.lemmas.Str.{encode_ascii}
use Rattle.format_lemmas.specs.Bytes.{StartsWith}
use Rattle.format_json_scalars.specs.Strings.{is_plain, SpellsChars}
use Rattle.format_json_scalars.specs.Escapes.{MayBeChar}
use Rattle.format_json_scalars.specs.Steps.{HasRead, IsStep}
use Rattle.format_json_scalars.specs.Tails.{EndsInTail, IsSettled}
use Rattle.format_json_scalars.specs.declared.characters.Step.TheVariants.{Taken}
use Rattle.format_json_scalars.proofs.lemmas.SpellingLemmas.{spells-one}
use Rattle.format_json_scalars.proofs.lemmas.StringLemmas.{read-begins, read-on, read-all}

-- what was read of a string was read of a longer one
read-longer : (here more value : List ℕ) (n : ℕ) → HasRead here n value
    → HasRead (here ++ more) n value
read-longer here more value n (within, (text, (cs, (is, spells, has)))) = (
  omega (arith, within, length-append here more),
  (
    text,
    (
      cs,
      (
        ap (λ l. l ++ more) is ∙ ap (λ l. 34 ∷ l) (append_assoc text (drop n here) more ∙ ap (λ l. text ++ l) (sym (drop-append-le n here more within))),
        spells,
        has,
      ),
    ),
  ),
)

-- a character may come of nothing
nothing-begun : MayBeChar []
nothing-begun = (read-all (34 ∷ []) [] 1 (read-begins (34 ∷ []) refl) (omega arith)).1

-- a quote begins a string
pub text-begins : EndsInTail (34 ∷ []) []
text-begins = (1, ([], (read-begins (34 ∷ []) refl, refl, (λ e. e), nothing-begun)))

-- what ends in a tail is something
pub text-some : (here tail : List ℕ) → EndsInTail here tail → here ≢ []
text-some here tail h e = let f = sym e ∙ h.1.1.0.1.1.1.0 in cc f

-- bytes that begin with no quote do so with a byte more, if that is none
no-quote : (t : List ℕ) (b : ℕ) → ¬ (StartsWith 34 t) → (t ≡ [] → b ≢ 34)
    → ¬ (StartsWith 34 (t ++ b ∷ []))
no-quote [] b none other = λ e. other refl e
no-quote (x ∷ t) b none other = none

module _ (here tail : List ℕ) (b : ℕ) (h : EndsInTail here tail) where
  -- with a byte more, what comes after the characters is longer by it
  tail-longer : drop h.0 (here ++ b ∷ []) ≡ tail ++ b ∷ []
  tail-longer = drop-append-le h.0 here (b ∷ []) h.1.1.0.0 ∙ ap (λ l. l ++ b ∷ []) h.1.1.1

  -- a character may still come of it
  text-begun : (tail ≡ [] → b ≢ 34) → MayBeChar (tail ++ b ∷ [])
      → EndsInTail (here ++ b ∷ []) (tail ++ b ∷ [])
  text-begun other may =
      (h.0, (h.1.0, (read-longer here (b ∷ []) h.1.0 h.0 h.1.1.0, tail-longer, no-quote tail b h.1.1.2 other, may)))

  -- it is whole characters
  text-taken : (cs : List ℕ) → SpellsChars cs (tail ++ b ∷ []) → EndsInTail (here ++ b ∷ []) []
  text-taken cs spells =
      let longer = here ++ b ∷ [] in
      let value = h.1.0 in
      let n = length (tail ++ b ∷ []) in
      let all = take_all n (tail ++ b ∷ []) (omega arith) in
      let there : IsStep (drop h.0 longer) value (Taken n) (value ++ encode_utf8_all cs) =
      subst (λ l. IsStep l value (Taken n) (value ++ encode_utf8_all cs)) (sym tail-longer) (omega (arith, length-append tail (b ∷ [])), omega arith, (cs, (subst (SpellsChars cs) (sym all) spells, refl))) in
      let read = read-on longer value (value ++ encode_utf8_all cs) h.0 n (read-longer here (b ∷ []) value h.0 h.1.1.0) there in
      let none : drop (h.0 + n) longer ≡ [] = drop_all (h.0 + n) longer (omega (arith, ap length tail-longer, length-drop h.0 longer)) in
      (h.0 + n, (value ++ encode_utf8_all cs, (read, none, (λ e. e), nothing-begun)))

  -- either
  text-settled : (new : List ℕ) → (tail ≡ [] → b ≢ 34) → IsSettled (tail ++ b ∷ []) new
      → EndsInTail (here ++ b ∷ []) new
  text-settled new other (inl s) = subst (EndsInTail (here ++ b ∷ [])) (sym s.0) (text-taken s.1.0 s.1.1)
  text-settled new other (inr s) = subst (EndsInTail (here ++ b ∷ [])) (sym s.0) (text-begun other s.1)

-- a byte more is a character, or may become one, with those before
pub text-goes : (here tail next new : List ℕ) (b : ℕ) → next ≡ tail ++ b ∷ [] → (tail ≡ [] → b ≢ 34)
    → IsSettled next new → EndsInTail here tail → EndsInTail (here ++ b ∷ []) new
text-goes here tail next new b e other s h =
    text-settled here tail b h new other (subst (λ l. IsSettled l new) e s)

-- a byte of ASCII is a character
scalar-ascii : (b : ℕ) → b < 128 → IsScalar b
scalar-ascii b ascii = grind (arith, nat_tests, ascii)

-- a plain byte of ASCII spells one
plain-char : (b : ℕ) → b < 128 → is_plain b ≡ true → SpellsChars (b ∷ []) (b ∷ [])
plain-char b ascii plain = spells-one b (b ∷ []) (inl (scalar-ascii b ascii, plain, sym (encode_ascii b ascii)))

-- a byte that is neither a quote nor a backslash nor a control character is plain
byte-plain : (b : ℕ) → b ≢ 34 → b ≢ 92 → 32 ≤ b → is_plain b ≡ true
byte-plain b no_quote no_slash wide = grind (arith, nat_tests, no_quote, no_slash, wide)

-- such a byte of ASCII after whole characters is one more
pub text-plain : (here tail : List ℕ) (b : ℕ) → tail ≡ [] → b ≢ 34 → b ≢ 92 → 32 ≤ b → b < 128
    → EndsInTail here tail → EndsInTail (here ++ b ∷ []) tail
text-plain here tail b e no_quote no_slash wide ascii h =
    subst (EndsInTail (here ++ b ∷ [])) (sym e)
    (text-taken here [] b (subst (EndsInTail here) e h) (b ∷ []) (plain-char b ascii (byte-plain b no_quote no_slash wide)))

-- where the number of bytes is 0, there are none
pub none-of : (bytes : List ℕ) (empty : Bool) → empty ≡ (length bytes == 0) → empty ≡ true
    → bytes ≡ []
none-of [] empty e t = refl
none-of (b ∷ bytes) empty e t = absurd (grind (arith, nat_tests, e, t))

-- where it is another, there are some
pub some-of : (bytes : List ℕ) (empty : Bool) → empty ≡ (length bytes == 0) → empty ≡ false
    → bytes ≢ []
some-of bytes empty e f none =
    let t : true ≡ false = sym (ap (λ l. length l == 0) none) ∙ sym e ∙ f in cc t
