-- Numbers, strings and words that are found in bytes.
use Rattle.std.proofs.Common.{◌≡◌, ℕ, ◌≤◌, Bool, true, false, List, [], ◌∷◌, ◌++◌, length, take, drop, ◌⊎◌, inl, inr, ap, sym, ◌∙◌, subst, refl, arith, append_assoc, append-nil, take-append-drop, length-append, length-drop, take_all}
use Rattle.std.proofs.lemmas.List.{drop-append-le}
use Rattle.std.proofs.lemmas.Str.{encode_ascii}
use Rattle.format_lemmas.specs.Bytes.{Each, Starts, StartsWith, EndsRun}
use Rattle.format_lemmas.proofs.lemmas.ByteLemmas.{heads, tails, each-after}
use Rattle.format_json_scalars.specs.Numbers.{IsNumber, BeginsNumber, is_number_byte}
use Rattle.format_json_scalars.specs.Meanings.{IsNumberOf}
use Rattle.format_json_scalars.specs.Strings.{StringAhead}
use Rattle.format_json_scalars.specs.Escapes.{IsNoChar}
use Rattle.format_json_scalars.specs.StringAnswers.{BeginsChar, StringHere}
use Rattle.format_json_scalars.specs.Steps.{StopsAt, IsReading}
use Rattle.format_json_scalars.specs.NumberAnswers.{NumberHere}
use Rattle.format_json.specs.Founds.{HasNone, IsFound}
use Rattle.format_json_scalars.specs.declared.numbers.Number.{Number}
use Rattle.format_json_scalars.specs.declared.strings.Reading.TheVariants as reading
use Rattle.format_json.specs.declared.found.Found.TheVariants.{Whole, Begun, Damaged}
use Rattle.format_json_scalars.proofs.lemmas.NumberAnswerLemmas.{number-bytes}
use Rattle.format_json_scalars.proofs.lemmas.RunLemmas.{split-once}
use Rattle.format_json_scalars.proofs.lemmas.StringLemmas.{stops-none, begun-missed}

-- ---- Numbers

-- bytes of which none is first keep this where others follow
starts-more : (test : ℕ → Bool) (d more : List ℕ) → ¬ (Starts test d) → (d ≡ [] → more ≡ [])
    → ¬ (Starts test (d ++ more))
starts-more test [] more never empty = subst (λ l. ¬ (Starts test l)) (sym (empty refl)) never
starts-more test (x ∷ d) more never empty = never

-- where all bytes may be those of a number and more may follow, no number has ended
pub number-begun : (partial : Bool) (bytes : List ℕ) (count : ℕ) → partial ≡ true
    → count ≡ length bytes → Each is_number_byte (take count bytes)
    → (n : Number) (r : List ℕ) → ¬ (NumberHere partial n bytes r)
number-begun partial bytes count p all each n r (t, ((e, is, ends), of)) =
    let here = subst (Each is_number_byte) (take_all count bytes (omega (arith, all))) each in
    none r (each-after is_number_byte t r (subst (Each is_number_byte) e here)) ends
  where
    none : (r : List ℕ) → Each is_number_byte r → EndsRun is_number_byte partial r → ⊥
    none [] h ends = ends.1 p refl
    none (x ∷ r) h ends = ends.0 h.0

-- if bytes begin with a run of bytes of numbers and, with more after them, with a number, the run
-- is a prefix of the number
front-of : (b t more r : List ℕ) → Each is_number_byte b → ¬ (Starts is_number_byte r)
    → b ++ more ≡ t ++ r → (m : List ℕ) × (t ≡ b ++ m)
front-of [] t more r h never e = (t, refl)
front-of (x ∷ b) [] more r h never e = absurd (never (subst (Starts is_number_byte) e h.0))
front-of (x ∷ b) (y ∷ t) more r h never e =
    let on = front-of b t more r h.1 never (tails x y (b ++ more) (t ++ r) e) in
    (on.0, ap (λ z. z ∷ t) (sym (heads x y (b ++ more) (t ++ r) e)) ∙ ap (λ l. x ∷ l) on.1)

-- where all bytes may be those of a number and none begins with them, none does, no matter what
-- follows
pub number-never : (partial : Bool) (bytes : List ℕ) (count : ℕ) → count ≡ length bytes
    → Each is_number_byte (take count bytes) → ¬ (BeginsNumber (take count bytes))
    → HasNone (NumberHere partial) partial bytes
number-never partial bytes count all each never more may n r (t, ((e, is, ends), of)) =
    let same = take_all count bytes (omega (arith, all)) in
    let on = front-of (take count bytes) t more r each ends.0 (ap (λ l. l ++ more) same ∙ e) in
    never (on.0, subst IsNumber on.1 is)

-- a run that is not all bytes of an input to which more may follow
abbrev pub Settled : Bool → List ℕ → ℕ → Type 0
Settled partial bytes count = ((partial ≡ true) × ¬ (count ≡ length bytes)) ⊎ (partial ≡ false)

-- if no byte follows a prefix, it is all of the bytes
left-none : (bytes : List ℕ) (count : ℕ) → count ≤ length bytes → drop count bytes ≡ []
    → count ≡ length bytes
left-none bytes count within e =
    let z : length (drop count bytes) ≡ 0 = ap length e in
    omega (arith, within, z, length-drop count bytes)

-- where a run is no number, none stands there, no matter what follows
pub number-none : (partial : Bool) (bytes : List ℕ) (count : ℕ) → count ≤ length bytes
    → Each is_number_byte (take count bytes) → ¬ (Starts is_number_byte (drop count bytes))
    → Settled partial bytes count → ¬ (IsNumber (take count bytes))
    → HasNone (NumberHere partial) partial bytes
number-none partial bytes count within each stops settled never more may n r (t, ((e, is, ends), of)) =
    let split = sym (append_assoc (take count bytes) (drop count bytes) more) ∙ ap (λ l. l ++ more) (take-append-drop count bytes) ∙ e in
    let same = split-once is_number_byte (take count bytes) (drop count bytes ++ more) t r each (starts-more is_number_byte (drop count bytes) more stops (ended settled)) (number-bytes t is) ends.0 split in
    never (subst IsNumber (sym same.0) is)
  where
    ended : Settled partial bytes count → drop count bytes ≡ [] → more ≡ []
    ended (inl h) z = absurd (h.1 (left-none bytes count within z))
    ended (inr h) z = may h

-- where a run is a number, that number stands there
pub number-whole : (partial : Bool) (bytes : List ℕ) (count : ℕ) (n : Number)
    → count ≤ length bytes → ¬ (Starts is_number_byte (drop count bytes))
    → Settled partial bytes count → IsNumber (take count bytes) → IsNumberOf (take count bytes) n
    → IsFound (NumberHere partial) partial bytes (Whole n count)
number-whole partial bytes count n within stops settled is of =
    (within, (take count bytes, ((sym (take-append-drop count bytes), is, (stops, λ p z. ended settled p z)), of)))
  where
    ended : Settled partial bytes count → partial ≡ true → ¬ (drop count bytes ≡ [])
    ended (inl h) p z = h.1 (left-none bytes count within z)
    ended (inr h) p z = let f = sym h ∙ p in cc f

-- ---- Strings

-- where no character stands no matter what follows, no quote does
no-quote-more : (d more : List ℕ) → IsNoChar d → ¬ (StartsWith 34 d) → ¬ (StartsWith 34 (d ++ more))
no-quote-more [] more none never =
    absurd (none (97 ∷ []) (97, (97 ∷ [], ([], (refl, inl (refl, refl, sym (encode_ascii 97 (omega arith))))))))
no-quote-more (x ∷ d) more none never = never

-- where more follows a string, it stops at the same place
stops-more : (bytes more : List ℕ) (n : ℕ) → StopsAt bytes n → IsNoChar (drop n bytes)
    → StopsAt (bytes ++ more) n
stops-more bytes more n (within, never, (t, (cs, (e, spells)))) none =
    let at = drop-append-le n bytes more within in (
      omega (arith, within, length-append bytes more),
      subst (λ l. ¬ (StartsWith 34 l)) (sym at) (no-quote-more (drop n bytes) more none never),
      (t, (cs, (ap (λ l. l ++ more) e ∙ ap (λ l. 34 ∷ l) (append_assoc t (drop n bytes) more ∙ ap (λ l. t ++ l) (sym at)), spells))),
    )

-- a damaged string is none, no matter what follows
pub string-damaged : (partial : Bool) (bytes : List ℕ) (n : ℕ) → IsReading bytes (reading.Damaged n)
    → IsFound StringHere partial bytes (Damaged n)
string-damaged partial bytes n (stops, none) = (
  stops.0,
  λ more may v r h.
      stops-none (bytes ++ more) h.0 r n (stops-more bytes more n stops none)
      (λ begins. none more (subst BeginsChar (drop-append-le n bytes more stops.0) begins)) h.1.0,
)

-- a string that is begun is none yet
pub string-begun : (partial : Bool) (bytes : List ℕ) (n : ℕ) → partial ≡ true
    → IsReading bytes (reading.Begun n) → IsFound StringHere partial bytes Begun
string-begun partial bytes n p is = (p, λ v r h. begun-missed bytes h.0 r n is h.1.0)

-- and none at all where nothing follows
pub string-ended : (partial : Bool) (bytes : List ℕ) (n : ℕ) → partial ≡ false
    → IsReading bytes (reading.Begun n) → IsFound StringHere partial bytes (Damaged n)
string-ended partial bytes n p is = (
  is.0.0,
  λ more may v r h.
      begun-missed bytes h.0 r n is (subst (λ l. StringAhead l h.0 r) (ap (λ m. bytes ++ m) (may p) ∙ append-nil bytes) h.1.0),
)
