-- Strings: how a reader goes on over their characters, and that none is missed.
use Rattle.std.proofs.Common.{◌≡◌, ◌≢◌, ℕ, suc, ◌+◌, ◌-◌, ◌<◌, ◌≤◌, Bool, false, List, [], ◌∷◌, ◌++◌, length, take, drop, get_or, inl, ap, sym, ◌∙◌, subst, refl, arith, append_assoc, append-nil, take-append-drop, length-drop}
use Rattle.std.specs.Prelude.{encode_utf8_all}
use Rattle.std.specs.Char.{encode_utf8}
use Rattle.std.specs.declared.string.String.{String}
use Rattle.std.specs.declared.alloc.Global.{Global}
use Rattle.std.proofs.lemmas.List.{drop-drop, drop_all, take_rest}
use Rattle.std.proofs.lemmas.Str.{encode_ascii, encodes-append}
use Rattle.format_lemmas.specs.Bytes.{Each, StartsWith}
use Rattle.format_lemmas.proofs.lemmas.ByteLemmas.{tails}
use Rattle.format_json_scalars.specs.Strings.{SpellsChars, StringAhead, is_plain_ascii}
use Rattle.format_json_scalars.specs.StringAnswers.{BeginsChar, IsDamagedAt, IsBegun}
use Rattle.format_json_scalars.specs.Escapes.{MayBeChar, IsNoChar, IsEscape}
use Rattle.format_json_scalars.specs.Steps.{IsStep, StopsAt, HasRead, IsReading}
use Rattle.format_json_scalars.specs.declared.escapes.Escape.{Escape}
use Rattle.format_json_scalars.specs.declared.escapes.Escape.TheVariants.{Whole}
use Rattle.format_json_scalars.specs.declared.characters.Step.{Step}
use Rattle.format_json_scalars.specs.declared.characters.Step.TheVariants.{Taken}
use Rattle.format_json_scalars.specs.declared.strings.Reading.TheVariants as reading
use Rattle.format_json_scalars.proofs.lemmas.PlainLemmas.{spells-ascii}
use Rattle.format_json_scalars.proofs.lemmas.SpellingLemmas.{spelling-no-quote, spelling-once, spells-append, spells-one, spells-past}

-- ---- The first byte

-- bytes whose first is this byte begin with it
pub starts-with : (bytes : List ℕ) (n : ℕ) → 0 < length bytes → get_or bytes 0 0 ≡ n
    → StartsWith n bytes
starts-with [] n some e = absurd (omega (arith, some))
starts-with (b ∷ bytes) n some e = e

-- bytes whose first is another do not
pub starts-not : (bytes : List ℕ) (n : ℕ) → ¬ (get_or bytes 0 0 ≡ n) → ¬ (StartsWith n bytes)
starts-not [] n other = λ e. e
starts-not (b ∷ bytes) n other = other

-- the bytes that begin with this byte are it and those after it
pub starts-split : (bytes : List ℕ) (n : ℕ) → StartsWith n bytes → bytes ≡ n ∷ drop 1 bytes
starts-split [] n e = absurd e
starts-split (b ∷ bytes) n e = ap (λ x. x ∷ bytes) e

-- ---- Escapes

-- an escape after a backslash is one at it
pub slash-escape : (bytes : List ℕ) (answer : Escape) → 0 < length bytes → get_or bytes 0 0 ≡ 92
    → IsEscape (92 ∷ drop 1 bytes) answer → IsEscape bytes answer
slash-escape [] answer some e is = absurd (omega (arith, some))
slash-escape (b ∷ bytes) answer some e is = subst (λ x. IsEscape (x ∷ bytes) answer) (sym e) is

-- the character of an escape is taken
pub escape-taken : (bytes old new : List ℕ) (c n : ℕ) → IsEscape bytes (Whole c n)
    → new ≡ old ++ encode_utf8 c → IsStep bytes old (Taken n) new
escape-taken bytes old new c n is e =
    (is.0, is.1, (c ∷ [], (spells-one c (take n bytes) is.2, e ∙ ap (λ l. old ++ l) (sym (append-nil (encode_utf8 c))))))

-- ---- The loop

-- after the opening quote plain characters of ASCII are read
pub read-front : (bytes front value : List ℕ) → StartsWith 34 bytes
    → length front ≤ length (drop 1 bytes) → front ≡ take (length front) (drop 1 bytes)
    → Each is_plain_ascii front → value ≡ front → HasRead bytes (1 + length front) value
read-front [] front value quote within is each same = absurd quote
read-front (b ∷ bytes) front value quote within is each same =
    let chars = spells-ascii front each in
    let split : bytes ≡ front ++ drop (length front) bytes =
    sym (take-append-drop (length front) bytes) ∙ ap (λ l. l ++ drop (length front) bytes) (sym is) in
    let next : suc (length front) ≡ 1 + length front = omega arith in
    subst (λ n. HasRead (b ∷ bytes) n value) next (omega (arith, within), (front, (chars.0, (ap (λ x. x ∷ bytes) quote ∙ ap (λ l. 34 ∷ l) split, chars.1.0, same ∙ chars.1.1))))

-- after the opening quote nothing is read
pub read-begins : (bytes : List ℕ) → StartsWith 34 bytes → HasRead bytes 1 []
read-begins [] e = absurd e
read-begins (b ∷ bytes) e = (omega arith, ([], ([], (ap (λ x. x ∷ bytes) e, refl, refl))))

-- a step at what is left of the bytes
pub step-at : (bytes old new : List ℕ) (at : ℕ) (step other : Step)
    → IsStep (take (length bytes - at) (drop at bytes)) old step new → step ≡ other
    → IsStep (drop at bytes) old other new
step-at bytes old new at step other is e =
    subst (λ s. IsStep (drop at bytes) old s new) e (subst (λ t. IsStep t old step new) (take_rest bytes at) is)

-- characters that are taken are read after the others
pub read-on : (bytes old new : List ℕ) (at n : ℕ) → HasRead bytes at old
    → IsStep (drop at bytes) old (Taken n) new → HasRead bytes (at + n) new
read-on bytes old new at n (within, (text, (cs, (is, spells, value)))) (some, fits, (ds, (more, grows))) =
    let rest = drop at bytes in
    let split : rest ≡ take n rest ++ drop (at + n) bytes =
    sym (take-append-drop n rest) ∙ ap (λ l. take n rest ++ l) (drop-drop n at bytes) in (
      omega (arith, fits, length-drop at bytes),
      (
        text ++ take n rest,
        (
          cs ++ ds,
          (
            is ∙ ap (λ l. 34 ∷ (text ++ l)) split ∙ ap (λ l. 34 ∷ l) (sym (append_assoc text (take n rest) (drop (at + n) bytes))),
            spells-append cs ds text (take n rest) spells more,
            grows ∙ ap (λ l. l ++ encode_utf8_all ds) value ∙ sym (encodes-append cs ds),
          ),
        ),
      ),
    )

-- if the rest begins with the closing quote, the string is whole
pub read-ends : (bytes : List ℕ) (at : ℕ) (value : String Global)
    → HasRead bytes at value.bytes.items → StartsWith 34 (drop at bytes) → at < length bytes
    → IsReading bytes (reading.Whole value (at + 1))
read-ends bytes at value (within, (text, (cs, (is, spells, has)))) quote inside = (
  omega (arith, inside),
  (
    cs,
    (
      (
        text,
        (
          is ∙ ap (λ l. 34 ∷ (text ++ l)) (starts-split (drop at bytes) 34 quote ∙ ap (λ l. 34 ∷ l) (drop-drop 1 at bytes)),
          spells,
        ),
      ),
      has,
    ),
  ),
)

-- if the rest begins with no quote, the string stops
pub read-stops : (bytes value : List ℕ) (at : ℕ) → HasRead bytes at value
    → ¬ (StartsWith 34 (drop at bytes)) → StopsAt bytes at
read-stops bytes value at (within, (text, (cs, (is, spells, has)))) no_quote =
    (within, no_quote, (text, (cs, (is, spells))))

-- nothing may be a character
nothing-begun : MayBeChar []
nothing-begun = (97 ∷ [], (97, (λ e. cc e, inl (refl, refl, sym (encode_ascii 97 (omega arith))))))

-- at the end of the bytes the string may go on
pub read-all : (bytes value : List ℕ) (at : ℕ) → HasRead bytes at value → length bytes ≤ at
    → IsReading bytes (reading.Begun at)
read-all bytes value at read all =
    let none : [] ≡ drop at bytes = sym (drop_all at bytes all) in
    (read-stops bytes value at read (subst (λ l. ¬ (StartsWith 34 l)) none (λ e. e)), subst MayBeChar none nothing-begun)

-- ---- None is missed

-- a list that is not empty makes a longer one that is not
append-none : (rest more : List ℕ) → more ≢ [] → ¬ (rest ++ more ≡ [])
append-none [] more some e = some e
append-none (x ∷ rest) more some e = cc e

-- bytes that more bytes make a character do not begin with one
begun-none : (bytes : List ℕ) → MayBeChar bytes → ¬ (BeginsChar bytes)
begun-none bytes (more, (c, (some, spells))) (d, (front, (rest, (split, also)))) =
    let one = spelling-once d c front (bytes ++ more) (rest ++ more) [] also spells
    (sym (append_assoc front rest more) ∙ ap (λ l. l ++ more) (sym split) ∙ sym (append-nil (bytes ++ more))) in
    append-none rest more some one.1

-- bytes that no bytes make a character do not begin with one
no-char : (bytes : List ℕ) → IsNoChar bytes → ¬ (BeginsChar bytes)
no-char bytes none begins = none [] (subst BeginsChar (sym (append-nil bytes)) begins)

-- characters after which a quote stands, where one stands first, are none
spells-quote : (es w r s : List ℕ) → SpellsChars es w → 34 ∷ r ≡ w ++ 34 ∷ s → (es ≡ []) × (r ≡ s)
spells-quote [] w r s none e = (refl, tails 34 34 r s (e ∙ ap (λ l. l ++ 34 ∷ s) none))
spells-quote (c ∷ es) w r s (f, (g, (is, one, more))) e =
    absurd (spelling-no-quote c f (g ++ 34 ∷ s) r one (sym (append_assoc f g (34 ∷ s)) ∙ ap (λ l. l ++ 34 ∷ s) (sym is) ∙ sym e))

-- the bytes begin with one string at most
pub string-once : (bytes cs rest ds after : List ℕ) → StringAhead bytes cs rest
    → StringAhead bytes ds after → (cs ≡ ds) × (rest ≡ after)
string-once bytes cs rest ds after (t, (is, spells)) (u, (so, also)) =
    let on = spells-past cs ds t u (34 ∷ rest) after spells also (tails 34 34 _ _ (sym is ∙ so)) in
    let ends = spells-quote on.0 on.1.0 rest after on.1.1.1 on.1.1.2 in
    (sym (on.1.1.0 ∙ ap (λ l. cs ++ l) ends.0 ∙ append-nil cs), ends.1)

-- characters before a quote, of which the first is none, are none
spells-none : (es w d s : List ℕ) → SpellsChars es w → d ≡ w ++ 34 ∷ s → ¬ (StartsWith 34 d)
    → BeginsChar d
spells-none [] w d s none e no_quote =
    absurd (no_quote (subst (StartsWith 34) (sym (e ∙ ap (λ l. l ++ 34 ∷ s) none)) refl))
spells-none (c ∷ es) w d s (f, (g, (is, one, more))) e no_quote =
    (c, (f, (g ++ 34 ∷ s, (e ∙ ap (λ l. l ++ 34 ∷ s) is ∙ append_assoc f g (34 ∷ s), one))))

-- if a string stops and the rest begins with no character, the bytes begin with no string
pub stops-none : (bytes ds after : List ℕ) (n : ℕ) → StopsAt bytes n → ¬ (BeginsChar (drop n bytes))
    → ¬ (StringAhead bytes ds after)
stops-none bytes ds after n (within, no_quote, (t, (cs, (is, spells)))) none (u, (so, also)) =
    let on = spells-past cs ds t u (drop n bytes) after spells also (tails 34 34 _ _ (sym is ∙ so)) in
    none (spells-none on.0 on.1.0 (drop n bytes) after on.1.1.1 on.1.1.2 no_quote)

-- ---- Readings

-- a string that is begun is not there
pub begun-missed : (bytes ds after : List ℕ) (n : ℕ) → IsReading bytes (reading.Begun n)
    → ¬ (StringAhead bytes ds after)
begun-missed bytes ds after n (stops, may) = stops-none bytes ds after n stops (begun-none (drop n bytes) may)

-- nor is a damaged one
pub damaged-missed : (bytes ds after : List ℕ) (n : ℕ) → IsReading bytes (reading.Damaged n)
    → ¬ (StringAhead bytes ds after)
damaged-missed bytes ds after n (stops, none) = stops-none bytes ds after n stops (no-char (drop n bytes) none)

-- a string begins with a quote
pub missing-missed : (bytes ds after : List ℕ) → ¬ (StartsWith 34 bytes)
    → ¬ (StringAhead bytes ds after)
missing-missed bytes ds after no_quote (u, (so, also)) = no_quote (subst (StartsWith 34) (sym so) refl)

-- a damaged string is so no matter what follows
pub damaged-at : (partial : Bool) (bytes : List ℕ) (n : ℕ) → IsReading bytes (reading.Damaged n)
    → IsDamagedAt partial bytes (drop n bytes)
damaged-at partial bytes n ((within, no_quote, (t, (cs, (is, spells)))), none) =
    (t, (cs, (is, spells, (no_quote, λ more ends. none more))))

-- a string that is begun is damaged where nothing follows
pub begun-at : (partial : Bool) (bytes : List ℕ) (n : ℕ) → partial ≡ false
    → IsReading bytes (reading.Begun n) → IsDamagedAt partial bytes (drop n bytes)
begun-at partial bytes n ended ((within, no_quote, (t, (cs, (is, spells)))), may) = (
  t,
  (
    cs,
    (
      is,
      spells,
      (
        no_quote,
        λ more ends begins.
            begun-none (drop n bytes) may (subst BeginsChar (ap (λ l. drop n bytes ++ l) (ends ended) ∙ append-nil (drop n bytes)) begins),
      ),
    ),
  ),
)

-- a string that is begun can be made whole
pub begun-begun : (bytes : List ℕ) (n : ℕ) → IsReading bytes (reading.Begun n) → IsBegun bytes
begun-begun bytes n ((within, no_quote, (t, (cs, (is, spells)))), (more, (c, (some, char)))) =
    let rest = drop n bytes in (
      more ++ 34 ∷ [],
      (
        cs ++ c ∷ [],
        (
          t ++ (rest ++ more),
          (
            ap (λ l. l ++ (more ++ 34 ∷ [])) is
                ∙ ap (λ l. 34 ∷ l) (append_assoc t rest (more ++ 34 ∷ []) ∙ ap (λ l. t ++ l) (sym (append_assoc rest more (34 ∷ []))) ∙ sym (append_assoc t (rest ++ more) (34 ∷ []))),
            spells-append cs (c ∷ []) t (rest ++ more) spells (spells-one c (rest ++ more) char),
          ),
        ),
      ),
    )

-- so can nothing
pub nothing-is-begun : (bytes : List ℕ) → bytes ≡ [] → IsBegun bytes
nothing-is-begun bytes e = (34 ∷ 34 ∷ [], ([], ([], (ap (λ l. l ++ 34 ∷ 34 ∷ []) e, refl))))
