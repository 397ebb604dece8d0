-- Whether bytes of a string with which no character begins may become one.
use Rattle.std.proofs.Common.{◌≡◌, ℕ, ◌<◌, ◌≤◌, Bool, true, false, List, [], ◌∷◌, ◌++◌, length, take, drop, inl, ap, sym, ◌∙◌, subst, refl, arith, append_assoc, append-nil, take_all, take-append-drop, length-take, length-drop}
use Rattle.std.proofs.lemmas.Str.{encode_ascii}
use Rattle.std.specs.Prelude.{IsUtf8}
use Rattle.format_lemmas.specs.Bytes.{Each, Starts, StartsWith}
use Rattle.format_json_scalars.specs.Numbers.{Tells}
use Rattle.format_json_scalars.specs.Strings.{is_plain, SpellsChar, SpellsChars}
use Rattle.format_json_scalars.specs.StringAnswers.{BeginsChar}
use Rattle.format_json_scalars.specs.CutChars.{is_cut_char}
use Rattle.format_json_scalars.specs.Escapes.{MayBeChar, IsNoChar}
use Rattle.format_json_scalars.proofs.lemmas.PlainLemmas.{plain-taken, plain-wrong, plain-begun}

-- if the bytes begin with no character on any continuation, no bytes make one
pub no-may : (b : List ℕ) → IsNoChar b → ¬ (MayBeChar b)
no-may b none (more, (c, (some, spells))) =
    none more (c, (b ++ more, ([], (sym (append-nil (b ++ more)), spells))))

-- more bytes make a character of no bytes
empty-may : MayBeChar []
empty-may = (97 ∷ [], (97, ((λ e. cc e), inl (refl, refl, sym (encode_ascii 97 (omega arith))))))

-- more bytes make a character of bytes that are none
pub nothing-may : (b : List ℕ) → length b ≡ 0 → MayBeChar b
nothing-may [] e = empty-may
nothing-may (x ∷ b) e = absurd (omega (arith, e))

-- bytes that begin with a spelling begin with a character
pub spelled-begins : (c : ℕ) (b : List ℕ) (n : ℕ) → SpellsChar c (take n b) → BeginsChar b
spelled-begins c b n spells = (c, (take n b, (drop n b, (sym (take-append-drop n b), spells))))

-- bytes that begin with spellings begin with a character
pub spelled-some : (cs b : List ℕ) (n : ℕ) → 0 < n → n ≤ length b → SpellsChars cs (take n b)
    → BeginsChar b
spelled-some [] b n some inside e = absurd (omega (arith, some, inside, ap length e, length-take n b))
spelled-some (c ∷ cs) b n some inside (f, (r, (e, one, more))) =
    (c, (f, (r ++ drop n b, (sym (take-append-drop n b) ∙ ap (λ l. l ++ drop n b) e ∙ append_assoc f r (drop n b), one))))

module _ (b : List ℕ) (count : ℕ) (inside : count ≤ length b) (plain : Each is_plain (take count b)) (none : ¬ (BeginsChar b)) where
  -- if no character begins, no prefix of the plain bytes is a text
  run-no_text : (m : ℕ) → 0 < m → m ≤ length (take count b) → ¬ (IsUtf8 (take m (take count b)))
  run-no_text m some short text =
      let on = plain-taken b count m inside plain short text in
      none (spelled-some on.0 b m some (omega (arith, short, length-take count b, inside)) on.1.0)

  module _ (some : 0 < length b) (no_slash : ¬ (StartsWith 92 b)) (ends : ¬ (Starts is_plain (drop count b))) where
    -- what follows the plain bytes, or what they are, makes no character of them
    pub text-not_cut : (count ≡ length b → is_cut_char b ≡ false) → ¬ (MayBeChar b)
    text-not_cut cut =
        no-may b (plain-wrong b count some no_slash ends run-no_text
        (λ e. let all : count ≡ length b = omega (arith, inside, ap length e, length-drop count b) in
        subst (λ l. is_cut_char l ≡ false) (sym (take_all count b (omega (arith, all)))) (cut all)))

    -- where all bytes are plain, the test says whether they are a character that is cut off
    pub text-cut : count ≡ length b → (answer : Bool) → answer ≡ is_cut_char b
        → Tells answer (MayBeChar b)
    text-cut all true e =
        plain-begun b count (omega (arith, all)) (subst (λ l. is_cut_char l ≡ true) (sym (take_all count b (omega (arith, all)))) (sym e))
    text-cut all false e = text-not_cut (λ is. sym e)
