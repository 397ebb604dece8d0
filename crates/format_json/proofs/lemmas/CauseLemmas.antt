-- Whether a damaged token is only cut off.
use Rattle.std.proofs.Common.{◌≡◌, ℕ, ◌<◌, Bool, true, false, List, [], ◌∷◌, ◌++◌, length, ap, sym, ◌∙◌, subst, refl, arith, append-nil}
use Rattle.std.specs.Prelude.{get_or}
use Rattle.format_lemmas.proofs.lemmas.ByteLemmas.{heads}
use Rattle.format_json_scalars.specs.Numbers.{is_number_byte, Tells}
use Rattle.format_json.specs.Tokens.{Word, lexeme_of, LexemeHere, TokenHere, word_from}
use Rattle.format_json.specs.TokenAnswers.{BeginsWord}
use Rattle.format_json.specs.declared.tokens.Token.{Token}
use Rattle.format_json.proofs.lemmas.JsonTokenLemmas.{BeginsAs, token-begins}

-- bytes that begin a word begin the one that their first byte does
word-first : (x : ℕ) (q more : List ℕ) (t : Token) → lexeme_of t ≡ Word ((x ∷ q) ++ more)
    → (word_from x ≡ (x ∷ q) ++ more) × (is_number_byte x ≡ false) × ¬ (x ≡ 34)
word-first x q more t is =
    let b = (x ∷ q) ++ more in
    let here : TokenHere true t b [] = subst (λ l. LexemeHere true l b []) (sym is) (sym (append-nil b)) in
    by (subst (λ l. BeginsAs l b) is (token-begins true t b [] here))
  where
    by : BeginsAs (Word ((x ∷ q) ++ more)) ((x ∷ q) ++ more)
        → (word_from x ≡ (x ∷ q) ++ more) × (is_number_byte x ≡ false) × ¬ (x ≡ 34)
    by (c, (r, (e, from, digit, quote, some))) =
        let same = heads x c (q ++ more) r e in
        (ap word_from same ∙ from, ap is_number_byte same ∙ digit, λ z. quote (sym same ∙ z))

-- the test says whether the bytes are a prefix of the word
pub word-tells : (b word : List ℕ) (t : Token) → 0 < length b
    → lexeme_of t ≡ Word (word_from (get_or b 0 0)) → word ≡ word_from (get_or b 0 0)
    → (answer : Bool) → (answer ≡ true → (r : List ℕ) × (word ≡ b ++ r))
    → ((r : List ℕ) → word ≡ b ++ r → answer ≡ true) → Tells answer (BeginsWord b)
word-tells b word t some is same true front back =
    let r = front refl in (t, (r.0, is ∙ ap Word (sym same ∙ r.1)))
word-tells [] word t some is same false front back = absurd (omega (arith, some))
word-tells (x ∷ q) word t some is same false front back =
    λ begins. let z = back begins.1.0 (same ∙ (word-first x q begins.1.0 begins.0 begins.1.1).0) in cc z
