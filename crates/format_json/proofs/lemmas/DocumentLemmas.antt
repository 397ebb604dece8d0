-- Texts that are no value, from what is found in them.
use Rattle.std.proofs.Common.{◌≡◌, ℕ, suc, ◌+◌, ◌-◌, ◌≤◌, false, List, length, take, drop, inr, ap, sym, ◌∙◌, subst, arith, length-drop}
use Rattle.std.proofs.lemmas.List.{take_rest, drop-drop}
use Rattle.format_json.specs.Language.{after_blanks, ValueAhead}
use Rattle.format_json.specs.Founds.{IsFound}
use Rattle.format_json.specs.Documents.{IsDocument, IsOnlyDocument, TextBreaksOff}
use Rattle.format_json.specs.declared.value.Value.{Value}
use Rattle.format_json.specs.declared.found.Found.TheVariants.{Whole, Damaged}
use Rattle.format_json.proofs.lemmas.GrammarLemmas.{nested-once}
use Rattle.format_json.proofs.lemmas.SameLemmas.{nested-same}
use Rattle.format_json.proofs.lemmas.FoundLemmas.{none-here}

module _ (depth : ℕ) (text : List ℕ) where
  -- if the text begins with no value, it is none
  pub no-document : (n : ℕ) → IsFound (ValueAhead false depth) false text (Damaged n) → (w : Value)
      → ¬ (IsDocument depth text w)
  no-document n (fits, none) w (rest, (h, e)) = none-here (ValueAhead false depth) false text none w rest h

  module _ (v : Value) (n k : ℕ) (found : IsFound (ValueAhead false depth) false text (Whole v n)) (within : k ≤ length (take (length text - n) (drop n text))) (blanks : drop k (take (length text - n) (drop n text)) ≡ after_blanks (take (length text - n) (drop n text))) where
    -- the blanks after the value stand in the text
    pub blanks-fit : n + k ≤ length text
    blanks-fit =
        let fit = subst (λ l. k ≤ length l) (take_rest text n) within in
        omega (arith, fit, found.0, length-drop n text)

    -- where something else follows the value and blanks, the text breaks off there
    pub follows-place : ¬ (n + k ≡ length text) → TextBreaksOff depth text (drop (n + k) text)
    follows-place left =
        let here = subst (λ l. drop k l ≡ after_blanks l) (take_rest text n) blanks in
        inr (
          v,
          (
            drop n text,
            (
              found.1,
              sym (drop-drop k n text) ∙ here,
              λ none.
                  let left_over = ap length none in
                  left (omega (arith, blanks-fit, left_over, length-drop (n + k) text)),
            ),
          ),
        )

    -- the text is no other value than the one with which it begins
    pub only-document : IsOnlyDocument depth text v
    only-document w (rest, (h, e)) =
        nested-same false (suc depth) v w text (drop n text) rest found.1 h

    -- where something else follows the value and blanks, the text is no value
    pub more-follows : ¬ (n + k ≡ length text) → (w : Value) → ¬ (IsDocument depth text w)
    more-follows left w (rest, (h, e)) =
        let same = nested-once false (suc depth) v w text (drop n text) rest found.1 h in
        let fit = subst (λ l. k ≤ length l) (take_rest text n) within in
        let here = subst (λ l. drop k l ≡ after_blanks l) (take_rest text n) blanks in
        let none = ap length (here ∙ ap after_blanks same ∙ e) in
        left (omega (arith, fit, none, found.0, length-drop n text, length-drop k (drop n text)))
