-- The lines that are printed for an error are those of its explanation.
use Rattle.std.proofs.Common.{◌≡◌, ℕ, Bool, true, false, ◌||◌, List, [], ◌∷◌, Option, Some, None, codes, refl, ap, ◌∙◌, append_assoc, append-nil}
use Rattle.std.specs.Prelude.{is_some, option_map}
use Rattle.std.specs.Borrow.{Bor}
use Rattle.std.specs.Bool.{then_some}
use Rattle.std.specs.Fmt.{◌++?◌}
use Rattle.std.specs.List.{join_by}
use Rattle.winnow_error_context.specs.declared.str_context.StrContextValue.{StrContextValue}
use Rattle.winnow_error_context.specs.ContextText.{is_any, values_text, explanation_lines}
use Rattle.winnow_error_context.specs.Line.{line_output}

-- the three lines, printed one after the other
abbrev pub printed : Bool → Bool → Option (List ℕ) → Option (List ℕ) → Option (List ℕ)
    → Option (List ℕ)
printed is_labelled is_later label values cause = line_output false (codes "invalid ") (option_map Some label) ++? (line_output is_labelled (codes "expected ") (option_map Some values) ++? line_output is_later [] (option_map Some cause))

abbrev joined : List (List ℕ) → List ℕ
joined lines = join_by (λ line. line) (codes "\n") lines

-- the printed lines are those of the explanation, with a newline between each two
pub printed-lines : (label cause : Option (List ℕ)) (vs : List StrContextValue)
    → printed (is_some label) (is_some label || is_any vs) label
    (then_some (is_any vs) (values_text vs)) cause
    ≡ Some (joined (explanation_lines label vs cause))
printed-lines None None [] = refl
printed-lines None None (v ∷ vs) = simp append-nil
printed-lines None (Some c) [] = simp append-nil
printed-lines None (Some c) (v ∷ vs) = simp (append_assoc, append-nil)
printed-lines (Some l) None [] = refl
printed-lines (Some l) None (v ∷ vs) = simp (append_assoc, append-nil)
printed-lines (Some l) (Some c) [] = simp append-nil
printed-lines (Some l) (Some c) (v ∷ vs) = simp (append_assoc, append-nil)

-- options in terms of borrowed texts, as the code holds them, say the same of the texts
texts-option : (o : Option (Bor (List ℕ)))
    → option_map (λ t. Some t.now) o ≡ option_map Some (option_map (λ t. t.now) o)
texts-option None = refl
texts-option (Some t) = refl

is_some-texts : (o : Option (Bor (List ℕ))) → is_some o ≡ is_some (option_map (λ t. t.now) o)
is_some-texts None = refl
is_some-texts (Some t) = refl

-- an optional value whose text is `values` may be replaced by that text
values-option : {A : Type 0} (b : Bool) (text : A → List ℕ) (a : A) (values : List ℕ)
    → text a ≡ values
    → option_map (λ x. Some (text x)) (then_some b a) ≡ option_map Some (then_some b values)
values-option true text a values e = ap (λ t. Some (Some t)) e
values-option false text a values e = refl

-- the same, in terms of what the calls for the label, the values and the cause answer
pub printed-explanation : {A : Type 0} (text : A
    → List ℕ) (a : A) (label cause : Option (Bor (List ℕ))) (values : Option A)
    (is_labelled is_expected is_later : Bool) (label_text cause_text : Option (List ℕ))
    (vs : List StrContextValue) → option_map (λ t. t.now) label ≡ label_text
    → is_labelled ≡ is_some label → is_expected ≡ is_any vs → values ≡ then_some is_expected a
    → text a ≡ values_text vs → is_later ≡ (is_labelled || is_expected)
    → option_map (λ t. t.now) cause ≡ cause_text
    → line_output false (codes "invalid ") (option_map (λ t. Some t.now) label) ++?
    (line_output is_labelled (codes "expected ") (option_map (λ x. Some (text x)) values)
    ++? line_output is_later [] (option_map (λ t. Some t.now) cause))
    ≡ Some (joined (explanation_lines label_text vs cause_text))
printed-explanation text a label cause values is_labelled is_expected is_later label_text cause_text vs l i e v t r c =
    ap (λ b. line_output false (codes "invalid ") (option_map (λ t. Some t.now) label) ++? (line_output is_labelled (codes "expected ") (option_map (λ x. Some (text x)) values) ++? line_output b [] (option_map (λ t. Some t.now) cause))) (r ∙ ap (λ b. b || is_expected) i' ∙ ap (λ b. is_some label_text || b) e)
    ∙ ap (λ b. line_output false (codes "invalid ") (option_map (λ t. Some t.now) label) ++? (line_output b (codes "expected ") (option_map (λ x. Some (text x)) values) ++? line_output (is_some label_text || is_any vs) [] (option_map (λ t. Some t.now) cause))) i'
    ∙ ap (λ o. line_output false (codes "invalid ") o ++? (line_output (is_some label_text) (codes "expected ") (option_map (λ x. Some (text x)) values) ++? line_output (is_some label_text || is_any vs) [] (option_map (λ t. Some t.now) cause))) (texts-option label ∙ ap (option_map Some) l)
    ∙ ap (λ o. line_output false (codes "invalid ") (option_map Some label_text) ++? (line_output (is_some label_text) (codes "expected ") (option_map (λ x. Some (text x)) values) ++? line_output (is_some label_text || is_any vs) [] o)) (texts-option cause ∙ ap (option_map Some) c)
    ∙ ap (λ o. line_output false (codes "invalid ") (option_map Some label_text) ++? (line_output (is_some label_text) (codes "expected ") o ++? line_output (is_some label_text || is_any vs) [] (option_map Some cause_text))) (ap (option_map (λ x. Some (text x))) (v ∙ ap (λ b. then_some b a) e) ∙ values-option (is_any vs) text a (values_text vs) t)
    ∙ printed-lines label_text cause_text vs
  where
    -- the flag says whether there is a label text
    i' : is_labelled ≡ is_some label_text
    i' = i ∙ is_some-texts label ∙ ap is_some l
