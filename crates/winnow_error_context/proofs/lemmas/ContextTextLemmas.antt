-- The text of an error's contexts, as a loop over them prints it.
use Rattle.std.proofs.Common.{◌≡◌, ℕ, ◌+◌, ◌<◌, length, get_or, take, drop, List, [], ◌∷◌, ◌++◌, codes, refl, ap, sym, ◌∙◌, append_assoc, append-nil}
use denote.Shadow.{shadow}
use denote.Text.{Utf8}
use lib.Utf8.{encode}
use Rattle.std.specs.List.{flat_map}
use Rattle.std.proofs.lemmas.List.{at_drop_more, take_more}
use Rattle.std.proofs.lemmas.Grind.{flat_map-append}
use Rattle.winnow_error_context.specs.declared.str_context.StrContext.{StrContext}
use Rattle.winnow_error_context.specs.declared.str_context.StrContext.TheVariants.{Label, Expected}
use Rattle.winnow_error_context.specs.declared.str_context.StrContextValue.{StrContextValue}
use Rattle.winnow_error_context.specs.ContextText.{expected, value_text, values_text}

-- a function of the rest of a list, when the next item is known
pub at_drop_item : {X Y : Type 0} (F : List X → Y) (xs : List X) (i : ℕ) (d x : X) → i < length xs
    → get_or xs i d ≡ x → F (drop i xs) ≡ F (x ∷ drop (i + 1) xs)
at_drop_item F xs i d x h e = at_drop_more F xs i d h ∙ ap (λ y. F (y ∷ drop (i + 1) xs)) e

-- what is printed before the next value: nothing before the first, else a comma
abbrev pub lead_behind : List StrContextValue → List ℕ
lead_behind [] = []
lead_behind (v ∷ vs) = codes ", "

-- the expected values of an appended list are those of both parts
pub expected-append : (xs ys : List StrContext) → expected (xs ++ ys) ≡ expected xs ++ expected ys
expected-append [] ys = refl
expected-append (Label s ∷ xs) ys = expected-append xs ys
expected-append (Expected v ∷ xs) ys = ap (λ vs. v ∷ vs) (expected-append xs ys)

-- one more context adds the value that it expects, if it is no label
pub expected-take : (cs : List StrContext) (i : ℕ) (d c : StrContext) → i < length cs
    → get_or cs i d ≡ c → expected (take (i + 1) cs) ≡ expected (take i cs) ++ expected (c ∷ [])
expected-take cs i d c h e = ap expected (take_more cs i d h ∙ ap (λ x. take i cs ++ x ∷ []) e) ∙ expected-append (take i cs) (c ∷ [])

-- one more value adds its text, after a comma if it is not the first
pub values_text-push : (vs : List StrContextValue) (v : StrContextValue)
    → values_text (vs ++ v ∷ []) ≡ values_text vs ++ (lead_behind vs ++ value_text v)
values_text-push [] v = append-nil (value_text v)
values_text-push (u ∷ vs) v =
    ap (λ t. value_text u ++ t) (flat_map-append (λ w. codes ", " ++ value_text w) vs (v ∷ []) ∙ ap (λ t. flat_map (λ w. codes ", " ++ value_text w) vs ++ t) (append-nil (codes ", " ++ value_text v))) ∙ sym (append_assoc (value_text u) (flat_map (λ w. codes ", " ++ value_text w) vs) (codes ", " ++ value_text v))

-- a comma stands before a value that follows another one
pub lead_behind-push : (vs : List StrContextValue) (v : StrContextValue)
    → lead_behind (vs ++ v ∷ []) ≡ codes ", "
lead_behind-push [] v = refl
lead_behind-push (u ∷ vs) v = refl

-- the comma between two values is UTF-8
pub comma-utf8 : (t : List ℕ) → t ≡ codes ", " → shadow (Utf8 t)
unfolding encode
comma-utf8 t e = (44 ∷ 32 ∷ [], (refl, sym e))
