-- Bytes with which a source begins: how they are joined and split.
use Rattle.std.proofs.Common.{◌≡◌, ℕ, ◌<◌, List, [], ◌∷◌, ◌++◌, length, take, drop, ap, sym, ◌∙◌, subst, refl, arith, append_assoc}
use Rattle.std.proofs.lemmas.List.{map-append}
use Rattle.winnow_stream.specs.Source.{Source, width, HasPositiveWidths}
use Rattle.winnow_stream.specs.Front.{front, back}
use Rattle.winnow_stream.proofs.lemmas.FrontLemmas.{width-append, count_to-seam}
use Rattle.format_lemmas.specs.Bytes.{bytes_of}
use Rattle.format_lemmas.proofs.lemmas.ByteLemmas.{heads, tails, positive-after}
use Rattle.format_resp.specs.Ahead.{IsAhead}

-- lists that begin with the same number are equal if their rests are
pub conses : (x y : ℕ) (xs ys : List ℕ) → x ≡ y → xs ≡ ys → x ∷ xs ≡ y ∷ ys
conses x y xs ys e f = ap (λ z. z ∷ xs) e ∙ ap (λ zs. y ∷ zs) f

-- the tokens of a prefix have positive widths too
pub wide-front : (front s : Source ℕ) → HasPositiveWidths (front ++ s) → HasPositiveWidths front
wide-front [] s h = tt
wide-front (x ∷ xs) s h = (h.0, wide-front xs s h.1)

-- the first tokens of two sources in a row are those of the first
pub take-seam : (xs ys : Source ℕ) → take (length xs) (xs ++ ys) ≡ xs
take-seam [] ys = refl
take-seam (x ∷ xs) ys = ap (λ t. x ∷ t) (take-seam xs ys)

-- the other tokens are those of the second
pub drop-seam : (xs ys : Source ℕ) → drop (length xs) (xs ++ ys) ≡ ys
drop-seam [] ys = refl
drop-seam (x ∷ xs) ys = drop-seam xs ys

-- the prefix of two sources in a row that is as wide as the first is the first
pub front-seam : (xs ys : Source ℕ) → HasPositiveWidths xs → front (xs ++ ys) (width xs) ≡ xs
front-seam xs ys h = ap (λ n. take n (xs ++ ys)) (count_to-seam xs ys h) ∙ take-seam xs ys

-- the second follows it
pub back-seam : (xs ys : Source ℕ) → HasPositiveWidths xs → back (xs ++ ys) (width xs) ≡ ys
back-seam xs ys h = ap (λ n. drop n (xs ++ ys)) (count_to-seam xs ys h) ∙ drop-seam xs ys

-- no bytes stand before the whole
pub ahead-nothing : (r s : Source ℕ) → r ≡ s → IsAhead r [] s
ahead-nothing r s e = ([], (e, refl))

-- bytes, and then more bytes
pub ahead-join : (t u : List ℕ) (r s q : Source ℕ) → IsAhead r t s → IsAhead s u q
    → IsAhead r (t ++ u) q
ahead-join t u r s q one two = (
  one.0 ++ two.0,
  (
    one.1.0 ∙ ap (λ x. one.0 ++ x) two.1.0 ∙ sym (append_assoc one.0 two.0 q),
    map-append (λ x. x.0) one.0 two.0 ∙ ap (λ x. x ++ bytes_of two.0) one.1.1 ∙ ap (λ x. t ++ x) two.1.1,
  ),
)

-- a prefix with two lists of bytes is a prefix with the one and a prefix with the other
split : (t u : List ℕ) (f : Source ℕ) → bytes_of f ≡ t ++ u
    → (g : Source ℕ) × ((h : Source ℕ) × ((f ≡ g ++ h) × (bytes_of g ≡ t) × (bytes_of h ≡ u)))
split [] u f e = ([], (f, (refl, refl, e)))
split (c ∷ t) u [] e = absurd (cc)
split (c ∷ t) u (x ∷ f) e =
    let k = split t u f (tails x.0 c _ _ e) in
    (x ∷ k.0, (k.1.0, (ap (λ y. x ∷ y) k.1.1.0, conses x.0 c _ _ (heads x.0 c _ _ e) k.1.1.1, k.1.1.2)))

-- where bytes and then more bytes stand, the more stand after the first
pub ahead-split : (t u : List ℕ) (r q : Source ℕ) → IsAhead r (t ++ u) q
    → (s : Source ℕ) × (IsAhead r t s × IsAhead s u q)
ahead-split t u r q h =
    let k = split t u h.0 h.1.1 in
    (k.1.0 ++ q, ((k.0, (h.1.0 ∙ ap (λ x. x ++ q) k.1.1.0 ∙ append_assoc k.0 k.1.0 q, k.1.1.1)), (k.1.0, (refl, k.1.1.2))))

-- the rest after bytes with which a source begins has positive widths
pub ahead-wide : (t : List ℕ) (r s : Source ℕ) → IsAhead r t s → HasPositiveWidths r
    → HasPositiveWidths s
ahead-wide t r s h wide = positive-after h.0 s (subst HasPositiveWidths h.1.0 wide)

-- after no bytes stands the whole
pub ahead-none : (r s : Source ℕ) → IsAhead r [] s → r ≡ s
ahead-none r s ([], (e, is)) = e
ahead-none r s (x ∷ f, (e, is)) = absurd (cc)

-- a first byte is a first token
pub ahead-first : (c : ℕ) (t : List ℕ) (r s : Source ℕ) → IsAhead r (c ∷ t) s
    → (x : ℕ × ℕ) × ((q : Source ℕ) × ((r ≡ x ∷ q) × (x.0 ≡ c) × IsAhead q t s))
ahead-first c t r s ([], (e, is)) = absurd (cc)
ahead-first c t r s (x ∷ f, (e, is)) = (x, (f ++ s, (e, heads x.0 c _ _ is, (f, (refl, tails x.0 c _ _ is)))))

-- what follows bytes is narrower
pub ahead-narrower : (c : ℕ) (t : List ℕ) (r s : Source ℕ) → HasPositiveWidths r
    → IsAhead r (c ∷ t) s → width s < width r
ahead-narrower c t r s wide h =
    let first = ahead-first c t r s h in
    let q = first.1.0 in
    let here : HasPositiveWidths (first.0 ∷ q) = subst HasPositiveWidths first.1.1.0 wide in
    let rest = first.1.1.2 in
    omega (arith, here.0, ap width first.1.1.0, ap width rest.1.0, width-append rest.0 s)
