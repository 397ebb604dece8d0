-- The grammar of trees: a text begins with one tree at most, and with none where brackets are left
-- open.
use Rattle.std.proofs.Common.{◌≡◌, ℕ, zero, suc, ◌-◌, ◌<◌, ◌≤◌, List, [], ◌∷◌, ◌++◌, map, ap, sym, ◌∙◌, subst, refl, arith, append_assoc}
use Rattle.example_nested.specs.Trees.{branches_of, written, written_all, above_all, depth_of}
use Rattle.example_nested.specs.Answers.{StartsWith, AreOpen}
use Rattle.example_nested.specs.declared.tree.Tree.{Tree}
use Rattle.example_nested.specs.declared.tree.Tree.TheFolds.{ind-Tree}
use Rattle.example_nested.proofs.lemmas.TreeLemmas.{written-roll, written-before, depth-out}

-- the first number of a list, or 0
head : List ℕ → ℕ
head [] = 0
head (x ∷ xs) = x

-- the rest of a list
tail : List ℕ → List ℕ
tail [] = []
tail (x ∷ xs) = xs

-- equal lists have equal first numbers
heads : (x y : ℕ) (xs ys : List ℕ) → x ∷ xs ≡ y ∷ ys → x ≡ y
unfolding head
heads x y xs ys e = ap head e

-- equal lists have equal rests
tails : (x y : ℕ) (xs ys : List ℕ) → x ∷ xs ≡ y ∷ ys → xs ≡ ys
unfolding tail
tails x y xs ys e = ap tail e

-- a list that is a number and a rest starts with the number
pub begins : (n : ℕ) (r s : List ℕ) → r ≡ n ∷ s → StartsWith n r
begins n r s e = subst (StartsWith n) (sym e) refl

-- of several trees the first is written first
first-before : (t : Tree) (ts : List Tree) (more : List ℕ)
    → written_all (t ∷ ts) ++ more ≡ written t ++ (written_all ts ++ more)
first-before t ts more = append_assoc (written t) (written_all ts) more

-- trees that are written do not begin with a closing bracket
not-closed : (t : Tree) (ts : List Tree) (more rest : List ℕ)
    → 93 ∷ rest ≡ written_all (t ∷ ts) ++ more → ⊥
not-closed t ts more rest e =
    let at : 93 ≡ 91 = heads 93 91 _ _ (e ∙ first-before t ts more ∙ written-before t (written_all ts ++ more)) in
    omega (arith, at)

-- the text after this tree is the text after each tree that stands in its place
abbrev Ends : Tree → Type 0
Ends t = (u : Tree) (x y : List ℕ) → written t ++ x ≡ written u ++ y → x ≡ y

-- the text after a row of such trees and a bracket is that after each row in its place
rows-end : (es : List ((t : Tree) × Ends t)) (us : List Tree) (x y : List ℕ)
    → written_all (map (λ e. e.0) es) ++ 93 ∷ x ≡ written_all us ++ 93 ∷ y → x ≡ y
rows-end [] [] x y e = tails 93 93 x y e
rows-end [] (u ∷ us) x y e = absurd (not-closed u us (93 ∷ y) x e)
rows-end (t ∷ ts) [] x y e = absurd (not-closed t.0 (map (λ e. e.0) ts) (93 ∷ x) y (sym e))
rows-end (t ∷ ts) (u ∷ us) x y e =
    rows-end ts us x y (t.1 u _ _ (sym (first-before t.0 (map (λ e. e.0) ts) (93 ∷ x)) ∙ e ∙ first-before u us (93 ∷ y)))

-- each tree ends at one place
pub ends : (t : Tree) → Ends t
ends = ind-Tree Ends (λ t rows is. λ u x y e.
    subst (λ z. written_all z.branches.items ++ 93 ∷ x ≡ written_all (branches_of u) ++ 93 ∷ y → x ≡ y) is (rows-end rows.branches.items (branches_of u) x y)
    (tails 91 91 _ _ (sym (ap (λ text. text ++ x) (written-roll t) ∙ ap (λ text. 91 ∷ text) (append_assoc (written_all t.branches.items) (93 ∷ []) x)) ∙ e ∙ written-before u y)))

-- whole trees at the front of some branches are the first of these branches
peel : (us ts : List Tree) (more rest : List ℕ)
    → written_all us ++ more ≡ written_all ts ++ 93 ∷ rest
    → (vs : List Tree)
    × ((more ≡ written_all vs ++ 93 ∷ rest)
    × (above_all (map depth_of vs) ≤ above_all (map depth_of ts)))
peel [] ts more rest e = (ts, (e, omega arith))
peel (u ∷ us) [] more rest e = absurd (not-closed u us more rest (sym e))
peel (u ∷ us) (t ∷ ts) more rest e =
    let on = peel us ts more rest (ends u t _ _ (sym (first-before u us more) ∙ e ∙ first-before t ts (93 ∷ rest))) in
    (on.0, (on.1.0, omega (arith, on.1.1)))

-- after the opening bracket of a tree and whole branches of it stand its other branches
opened : (t : Tree) (us : List Tree) (text more rest behind : List ℕ)
    → text ≡ 91 ∷ (written_all us ++ more) → text ++ rest ≡ written t ++ behind
    → (vs : List Tree)
    × ((more ++ rest ≡ written_all vs ++ 93 ∷ behind) × (above_all (map depth_of vs) ≤ depth_of t))
opened t us text more rest behind is e =
    let front : text ++ rest ≡ 91 ∷ (written_all us ++ (more ++ rest)) = ap (λ s. s ++ rest) is ∙ ap (λ s. 91 ∷ s) (append_assoc (written_all us) more rest) in
    let on = peel us (branches_of t) (more ++ rest) behind (tails 91 91 _ _ (sym front ∙ e ∙ written-before t behind)) in
    (on.0, (on.1.0, omega (arith, on.1.1, depth-out t)))

-- trees and a closing bracket do not begin with open brackets after which none closes and none
-- opens that may
none : (n depth : ℕ) (ts : List Tree) (text rest behind : List ℕ) → AreOpen n text
    → ¬ (StartsWith 93 rest) → (n < depth → ¬ (StartsWith 91 rest))
    → above_all (map depth_of ts) ≤ depth → text ++ rest ≡ written_all ts ++ 93 ∷ behind → ⊥
none zero depth [] text rest behind left closes opens deep e = closes (begins 93 rest behind (sym (ap (λ s. s ++ rest) left) ∙ e))
none zero depth (t ∷ ts) text rest behind left closes opens deep e =
    opens (omega (arith, deep)) (begins 91 rest _ (sym (ap (λ s. s ++ rest) left) ∙ e ∙ first-before t ts (93 ∷ behind) ∙ written-before t (written_all ts ++ 93 ∷ behind)))
none (suc n) depth [] text rest behind left closes opens deep e =
    let at : 91 ≡ 93 = heads 91 93 _ _ (sym (ap (λ s. s ++ rest) left.1.1.0) ∙ e) in
    omega (arith, at)
none (suc n) depth (t ∷ ts) text rest behind left closes opens deep e =
    let on = opened t left.0 text left.1.0 rest (written_all ts ++ 93 ∷ behind) left.1.1.0 (e ∙ first-before t ts (93 ∷ behind)) in
    none n (depth - 1) on.0 left.1.0 rest _ left.1.1.1 closes (λ l. opens (omega (arith, l))) (omega (arith, on.1.1, deep)) on.1.0

-- so a text in which a tree breaks off does not begin with a tree
pub none-ahead : (n depth : ℕ) (tree : Tree) (text rest behind : List ℕ) → AreOpen (suc n) text
    → ¬ (StartsWith 93 rest) → (n < depth → ¬ (StartsWith 91 rest)) → depth_of tree ≤ depth
    → text ++ rest ≡ written tree ++ behind → ⊥
none-ahead n depth tree text rest behind left closes opens deep e =
    let on = opened tree left.0 text left.1.0 rest behind left.1.1.0 e in
    none n depth on.0 left.1.0 rest behind left.1.1.1 closes opens (omega (arith, on.1.1, deep)) on.1.0
