-- The entries of what `or` gives for two errors, for a list of errors, and for a tree of
-- alternatives.
use Rattle.std.proofs.Common.{◌≡◌, List, [], ◌∷◌, ◌++◌, Option, Some, None, refl, ap, sym, subst, ◌∙◌, append_assoc, append-nil}
use Rattle.std.specs.Prelude.{All, IsTrue, IsSome, IsNone, IsPermutation}
use Rattle.std.specs.List.{FoldsTo, flat_map}
use Rattle.std.proofs.lemmas.List.Sorted.{IsPermutation-refl, IsPermutation-append_comm, IsPermutation-append, IsPermutation-trans}
use Rattle.std.proofs.lemmas.List.Elements.{All-nil, All-cons, All-head, All-tail}
use Rattle.std.proofs.lemmas.List.Concat.{flat_map-append}
use Rattle.winnow_error.specs.declared.mode.ErrMode.TheVariants.{Incomplete, Backtrack, Cut}
use Rattle.winnow_error.specs.declared.combining.OrTree.{OrTree, One, Both'}
use Rattle.winnow_error.specs.Mode.{Mode, ModeOr, IsBacktrackOf, mode_backtracks}
use Rattle.winnow_error.specs.Pick.{Bracketed, leaves, backtracked}
use Rattle.winnow_tree.specs.declared.tree.TreeError.{TreeError}
use Rattle.winnow_tree.specs.Entries.{alternatives, entries, entries_or, entries_of_both, TreeOr}

-- the entries of two errors are those of the first and of the second, in some order
entries_of_both-permutation : {A : Type 0} (a b : A) (x y : Option (List A))
    → IsPermutation (entries_of_both a b x y) (entries_or a x ++ entries_or b y)
entries_of_both-permutation a b (Some xs) (Some ys) = IsPermutation-refl _
entries_of_both-permutation a b (Some xs) None = IsPermutation-refl _
entries_of_both-permutation a b None (Some ys) = IsPermutation-append_comm ys (a ∷ [])
entries_of_both-permutation a b None None = IsPermutation-refl _

-- `or` has the entries of both errors, in some order
pub entries-or : {I C : Type 0} (a b r : TreeError I C) → TreeOr a b r
    → IsPermutation (entries r) (entries a ++ entries b)
entries-or a b r w = subst (λ o. IsPermutation (entries_or r o) (entries a ++ entries b)) (sym w) (entries_of_both-permutation a b (alternatives a) (alternatives b))

-- `or` gives an `Alt`
pub alternatives-or : {I C : Type 0} (a b r : TreeError I C) → TreeOr a b r
    → IsSome (alternatives r)
alternatives-or a b r w = subst IsSome (sym w) refl

-- an option that is none is `None`
none_of : {A : Type 0} (o : Option A) → IsNone o → o ≡ None
none_of None h = refl
none_of (Some x) h = cc

-- `or` appends errors that are no `Alt`, in order, to the entries of an `Alt`
folds_behind : {I C : Type 0} (xs bs : List (TreeError I C)) (a r : TreeError I C)
    → alternatives a ≡ Some xs → All (λ e. IsNone (alternatives e)) bs → FoldsTo TreeOr a bs r
    → alternatives r ≡ Some (xs ++ bs)
folds_behind xs [] a r is nones folds = ap alternatives (sym folds) ∙ is ∙ ap Some (sym (append-nil xs))
folds_behind xs (b ∷ bs) a r is nones folds =
    let no_alt = none_of (alternatives b) (All-head (λ e. IsNone (alternatives e)) b bs nones) in
    let step = folds.1 ∙ ap (λ o. Some (entries_of_both a b o (alternatives b))) is ∙ ap (λ o. Some (entries_of_both a b (Some xs) o)) no_alt in
    folds_behind (xs ++ b ∷ []) bs folds.0 r step (All-tail (λ e. IsNone (alternatives e)) b bs nones) folds.2 ∙ ap Some (append_assoc xs (b ∷ []) bs)

-- a fold over errors that are no `Alt` has these errors as its entries, in order
pub entries-folds : {I C : Type 0} (bs : List (TreeError I C)) (a r : TreeError I C)
    → All (λ e. IsNone (alternatives e)) (a ∷ bs) → FoldsTo TreeOr a bs r → entries r ≡ a ∷ bs
entries-folds [] a r nones folds =
    subst (λ e. entries e ≡ a ∷ []) folds (ap (entries_or a) (none_of (alternatives a) (All-head (λ e. IsNone (alternatives e)) a [] nones)))
entries-folds (b ∷ bs) a r nones folds =
    let rest = All-tail (λ e. IsNone (alternatives e)) a (b ∷ bs) nones in
    let none_a = none_of (alternatives a) (All-head (λ e. IsNone (alternatives e)) a (b ∷ bs) nones) in
    let none_b = none_of (alternatives b) (All-head (λ e. IsNone (alternatives e)) b bs rest) in
    let step = folds.1 ∙ ap (λ o. Some (entries_of_both a b o (alternatives b))) none_a ∙ ap (λ o. Some (entries_of_both a b None o)) none_b in
    ap (entries_or r) (folds_behind (a ∷ b ∷ []) bs folds.0 r step (All-tail (λ e. IsNone (alternatives e)) b bs rest) folds.2)

-- what holds of each element of an appended list holds of each element of both parts
all_left : {X : Type 0} (P : X → Type 0) (xs ys : List X) → All P (xs ++ ys) → All P xs
all_left P [] ys h = All-nil P
all_left P (x ∷ xs) ys h = All-cons P x xs (All-head P x (xs ++ ys) h) (all_left P xs ys (All-tail P x (xs ++ ys) h))

all_right : {X : Type 0} (P : X → Type 0) (xs ys : List X) → All P (xs ++ ys) → All P ys
all_right P [] ys h = h
all_right P (x ∷ xs) ys h = all_right P xs ys (All-tail P x (xs ++ ys) h)

-- the `Backtrack`s of an appended list are those of both parts
backtracked-append : {E : Type 0} (xs ys : List (Mode E))
    → backtracked (xs ++ ys) ≡ backtracked xs ++ backtracked ys
backtracked-append [] ys = refl
backtracked-append (Incomplete n ∷ xs) ys = backtracked-append xs ys
backtracked-append (Backtrack e ∷ xs) ys = ap (λ l. e ∷ l) (backtracked-append xs ys)
backtracked-append (Cut e ∷ xs) ys = backtracked-append xs ys

-- the error is `Backtrack` of an error that has these entries, in some order
abbrev HasEntries : {I C : Type 0} → List (TreeError I C) → Mode (TreeError I C) → Type 0
HasEntries es = IsBacktrackOf (λ e. IsPermutation (entries e) es)

-- `or` of modes gives a `Backtrack` that has the entries of both
joined : {I C : Type 0} (a b r : Mode (TreeError I C)) (xs ys : List (TreeError I C))
    → HasEntries xs a → HasEntries ys b → ModeOr TreeOr a b r → HasEntries (xs ++ ys) r
joined (Backtrack a) (Backtrack b) (Backtrack r) xs ys p q w =
    IsPermutation-trans (entries r) (entries a ++ entries b) (xs ++ ys) (entries-or a b r w) (IsPermutation-append (entries a) xs (entries b) ys p q)
joined (Backtrack a) (Backtrack b) (Incomplete n) xs ys p q w = absurd w
joined (Backtrack a) (Backtrack b) (Cut r) xs ys p q w = absurd w
joined (Backtrack a) (Incomplete n) r xs ys p q w = absurd q
joined (Backtrack a) (Cut b) r xs ys p q w = absurd q
joined (Incomplete n) b r xs ys p q w = absurd p
joined (Cut a) b r xs ys p q w = absurd p

-- if all alternatives are `Backtrack`, their error has the entries of all, for all brackets
pub entries-bracketed : {I C : Type 0} (t : OrTree (Mode (TreeError I C)))
    (r : Mode (TreeError I C)) → All (λ m. IsTrue (mode_backtracks m)) (leaves t)
    → Bracketed (ModeOr TreeOr) t r → HasEntries (flat_map entries (backtracked (leaves t))) r
entries-bracketed (One (Backtrack e)) r h w =
    subst (HasEntries (entries e ++ [])) (sym w) (subst (IsPermutation (entries e)) (sym (append-nil (entries e))) (IsPermutation-refl (entries e)))
entries-bracketed (One (Incomplete n)) r h w = let never = All-head (λ m. IsTrue (mode_backtracks m)) (Incomplete n) [] h in absurd (cc)
entries-bracketed (One (Cut e)) r h w = let never = All-head (λ m. IsTrue (mode_backtracks m)) (Cut e) [] h in absurd (cc)
entries-bracketed (Both' p left q right) r h w =
    let of_left = entries-bracketed left w.0 (all_left (λ m. IsTrue (mode_backtracks m)) (leaves left) (leaves right) h) w.1.1.0 in
    let of_right = entries-bracketed right w.1.0 (all_right (λ m. IsTrue (mode_backtracks m)) (leaves left) (leaves right) h) w.1.1.1 in
    let all = ap (flat_map entries) (backtracked-append (leaves left) (leaves right)) ∙ flat_map-append entries (backtracked (leaves left)) (backtracked (leaves right)) in
    subst (λ es. HasEntries es r) (sym all) (joined w.0 w.1.0 r (flat_map entries (backtracked (leaves left))) (flat_map entries (backtracked (leaves right))) of_left of_right w.1.1.2)
