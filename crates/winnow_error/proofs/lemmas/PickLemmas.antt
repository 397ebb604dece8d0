-- The error of a tree is the error that `pick` gives for its leaves.
use Rattle.std.proofs.Common.{◌≡◌, Option, Some, None, List, [], ◌∷◌, ◌++◌, fold, refl, ap, sym, subst, ◌∙◌}
use Rattle.std.specs.Prelude.{IsSome, unwrap_or}
use Rattle.std.specs.Option.{option_or}
use Rattle.winnow_stream.specs.declared.needed.Needed.{Needed}
use Rattle.winnow_error.specs.declared.mode.ErrMode.TheVariants.{Incomplete, Backtrack, Cut}
use Rattle.winnow_error.specs.declared.combining.OrTree.{OrTree, One, Both'}
use Rattle.winnow_error.specs.Mode.{Mode, ModeOr, mode_joined}
use Rattle.winnow_error.specs.ModeLemmas.{ModeOr-joined, mode_joined-associative}
use Rattle.winnow_error.specs.Or.{GivesOnly, IsAssociative}
use Rattle.winnow_error.specs.Pick.{leaves, Bracketed, first_needed, first_cut, backtracked, join_all, first_of, pick, HasNonBacktrack, CombineAlike}

-- the error that stands for two lists, from the errors that stand for each
abbrev option_joined : {E : Type 0} → (E → E → E) → Option (Mode E) → Option (Mode E)
    → Option (Mode E)
option_joined join None y = y
option_joined join (Some a) None = Some a
option_joined join (Some a) (Some b) = Some (mode_joined join a b)

-- joining the errors of lists is associative, as `or` of modes is
option_joined-associative : {E : Type 0} (join : E → E → E) → IsAssociative join
    → (x y z : Option (Mode E))
    → option_joined join (option_joined join x y) z ≡ option_joined join x (option_joined join y z)
option_joined-associative join h None y z = refl
option_joined-associative join h (Some a) None z = refl
option_joined-associative join h (Some a) (Some b) None = refl
option_joined-associative join h (Some a) (Some b) (Some c) = ap Some (mode_joined-associative join h a b c)

-- the first error may be joined before or after the rest is folded
fold-joined : {E : Type 0} (join : E → E → E) → IsAssociative join → (a b : E) (es : List E)
    → fold join (join a b) es ≡ join a (fold join b es)
fold-joined join h a b [] = refl
fold-joined join h a b (e ∷ es) = ap (λ x. fold join x es) (h a b e) ∙ fold-joined join h a (join b e) es

-- an `Incomplete`, a `Cut` or a `Backtrack` joined to the error of the rest gives what `first_of`
-- gives
first_of-incomplete : {E : Type 0} (join : E → E → E) (n : Needed) (y : Option (Mode E))
    → Some (Incomplete n) ≡ option_joined join (Some (Incomplete n)) y
first_of-incomplete join n None = refl
first_of-incomplete join n (Some b) = refl

first_of-cut : {E : Type 0} (join : E → E → E) (e : E) (i : Option Needed) (c b b' : Option E)
    → first_of i (Some e) b' ≡ option_joined join (Some (Cut e)) (first_of i c b)
first_of-cut join e (Some n) c b b' = refl
first_of-cut join e None (Some d) b b' = refl
first_of-cut join e None None (Some d) b' = refl
first_of-cut join e None None None b' = refl

first_of-backtrack : {E : Type 0} (join : E → E → E) → IsAssociative join
    → (e : E) (i : Option Needed) (c : Option E) (es : List E)
    → first_of i c (Some (fold join e es))
    ≡ option_joined join (Some (Backtrack e)) (first_of i c (join_all join es))
first_of-backtrack join h e (Some n) c es = refl
first_of-backtrack join h e None (Some d) es = refl
first_of-backtrack join h e None None [] = refl
first_of-backtrack join h e None None (x ∷ es) = ap (λ v. Some (Backtrack v)) (fold-joined join h e x es)

-- `pick` of a list joins its first error to `pick` of the rest
pick-cons : {E : Type 0} (join : E → E → E) → IsAssociative join
    → (e : Mode E) (es : List (Mode E))
    → pick join (e ∷ es) ≡ option_joined join (Some e) (pick join es)
pick-cons join h (Incomplete n) es = first_of-incomplete join n (pick join es)
pick-cons join h (Cut e) es = first_of-cut join e (first_needed es) (first_cut es) (join_all join (backtracked es)) _
pick-cons join h (Backtrack e) es = first_of-backtrack join h e (first_needed es) (first_cut es) (backtracked es)

-- `pick` of an appended list joins what is picked from both parts
pick-append : {E : Type 0} (join : E → E → E) → IsAssociative join → (xs ys : List (Mode E))
    → pick join (xs ++ ys) ≡ option_joined join (pick join xs) (pick join ys)
pick-append join h [] ys = refl
pick-append join h (x ∷ xs) ys =
    pick-cons join h x (xs ++ ys) ∙ ap (option_joined join (Some x)) (pick-append join h xs ys) ∙ sym (option_joined-associative join h (Some x) (pick join xs) (pick join ys)) ∙ ap (λ o. option_joined join o (pick join ys)) (sym (pick-cons join h x xs))

-- `pick` of a single error is that error
pick-one : {E : Type 0} (join : E → E → E) (e : Mode E) → pick join (e ∷ []) ≡ Some e
pick-one join (Incomplete n) = refl
pick-one join (Cut e) = refl
pick-one join (Backtrack e) = refl

-- if the inner `or` is an associative function, the error of the tree is `pick` of its leaves
pub pick-leaves : {E : Type 0} (gives : E → E → E → Type 0) (join : E → E → E)
    → GivesOnly gives join → IsAssociative join → (t : OrTree (Mode E)) (r : Mode E)
    → Bracketed (ModeOr gives) t r → pick join (leaves t) ≡ Some r
pick-leaves gives join only h (One e) r w = pick-one join e ∙ ap Some (sym w)
pick-leaves gives join only h (Both' p left q right) r w =
    pick-append join h (leaves left) (leaves right) ∙ ap (λ o. option_joined join o (pick join (leaves right))) (pick-leaves gives join only h left w.0 w.1.1.0) ∙ ap (option_joined join (Some w.0)) (pick-leaves gives join only h right w.1.0 w.1.1.1) ∙ ap Some (sym (ModeOr-joined gives join only w.0 w.1.0 r w.1.1.2))

-- the error, or `None` if it is a `Backtrack`
abbrev non_backtrack_of : {E : Type 0} → Mode E → Option (Mode E)
non_backtrack_of (Incomplete n) = Some (Incomplete n)
non_backtrack_of (Cut e) = Some (Cut e)
non_backtrack_of (Backtrack e) = None

-- the first `Incomplete` of a list, else its first `Cut`
abbrev first_non_backtrack : {E : Type 0} → List (Mode E) → Option (Mode E)
first_non_backtrack es = first_of (first_needed es) (first_cut es) None

abbrev non_backtrack_joined : {E : Type 0} → Option (Mode E) → Option (Mode E) → Option (Mode E)
non_backtrack_joined None y = y
non_backtrack_joined (Some (Incomplete n)) y = Some (Incomplete n)
non_backtrack_joined (Some (Cut e)) (Some (Incomplete n)) = Some (Incomplete n)
non_backtrack_joined (Some (Cut e)) (Some (Cut d)) = Some (Cut e)
non_backtrack_joined (Some (Cut e)) (Some (Backtrack d)) = Some (Cut e)
non_backtrack_joined (Some (Cut e)) None = Some (Cut e)
non_backtrack_joined (Some (Backtrack e)) y = y

-- joining what `first_of` gives for two lists is `first_of` of the first options that are there
first_of-non_backtrack : {E : Type 0} (i i' : Option Needed) (c c' : Option E)
    → non_backtrack_joined (first_of i c None) (first_of i' c' None)
    ≡ first_of (option_or i i') (option_or c c') None
first_of-non_backtrack (Some n) i' c c' = refl
first_of-non_backtrack None (Some n) (Some e) c' = refl
first_of-non_backtrack None None (Some e) (Some d) = refl
first_of-non_backtrack None None (Some e) None = refl
first_of-non_backtrack None i' None c' = refl

-- the first `Incomplete` or `Cut` of an appended list is that of the left part, else of the right
first_needed-append : {E : Type 0} (xs ys : List (Mode E))
    → first_needed (xs ++ ys) ≡ option_or (first_needed xs) (first_needed ys)
first_needed-append [] ys = refl
first_needed-append (Incomplete n ∷ xs) ys = refl
first_needed-append (Backtrack e ∷ xs) ys = first_needed-append xs ys
first_needed-append (Cut e ∷ xs) ys = first_needed-append xs ys

first_cut-append : {E : Type 0} (xs ys : List (Mode E))
    → first_cut (xs ++ ys) ≡ option_or (first_cut xs) (first_cut ys)
first_cut-append [] ys = refl
first_cut-append (Incomplete n ∷ xs) ys = first_cut-append xs ys
first_cut-append (Backtrack e ∷ xs) ys = first_cut-append xs ys
first_cut-append (Cut e ∷ xs) ys = refl

-- `first_non_backtrack` of an appended list joins that of both parts
first_non_backtrack-append : {E : Type 0} (xs ys : List (Mode E))
    → first_non_backtrack (xs ++ ys)
    ≡ non_backtrack_joined (first_non_backtrack xs) (first_non_backtrack ys)
first_non_backtrack-append xs ys =
    ap (λ i. first_of i (first_cut (xs ++ ys)) None) (first_needed-append xs ys) ∙ ap (λ c. first_of (option_or (first_needed xs) (first_needed ys)) c None) (first_cut-append xs ys) ∙ sym (first_of-non_backtrack (first_needed xs) (first_needed ys) (first_cut xs) (first_cut ys))

-- `first_non_backtrack` of a single error is that error, unless it is a `Backtrack`
first_non_backtrack-one : {E : Type 0} (e : Mode E)
    → first_non_backtrack (e ∷ []) ≡ non_backtrack_of e
first_non_backtrack-one (Incomplete n) = refl
first_non_backtrack-one (Cut e) = refl
first_non_backtrack-one (Backtrack e) = refl

-- `or` of modes keeps what is no `Backtrack`, no matter what the inner `or` gives
non_backtrack_of-joined : {E : Type 0} (gives : E → E → E → Type 0) (a b r : Mode E)
    → ModeOr gives a b r
    → non_backtrack_of r ≡ non_backtrack_joined (non_backtrack_of a) (non_backtrack_of b)
non_backtrack_of-joined gives (Backtrack a) (Backtrack b) (Backtrack r) w = refl
non_backtrack_of-joined gives (Backtrack a) (Backtrack b) (Incomplete n) w = absurd w
non_backtrack_of-joined gives (Backtrack a) (Backtrack b) (Cut r) w = absurd w
non_backtrack_of-joined gives (Backtrack a) (Incomplete n) r w = ap non_backtrack_of w
non_backtrack_of-joined gives (Backtrack a) (Cut b) r w = ap non_backtrack_of w
non_backtrack_of-joined gives (Incomplete n) b r w = ap non_backtrack_of w
non_backtrack_of-joined gives (Cut a) (Incomplete n) r w = ap non_backtrack_of w
non_backtrack_of-joined gives (Cut a) (Backtrack b) r w = ap non_backtrack_of w
non_backtrack_of-joined gives (Cut a) (Cut b) r w = ap non_backtrack_of w

-- the error of a tree, if it is no `Backtrack`, is what `first_non_backtrack` gives for its leaves
first_non_backtrack-leaves : {E : Type 0} (gives : E → E → E
    → Type 0) (t : OrTree (Mode E)) (r : Mode E) → Bracketed (ModeOr gives) t r
    → first_non_backtrack (leaves t) ≡ non_backtrack_of r
first_non_backtrack-leaves gives (One e) r w = first_non_backtrack-one e ∙ ap non_backtrack_of (sym w)
first_non_backtrack-leaves gives (Both' p left q right) r w =
    first_non_backtrack-append (leaves left) (leaves right) ∙ ap (λ o. non_backtrack_joined o (first_non_backtrack (leaves right))) (first_non_backtrack-leaves gives left w.0 w.1.1.0) ∙ ap (non_backtrack_joined (non_backtrack_of w.0)) (first_non_backtrack-leaves gives right w.1.0 w.1.1.1) ∙ sym (non_backtrack_of-joined gives w.0 w.1.0 r w.1.1.2)

-- if some error of a list is no `Backtrack`, `first_non_backtrack` finds one
HasNonBacktrack-first_non_backtrack : {E : Type 0} (es : List (Mode E)) → HasNonBacktrack es
    → IsSome (first_non_backtrack es)
HasNonBacktrack-first_non_backtrack [] h = absurd h
HasNonBacktrack-first_non_backtrack (Incomplete n ∷ es) h = refl
HasNonBacktrack-first_non_backtrack (Backtrack e ∷ es) h = HasNonBacktrack-first_non_backtrack es h
HasNonBacktrack-first_non_backtrack (Cut e ∷ es) h = with_cut (first_needed es)
  where
    -- a `Cut` is there, so `first_of` gives an error
    with_cut : (i : Option Needed) → IsSome (first_of i (Some e) None)
    with_cut (Some n) = refl
    with_cut None = refl

-- if a list has an error that is no `Backtrack`, `pick` does not depend on how inner errors are
-- joined
first_of-some : {E : Type 0} (i : Option Needed) (c b : Option E) → IsSome (first_of i c None)
    → first_of i c b ≡ first_of i c None
first_of-some (Some n) c b h = refl
first_of-some None (Some e) b h = refl
first_of-some None None b h = cc

-- an error that `non_backtrack_of` gives is the error itself
non_backtrack_of-some : {E : Type 0} (r : Mode E) → IsSome (non_backtrack_of r)
    → non_backtrack_of r ≡ Some r
non_backtrack_of-some (Incomplete n) h = refl
non_backtrack_of-some (Cut e) h = refl
non_backtrack_of-some (Backtrack e) h = cc

-- if some leaf is no `Backtrack`, the error of the tree is `pick` of its leaves for every inner
-- `or`
pub pick-non_backtrack : {E : Type 0} (gives : E → E → E → Type 0) (join : E → E
    → E) (t : OrTree (Mode E)) (r : Mode E) → HasNonBacktrack (leaves t)
    → Bracketed (ModeOr gives) t r → pick join (leaves t) ≡ Some r
pick-non_backtrack gives join t r h w =
    let some = HasNonBacktrack-first_non_backtrack (leaves t) h in
    let is_hard = first_non_backtrack-leaves gives t r w in
    first_of-some (first_needed (leaves t)) (first_cut (leaves t)) (join_all join (backtracked (leaves t))) some ∙ is_hard ∙ non_backtrack_of-some r (subst IsSome is_hard some)

-- two errors that `pick` gives for the same list are equal
pick-same : {E : Type 0} (join : E → E → E) (xs ys : List (Mode E)) (a b : Mode E) → xs ≡ ys
    → pick join xs ≡ Some a → pick join ys ≡ Some b → a ≡ b
pick-same join xs ys a b e p q = some_inj (sym p ∙ ap (pick join) e ∙ q)
  where
    -- `Some` is injective
    some_inj : {A : Type 0} {x y : A} → Some x ≡ Some y → x ≡ y
    some_inj {A} {x} {y} h = ap (λ o. unwrap_or o x) h

-- trees with the same leaves have the same error if the inner `or` is an associative function
pub leaves-alike : {E : Type 0} (gives : E → E → E → Type 0) (join : E → E
    → E) (s t : OrTree (Mode E)) → GivesOnly gives join → IsAssociative join → leaves s ≡ leaves t
    → CombineAlike (ModeOr gives) s t
leaves-alike gives join s t only h e a b v w = pick-same join (leaves s) (leaves t) a b e (pick-leaves gives join only h s a v) (pick-leaves gives join only h t b w)

-- trees with the same leaves have the same error for every inner `or` if some leaf is no
-- `Backtrack`
pub non_backtrack-alike : {E : Type 0} (gives : E → E → E → Type 0) (s t : OrTree (Mode E))
    → HasNonBacktrack (leaves s) → leaves s ≡ leaves t → CombineAlike (ModeOr gives) s t
non_backtrack-alike gives s t h e a b v w = pick-same (λ x _. x) (leaves s) (leaves t) a b e (pick-non_backtrack gives (λ x _. x) s a h v) (pick-non_backtrack gives (λ x _. x) t b (subst HasNonBacktrack e h) w)
