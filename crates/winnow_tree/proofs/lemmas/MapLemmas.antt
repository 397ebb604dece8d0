use Rattle.std.specs.Prelude.{Result, IfOk}
use Rattle.std.proofs.lemmas.Result.{IfOk-weaker}
use Rattle.std.proofs.Common.{◌≡◌, List, [], ◌∷◌, ◌++◌, map, refl, ap, sym, subst, ◌∙◌}
use Rattle.std.specs.List.{AllZip}
use Rattle.std.specs.declared.vec.Vec.{Vec}
use Rattle.std.specs.declared.boxed.Box.{Box}
use Rattle.std.specs.declared.alloc.Global.{Global}
use Rattle.winnow_tree.specs.declared.parts.TreeErrorFrame.{TreeErrorFrame}
use Rattle.winnow_tree.specs.declared.tree.TreeError.{TreeError, fold-roll-TreeError}
use Rattle.winnow_tree.specs.declared.tree.TreeError.TheVariants.{Stack, rolls-Stack, Alt, rolls-Alt}
use Rattle.winnow_tree.specs.TreeContents.{Tree, Trees, Frame, none, more, kind, context, base, stack, alt, trees_of, tree_contents, layer_contents, frame_contents, with_frame}
use Rattle.winnow_tree.specs.Maps.{FrameMaps, TreeMaps, TreesMap}

-- related lists stay related when a related pair is appended
AllZip-more : {A B : Type 0} (R : A → B → Type 0) (xs : List A) (ys : List B) (x : A) (y : B)
    → AllZip R xs ys → R x y → AllZip R (xs ++ x ∷ []) (ys ++ y ∷ [])
AllZip-more R [] [] x y h r = (r, tt)
AllZip-more R [] (b ∷ ys) x y h r = absurd h
AllZip-more R (a ∷ xs) [] x y h r = absurd h
AllZip-more R (a ∷ xs) (b ∷ ys) x y h r = (h.0, AllZip-more R xs ys x y h.1 r)

-- a function maps an appended element last
map-push : {A B : Type 0} (f : A → B) (xs : List A) (x : A)
    → map f (xs ++ x ∷ []) ≡ map f xs ++ f x ∷ []
map-push f [] x = refl
map-push f (y ∷ xs) x = ap (λ l. f y ∷ l) (map-push f xs x)

-- the same for the values of functions, as the loop over frames has them
pub frames_push : {A B C D : Type 0} (R : C → D → Type 0) (f : A → C) (g : B
    → D) (xs : List A) (ys zs : List B) (x : A) (y : B) → AllZip R (map f xs) (map g ys)
    → R (f x) (g y) → zs ≡ ys ++ y ∷ [] → AllZip R (map f (xs ++ x ∷ [])) (map g zs)
frames_push R f g xs ys zs x y h r e =
    subst (λ l. AllZip R l (map g zs)) (sym (map-push f xs x)) (subst (AllZip R (map f xs ++ f x ∷ [])) (sym (ap (map g) e ∙ map-push g ys y)) (AllZip-more R (map f xs) (map g ys) (f x) (g y) h r))

-- related lists of trees stay related when a related pair is appended
TreesMap-more : {I J C : Type 0} (R : I → J
    → Type 0) (xs : List (Tree I C)) (ys : List (Tree J C)) (x : Tree I C) (y : Tree J C)
    → TreesMap R (trees_of xs) (trees_of ys) → TreeMaps R x y
    → TreesMap R (trees_of (xs ++ x ∷ [])) (trees_of (ys ++ y ∷ []))
TreesMap-more R [] [] x y h r = (r, tt)
TreesMap-more R [] (b ∷ ys) x y h r = absurd h
TreesMap-more R (a ∷ xs) [] x y h r = absurd h
TreesMap-more R (a ∷ xs) (b ∷ ys) x y h r = (h.0, TreesMap-more R xs ys x y h.1 r)

-- the same for lists whose elements have contents that are trees, as the loop over entries has them
pub entries_push : {A B I J C : Type 0} (R : I → J → Type 0) (f : A → Tree I C) (g : B
    → Tree J C) (xs : List A) (ys zs : List B) (x : A) (y : B)
    → TreesMap R (trees_of (map f xs)) (trees_of (map g ys)) → TreeMaps R (f x) (g y)
    → zs ≡ ys ++ y ∷ [] → TreesMap R (trees_of (map f (xs ++ x ∷ []))) (trees_of (map g zs))
entries_push R f g xs ys zs x y h r e =
    subst (λ l. TreesMap R (trees_of l) (trees_of (map g zs))) (sym (map-push f xs x)) (subst (λ l. TreesMap R (trees_of (map f xs ++ f x ∷ [])) (trees_of l)) (sym (ap (map g) e ∙ map-push g ys y)) (TreesMap-more R (map f xs) (map g ys) (f x) (g y) h r))

-- the contents of a stack and of alternatives are those of their parts
tree_contents-stack : {I C : Type 0} (b : Box (TreeError I C) Global)
    (s : Vec (TreeErrorFrame I C) Global)
    → tree_contents (Stack b s) ≡ stack (tree_contents b.value) (map frame_contents s.items)
tree_contents-stack {I} {C} b s = ap tree_contents (sym (rolls-Stack b s)) ∙ fold-roll-TreeError I C (Tree I C) layer_contents _

tree_contents-alt : {I C : Type 0} (v : Vec (TreeError I C) Global)
    → tree_contents (Alt v) ≡ alt (trees_of (map tree_contents v.items))
tree_contents-alt {I} {C} v = ap tree_contents (sym (rolls-Alt v)) ∙ fold-roll-TreeError I C (Tree I C) layer_contents _

-- a stack of related parts is a related stack
pub stack_maps : {I J C : Type 0} (R : I → J
    → Type 0) (b : Box (TreeError I C) Global) (s : Vec (TreeErrorFrame I C) Global)
    (d : Box (TreeError J C) Global) (u : Vec (TreeErrorFrame J C) Global)
    → TreeMaps R (tree_contents b.value) (tree_contents d.value)
    → AllZip (FrameMaps R) (map frame_contents s.items) (map frame_contents u.items)
    → TreeMaps R (tree_contents (Stack b s)) (tree_contents (Stack d u))
stack_maps R b s d u p q =
    subst (λ x. TreeMaps R x (tree_contents (Stack d u))) (sym (tree_contents-stack b s)) (subst (TreeMaps R (stack (tree_contents b.value) (map frame_contents s.items))) (sym (tree_contents-stack d u)) (p, q))

-- related alternatives are a related `Alt`
pub alt_maps : {I J C : Type 0} (R : I → J
    → Type 0) (v : Vec (TreeError I C) Global) (w : Vec (TreeError J C) Global)
    → TreesMap R (trees_of (map tree_contents v.items)) (trees_of (map tree_contents w.items))
    → TreeMaps R (tree_contents (Alt v)) (tree_contents (Alt w))
alt_maps R v w p =
    subst (λ x. TreeMaps R x (tree_contents (Alt w))) (sym (tree_contents-alt v)) (subst (TreeMaps R (alt (trees_of (map tree_contents v.items)))) (sym (tree_contents-alt w)) p)

-- a frame that is pushed on a stack is one more frame
pub pushes_stack : {I C : Type 0} (b : Box (TreeError I C) Global)
    (s s2 : Vec (TreeErrorFrame I C) Global) (f : TreeErrorFrame I C)
    → s2.items ≡ s.items ++ f ∷ []
    → tree_contents (Stack b s2) ≡ with_frame (frame_contents f) (tree_contents (Stack b s))
pushes_stack b s s2 f e =
    tree_contents-stack b s2 ∙ ap (stack (tree_contents b.value)) (ap (map frame_contents) e ∙ map-push frame_contents s.items f) ∙ sym (ap (with_frame (frame_contents f)) (tree_contents-stack b s))

-- a frame over an `Alt` is one more frame
pub pushes_alt : {I C : Type 0} (v : Vec (TreeError I C) Global) (f : TreeErrorFrame I C)
    → stack (tree_contents (Alt v)) (frame_contents f ∷ [])
    ≡ with_frame (frame_contents f) (tree_contents (Alt v))
pushes_alt v f = ap (λ t. stack t (frame_contents f ∷ [])) (tree_contents-alt v) ∙ sym (ap (with_frame (frame_contents f)) (tree_contents-alt v))

AllZip-weaker : {A B : Type 0} (R S : A → B → Type 0) → ((a : A) (b : B) → R a b → S a b)
    → (xs : List A) (ys : List B) → AllZip R xs ys → AllZip S xs ys
AllZip-weaker R S w [] [] h = tt
AllZip-weaker R S w [] (b ∷ ys) h = absurd h
AllZip-weaker R S w (a ∷ xs) [] h = absurd h
AllZip-weaker R S w (a ∷ xs) (b ∷ ys) h = (w a b h.0, AllZip-weaker R S w xs ys h.1)

-- frames and trees that are related stay related by a relation that follows
FrameMaps-weaker : {I J C : Type 0} (R S : I → J → Type 0) → ((i : I) (j : J) → R i j → S i j)
    → (f : Frame I C) (g : Frame J C) → FrameMaps R f g → FrameMaps S f g
FrameMaps-weaker R S w (kind i c) (kind j d) h = (w i j h.0, h.1)
FrameMaps-weaker R S w (context i c) (context j d) h = (w i j h.0, h.1)
FrameMaps-weaker R S w (kind i c) (context j d) h = absurd h
FrameMaps-weaker R S w (context i c) (kind j d) h = absurd h

-- a relation between lists that follows from another one, element by element
mutual
  pub TreeMaps-weaker : {I J C : Type 0} (R S : I → J → Type 0) → ((i : I) (j : J) → R i j → S i j)
      → (t : Tree I C) (u : Tree J C) → TreeMaps R t u → TreeMaps S t u
  TreeMaps-weaker R S w (base i c) (base j d) h = (w i j h.0, h.1)
  TreeMaps-weaker R S w (stack t fs) (stack u gs) h = (TreeMaps-weaker R S w t u h.0, AllZip-weaker (FrameMaps R) (FrameMaps S) (FrameMaps-weaker R S w) fs gs h.1)
  TreeMaps-weaker R S w (alt ts) (alt us) h = TreesMap-weaker R S w ts us h
  TreeMaps-weaker R S w (base i c) (stack u gs) h = absurd h
  TreeMaps-weaker R S w (base i c) (alt us) h = absurd h
  TreeMaps-weaker R S w (stack t fs) (base j d) h = absurd h
  TreeMaps-weaker R S w (stack t fs) (alt us) h = absurd h
  TreeMaps-weaker R S w (alt ts) (base j d) h = absurd h
  TreeMaps-weaker R S w (alt ts) (stack u gs) h = absurd h

  pub TreesMap-weaker : {I J C : Type 0} (R S : I → J → Type 0) → ((i : I) (j : J) → R i j → S i j)
      → (ts : Trees I C) (us : Trees J C) → TreesMap R ts us → TreesMap S ts us
  TreesMap-weaker R S w none none h = tt
  TreesMap-weaker R S w (more t ts) (more u us) h = (TreeMaps-weaker R S w t u h.0, TreesMap-weaker R S w ts us h.1)
  TreesMap-weaker R S w none (more u us) h = absurd h
  TreesMap-weaker R S w (more t ts) none h = absurd h

-- a mapped tree that is related, if there is one, stays related by a relation that follows
pub maps_weaker : {I J C E : Type 0} (t : TreeError I C) (x : Result (TreeError J C) E) (R S : I
    → J → Type 0) → ((i : I) (j : J) → R i j → S i j)
    → IfOk x (λ r. TreeMaps R (tree_contents t) (tree_contents r))
    → IfOk x (λ r. TreeMaps S (tree_contents t) (tree_contents r))
maps_weaker t x R S w = IfOk-weaker x (λ r. TreeMaps R (tree_contents t) (tree_contents r)) (λ r. TreeMaps S (tree_contents t) (tree_contents r)) (λ r h. TreeMaps-weaker R S w (tree_contents t) (tree_contents r) h)
