use Rattle.std.proofs.Common.{◌≡◌, ◌+◌, ◌<◌, ℕ, List, [], ◌∷◌, ◌++◌, Option, Some, None, length, take, get_or, map, codes, refl, ap, sym, subst, ◌∙◌, append_assoc, append-nil, arith, length-take, add-zero}
use Rattle.std.specs.Fmt.{◌++?◌, AppendsText}
use Rattle.std.proofs.lemmas.List.{take_more}
use Rattle.winnow_tree.specs.TreeText.{base_text, frame_line, frames_text, all_texts, tree_text, layer_text, deeper}
use Rattle.winnow_tree.specs.declared.parts.TreeErrorFrame.{TreeErrorFrame}
use Rattle.winnow_tree.specs.declared.tree.TreeError.{TreeError, fold-roll-TreeError}
use Rattle.winnow_tree.specs.declared.tree.TreeError.TheVariants.{Base, rolls-Base, Stack, rolls-Stack, Alt, rolls-Alt}
use Rattle.winnow_tree.specs.declared.parts.TreeErrorBase.{TreeErrorBase}
use Rattle.std.specs.declared.boxed.Box.{Box}
use Rattle.std.specs.declared.vec.Vec.{Vec}
use Rattle.std.specs.declared.alloc.Global.{Global}

-- appending texts that may be unknown is associative, and the empty text changes nothing
option_append-assoc : (a b c : Option (List ℕ)) → (a ++? b) ++? c ≡ a ++? (b ++? c)
option_append-assoc None b c = refl
option_append-assoc (Some a) None c = refl
option_append-assoc (Some a) (Some b) None = refl
option_append-assoc (Some a) (Some b) (Some c) = ap Some (append_assoc a b c)

option_append-nothing : (a : Option (List ℕ)) → a ++? Some [] ≡ a
option_append-nothing None = refl
option_append-nothing (Some a) = ap Some (append-nil a)

nothing-option_append : (a : Option (List ℕ)) → Some [] ++? a ≡ a
nothing-option_append None = refl
nothing-option_append (Some a) = refl

-- two texts that are appended one after the other
pub appends_both : (a b c : List ℕ) (x y : Option (List ℕ)) → AppendsText a b x → AppendsText b c y
    → AppendsText a c (x ++? y)
appends_both a b c None y p q = tt
appends_both a b c (Some x) None p q = tt
appends_both a b c (Some x) (Some y) p q = q ∙ ap (λ l. l ++ y) p ∙ append_assoc a x y

module _ {I C : Type 0} (it : I → Option (List ℕ)) (ct : C → Option (List ℕ)) where
  -- the lines of frames with one more frame end with its line
  frames_text-push : (pad : List ℕ) (n : ℕ) (xs : List (TreeErrorFrame I C))
      (x : TreeErrorFrame I C)
      → frames_text it ct pad n (xs ++ x ∷ [])
      ≡ frames_text it ct pad n xs ++? frame_line it ct pad (n + length xs) x
  frames_text-push pad n [] x =
      option_append-nothing _ ∙ sym (nothing-option_append _ ∙ ap (λ k. frame_line it ct pad k x) (add-zero n))
  frames_text-push pad n (y ∷ xs) x =
      let e : (n + 1) + length xs ≡ n + length (y ∷ xs) = omega arith in
      ap (λ t. frame_line it ct pad n y ++? t) (frames_text-push pad (n + 1) xs x) ∙ sym (option_append-assoc (frame_line it ct pad n y) (frames_text it ct pad (n + 1) xs) (frame_line it ct pad ((n + 1) + length xs) x)) ∙ ap (λ k. frames_text it ct pad n (y ∷ xs) ++? frame_line it ct pad k x) e

  -- one more frame appends its line
  pub frames_more : (pad : List ℕ) (xs : List (TreeErrorFrame I C)) (i : ℕ)
      (x : TreeErrorFrame I C) → i < length xs → x ≡ get_or xs i x → (a b c : List ℕ)
      → AppendsText a b (frames_text it ct pad 0 (take i xs))
      → AppendsText b c (frame_line it ct pad i x)
      → AppendsText a c (frames_text it ct pad 0 (take (i + 1) xs))
  frames_more pad xs i x h is a b c p q =
      let n : 0 + length (take i xs) ≡ i = simp length-take (omega (arith, h)) in
      let e = take_more xs i x h ∙ ap (λ y. take i xs ++ y ∷ []) (sym is) in
      subst (AppendsText a c) (sym (ap (frames_text it ct pad 0) e ∙ frames_text-push pad 0 (take i xs) x ∙ ap (λ k. frames_text it ct pad 0 (take i xs) ++? frame_line it ct pad k x) n)) (appends_both a b c _ _ p q)

-- the texts of a list with one more element end with its text
all_texts-push : {A : Type 0} (f : A → Option (List ℕ)) (xs : List A) (x : A)
    → all_texts f (xs ++ x ∷ []) ≡ all_texts f xs ++? f x
all_texts-push f [] x = option_append-nothing (f x) ∙ sym (nothing-option_append (f x))
all_texts-push f (y ∷ xs) x = ap (λ t. f y ++? t) (all_texts-push f xs x) ∙ sym (option_append-assoc (f y) (all_texts f xs) (f x))

-- one more alternative appends its text
pub all_more : {A : Type 0} (f : A → Option (List ℕ)) (xs : List A) (i : ℕ) (x : A) → i < length xs
    → x ≡ get_or xs i x → (a b c : List ℕ) → AppendsText a b (all_texts f (take i xs))
    → AppendsText b c (f x) → AppendsText a c (all_texts f (take (i + 1) xs))
all_more f xs i x h is a b c p q =
    let e = take_more xs i x h ∙ ap (λ y. take i xs ++ y ∷ []) (sym is) in
    subst (AppendsText a c) (sym (ap (all_texts f) e ∙ all_texts-push f (take i xs) x)) (appends_both a b c _ _ p q)

-- the texts of mapped elements are those of the function's values
all_texts-map : {A B : Type 0} (f : B → Option (List ℕ)) (h : A → B) (xs : List A)
    → all_texts f (map h xs) ≡ all_texts (λ x. f (h x)) xs
all_texts-map f h [] = refl
all_texts-map f h (x ∷ xs) = ap (λ t. f (h x) ++? t) (all_texts-map f h xs)

module _ {I C : Type 0} (it : I → Option (List ℕ)) (ct : C → Option (List ℕ)) where
  -- the text of each kind of tree, from the texts of its parts
  pub tree_text-base : (b : TreeErrorBase I) (pad : List ℕ)
      → tree_text it ct (Base b) pad ≡ Some pad ++? base_text it b ++? Some (10 ∷ [])
  tree_text-base b pad = ap (λ t. tree_text it ct t pad) (sym (rolls-Base b)) ∙ ap (λ f. f pad) (fold-roll-TreeError I C (List ℕ → Option (List ℕ)) (layer_text it ct) _)

  pub tree_text-stack : (b : Box (TreeError I C) Global) (s : Vec (TreeErrorFrame I C) Global)
      (pad : List ℕ)
      → tree_text it ct (Stack b s) pad
      ≡ tree_text it ct b.value pad ++? frames_text it ct pad 0 s.items
  tree_text-stack b s pad = ap (λ t. tree_text it ct t pad) (sym (rolls-Stack b s)) ∙ ap (λ f. f pad) (fold-roll-TreeError I C (List ℕ → Option (List ℕ)) (layer_text it ct) _)

  pub tree_text-alt : (v : Vec (TreeError I C) Global) (pad : List ℕ)
      → tree_text it ct (Alt v) pad
      ≡ Some (pad
      ++ codes "during one of:\n") ++? all_texts (λ t. tree_text it ct t (deeper pad)) v.items
  tree_text-alt v pad =
      ap (λ t. tree_text it ct t pad) (sym (rolls-Alt v)) ∙ ap (λ f. f pad) (fold-roll-TreeError I C (List ℕ → Option (List ℕ)) (layer_text it ct) _) ∙ ap (λ t. Some (pad ++ codes "during one of:\n") ++? t) (all_texts-map (λ f. f (deeper pad)) (tree_text it ct) v.items)

  -- writing the parts of each kind of tree, one after the other, writes its text
  pub writes_base : (t : TreeError I C) (b : TreeErrorBase I) → t ≡ Base b → (pad w x y z : List ℕ)
      → x ≡ w ++ pad → AppendsText x y (base_text it b) → z ≡ y ++ 10 ∷ []
      → AppendsText w z (tree_text it ct t pad)
  writes_base t b e pad w x y z p q r =
      subst (AppendsText w z) (sym (ap (λ u. tree_text it ct u pad) e ∙ tree_text-base b pad)) (appends_both w x z (Some pad) (base_text it b ++? Some (10 ∷ [])) p (appends_both x y z (base_text it b) (Some (10 ∷ [])) q r))

  pub writes_stack : (t : TreeError I C) (b : Box (TreeError I C) Global)
      (s : Vec (TreeErrorFrame I C) Global) → t ≡ Stack b s → (pad w x y : List ℕ)
      → AppendsText w x (tree_text it ct b.value pad)
      → AppendsText x y (frames_text it ct pad 0 s.items) → AppendsText w y (tree_text it ct t pad)
  writes_stack t b s e pad w x y p q =
      subst (AppendsText w y) (sym (ap (λ u. tree_text it ct u pad) e ∙ tree_text-stack b s pad)) (appends_both w x y _ _ p q)

  pub writes_alt : (t : TreeError I C) (v : Vec (TreeError I C) Global) → t ≡ Alt v
      → (pad w x y : List ℕ) → x ≡ w ++ (pad ++ codes "during one of:\n")
      → AppendsText x y (all_texts (λ u. tree_text it ct u (deeper pad)) v.items)
      → AppendsText w y (tree_text it ct t pad)
  writes_alt t v e pad w x y p q =
      subst (AppendsText w y) (sym (ap (λ u. tree_text it ct u pad) e ∙ tree_text-alt v pad)) (appends_both w x y (Some (pad ++ codes "during one of:\n")) _ p q)
