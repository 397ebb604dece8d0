-- A tree with other inputs and the same causes, contexts and shape.
use Rattle.std.specs.Prelude.{◌≡◌, Result, Ok}
use Rattle.std.specs.List.{AllZip}
use Rattle.winnow_tree.specs.TreeContents.{Frame, kind, context, Tree, base, stack, alt, Trees, none, more}

-- the values that a call may answer
abbrev pub OnOkOf : {I J E : Type 0} → (I → Result J E → Type 0) → I → J → Type 0
OnOkOf post i j = post i (Ok j)

-- the second frame is the first with an input that the relation gives for the old one
abbrev pub FrameMaps : {I J C : Type 0} → (I → J → Type 0) → Frame I C → Frame J C → Type 0
FrameMaps gives (kind i c) (kind j d) = gives i j × (d ≡ c)
FrameMaps gives (context i c) (context j d) = gives i j × (d ≡ c)
FrameMaps gives (kind i c) (context j d) = ⊥
FrameMaps gives (context i c) (kind j d) = ⊥

-- the second tree is the first with inputs that the relation gives for the old ones
abbrev mutual
  pub TreeMaps : {I J C : Type 0} → (I → J → Type 0) → Tree I C → Tree J C → Type 0
  TreeMaps gives (base i c) (base j d) = gives i j × (d ≡ c)
  TreeMaps gives (stack t fs) (stack u gs) = TreeMaps gives t u × AllZip (FrameMaps gives) fs gs
  TreeMaps gives (alt ts) (alt us) = TreesMap gives ts us
  TreeMaps gives (base i c) _ = ⊥
  TreeMaps gives (stack t fs) _ = ⊥
  TreeMaps gives (alt ts) _ = ⊥

  pub TreesMap : {I J C : Type 0} → (I → J → Type 0) → Trees I C → Trees J C → Type 0
  TreesMap gives none none = Unit {0}
  TreesMap gives (more t ts) (more u us) = TreeMaps gives t u × TreesMap gives ts us
  TreesMap gives none (more u us) = ⊥
  TreesMap gives (more t ts) none = ⊥
