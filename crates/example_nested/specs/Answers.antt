-- The answers of a reader of trees, in the words of trees.
use Rattle.std.specs.Prelude.{◌≡◌, ℕ, zero, suc, ◌<◌, ◌≤◌, Bool, true, List, [], ◌∷◌, ◌++◌, map, Result, Ok, Err, ⊤}
use Rattle.winnow_stream.specs.Source.{Source}
use Rattle.winnow_stream.specs.declared.needed.Needed.{Needed}
use Rattle.winnow_error.specs.declared.failure.Failure.{Failure}
use Rattle.winnow_error.specs.declared.failure.Failure.TheVariants.{Incomplete, Backtrack, Cut, Refused}
use Rattle.example_nested.specs.Trees.{written, written_all, depth_of}
use Rattle.example_nested.specs.declared.tree.Tree.{Tree}

-- the text begins with this character
abbrev pub StartsWith : ℕ → List ℕ → Type 0
StartsWith n [] = ⊥
StartsWith n (x ∷ xs) = x ≡ n

-- the text is n open brackets, each with some trees after it
abbrev pub AreOpen : ℕ → List ℕ → Type 0
AreOpen zero text = text ≡ []
AreOpen (suc n) text = (trees : List Tree) × ((more : List ℕ) × ((text ≡ 91 ∷ (written_all trees ++ more)) × AreOpen n more))

module _ {T : Type 0} (code : T → ℕ) where
  -- the characters of a source
  abbrev pub text_of : Source T → List ℕ
  text_of r = map (λ x. code x.0) r

  -- the source is a tree of at most this depth, and then the rest
  abbrev pub StandsAhead : ℕ → Source T → Tree → Source T → Type 0
  StandsAhead depth whole tree rest =
      (front : Source T)
      × ((whole ≡ front ++ rest) × (text_of front ≡ written tree) × (depth_of tree ≤ depth))

  -- the trees break off before the rest: some brackets are open there, none closes, and one opens
  -- only where it would go too deep
  abbrev pub EndsBefore : ℕ → Source T → Source T → Type 0
  EndsBefore depth whole rest = (n : ℕ) × ((front : Source T) × ((whole ≡ front ++ rest) × AreOpen (suc n) (text_of front)
      × (n ≤ depth) × ¬ (StartsWith 93 (text_of rest)) × (n < depth → ¬ (StartsWith 91 (text_of rest)))))

  -- the input ends while some brackets are open, or before the first opens
  abbrev pub IsBegun : ℕ → Source T → Type 0
  IsBegun depth whole = (n : ℕ) × ((n ≤ suc depth) × AreOpen n (text_of whole))

  -- the answer and what remains: a tree; or a backtrack, where no bracket opens, and nothing is
  -- taken; or a cut where an open bracket is not closed or one opens too deep; or more input is
  -- needed for what is begun; or memory was refused
  abbrev pub IsAnswer : {E : Type 0} → ℕ → Bool → Source T → Result Tree (Failure E Needed)
      → Source T → Type 0
  IsAnswer depth partial whole (Ok tree) rest = StandsAhead depth whole tree rest
  IsAnswer depth partial whole (Err (Backtrack e)) rest = ¬ (StartsWith 91 (text_of whole)) × (whole ≡ rest)
  IsAnswer depth partial whole (Err (Cut e)) rest = EndsBefore depth whole rest
  IsAnswer depth partial whole (Err (Incomplete n)) rest = (partial ≡ true) × IsBegun depth whole
  IsAnswer depth partial whole (Err (Refused e)) rest = ⊤

  -- the source does not begin with a tree of at most this depth
  abbrev pub HasNoTree : ℕ → Source T → Type 0
  HasNoTree depth whole = (tree : Tree) (rest : Source T) → ¬ (StandsAhead depth whole tree rest)

  -- where the reader fails, and memory was not refused, the source does not begin with a tree
  abbrev pub MissesNone : {E : Type 0} → ℕ → Source T → Result Tree (Failure E Needed) → Type 0
  MissesNone depth whole (Ok tree) = ⊤
  MissesNone depth whole (Err (Backtrack e)) = HasNoTree depth whole
  MissesNone depth whole (Err (Cut e)) = HasNoTree depth whole
  MissesNone depth whole (Err (Incomplete n)) = HasNoTree depth whole
  MissesNone depth whole (Err (Refused e)) = ⊤
