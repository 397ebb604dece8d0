-- Scripts of steps of any kind, extended by one step.
use Rattle.std.proofs.Common.{◌≡◌, ◌<◌, List, [], ◌∷◌, ◌++◌, length, refl, ap, arith}
use Rattle.std.specs.List.{All, AllZip}
use Rattle.std.proofs.lemmas.List.Elements.{All-head, All-tail}
use Rattle.winnow_stream.specs.Cursor.{Cursor, cursor_after, answers_from}
use Rattle.winnow_script_run.specs.Script.{AreGiven}

-- the rest of a script after a step is shorter
pub later-shorter : {S : Type 0} (x : S) (xs ys : List S) → ys ≡ x ∷ xs → length xs < length ys
later-shorter x xs ys e = omega (arith, ap length e)

module _ {S : Type 0} (moves : S → Cursor → Cursor) where
  -- the cursor after a longer script is the one that its last step leaves
  pub cursor-append : (xs : List S) (x : S) (at : Cursor)
      → cursor_after moves (xs ++ x ∷ []) at ≡ moves x (cursor_after moves xs at)
  cursor-append [] x at = refl
  cursor-append (y ∷ xs) x at = cursor-append xs x (moves y at)

module _ {S G : Type 0} (IsGiven : S → Cursor → G → Type 0) (moves : S → Cursor → Cursor) where
  -- given answers stay given when a further step and its answer are appended
  pub AreGiven-append : (xs : List S) (at : Cursor) (gs : List G) (x : S) (g : G)
      → AreGiven IsGiven moves xs at gs → IsGiven x (cursor_after moves xs at) g
      → AreGiven IsGiven moves (xs ++ x ∷ []) at (gs ++ g ∷ [])
  AreGiven-append [] at [] x g h r = (r, tt)
  AreGiven-append [] at (b ∷ gs) x g h r = absurd h
  AreGiven-append (y ∷ xs) at [] x g h r = absurd h
  AreGiven-append (y ∷ xs) at (b ∷ gs) x g h r = (h.0, AreGiven-append xs (moves y at) gs x g h.1 r)

-- if each given answer stands for that of its step, the given answers stand for those of the script
module _ {S A G : Type 0} (IsGiven : S → Cursor → G → Type 0) (answer_at : S → Cursor → A) (moves : S → Cursor → Cursor) (For : A → G → Type 0) (Can : S → Type 0) (each : (s : S) (at : Cursor) (g : G) → Can s → IsGiven s at g → For (answer_at s at) g) where
  pub AreGiven-answers : (xs : List S) (at : Cursor) (gs : List G) → All Can xs
      → AreGiven IsGiven moves xs at gs → AllZip For (answers_from answer_at moves xs at) gs
  AreGiven-answers [] at [] c h = tt
  AreGiven-answers [] at (g ∷ gs) c h = absurd h
  AreGiven-answers (x ∷ xs) at [] c h = absurd h
  AreGiven-answers (x ∷ xs) at (g ∷ gs) c h = (each x at g (All-head Can x xs c) h.0, AreGiven-answers xs (moves x at) gs (All-tail Can x xs c) h.1)
