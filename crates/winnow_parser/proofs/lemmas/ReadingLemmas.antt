-- Slices that a view does not tell apart read as one value.
use Rattle.std.proofs.Common.{◌≡◌, Option, None, Some, refl, sym}
use Rattle.std.proofs.lemmas.Option.{none-some, same_Some}
use Rattle.winnow_count.specs.Reading.{IsSomeExactly, ReadsAlike}
use Rattle.winnow_parser.specs.Determined.{Shows, AreSameIfAny}

-- readings of slices of which the view shows the same
module _ {S R V : Type 0} (view : S → V) (reads : S → R → Type 0) (alike : ReadsAlike view reads) where
  -- slices of which the view shows the same read as one value, or both as none
  pub one-value : (s t : S) (o p : Option R) → Shows view s t → IsSomeExactly (reads s) o
      → IsSomeExactly (reads t) p → AreSameIfAny ◌≡◌ o p
  one-value s t (Some x) (Some y) e h k = sym (same_Some _ _ ((k x).1 (alike s t x e ((h x).0 refl))))
  one-value s t (Some x) None e h k = absurd (none-some _ ((k x).1 (alike s t x e ((h x).0 refl))))
  one-value s t None (Some y) e h k = absurd (none-some _ ((h y).1 (alike t s y (sym e) ((k y).0 refl))))
  one-value s t None None e h k = tt
