-- Facts that the laws of `ErrMode` cite.
use Rattle.std.specs.Prelude.{◌≡◌, refl}
use Rattle.std.proofs.Common.{ap}
use Rattle.winnow_error.specs.declared.mode.ErrMode.TheVariants.{Incomplete, Backtrack, Cut}
use Rattle.winnow_error.specs.Mode.{Mode, mode_cut, mode_backtrack, mode_joined, ModeOr}

-- a second `cut` or `backtrack` changes nothing
pub mode_cut-cut : {E : Type 0} (e : Mode E) → mode_cut (mode_cut e) ≡ mode_cut e
mode_cut-cut (Incomplete n) = refl
mode_cut-cut (Backtrack e) = refl
mode_cut-cut (Cut e) = refl

pub mode_backtrack-backtrack : {E : Type 0} (e : Mode E)
    → mode_backtrack (mode_backtrack e) ≡ mode_backtrack e
mode_backtrack-backtrack (Incomplete n) = refl
mode_backtrack-backtrack (Backtrack e) = refl
mode_backtrack-backtrack (Cut e) = refl

-- if the inner `or` is a function, so is the `or` of modes
pub ModeOr-joined : {E : Type 0} (gives : E → E → E → Type 0) (join : E → E → E)
    → ((a b r : E) → gives a b r → r ≡ join a b) → (a b r : Mode E) → ModeOr gives a b r
    → r ≡ mode_joined join a b
ModeOr-joined gives join h (Backtrack a) (Backtrack b) (Backtrack r) w = ap Backtrack (h a b r w)
ModeOr-joined gives join h (Backtrack a) (Backtrack b) (Incomplete n) w = absurd w
ModeOr-joined gives join h (Backtrack a) (Backtrack b) (Cut r) w = absurd w
ModeOr-joined gives join h (Backtrack a) (Incomplete n) r w = w
ModeOr-joined gives join h (Backtrack a) (Cut b) r w = w
ModeOr-joined gives join h (Incomplete n) b r w = w
ModeOr-joined gives join h (Cut a) (Incomplete n) r w = w
ModeOr-joined gives join h (Cut a) (Backtrack b) r w = w
ModeOr-joined gives join h (Cut a) (Cut b) r w = w

-- the `or` of modes is associative if the inner one is
pub mode_joined-associative : {E : Type 0} (join : E → E → E)
    → ((a b c : E) → join (join a b) c ≡ join a (join b c)) → (a b c : Mode E)
    → mode_joined join (mode_joined join a b) c ≡ mode_joined join a (mode_joined join b c)
mode_joined-associative join h (Backtrack a) (Backtrack b) (Backtrack c) = ap Backtrack (h a b c)
mode_joined-associative join h (Backtrack a) (Backtrack b) (Incomplete n) = refl
mode_joined-associative join h (Backtrack a) (Backtrack b) (Cut c) = refl
mode_joined-associative join h (Backtrack a) (Incomplete n) c = refl
mode_joined-associative join h (Backtrack a) (Cut b) (Backtrack c) = refl
mode_joined-associative join h (Backtrack a) (Cut b) (Incomplete n) = refl
mode_joined-associative join h (Backtrack a) (Cut b) (Cut c) = refl
mode_joined-associative join h (Incomplete n) b c = refl
mode_joined-associative join h (Cut a) (Backtrack b) (Backtrack c) = refl
mode_joined-associative join h (Cut a) (Backtrack b) (Incomplete n) = refl
mode_joined-associative join h (Cut a) (Backtrack b) (Cut c) = refl
mode_joined-associative join h (Cut a) (Incomplete n) c = refl
mode_joined-associative join h (Cut a) (Cut b) (Backtrack c) = refl
mode_joined-associative join h (Cut a) (Cut b) (Incomplete n) = refl
mode_joined-associative join h (Cut a) (Cut b) (Cut c) = refl
