-- Parts that are there, or are not.
use Rattle.std.specs.Prelude.{◌≡◌, ℕ, Bool, true, false, List, [], ◌++◌, Option, Some, None, is_some, ⊤}
use Rattle.std.proofs.Common.{sym, ◌∙◌, refl}
use Rattle.winnow_codec.specs.Formats.{Spelling, IsFormat}
use Rattle.winnow_codec.specs.Cases.{AreCases}

-- the byte of a flag
abbrev pub flag_byte : Bool → ℕ
flag_byte false = 0
flag_byte true = 1

-- flags of the same byte are one
pub flag-tells : (a b : Bool) → flag_byte a ≡ flag_byte b → a ≡ b
flag-tells false false e = refl
flag-tells false true e = absurd (cc)
flag-tells true false e = absurd (cc)
flag-tells true true e = refl

-- the part, if it is there; no bytes if it is not
abbrev pub SpellsPresent : {V : Type 0} → Spelling V → Bool → Spelling (Option V)
SpellsPresent inner true (Some v) bytes = inner v bytes
SpellsPresent inner true None bytes = ⊥
SpellsPresent inner false (Some v) bytes = ⊥
SpellsPresent inner false None bytes = bytes ≡ []

-- both parts are there and the same, or neither is there
abbrev pub AreSamePresent : {V : Type 0} → (V → V → Type 0) → Option V → Option V → Type 0
AreSamePresent same (Some v) (Some w) = same v w
AreSamePresent same (Some v) None = ⊥
AreSamePresent same None (Some w) = ⊥
AreSamePresent same None None = ⊤

module _ {V : Type 0} (same : V → V → Type 0) (inner : Spelling V) (f : IsFormat same inner) where
  present-canonical : (present : Bool) (v : Option V) (b c : List ℕ)
      → SpellsPresent inner present v b → SpellsPresent inner present v c → b ≡ c
  present-canonical true (Some v) b c h k = f.canonical v b c h k
  present-canonical true None b c h k = absurd h
  present-canonical false (Some v) b c h k = absurd h
  present-canonical false None b c h k = h ∙ sym k

  present-prefix_free : (present : Bool) (v w : Option V) (b c r s : List ℕ)
      → SpellsPresent inner present v b → SpellsPresent inner present w c → b ++ r ≡ c ++ s
      → AreSamePresent same v w × (b ≡ c)
  present-prefix_free true (Some v) (Some w) b c r s h k e = f.prefix_free v w b c r s h k e
  present-prefix_free true (Some v) None b c r s h k e = absurd k
  present-prefix_free true None w b c r s h k e = absurd h
  present-prefix_free false (Some v) w b c r s h k e = absurd h
  present-prefix_free false None (Some w) b c r s h k e = absurd k
  present-prefix_free false None None b c r s h k e = (tt, h ∙ sym k)

  pub IsFormat-Present : (present : Bool)
      → IsFormat (AreSamePresent same) (SpellsPresent inner present)
  IsFormat-Present present =
      record { canonical = present-canonical present; prefix_free = present-prefix_free present }

  present-flag : (present : Bool) (v : Option V) (b : List ℕ) → SpellsPresent inner present v b
      → present ≡ is_some v
  present-flag true (Some v) b h = refl
  present-flag true None b h = absurd h
  present-flag false (Some v) b h = absurd h
  present-flag false None b h = refl

  pub AreCases-Present : AreCases (AreSamePresent same) is_some (SpellsPresent inner)
  AreCases-Present = record { formats = IsFormat-Present; one_tag = present-flag }
