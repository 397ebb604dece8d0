-- The bytes of numbers that were read.
use Rattle.std.proofs.Common.{◌≡◌, ℕ, suc, zero, ◌<◌, List, [], ◌∷◌, take, drop, get_or, ap, sym, ◌∙◌, subst, refl, arith}
use Rattle.std.specs.Int.{w16, w32, w64, from_be_bytes, from_le_bytes}
use Rattle.std.proofs.lemmas.Nat.{be_bytes_2, be_bytes_4, be_bytes_8, le_bytes_2, le_bytes_4, le_bytes_8}
use Rattle.winnow_parser.specs.Outcome.{Ahead}
use Rattle.winnow_codec.specs.Formats.{Takes}
use Rattle.winnow_codec.specs.FormatNumbers.{bytes_in, big_endian, little_endian}
use Rattle.winnow_codec.specs.declared.widths.Width.{Width}

-- the bytes of a number of this width were taken
pub takes-number : (order : ℕ → ℕ → List ℕ) (width w : Width) (n : ℕ) (bytes : List ℕ)
    (a b : Ahead ℕ) → width ≡ w
    → bytes ≡ order (bytes_in w) n → Takes bytes a b → Takes (order (bytes_in width) n) a b
takes-number order width w n bytes a b is e t =
    subst (λ l. Takes l a b) (e ∙ ap (λ v. order (bytes_in v) n) (sym is)) t

-- each of a few bytes is below 256
small-2 : (a b : ℕ) → a < 256 → b < 256 → (i : ℕ) → get_or (a ∷ b ∷ []) i 0 < 256
small-2 a b pa pb zero = pa
small-2 a b pa pb (suc zero) = pb
small-2 a b pa pb (suc (suc i)) = omega arith

small-4 : (a b c d : ℕ) → a < 256 → b < 256 → c < 256 → d < 256 → (i : ℕ) → get_or
    (a ∷ b ∷ c ∷ d ∷ []) i 0 < 256
small-4 a b c d pa pb pc pd zero = pa
small-4 a b c d pa pb pc pd (suc zero) = pb
small-4 a b c d pa pb pc pd (suc (suc zero)) = pc
small-4 a b c d pa pb pc pd (suc (suc (suc zero))) = pd
small-4 a b c d pa pb pc pd (suc (suc (suc (suc i)))) = omega arith

small-8 : (a b c d e f g h : ℕ) → a < 256 → b < 256 → c < 256 → d < 256 → e < 256 → f < 256
    → g < 256 → h < 256 → (i : ℕ) → get_or (a ∷ b ∷ c ∷ d ∷ e ∷ f ∷ g ∷ h ∷ []) i 0 < 256
small-8 a b c d e f g h pa pb pc pd pe pf pg ph zero = pa
small-8 a b c d e f g h pa pb pc pd pe pf pg ph (suc zero) = pb
small-8 a b c d e f g h pa pb pc pd pe pf pg ph (suc (suc zero)) = pc
small-8 a b c d e f g h pa pb pc pd pe pf pg ph (suc (suc (suc zero))) = pd
small-8 a b c d e f g h pa pb pc pd pe pf pg ph (suc (suc (suc (suc zero)))) = pe
small-8 a b c d e f g h pa pb pc pd pe pf pg ph (suc (suc (suc (suc (suc zero))))) = pf
small-8 a b c d e f g h pa pb pc pd pe pf pg ph (suc (suc (suc (suc (suc (suc zero)))))) = pg
small-8 a b c d e f g h pa pb pc pd pe pf pg ph (suc (suc (suc (suc (suc (suc (suc zero))))))) = ph
small-8 a b c d e f g h pa pb pc pd pe pf pg ph (suc (suc (suc (suc (suc (suc (suc (suc i)))))))) = omega arith

-- one byte is the number, in either order
pub big-1 : (a n : ℕ) → a < 256 → n ≡ a → a ∷ [] ≡ big_endian 1 n
big-1 a n p e = ap (λ m. m ∷ []) (omega (arith, p, e))

pub little-1 : (a n : ℕ) → a < 256 → n ≡ a → a ∷ [] ≡ little_endian 1 n
little-1 a n p e = ap (λ m. m ∷ []) (omega (arith, p, e))

-- the bytes from which a number was made are its bytes
pub big-2 : (a b n : ℕ) → a < 256 → b < 256 → n ≡ from_be_bytes w16 (a ∷ b ∷ [])
    → a ∷ b ∷ [] ≡ big_endian 2 n
big-2 a b n pa pb is = sym (be_bytes_2 (a ∷ b ∷ []) n refl (small-2 a b pa pb) is)

pub big-3 : (a b c n : ℕ) → a < 256 → b < 256 → c < 256 → n ≡ from_be_bytes w32 (0 ∷ a ∷ b ∷ c ∷ [])
    → a ∷ b ∷ c ∷ [] ≡ big_endian 3 n
big-3 a b c n pa pb pc is = sym (ap (drop 1) (be_bytes_4 (0 ∷ a ∷ b ∷ c ∷ []) n refl (small-4 0 a b c (omega arith) pa pb pc) is))

pub big-4 : (a b c d n : ℕ) → a < 256 → b < 256 → c < 256 → d < 256 → n ≡ from_be_bytes w32
    (a ∷ b ∷ c ∷ d ∷ [])
    → a ∷ b ∷ c ∷ d ∷ [] ≡ big_endian 4 n
big-4 a b c d n pa pb pc pd is = sym (be_bytes_4 (a ∷ b ∷ c ∷ d ∷ []) n refl (small-4 a b c d pa pb pc pd) is)

pub big-8 : (a b c d e f g h n : ℕ) → a < 256 → b < 256 → c < 256 → d < 256 → e < 256 → f < 256
    → g < 256 → h < 256 → n ≡ from_be_bytes w64 (a ∷ b ∷ c ∷ d ∷ e ∷ f ∷ g ∷ h ∷ [])
    → a ∷ b ∷ c ∷ d ∷ e ∷ f ∷ g ∷ h ∷ [] ≡ big_endian 8 n
big-8 a b c d e f g h n pa pb pc pd pe pf pg ph is = sym (be_bytes_8 (a ∷ b ∷ c ∷ d ∷ e ∷ f ∷ g ∷ h ∷ []) n refl (small-8 a b c d e f g h pa pb pc pd pe pf pg ph) is)

pub little-2 : (a b n : ℕ) → a < 256 → b < 256 → n ≡ from_le_bytes w16 (a ∷ b ∷ [])
    → a ∷ b ∷ [] ≡ little_endian 2 n
little-2 a b n pa pb is = sym (le_bytes_2 (a ∷ b ∷ []) n refl (small-2 a b pa pb) is)

pub little-3 : (a b c n : ℕ) → a < 256 → b < 256 → c < 256 → n ≡ from_le_bytes w32
    (a ∷ b ∷ c ∷ 0 ∷ [])
    → a ∷ b ∷ c ∷ [] ≡ little_endian 3 n
little-3 a b c n pa pb pc is = sym (ap (take 3) (le_bytes_4 (a ∷ b ∷ c ∷ 0 ∷ []) n refl (small-4 a b c 0 pa pb pc (omega arith)) is))

pub little-4 : (a b c d n : ℕ) → a < 256 → b < 256 → c < 256 → d < 256 → n ≡ from_le_bytes w32
    (a ∷ b ∷ c ∷ d ∷ [])
    → a ∷ b ∷ c ∷ d ∷ [] ≡ little_endian 4 n
little-4 a b c d n pa pb pc pd is = sym (le_bytes_4 (a ∷ b ∷ c ∷ d ∷ []) n refl (small-4 a b c d pa pb pc pd) is)

pub little-8 : (a b c d e f g h n : ℕ) → a < 256 → b < 256 → c < 256 → d < 256 → e < 256 → f < 256
    → g < 256 → h < 256 → n ≡ from_le_bytes w64 (a ∷ b ∷ c ∷ d ∷ e ∷ f ∷ g ∷ h ∷ [])
    → a ∷ b ∷ c ∷ d ∷ e ∷ f ∷ g ∷ h ∷ [] ≡ little_endian 8 n
little-8 a b c d e f g h n pa pb pc pd pe pf pg ph is = sym (le_bytes_8 (a ∷ b ∷ c ∷ d ∷ e ∷ f ∷ g ∷ h ∷ []) n refl (small-8 a b c d e f g h pa pb pc pd pe pf pg ph) is)
