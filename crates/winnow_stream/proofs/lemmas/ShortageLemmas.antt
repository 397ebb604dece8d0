-- The offset after a number of tokens, by cases of what the code found.
use Rattle.std.proofs.Common.{◌≡◌, ℕ, zero, suc, ◌-◌, ◌≤◌, ◌<◌, Bool, true, false, length, take, Ok, Err, arith, ap, subst, refl}
use Rattle.std.specs.Prelude.{nat_le}
use Rattle.std.proofs.Math.Bridge.{le_prop}
use Rattle.std.proofs.lemmas.Bool.Decides.{nat_tests}
use Rattle.std.specs.Int.NonZero.{non_zero_usize_get}
use Rattle.std.specs.declared.num.NonZeroUsize.{NonZeroUsize}
use Rattle.winnow_stream.specs.declared.needed.Needed.TheVariants.{Unknown, Size}
use Rattle.winnow_stream.specs.Source.{Source, width}
use Rattle.winnow_stream.specs.Shortage.{positive, needed, offset_at}

-- two sizes with the same number are equal
pub same_size : (a b : NonZeroUsize) → non_zero_usize_get a ≡ non_zero_usize_get b → a ≡ b
same_size a b e =
    let P : ℕ → Type 0 = λ v. (h : 0 < v) → ◌≡◌ {A = NonZeroUsize} a (record { value = v; ok = h }) in
    subst P e (λ h. ap (λ (k : 0 < a.value). let n : NonZeroUsize = record { value = a.value; ok = k } in n) (le_prop a.ok h)) b.ok

-- a size is the need of its number
pub Size-needed : (k : ℕ) (n : NonZeroUsize) → non_zero_usize_get n ≡ k → Size n ≡ needed k
Size-needed zero n e = absurd (omega (arith, n.ok, e))
Size-needed (suc k) n e = ap Size (same_size n (record { value = suc k; ok = positive k }) e)

module _ {T : Type 0} (r : Source T) (n : ℕ) where
  -- a shortage that is counted is what `offset_at` says
  pub offset_at-short : (missing : NonZeroUsize) → non_zero_usize_get missing ≡ n - length r
      → Err (Size missing) ≡ offset_at true r n
  offset_at-short missing e =
      let short : length r < n = omega (arith, missing.ok, e) in
      let not_all : nat_le n (length r) ≡ false = grind (arith, nat_tests) in
      rw not_all (ap Err (Size-needed (n - length r) missing e))

  -- enough tokens: the width of the first n is the offset
  pub offset_at-fits : (counts_shortage : Bool) (w : ℕ) → n ≤ length r → w ≡ width (take n r)
      → Ok w ≡ offset_at counts_shortage r n
  offset_at-fits counts_shortage w h e =
      let all : nat_le n (length r) ≡ true = grind (arith, nat_tests) in
      rw all (ap Ok e)

  -- a shortage that is not counted is `Unknown`
  pub offset_at-silent : length r < n → Err Unknown ≡ offset_at false r n
  offset_at-silent h =
      let not_all : nat_le n (length r) ≡ false = grind (arith, nat_tests) in
      rw not_all refl
