-- A counted shortage under more input.
use Rattle.std.proofs.Common.{◌≡◌, ℕ, zero, suc, ◌-◌, ◌≤◌, ◌<◌, Bool, true, false, cond, ◌++◌, length, take, Ok, Err, refl, ap, ◌∙◌, sym, arith, length-append}
use Rattle.std.specs.Prelude.{nat_le, IsOk}
use Rattle.std.proofs.lemmas.Bool.{leb-false, lt-leb, le-leb}
use Rattle.winnow_stream.specs.declared.needed.Needed.{Needed}
use Rattle.winnow_stream.specs.declared.needed.Needed.TheVariants.{Unknown, Size}
use Rattle.winnow_stream.specs.Source.{Source, width}
use Rattle.winnow_stream.specs.Shortage.{needed, offset_at}

-- the number of tokens that a `Needed` names, and 0 where it is not known
abbrev pub number : Needed → ℕ
number Unknown = 0
number (Size n) = n.value

-- the need of k tokens names k
pub number-needed : (k : ℕ) → number (needed k) ≡ k
number-needed zero = refl
number-needed (suc k) = refl

-- a conditional that gives an error took its second branch
err-parts : (b : Bool) (w : ℕ) (a c : Needed) → cond b (Ok w) (Err a) ≡ Err c
    → (b ≡ false) × (a ≡ c)
err-parts true w a c h = absurd (cc)
err-parts false w a c h = (refl, cc)

module _ {T : Type 0} (r more : Source T) (n k : ℕ) (refused : offset_at true r n ≡ Err (needed k)) where
  -- a refusal for k tokens means that k tokens are missing
  missing : (length r < n) × (n - length r ≡ k)
  missing =
      let parts = err-parts (nat_le n (length r)) (width (take n r)) (needed (n - length r)) (needed k) refused in
      (leb-false n (length r) parts.0, sym (number-needed (n - length r)) ∙ ap number parts.1 ∙ number-needed k)

  -- with fewer than k tokens more, the rest of them is still missing
  pub refused-more : length more < k → offset_at true (r ++ more) n ≡ Err (needed (k - length more))
  refused-more l =
      let m = missing in
      let e = length-append r more in
      let not_all : nat_le n (length (r ++ more)) ≡ false = lt-leb n (length (r ++ more)) (omega (arith, m.0, m.1, e, l)) in
      rw not_all (ap (λ i. Err (needed i)) (omega (arith, m.0, m.1, e, l)))

  -- with k tokens more, the call answers
  pub answered-more : k ≤ length more → IsOk (offset_at true (r ++ more) n)
  answered-more l =
      let m = missing in
      let e = length-append r more in
      let all : nat_le n (length (r ++ more)) ≡ true = le-leb n (length (r ++ more)) (omega (arith, m.0, m.1, e, l)) in
      rw all refl
