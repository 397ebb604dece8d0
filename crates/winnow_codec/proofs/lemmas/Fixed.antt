-- Values that a fixed number of bytes spells.
use Rattle.std.proofs.Common.{◌≡◌, ℕ, ◌<◌, Bool, true, false, Result, Ok, Err, List, [], ◌++◌, length, inl, inr, ap, sym, subst, refl, arith, length-append}
use Rattle.std.proofs.lemmas.Bool.Decides.{leb_tells}
use Rattle.std.proofs.lemmas.List.{length-map}
use Rattle.winnow_stream.specs.Source.{Source}
use Rattle.winnow_stream.specs.Shortage.{offset_at}
use Rattle.winnow_stream.specs.declared.needed.Needed.{Needed}
use Rattle.winnow_parser.specs.Outcome.{Ahead, Backtracks, Needs, Fails}
use Rattle.winnow_parser.specs.Parts.{Moves-still}
use Rattle.winnow_codec.specs.Formats.{bytes_of, Spelling, SpellsNone, Reads}

-- an offset is no shortage
ok-err : {w : ℕ} {missing : Needed} → ◌≡◌ {A = Result ℕ Needed} (Ok w) (Err missing) → ⊥
ok-err e = cc

-- fewer tokens remain than an offset was asked of
pub offset-short : (counts_shortage : Bool) (r : Source ℕ) (n : ℕ) (missing : Needed)
    → offset_at counts_shortage r n ≡ Err missing → length r < n
offset-short counts_shortage r n missing e =
    elim (leb_tells n (length r)) [
      | inl fits ↦ absurd (ok-err (rw fits.0 at e))
      | inr short ↦ omega (arith, short.1)
    ]

module _ {V : Type 0} (spells : Spelling V) (n : ℕ) (counted : (v : V) (bytes : List ℕ) → spells v bytes → length bytes ≡ n) where
  -- none is spelled where fewer bytes remain and none follow
  none-short : (r : Source ℕ) → length r < n → SpellsNone spells false (bytes_of r)
  none-short r short v bytes more rest follows s whole =
      let none : more ≡ [] = follows refl in
      let sum : length (bytes_of r ++ more) ≡ length (bytes ++ rest) = ap length whole in
      absurd (omega (arith, short, sum, counted v bytes s, length-append (bytes_of r) more, length-append bytes rest, length-map r (λ x. x.0), ap length none))

  -- where fewer bytes remain and more may follow, more are needed
  pub short-needs : (partial : Bool) (a : Ahead ℕ) (missing : Needed) → partial ≡ true
      → length a.tokens < n
      → Reads spells partial a (Fails (Needs missing))
  short-needs partial a missing p short = (p, none-short a.tokens short)

  -- where fewer bytes remain and none follow, the reader backtracks
  pub short-backtracks : (partial : Bool) (a : Ahead ℕ) → partial ≡ false → length a.tokens < n
      → Reads spells partial a (Fails (Backtracks a))
  short-backtracks partial a p short =
      (Moves-still a a refl, subst (λ b. SpellsNone spells b (bytes_of a.tokens)) (sym p) (none-short a.tokens short))
