-- A head has one spelling, and no spelling of a head is the front of another's.
use Rattle.std.specs.Prelude.{◌≡◌, ℕ, ◌<◌, ◌==◌, if◌then◌else◌}
use Rattle.std.proofs.Common.{ap, sym, ◌∙◌, subst, refl, arith}
use Rattle.winnow_codec.specs.Formats.{IsFormat, IsEqual}
use Rattle.winnow_codec.specs.Byte.{SpellsByte, IsFormat-Byte}
use Rattle.winnow_codec.specs.FormatRows.{AreBothSame, IsFormat-Both}
use Rattle.format_cbor.specs.Arguments.{argument_after, SpellsArgument, IsFormat-Argument}
use Rattle.format_cbor.specs.Heads.{rank, rank_in, information, initial_of, SpellsInitial, SpellsHead}
use Rattle.format_cbor.specs.declared.head.Head.{Head}
use Rattle.format_cbor.specs.declared.head.Kind.{Kind}
use Rattle.format_cbor.specs.declared.head.Kind.TheVariants.{Unsigned, Negative, Bytes, Text, Array, Map, Tag, Simple, Half, Single, Double}

-- the additional information of a head is below 28
pub information-small : (n : ℕ) → information n < 28
information-small n = grind arith

-- the kind at a place in the list of kinds
kind_at : ℕ → Kind
kind_at n = if n == 0 then Unsigned else if n == 1 then Negative else if n == 2 then Bytes
    else if n == 3 then Text else if n == 4 then Array else if n == 5 then Map
    else if n == 6 then Tag else if n == 7 then Simple else if n == 8 then Half
    else if n == 9 then Single else Double

kind_at-rank : (k : Kind) → kind_at (rank k) ≡ k
unfolding kind_at
kind_at-rank Unsigned = refl
kind_at-rank Negative = refl
kind_at-rank Bytes = refl
kind_at-rank Text = refl
kind_at-rank Array = refl
kind_at-rank Map = refl
kind_at-rank Tag = refl
kind_at-rank Simple = refl
kind_at-rank Half = refl
kind_at-rank Single = refl
kind_at-rank Double = refl

-- no two kinds have one place
pub rank-tells : (k l : Kind) → rank k ≡ rank l → k ≡ l
rank-tells k l e = sym (kind_at-rank k) ∙ ap kind_at e ∙ kind_at-rank l

-- the initial byte of a head says its kind
pub initial-rank : (k : Kind) (n : ℕ) → rank_in (initial_of k n) ≡ rank k
initial-rank Unsigned n = omega (arith, information-small n)
initial-rank Negative n = omega (arith, information-small n)
initial-rank Bytes n = omega (arith, information-small n)
initial-rank Text n = omega (arith, information-small n)
initial-rank Array n = omega (arith, information-small n)
initial-rank Map n = omega (arith, information-small n)
initial-rank Tag n = omega (arith, information-small n)
initial-rank Simple n = grind arith
initial-rank Half n = refl
initial-rank Single n = refl
initial-rank Double n = refl

-- kinds whose heads have the same initial byte are one
pub initial-tells : (k l : Kind) (m n : ℕ) → initial_of k m ≡ initial_of l n → k ≡ l
initial-tells k l m n e = rank-tells k l (sym (initial-rank k m) ∙ ap rank_in e ∙ initial-rank l n)

-- the initial byte and its argument keep the laws of a format
pub IsFormat-Initial : IsFormat (AreBothSame IsEqual IsEqual) SpellsInitial
IsFormat-Initial =
    IsFormat-Both IsEqual IsEqual SpellsByte (λ first. SpellsArgument (argument_after first)) IsFormat-Byte
    (λ first. IsFormat-Argument (argument_after first))
    (λ v x w bytes e s. subst (λ u. SpellsArgument (argument_after u) w bytes) (sym e) s)

-- heads with the same initial byte and the same argument are one
pub head-tells : (h k : Head) → initial_of h.kind h.argument ≡ initial_of k.kind k.argument
    → h.argument ≡ k.argument → h ≡ k
head-tells h k e f =
    let same : h.kind ≡ k.kind = initial-tells h.kind k.kind h.argument k.argument e in
    λ i. record { kind = same i; argument = f i }

pub IsFormat-Head : IsFormat IsEqual SpellsHead
IsFormat-Head = record {
  canonical = λ v b c h k. IsFormat-Initial.canonical (initial_of v.kind v.argument, v.argument) b c h.1 k.1;
  prefix_free = λ v w b c r s h k e.
      let p = IsFormat-Initial.prefix_free (initial_of v.kind v.argument, v.argument) (initial_of w.kind w.argument, w.argument) b c r s h.1 k.1 e in
      (head-tells v w p.0.0 p.0.1, p.1);
}
