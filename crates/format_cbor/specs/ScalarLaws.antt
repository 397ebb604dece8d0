-- A scalar has one spelling, and no spelling of a scalar is the front of another's.
use Rattle.std.specs.Prelude.{◌≡◌, ℕ, List, length, ◌++◌}
use Rattle.std.proofs.Common.{ap, sym, ◌∙◌, refl}
use Rattle.winnow_codec.specs.Bytes.{same-front}
use Rattle.winnow_codec.specs.Cases.{AreCases}
use Rattle.format_cbor.specs.Scalars.{head_of, body_of, SpellsBody, AreSameScalar}
use Rattle.format_cbor.specs.declared.head.Head.{Head}
use Rattle.format_cbor.specs.declared.head.Kind.{Kind}
use Rattle.format_cbor.specs.declared.head.Kind.TheVariants as kind
use Rattle.format_cbor.specs.declared.scalar.Scalar.{Scalar}
use Rattle.format_cbor.specs.declared.scalar.Scalar.TheVariants as scalar

-- how many bytes a head says that a string has
string_length : Kind → ℕ → ℕ
string_length kind.Bytes n = n
string_length kind.Text n = n
string_length k n = 0

-- a scalar has as many bytes as its head says
body-counted : (s : Scalar)
    → length (body_of s) ≡ string_length (head_of s).kind (head_of s).argument
unfolding string_length
body-counted (scalar.Bytes held) = refl
body-counted (scalar.Text text) = refl
body-counted s = refl

-- scalars with one head have as many bytes
same-length : (v w : Scalar) → head_of v ≡ head_of w → length (body_of v) ≡ length (body_of w)
same-length v w e = body-counted v ∙ ap (λ h. string_length h.kind h.argument) e ∙ sym (body-counted w)

pub body-prefix_free : (longest : ℕ) (head : Head) (v w : Scalar) (b c r s : List ℕ)
    → SpellsBody longest head v b → SpellsBody longest head w c → b ++ r ≡ c ++ s
    → AreSameScalar v w × (b ≡ c)
body-prefix_free longest head v w b c r s h k e =
    let heads : head_of v ≡ head_of w = sym h.0 ∙ k.0 in
    let front = same-front b c r s (ap length h.2 ∙ same-length v w heads ∙ sym (ap length k.2)) e in
    ((heads, sym h.2 ∙ front ∙ k.2), front)

-- what follows each head is a format, and a scalar has one head
pub AreCases-Body : (longest : ℕ) → AreCases AreSameScalar head_of (SpellsBody longest)
AreCases-Body longest = record {
  formats = λ head. record {
    canonical = λ v b c h k. h.2 ∙ sym k.2;
    prefix_free = body-prefix_free longest head;
  };
  one_tag = λ head v b h. h.0;
}
