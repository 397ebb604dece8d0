-- What readers of scalars do, from what those of their bytes do.
use Rattle.std.proofs.Common.{◌≡◌, ℕ, Bool, List, [], length, ap, sym, ◌∙◌, subst, refl, arith}
use Rattle.std.specs.Prelude.{Vec, String, string_bytes, IsUtf8}
use Rattle.std.specs.declared.alloc.Global.{Global}
use Rattle.winnow_parser.specs.Outcome.{Ahead, Failed, Backtracks, Gives, Fails}
use Rattle.winnow_parser.specs.Parts.{Moves-still}
use Rattle.winnow_codec.specs.Formats.{Reads}
use Rattle.winnow_codec.specs.FormatTexts.{SpellsText}
use Rattle.winnow_codec.specs.WholeFormats.{SpellsRest}
use Rattle.winnow_codec.proofs.lemmas.Lists.{takes-none}
use Rattle.winnow_codec.proofs.lemmas.Reading.{none-has}
use Rattle.format_cbor.specs.Heads.{rank}
use Rattle.format_cbor.specs.Scalars.{head_of, body_of, IsSpelled, IsString, SpellsBody, SpellsPart}
use Rattle.format_cbor.specs.declared.head.Head.{Head}
use Rattle.format_cbor.specs.declared.head.Kind.TheVariants as kind
use Rattle.format_cbor.specs.declared.scalar.Scalar.{Scalar}
use Rattle.format_cbor.specs.declared.scalar.Scalar.TheVariants as scalar

-- a scalar whose head is that of no string is none
no-string : (s : Scalar) → ((head_of s).kind ≡ kind.Bytes → ⊥) → ((head_of s).kind ≡ kind.Text → ⊥)
    → IsString s → ⊥
no-string (scalar.Bytes v) held text i = held refl
no-string (scalar.Text v) held text i = text refl
no-string s held text i = i

module _ (longest : ℕ) (head : Head) where
  -- the bytes of a byte string are those of a part
  held-only : head.kind ≡ kind.Bytes
      → (s : Scalar) (bytes : List ℕ) → SpellsBody longest head s bytes
      → (v : Vec ℕ Global) × SpellsPart longest head.argument SpellsRest v bytes
  held-only is (scalar.Bytes v) bytes (h, l, e) =
      let counted : length v.items ≡ head.argument = sym (ap (λ x. x.argument) h) in
      (v, (omega (arith, l, counted), (v.items, (refl, (counted, e)))))
  held-only is s bytes (h, l, e) = absurd (omega (arith, ap rank is, ap (λ x. rank x.kind) h))

  -- the bytes of a text are those of a part
  text-only : head.kind ≡ kind.Text
      → (s : Scalar) (bytes : List ℕ) → SpellsBody longest head s bytes
      → (v : String Global) × SpellsPart longest head.argument SpellsText v bytes
  text-only is (scalar.Text v) bytes (h, l, e) =
      let counted : length (string_bytes v) ≡ head.argument = sym (ap (λ x. x.argument) h) in
      (v, (omega (arith, l.0, counted), (string_bytes v, ((l.1, refl), (counted, e)))))
  text-only is s bytes (h, l, e) = absurd (omega (arith, ap rank is, ap (λ x. rank x.kind) h))

  module _ (partial : Bool) (a : Ahead ℕ) where
    -- the bytes of a byte string are read
    pub held-given : (b : Ahead ℕ) (v : Vec ℕ Global) → head.kind ≡ kind.Bytes
        → Reads (SpellsPart longest head.argument SpellsRest) partial a (Gives v b)
        → Reads (SpellsBody longest head) partial a (Gives (scalar.Bytes v) b)
    held-given b v is (bytes, ((limit, (part, (whole, (counted, e)))), t)) =
        let number : head.argument ≡ length v.items = sym counted ∙ ap length whole in
        (bytes, (((λ i. record { kind = is i; argument = number i }), omega (arith, limit, number), e ∙ whole), t))

    -- the bytes of a byte string are not read
    pub held-unread : (f : Failed ℕ) → head.kind ≡ kind.Bytes
        → Reads (SpellsPart longest head.argument SpellsRest) partial a (Fails f)
        → Reads (SpellsBody longest head) partial a (Fails f)
    held-unread f is h = none-has (SpellsPart longest head.argument SpellsRest) (SpellsBody longest head) (held-only is) partial a f h

    -- the bytes of a text are read
    pub text-given : (b : Ahead ℕ) (v : String Global) → head.kind ≡ kind.Text
        → Reads (SpellsPart longest head.argument SpellsText) partial a (Gives v b)
        → Reads (SpellsBody longest head) partial a (Gives (scalar.Text v) b)
    text-given b v is (bytes, ((limit, (part, ((utf8, whole), (counted, e)))), t)) =
        let number : head.argument ≡ length (string_bytes v) = sym counted ∙ ap length whole in
        (bytes, (((λ i. record { kind = is i; argument = number i }), (omega (arith, limit, number), subst IsUtf8 whole utf8), e ∙ whole), t))

    -- the bytes of a text are not read
    pub text-unread : (f : Failed ℕ) → head.kind ≡ kind.Text
        → Reads (SpellsPart longest head.argument SpellsText) partial a (Fails f)
        → Reads (SpellsBody longest head) partial a (Fails f)
    text-unread f is h = none-has (SpellsPart longest head.argument SpellsText) (SpellsBody longest head) (text-only is) partial a f h

    -- a scalar that is no string is read of its head
    pub plain-given : (s : Scalar) → head ≡ head_of s → IsSpelled longest s → body_of s ≡ []
        → Reads (SpellsBody longest head) partial a (Gives s a)
    plain-given s h l e = ([], ((h, l, sym e), takes-none a))

    -- no scalar has a head that is that of no string, and of nothing else
    pub plain-none : ((s : Scalar) → head ≡ head_of s → IsSpelled longest s → IsString s)
        → (head.kind ≡ kind.Bytes → ⊥) → (head.kind ≡ kind.Text → ⊥)
        → Reads (SpellsBody longest head) partial a (Fails (Backtracks a))
    plain-none string held text = (
      Moves-still a a refl,
      λ s bytes more rest follows (h, l, e) whole.
          no-string s (λ k. held (ap (λ x. x.kind) h ∙ k)) (λ k. text (ap (λ x. x.kind) h ∙ k)) (string s h l),
    )
