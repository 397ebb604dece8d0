-- Parts with a frame that tells their end, and values that fill them.
use Rattle.std.specs.declared.alloc.Global.{Global}
use Rattle.std.specs.Prelude.{Vec, ℕ, List}
use Rattle.std.proofs.Common.{sym, subst}
use Rattle.winnow_parser.specs.Outcome.{Gives, Fails, Meaning}
use Rattle.winnow_codec.specs.Formats.{Spelling, Reads, IsFormat, IsEqual}
use Rattle.winnow_codec.specs.WholeFormats.{IsWhole}

-- what a reader of a part may answer: the same as `Reads` of the list of a vector's bytes
abbrev pub ReadsPart : Spelling (List ℕ) → Meaning (Vec ℕ Global) ℕ
ReadsPart frames partial a (Gives v b) = Reads frames partial a (Gives v.items b)
ReadsPart frames partial a (Fails f) = Reads frames partial a (Fails f)

-- a part spells the value, and the bytes are the part with its frame
abbrev pub SpellsInside : {V : Type 0} → Spelling (List ℕ) → Spelling V → Spelling V
SpellsInside frames inner v bytes = (part : List ℕ) × (inner v part × frames part bytes)

pub IsFormat-Inside : {V : Type 0} (frames : Spelling (List ℕ)) → IsFormat IsEqual frames
    → (same : V → V → Type 0) (inner : Spelling V) → IsWhole same inner
    → IsFormat same (SpellsInside frames inner)
IsFormat-Inside frames g same inner f = record {
  canonical = λ v b c (p, (h, k)) (q, (i, j)).
      g.canonical p b c k (subst (λ x. frames x c) (sym (f.canonical v p q h i)) j);
  prefix_free = λ v w b c r s (p, (h, k)) (q, (i, j)) t.
      let free = g.prefix_free p q b c r s k j t in
      (f.one_value v w p h (subst (inner w) (sym free.0) i), free.1);
}
