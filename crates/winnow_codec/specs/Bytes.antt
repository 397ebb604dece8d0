-- Bytes that spell themselves.
use Rattle.std.specs.declared.alloc.Global.{Global}
use Rattle.std.specs.Prelude.{Vec, ◌≡◌, ℕ, ◌<◌, ◌≤◌, true, false, List, ◌++◌, length, take, ⊤}
use Rattle.std.proofs.Common.{ap, sym, ◌∙◌, subst}
use Rattle.std.proofs.Math.Seq.{take-append_seam}
use Rattle.winnow_parser.specs.Outcome.{Backtracks, Cuts, Needs, Refuses, Gives, Fails, Meaning}
use Rattle.winnow_codec.specs.Formats.{Spelling, Takes, IsFormat, IsEqual, IsFormat-Exact}
use Rattle.winnow_codec.specs.FormatParts.{SpellsParts, IsFormat-Parts}
use Rattle.winnow_codec.specs.FormatRows.{SpellsBoth, AreBothSame, IsFormat-Both}

-- this number of bytes spells itself
abbrev pub SpellsBytes : ℕ → Spelling (List ℕ)
SpellsBytes n v bytes = (length v ≡ n) × (bytes ≡ v)

-- lists of one length at the front of the same bytes are one
pub same-front : (b c r s : List ℕ) → length b ≡ length c → b ++ r ≡ c ++ s → b ≡ c
same-front b c r s k t =
    sym (take-append_seam b r) ∙ ap (take (length b)) t ∙ ap (λ i. take i (c ++ s)) k ∙ take-append_seam c s

pub IsFormat-Bytes : (n : ℕ) → IsFormat IsEqual (SpellsBytes n)
IsFormat-Bytes n = record {
  canonical = λ v b c h k. h.1 ∙ sym k.1;
  prefix_free = λ v w b c r s h k t.
      let e = same-front b c r s (ap length h.1 ∙ h.0 ∙ sym k.0 ∙ sym (ap length k.1)) t in
      (sym h.1 ∙ e ∙ k.1, e);
}

-- the next bytes, as many as this. If fewer remain, more are needed if more may follow, and if none
-- may, the reader backtracks from where it stands
abbrev pub TakesBytes : ℕ → Meaning (Vec ℕ Global) ℕ
TakesBytes n partial a (Gives v b) = (length v.items ≡ n) × Takes v.items a b
TakesBytes n partial a (Fails (Backtracks b)) = (length a.tokens < n) × (partial ≡ false) × (b ≡ a)
TakesBytes n partial a (Fails (Cuts b)) = ⊥
TakesBytes n partial a (Fails (Needs missing)) = (length a.tokens < n) × (partial ≡ true)
TakesBytes n partial a (Fails Refuses) = ⊤

-- how many bytes a vector has, and then the bytes
abbrev pub SpellsBytesAfter : Spelling ℕ → Spelling (Vec ℕ Global)
SpellsBytesAfter count = SpellsParts (λ v. (length v.items, v.items)) (SpellsBoth count SpellsBytes)

-- the vectors have the same bytes
abbrev pub HaveSameBytes : Vec ℕ Global → Vec ℕ Global → Type 0
HaveSameBytes v w = v.items ≡ w.items

pub IsFormat-BytesAfter : (alike : ℕ → ℕ → Type 0) (count : Spelling ℕ)
    → ((m n : ℕ) → alike m n → m ≡ n) → IsFormat alike count
    → IsFormat HaveSameBytes (SpellsBytesAfter count)
IsFormat-BytesAfter alike count exact f =
    let g = IsFormat-Parts (λ v. (length v.items, v.items)) (AreBothSame IsEqual IsEqual) (SpellsBoth count SpellsBytes)
    (IsFormat-Both IsEqual IsEqual count SpellsBytes (IsFormat-Exact alike count exact f) IsFormat-Bytes
    (λ m n v bytes e k. subst (λ i. SpellsBytes i v bytes) (sym e) k)) in
    record {
      canonical = g.canonical;
      prefix_free = λ v w b c r s h k t. let p = g.prefix_free v w b c r s h k t in (p.0.1, p.1);
    }

-- ---- Counts with a limit

-- a count of at most the limit
abbrev pub SpellsAtMost : ℕ → Spelling ℕ → Spelling ℕ
SpellsAtMost limit count n bytes = (n ≤ limit) × count n bytes

pub IsFormat-AtMost : (limit : ℕ) (same : ℕ → ℕ → Type 0) (count : Spelling ℕ) → IsFormat same count
    → IsFormat same (SpellsAtMost limit count)
IsFormat-AtMost limit same count f = record {
  canonical = λ v b c h k. f.canonical v b c h.1 k.1;
  prefix_free = λ v w b c r s h k t. f.prefix_free v w b c r s h.1 k.1 t;
}
