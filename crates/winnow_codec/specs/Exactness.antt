-- Values of parts that are the same only where they are equal.
use Rattle.std.specs.Prelude.{◌≡◌}
use Rattle.std.proofs.Common.{refl}
use Rattle.winnow_codec.specs.Formats.{IsExact}
use Rattle.winnow_codec.specs.FormatParts.{HaveSameParts}
use Rattle.winnow_codec.specs.FormatRows.{AreBothSame, AreSame3}
use Rattle.winnow_codec.specs.Known.{IsNothing}

-- values with the same parts are equal
abbrev pub TellsByParts : {S V : Type 0} → (S → V) → Type 0
TellsByParts {S} parts = (s t : S) → parts s ≡ parts t → s ≡ t

pub IsExact-Parts : {S V : Type 0} (parts : S → V) (same : V → V → Type 0) → TellsByParts parts
    → IsExact same → IsExact (HaveSameParts parts same)
IsExact-Parts parts same tells f s t h = tells s t (f (parts s) (parts t) h)

pub IsExact-Both : {V W : Type 0} (same : V → V → Type 0) (alike : W → W → Type 0)
    → IsExact same → IsExact alike → IsExact (AreBothSame same alike)
IsExact-Both same alike f g p q h = λ i. (f p.0 q.0 h.0 i, g p.1 q.1 h.1 i)

pub IsExact-Row3 : {T1 T2 T3 : Type 0} (sa : T1 → T1 → Type 0) (sb : T2 → T2 → Type 0)
    (sc : T3 → T3 → Type 0)
    → IsExact sa → IsExact sb → IsExact sc → IsExact (AreSame3 sa sb sc)
IsExact-Row3 sa sb sc f g k p q h = λ i. (f p.0 q.0 h.0 i, g p.1 q.1 h.1.0 i, k p.2 q.2 h.1.1 i)

pub IsExact-Nothing : IsExact IsNothing
IsExact-Nothing v w h = refl
