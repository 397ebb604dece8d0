-- Names as a message spells them (RFC 1035, section 4.1.4).
use Rattle.std.specs.declared.alloc.Global.{Global}
use Rattle.std.specs.Prelude.{Vec, ◌≡◌, ℕ, ◌≤◌, List, [], ◌∷◌, ◌++◌, map, length}
use Rattle.std.proofs.Common.{ap, sym, ◌∙◌, append_assoc}
use Rattle.std.proofs.lemmas.List.{append_cancel_left}
use Rattle.winnow_codec.specs.Formats.{Spelling, IsFormat, IsEqual}
use Rattle.winnow_codec.specs.Byte.{SpellsByte, IsFormat-Byte}
use Rattle.winnow_codec.specs.Cases.{IsFormat-Tagged}
use Rattle.winnow_codec.specs.Lists.{SpellsEach, AreSameEach, each-canonical}
use Rattle.winnow_codec.specs.declared.choice.Choice.{Choice}
use Rattle.winnow_codec.specs.declared.choice.Choice.TheVariants.{First, Other}
use Rattle.format_dns.specs.Parts.{SpellsAfter, first_of, AreSamePart, SpellsPart, AreCases-After}
use Rattle.format_dns.specs.declared.name.Ending.{Ending}
use Rattle.format_dns.specs.declared.name.Name.{Name}

-- labels, and what ends them
abbrev pub ended : List (Vec ℕ Global) → Ending → List (Choice (Vec ℕ Global) Ending)
ended labels ending = map First labels ++ Other ending ∷ []

-- the parts of a name
abbrev pub parts_of : Name → List (Choice (Vec ℕ Global) Ending)
parts_of name = ended name.labels.items name.ending

-- a label, and labels one after the other
abbrev pub SpellsLabel : Spelling (Vec ℕ Global)
SpellsLabel label bytes = SpellsPart (First label) bytes

abbrev pub SpellsLabels : Spelling (List (Vec ℕ Global))
SpellsLabels = SpellsEach SpellsLabel

-- the parts of a name, one after the other, with at most 127 labels
abbrev pub SpellsName : Spelling Name
SpellsName name bytes = (length name.labels.items ≤ 127) × SpellsEach SpellsPart (parts_of name) bytes

-- names of the same labels, and of one ending
abbrev pub AreSameName : Name → Name → Type 0
AreSameName v w = AreSameEach AreSamePart (parts_of v) (parts_of w)

pub IsFormat-Part : IsFormat AreSamePart SpellsPart
IsFormat-Part =
    IsFormat-Tagged IsEqual SpellsByte (λ t u e. e) IsFormat-Byte AreSamePart first_of SpellsAfter AreCases-After

-- parts whose first ones are the same only with the others
first-part : (p q : Choice (Vec ℕ Global) Ending) (ps qs : List (Choice (Vec ℕ Global) Ending))
    (b c r s : List ℕ)
    → SpellsEach SpellsPart (p ∷ ps) b → SpellsEach SpellsPart (q ∷ qs) c → b ++ r ≡ c ++ s
    → ((y w : List ℕ) → AreSamePart p q → SpellsEach SpellsPart ps y → SpellsEach SpellsPart qs w → y ++ r ≡ w ++ s
    → AreSameEach AreSamePart ps qs × (y ≡ w))
    → AreSameEach AreSamePart (p ∷ ps) (q ∷ qs) × (b ≡ c)
first-part p q ps qs b c r s (x, y, (h, k, e)) (z, w, (i, j, d)) t others =
    let whole : x ++ (y ++ r) ≡ z ++ (w ++ s) = sym (append_assoc x y r) ∙ ap (λ l. l ++ r) (sym e) ∙ t ∙ ap (λ l. l ++ s) d ∙ append_assoc z w s in
    let one = IsFormat-Part.prefix_free p q x z (y ++ r) (w ++ s) h i whole in
    let left : y ++ r ≡ w ++ s = append_cancel_left x (y ++ r) (w ++ s) (whole ∙ ap (λ l. l ++ (w ++ s)) (sym one.1)) in
    let two = others y w one.0 k j left in
    ((one.0, two.0), e ∙ ap (λ l. l ++ y) one.1 ∙ ap (λ l. z ++ l) two.1 ∙ sym d)

ended-prefix_free : (vs ws : List (Vec ℕ Global)) (e f : Ending) (b c r s : List ℕ)
    → SpellsEach SpellsPart (ended vs e) b → SpellsEach SpellsPart (ended ws f) c → b ++ r ≡ c ++ s
    → AreSameEach AreSamePart (ended vs e) (ended ws f) × (b ≡ c)
ended-prefix_free [] [] e f b c r s h k t =
    first-part (Other e) (Other f) [] [] b c r s h k t (λ y w same i j left. (tt, i ∙ sym j))
ended-prefix_free [] (w ∷ ws) e f b c r s h k t =
    first-part (Other e) (First w) [] (ended ws f) b c r s h k t (λ y z same i j left. absurd same)
ended-prefix_free (v ∷ vs) [] e f b c r s h k t =
    first-part (First v) (Other f) (ended vs e) [] b c r s h k t (λ y z same i j left. absurd same)
ended-prefix_free (v ∷ vs) (w ∷ ws) e f b c r s h k t =
    first-part (First v) (First w) (ended vs e) (ended ws f) b c r s h k t (λ y z same i j left. ended-prefix_free vs ws e f y z r s i j left)

pub IsFormat-Name : IsFormat AreSameName SpellsName
IsFormat-Name = record {
  canonical = λ v b c h k. each-canonical AreSamePart SpellsPart IsFormat-Part (parts_of v) b c h.1 k.1;
  prefix_free = λ v w b c r s h k. ended-prefix_free v.labels.items w.labels.items v.ending w.ending b c r s h.1 k.1;
}
