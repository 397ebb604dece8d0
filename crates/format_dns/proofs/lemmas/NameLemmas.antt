-- Names whose parts are read one after the other.
use Rattle.std.specs.declared.alloc.Global.{Global}
use Rattle.std.specs.Prelude.{Vec, Err, take}
use Rattle.std.proofs.Common.{◌≡◌, ℕ, ◌<◌, ◌≤◌, Bool, false, List, [], ◌∷◌, ◌++◌, length, ap, sym, ◌∙◌, subst, refl, arith, append_assoc, append-nil}
use Rattle.std.proofs.Math.Seq.{take-append_seam}
use Rattle.std.proofs.lemmas.List.{append_cancel_left}
use Rattle.winnow_parser.specs.Outcome.{Ahead, Failed, Backtracks, Cuts, Needs, Refuses, Gives, Fails}
use Rattle.winnow_codec.specs.Formats.{bytes_of, Takes, SpellsNone, Reads}
use Rattle.winnow_codec.specs.Lists.{SpellsEach}
use Rattle.winnow_codec.specs.Writing.{Writes}
use Rattle.winnow_codec.specs.declared.unwritten.Unwritten.{Unwritten}
use Rattle.winnow_codec.specs.declared.unwritten.Unwritten.TheVariants.{Unspelled, Refused}
use Rattle.winnow_codec.proofs.lemmas.Reading.{takes-front, takes-both, moves-both}
use Rattle.winnow_codec.specs.declared.choice.Choice.{Choice}
use Rattle.winnow_codec.specs.declared.choice.Choice.TheVariants.{First, Other}
use Rattle.format_dns.specs.Parts.{SpellsPart}
use Rattle.format_dns.specs.Names.{ended, SpellsLabels, SpellsName, IsFormat-Part}
use Rattle.format_dns.specs.declared.name.Ending.{Ending}
use Rattle.format_dns.specs.declared.name.Name.{Name}

-- labels, and what ends them
pub labels-ended : (vs : List (Vec ℕ Global)) (e : Ending) (x y : List ℕ) → SpellsLabels vs x
    → SpellsPart (Other e) y → SpellsEach SpellsPart (ended vs e) (x ++ y)
labels-ended [] e x y h k = (y, [], (k, refl, ap (λ l. l ++ y) h ∙ sym (append-nil y)))
labels-ended (v ∷ vs) e x y (front, back, (i, j, d)) k =
    (front, back ++ y, (i, labels-ended vs e back y j k, ap (λ l. l ++ y) d ∙ append_assoc front back y))

-- after labels that a name begins with, its next part stands, and it has no fewer labels
pub next-part : (vs ws : List (Vec ℕ Global)) (e : Ending) (x y front rest : List ℕ)
    → SpellsLabels vs x → SpellsEach SpellsPart (ended ws e) y → x ++ front ≡ y ++ rest
    → (length vs ≤ length ws) × ((p : Choice (Vec ℕ Global) Ending)
    × ((bytes : List ℕ) × ((left : List ℕ) × (SpellsPart p bytes × (front ≡ bytes ++ left)))))
next-part [] [] e x y front rest h (b, c, (i, j, d)) t =
    (omega arith, (Other e, (b, (c ++ rest, (i, ap (λ l. l ++ front) (sym h) ∙ t ∙ ap (λ l. l ++ rest) d ∙ append_assoc b c rest)))))
next-part [] (w ∷ ws) e x y front rest h (b, c, (i, j, d)) t =
    (omega arith, (First w, (b, (c ++ rest, (i, ap (λ l. l ++ front) (sym h) ∙ t ∙ ap (λ l. l ++ rest) d ∙ append_assoc b c rest)))))
next-part (v ∷ vs) [] e x y front rest (p, q, (h, k, g)) (b, c, (i, j, d)) t =
    let whole : p ++ (q ++ front) ≡ b ++ (c ++ rest) =
    sym (append_assoc p q front) ∙ ap (λ l. l ++ front) (sym g) ∙ t ∙ ap (λ l. l ++ rest) d ∙ append_assoc b c rest in
    absurd (IsFormat-Part.prefix_free (First v) (Other e) p b (q ++ front) (c ++ rest) h i whole).0
next-part (v ∷ vs) (w ∷ ws) e x y front rest (p, q, (h, k, g)) (b, c, (i, j, d)) t =
    let whole : p ++ (q ++ front) ≡ b ++ (c ++ rest) =
    sym (append_assoc p q front) ∙ ap (λ l. l ++ front) (sym g) ∙ t ∙ ap (λ l. l ++ rest) d ∙ append_assoc b c rest in
    let one = IsFormat-Part.prefix_free (First v) (First w) p b (q ++ front) (c ++ rest) h i whole in
    let left = append_cancel_left p (q ++ front) (c ++ rest) (whole ∙ ap (λ l. l ++ (c ++ rest)) (sym one.1)) in
    let others = next-part vs ws e q c front rest k j left in
    (omega (arith, others.0), others.1)

module _ (a b : Ahead ℕ) (vs : List (Vec ℕ Global)) (x : List ℕ) (spelled : SpellsLabels vs x) (taken : Takes x a b) where
  -- where the bytes go on, those after the labels do
  goes-on : (bytes more rest : List ℕ) → bytes_of a.tokens ++ more ≡ bytes ++ rest
      → x ++ (bytes_of b.tokens ++ more) ≡ bytes ++ rest
  goes-on bytes more rest whole =
      sym (append_assoc x (bytes_of b.tokens) more) ∙ ap (λ l. l ++ more) (sym (takes-front taken)) ∙ whole

  -- the labels end
  pub name-ended : (partial : Bool) (c : Ahead ℕ) (e : Ending) (name : Name)
      → name.labels.items ≡ vs → name.ending ≡ e → length vs ≤ 127
      → Reads SpellsPart partial b (Gives (Other e) c) → Reads SpellsName partial a (Gives name c)
  name-ended partial c e name same ends few (y, (h, t)) = (
    x ++ y,
    (
      (
        subst (λ l. length l ≤ 127) (sym same) few,
        subst (λ l. SpellsEach SpellsPart (ended l name.ending) (x ++ y)) (sym same)
            (subst (λ k. SpellsEach SpellsPart (ended vs k) (x ++ y)) (sym ends) (labels-ended vs e x y spelled h)),
      ),
      takes-both taken t,
    ),
  )

  none-named : (partial : Bool) → SpellsNone SpellsPart partial (bytes_of b.tokens)
      → SpellsNone SpellsName partial (bytes_of a.tokens)
  none-named partial none name bytes more rest follows (few, each) whole =
      let found = next-part vs name.labels.items name.ending x bytes (bytes_of b.tokens ++ more) rest spelled each (goes-on bytes more rest whole) in
      none found.1.0 found.1.1.0 more found.1.1.1.0 follows found.1.1.1.1.0 found.1.1.1.1.1

  -- the next part is not read
  pub name-unread : (partial : Bool) (f : Failed ℕ) → Reads SpellsPart partial b (Fails f)
      → Reads SpellsName partial a (Fails f)
  name-unread partial (Backtracks c) h = (moves-both taken.moves h.0, none-named partial h.1)
  name-unread partial (Cuts c) h = absurd h
  name-unread partial (Needs m) h = (h.0, none-named false h.1)
  name-unread partial Refuses h = tt

  -- there are more labels than a name has
  pub too-many : (partial : Bool) → 127 < length vs
      → Reads SpellsName partial a (Fails (Backtracks b))
  too-many partial many = (
    taken.moves,
    λ name bytes more rest follows (few, each) whole.
        let found = next-part vs name.labels.items name.ending x bytes (bytes_of b.tokens ++ more) rest spelled each (goes-on bytes more rest whole) in
        omega (arith, many, few, found.0),
  )

-- ---- Writing

-- a name that is spelled has labels and an ending that are
pub name-parts : (vs : List (Vec ℕ Global)) (e : Ending) (bytes : List ℕ)
    → SpellsEach SpellsPart (ended vs e) bytes
    → (x : List ℕ) × ((y : List ℕ) × (SpellsLabels vs x × SpellsPart (Other e) y))
name-parts [] e bytes (b, c, (i, j, d)) = ([], (b, (refl, i)))
name-parts (v ∷ vs) e bytes (b, c, (i, j, d)) =
    let others = name-parts vs e c j in
    (b ++ others.0, (others.1.0, ((b, others.0, (i, others.1.1.0, refl)), others.1.1.1)))

-- labels that are not written
pub labels-unwritten : (name : Name) (old new : List ℕ) (unwritten : Unwritten)
    → Writes SpellsLabels name.labels.items old (Err unwritten) new
    → Writes SpellsName name old (Err unwritten) new
labels-unwritten name old new Unspelled h =
    (λ bytes k. let parts = name-parts name.labels.items name.ending bytes k.1 in h.0 parts.0 parts.1.1.0, h.1)
labels-unwritten name old new (Refused r) h = h

-- an ending that is not written
pub ending-unwritten : (name : Name) (old mid new x : List ℕ) (unwritten : Unwritten)
    → mid ≡ old ++ x → Writes SpellsPart (Other name.ending) mid (Err unwritten) new
    → Writes SpellsName name old (Err unwritten) (take (length old) new)
ending-unwritten name old mid new x Unspelled f h =
    (λ bytes k. let parts = name-parts name.labels.items name.ending bytes k.1 in h.0 parts.1.0 parts.1.1.1, ap (take (length old)) (h.1 ∙ f) ∙ take-append_seam old x)
ending-unwritten name old mid new x (Refused r) f h = ap (take (length old)) (h ∙ f) ∙ take-append_seam old x
