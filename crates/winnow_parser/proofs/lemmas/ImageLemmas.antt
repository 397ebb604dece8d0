-- A parser whose answers are made of those of a parser with one answer has one answer.
use Rattle.std.specs.Prelude.{◌≡◌, Bool, true, false, Option, Some, None, ⊤}
use Rattle.std.proofs.Common.{refl, sym, ◌∙◌, ap, subst, inl, inr}
use Rattle.winnow_parser.specs.Outcome.{Ahead, Failed, Backtracks, Cuts, Needs, Refuses, Outcome, Gives, Fails, Meaning}
use Rattle.winnow_parser.specs.Meanings.{IsOpt, Peeks, IsNot, CutsErr, BacktracksErr, Verifies, VerifyMaps}
use Rattle.winnow_parser.specs.Determined.{IsGranted, Agree, IsDetermined, AreSameIfAny, Respects}

-- ---- A parser whose answers are made of those of another

module _ {O P T : Type 0} (inner : Meaning O T) (outer : Meaning P T) (made : Ahead T → Outcome O T → Outcome P T → Type 0) (same : O → O → Type 0) (alike : P → P → Type 0) (image : (partial : Bool) (a : Ahead T) (v : Outcome P T) → IsGranted v → outer partial a v → (u : Outcome O T) × (IsGranted u × inner partial a u × made a u v)) (respects : (a : Ahead T) (u t : Outcome O T) (v w : Outcome P T) → Agree same u t → made a u v → made a t w → Agree alike v w) (d : IsDetermined same inner) where
  -- two answers agree where those that they are made of agree
  determined-image : IsDetermined alike outer
  determined-image partial a v w s t h k =
      let m = image partial a v s h in
      let n = image partial a w t k in
      respects a m.0 n.0 v w (d partial a m.0 n.0 m.1.0 n.1.0 m.1.1 n.1.1) m.1.2 n.1.2

-- the outcome is this same failure
abbrev Keeps-failure : {P T : Type 0} → Failed T → Outcome P T → Type 0
Keeps-failure f (Gives y b) = ⊥
Keeps-failure f (Fails g) = f ≡ g

-- outcomes that keep the same failure agree
keeps-failure : {P T : Type 0} (alike : P → P → Type 0) (f g : Failed T) (v w : Outcome P T)
    → f ≡ g → Keeps-failure f v → Keeps-failure g w → Agree alike v w
keeps-failure alike f g (Gives y b) w e h k = absurd h
keeps-failure alike f g (Fails i) (Gives z c) e h k = absurd k
keeps-failure alike f g (Fails i) (Fails j) e h k = sym h ∙ e ∙ k

-- the value, or none for a backtrack
abbrev Made-optional : {O T : Type 0} → Ahead T → Outcome O T → Outcome (Option O) T → Type 0
Made-optional a (Gives x b) (Gives (Some y) c) = (x ≡ y) × (b ≡ c)
Made-optional a (Gives x b) (Gives None c) = ⊥
Made-optional a (Gives x b) (Fails f) = ⊥
Made-optional a (Fails f) (Gives (Some y) c) = ⊥
Made-optional {O} {T} a (Fails f) (Gives None c) = (a ≡ c) × ((b : Ahead T) × (f ≡ Backtracks b))
Made-optional {O} {T} a (Fails f) (Fails g) = (f ≡ g) × ((b : Ahead T) → ¬ (f ≡ Backtracks b))

module _ {O T : Type 0} (inner : Meaning O T) (same : O → O → Type 0) (d : IsDetermined same inner) where
  -- each answer of `IsOpt` is made of one of the inner parser
  optional-image : (partial : Bool) (a : Ahead T) (v : Outcome (Option O) T) → IsGranted v
      → IsOpt inner partial a v
      → (u : Outcome O T) × (IsGranted u × inner partial a u × Made-optional a u v)
  optional-image partial a (Gives (Some x) b) s h = (Gives x b, (tt, h, (refl, refl)))
  optional-image partial a (Gives None b) s h = (Fails (Backtracks h.1.0), (tt, h.1.1, (h.0, (h.1.0, refl))))
  optional-image partial a (Fails (Backtracks b)) s h = absurd h
  optional-image partial a (Fails (Cuts b)) s h = (Fails (Cuts b), (tt, h, (refl, λ c e. cc)))
  optional-image partial a (Fails (Needs n)) s h = (Fails (Needs n), (tt, h, (refl, λ c e. cc)))
  optional-image partial a (Fails Refuses) s h = absurd s

  -- answers of `IsOpt` agree where the answers that they are made of agree
  optional-respects : (a : Ahead T) (u t : Outcome O T) (v w : Outcome (Option O) T)
      → Agree same u t → Made-optional a u v → Made-optional a t w → Agree (AreSameIfAny same) v w
  optional-respects a (Gives x b) (Gives y c) (Gives (Some p) i) (Gives (Some q) j) e h k =
      (subst (λ z. same z q) h.0 (subst (same x) k.0 e.0), sym h.1 ∙ e.1 ∙ k.1)
  optional-respects a (Gives x b) (Gives y c) (Gives (Some p) i) (Gives None j) e h k = absurd k
  optional-respects a (Gives x b) (Gives y c) (Gives (Some p) i) (Fails g) e h k = absurd k
  optional-respects a (Gives x b) (Gives y c) (Gives None i) w e h k = absurd h
  optional-respects a (Gives x b) (Gives y c) (Fails f) w e h k = absurd h
  optional-respects a (Gives x b) (Fails g) v w e h k = absurd e
  optional-respects a (Fails f) (Gives y c) v w e h k = absurd e
  optional-respects a (Fails f) (Fails g) (Gives (Some p) i) w e h k = absurd h
  optional-respects a (Fails f) (Fails g) (Gives None i) (Gives (Some q) j) e h k = absurd k
  optional-respects a (Fails f) (Fails g) (Gives None i) (Gives None j) e h k = (tt, sym h.0 ∙ k.0)
  optional-respects a (Fails f) (Fails g) (Gives None i) (Fails l) e h k = absurd (k.1 h.1.0 (sym e ∙ h.1.1))
  optional-respects a (Fails f) (Fails g) (Fails m) (Gives (Some q) j) e h k = absurd k
  optional-respects a (Fails f) (Fails g) (Fails m) (Gives None j) e h k = absurd (h.1 k.1.0 (e ∙ k.1.1))
  optional-respects a (Fails f) (Fails g) (Fails m) (Fails l) e h k = sym h.0 ∙ e ∙ k.0

  -- `IsOpt` has one answer where its parts have one
  pub determined-opt : IsDetermined (AreSameIfAny same) (IsOpt inner)
  determined-opt = determined-image inner (IsOpt inner) Made-optional same (AreSameIfAny same) optional-image optional-respects d

-- the value, from the same place
abbrev Made-looked : {O T : Type 0} → Ahead T → Outcome O T → Outcome O T → Type 0
Made-looked a (Gives x b) (Gives y c) = (x ≡ y) × (a ≡ c)
Made-looked a (Gives x b) (Fails g) = ⊥
Made-looked a (Fails f) v = Keeps-failure f v

module _ {O T : Type 0} (inner : Meaning O T) (same : O → O → Type 0) (d : IsDetermined same inner) where
  -- each answer of `Peeks` is made of one of the inner parser
  looked-image : (partial : Bool) (a : Ahead T) (v : Outcome O T) → IsGranted v
      → Peeks inner partial a v
      → (u : Outcome O T) × (IsGranted u × inner partial a u × Made-looked a u v)
  looked-image partial a (Gives x b) s h = (Gives x h.1.0, (tt, h.1.1, (refl, h.0)))
  looked-image partial a (Fails f) s h = (Fails f, (s, h, refl))

  -- answers of `Peeks` agree where the answers that they are made of agree
  looked-respects : (a : Ahead T) (u t v w : Outcome O T) → Agree same u t → Made-looked a u v
      → Made-looked a t w → Agree same v w
  looked-respects a (Gives x b) (Gives y c) (Gives p i) (Gives q j) e h k =
      (subst (λ z. same z q) h.0 (subst (same x) k.0 e.0), sym h.1 ∙ k.1)
  looked-respects a (Gives x b) (Gives y c) (Gives p i) (Fails g) e h k = absurd k
  looked-respects a (Gives x b) (Gives y c) (Fails f) w e h k = absurd h
  looked-respects a (Gives x b) (Fails g) v w e h k = absurd e
  looked-respects a (Fails f) (Gives y c) v w e h k = absurd e
  looked-respects a (Fails f) (Fails g) v w e h k = keeps-failure same f g v w e h k

  -- `Peeks` has one answer where its parts have one
  pub determined-peek : IsDetermined same (Peeks inner)
  determined-peek = determined-image inner (Peeks inner) Made-looked same same looked-image looked-respects d

-- success for a backtrack, and a backtrack for a value
abbrev Made-negated : {O T : Type 0} → Ahead T → Outcome O T → Outcome (Unit {0}) T → Type 0
Made-negated {O} {T} a (Gives x b) (Gives u c) = ⊥
Made-negated a (Gives x b) (Fails g) = Backtracks a ≡ g
Made-negated {O} {T} a (Fails f) (Gives u c) = (a ≡ c) × ((b : Ahead T) × (f ≡ Backtracks b))
Made-negated {O} {T} a (Fails f) (Fails g) = (f ≡ g) × ((b : Ahead T) → ¬ (f ≡ Backtracks b))

-- two units are the same
abbrev pub AreUnits : Unit {0} → Unit {0} → Type 0
AreUnits u v = ⊤

module _ {O T : Type 0} (inner : Meaning O T) (same : O → O → Type 0) (d : IsDetermined same inner) where
  -- each answer of `IsNot` is made of one of the inner parser
  negated-image : (partial : Bool) (a : Ahead T) (v : Outcome (Unit {0}) T) → IsGranted v
      → IsNot inner partial a v
      → (u : Outcome O T) × (IsGranted u × inner partial a u × Made-negated a u v)
  negated-image partial a (Gives u b) s h = (Fails (Backtracks h.1.0), (tt, h.1.1, (h.0, (h.1.0, refl))))
  negated-image partial a (Fails (Backtracks b)) s h = (Gives h.1.0 h.1.1.0, (tt, h.1.1.1, ap Backtracks h.0))
  negated-image partial a (Fails (Cuts b)) s h = (Fails (Cuts b), (tt, h, (refl, λ c e. cc)))
  negated-image partial a (Fails (Needs n)) s h = (Fails (Needs n), (tt, h, (refl, λ c e. cc)))
  negated-image partial a (Fails Refuses) s h = absurd s

  -- answers of `IsNot` agree where the answers that they are made of agree
  negated-respects : (a : Ahead T) (u t : Outcome O T) (v w : Outcome (Unit {0}) T)
      → Agree same u t → Made-negated a u v → Made-negated a t w → Agree AreUnits v w
  negated-respects a (Gives x b) (Gives y c) (Gives p i) w e h k = absurd h
  negated-respects a (Gives x b) (Gives y c) (Fails f) (Gives q j) e h k = absurd k
  negated-respects a (Gives x b) (Gives y c) (Fails f) (Fails g) e h k = sym h ∙ k
  negated-respects a (Gives x b) (Fails g) v w e h k = absurd e
  negated-respects a (Fails f) (Gives y c) v w e h k = absurd e
  negated-respects a (Fails f) (Fails g) (Gives p i) (Gives q j) e h k = (tt, sym h.0 ∙ k.0)
  negated-respects a (Fails f) (Fails g) (Gives p i) (Fails l) e h k = absurd (k.1 h.1.0 (sym e ∙ h.1.1))
  negated-respects a (Fails f) (Fails g) (Fails m) (Gives q j) e h k = absurd (h.1 k.1.0 (e ∙ k.1.1))
  negated-respects a (Fails f) (Fails g) (Fails m) (Fails l) e h k = sym h.0 ∙ e ∙ k.0

  -- `IsNot` has one answer where its parts have one
  pub determined-not : IsDetermined AreUnits (IsNot inner)
  determined-not = determined-image inner (IsNot inner) Made-negated same AreUnits negated-image negated-respects d

-- a backtrack becomes a cut
abbrev cut : {T : Type 0} → Failed T → Failed T
cut (Backtracks b) = Cuts b
cut (Cuts b) = Cuts b
cut (Needs n) = Needs n
cut Refuses = Refuses

-- a cut becomes a backtrack
abbrev soften : {T : Type 0} → Failed T → Failed T
soften (Backtracks b) = Backtracks b
soften (Cuts b) = Backtracks b
soften (Needs n) = Needs n
soften Refuses = Refuses

-- the same value, or the failure that a function turns
abbrev Made-mode : {O T : Type 0} → (Failed T → Failed T) → Ahead T → Outcome O T → Outcome O T
    → Type 0
Made-mode mode a (Gives x b) (Gives y c) = (x ≡ y) × (b ≡ c)
Made-mode mode a (Gives x b) (Fails g) = ⊥
Made-mode mode a (Fails f) v = Keeps-failure (mode f) v

module _ {O T : Type 0} (inner : Meaning O T) (same : O → O → Type 0) (d : IsDetermined same inner) where
  -- where two outcomes agree, they still agree once one function has turned their failures
  mode-respects : (mode : Failed T → Failed T) (a : Ahead T) (u t v w : Outcome O T)
      → Agree same u t → Made-mode mode a u v → Made-mode mode a t w → Agree same v w
  mode-respects mode a (Gives x b) (Gives y c) (Gives p i) (Gives q j) e h k =
      (subst (λ z. same z q) h.0 (subst (same x) k.0 e.0), sym h.1 ∙ e.1 ∙ k.1)
  mode-respects mode a (Gives x b) (Gives y c) (Gives p i) (Fails g) e h k = absurd k
  mode-respects mode a (Gives x b) (Gives y c) (Fails f) w e h k = absurd h
  mode-respects mode a (Gives x b) (Fails g) v w e h k = absurd e
  mode-respects mode a (Fails f) (Gives y c) v w e h k = absurd e
  mode-respects mode a (Fails f) (Fails g) v w e h k = keeps-failure same (mode f) (mode g) v w (ap mode e) h k

  -- each answer of `CutsErr` is made of one of the inner parser
  cut-image : (partial : Bool) (a : Ahead T) (v : Outcome O T) → IsGranted v
      → CutsErr inner partial a v
      → (u : Outcome O T) × (IsGranted u × inner partial a u × Made-mode cut a u v)
  cut-image partial a (Gives x b) s h = (Gives x b, (tt, h, (refl, refl)))
  cut-image partial a (Fails (Backtracks b)) s h = absurd h
  cut-image partial a (Fails (Cuts b)) s (inl h) = (Fails (Backtracks b), (tt, h, refl))
  cut-image partial a (Fails (Cuts b)) s (inr h) = (Fails (Cuts b), (tt, h, refl))
  cut-image partial a (Fails (Needs n)) s h = (Fails (Needs n), (tt, h, refl))
  cut-image partial a (Fails Refuses) s h = absurd s

  -- `CutsErr` has one answer where its parts have one
  pub determined-cut_err : IsDetermined same (CutsErr inner)
  determined-cut_err = determined-image inner (CutsErr inner) (Made-mode cut) same same cut-image (mode-respects cut) d

  -- each answer of `BacktracksErr` is made of one of the inner parser
  soft-image : (partial : Bool) (a : Ahead T) (v : Outcome O T) → IsGranted v
      → BacktracksErr inner partial a v
      → (u : Outcome O T) × (IsGranted u × inner partial a u × Made-mode soften a u v)
  soft-image partial a (Gives x b) s h = (Gives x b, (tt, h, (refl, refl)))
  soft-image partial a (Fails (Backtracks b)) s (inl h) = (Fails (Backtracks b), (tt, h, refl))
  soft-image partial a (Fails (Backtracks b)) s (inr h) = (Fails (Cuts b), (tt, h, refl))
  soft-image partial a (Fails (Cuts b)) s h = absurd h
  soft-image partial a (Fails (Needs n)) s h = (Fails (Needs n), (tt, h, refl))
  soft-image partial a (Fails Refuses) s h = absurd s

  -- `BacktracksErr` has one answer where its parts have one
  pub determined-backtrack_err : IsDetermined same (BacktracksErr inner)
  determined-backtrack_err = determined-image inner (BacktracksErr inner) (Made-mode soften) same same soft-image (mode-respects soften) d

-- what a relation gives for the value, or a backtrack from where it began
module _ {O P T : Type 0} (gives : O → Option P → Type 0) (inner : Meaning O T) (same : O → O → Type 0) (alike : P → P → Type 0) (respects : Respects same (AreSameIfAny alike) gives) (d : IsDetermined same inner) where
  -- the value that the relation gives, or a backtrack where it gives none
  abbrev Made-chosen : Ahead T → Outcome O T → Outcome P T → Type 0
  Made-chosen a (Gives x b) (Gives y c) = gives x (Some y) × (b ≡ c)
  Made-chosen a (Gives x b) (Fails g) = gives x None × (Backtracks a ≡ g)
  Made-chosen a (Fails f) v = Keeps-failure f v

  -- each answer of `VerifyMaps` is made of one of the inner parser
  chosen-image : (partial : Bool) (a : Ahead T) (v : Outcome P T) → IsGranted v
      → VerifyMaps gives inner partial a v
      → (u : Outcome O T) × (IsGranted u × inner partial a u × Made-chosen a u v)
  chosen-image partial a (Gives y b) s h = (Gives h.0 b, (tt, h.1.1, (h.1.0, refl)))
  chosen-image partial a (Fails (Backtracks b)) s (inl h) = (Fails (Backtracks b), (tt, h, refl))
  chosen-image partial a (Fails (Backtracks b)) s (inr h) = (Gives h.1.0 h.1.1.0, (tt, h.1.1.1.0, (h.1.1.1.1, ap Backtracks h.0)))
  chosen-image partial a (Fails (Cuts b)) s h = (Fails (Cuts b), (tt, h, refl))
  chosen-image partial a (Fails (Needs n)) s h = (Fails (Needs n), (tt, h, refl))
  chosen-image partial a (Fails Refuses) s h = absurd s

  -- answers of `VerifyMaps` agree where the answers that they are made of agree
  chosen-respects : (a : Ahead T) (u t : Outcome O T) (v w : Outcome P T) → Agree same u t
      → Made-chosen a u v → Made-chosen a t w → Agree alike v w
  chosen-respects a (Gives x b) (Gives y c) (Gives p i) (Gives q j) e h k = (respects x y (Some p) (Some q) e.0 h.0 k.0, sym h.1 ∙ e.1 ∙ k.1)
  chosen-respects a (Gives x b) (Gives y c) (Gives p i) (Fails g) e h k = absurd (respects x y (Some p) None e.0 h.0 k.0)
  chosen-respects a (Gives x b) (Gives y c) (Fails f) (Gives q j) e h k = absurd (respects x y None (Some q) e.0 h.0 k.0)
  chosen-respects a (Gives x b) (Gives y c) (Fails f) (Fails g) e h k = sym h.1 ∙ k.1
  chosen-respects a (Gives x b) (Fails g) v w e h k = absurd e
  chosen-respects a (Fails f) (Gives y c) v w e h k = absurd e
  chosen-respects a (Fails f) (Fails g) v w e h k = keeps-failure alike f g v w e h k

  -- `VerifyMaps` has one answer where its parts have one
  pub determined-verify_map : IsDetermined alike (VerifyMaps gives inner)
  determined-verify_map = determined-image inner (VerifyMaps gives inner) Made-chosen same alike chosen-image chosen-respects d

-- the value of which a test holds, or a backtrack from where it began
module _ {O T : Type 0} (answers : O → Bool → Type 0) (inner : Meaning O T) (same : O → O → Type 0) (respects : Respects same ◌≡◌ answers) (d : IsDetermined same inner) where
  -- the value, or a backtrack where the test does not hold
  abbrev Made-verified : Ahead T → Outcome O T → Outcome O T → Type 0
  Made-verified a (Gives x b) (Gives y c) = (x ≡ y) × (b ≡ c) × answers x true
  Made-verified a (Gives x b) (Fails g) = answers x false × (Backtracks a ≡ g)
  Made-verified a (Fails f) v = Keeps-failure f v

  -- each answer of `Verifies` is made of one of the inner parser
  verified-image : (partial : Bool) (a : Ahead T) (v : Outcome O T) → IsGranted v
      → Verifies answers inner partial a v
      → (u : Outcome O T) × (IsGranted u × inner partial a u × Made-verified a u v)
  verified-image partial a (Gives x b) s h = (Gives x b, (tt, h.0, (refl, refl, h.1)))
  verified-image partial a (Fails (Backtracks b)) s (inl h) = (Fails (Backtracks b), (tt, h, refl))
  verified-image partial a (Fails (Backtracks b)) s (inr h) = (Gives h.1.0 h.1.1.0, (tt, h.1.1.1.0, (h.1.1.1.1, ap Backtracks h.0)))
  verified-image partial a (Fails (Cuts b)) s h = (Fails (Cuts b), (tt, h, refl))
  verified-image partial a (Fails (Needs n)) s h = (Fails (Needs n), (tt, h, refl))
  verified-image partial a (Fails Refuses) s h = absurd s

  -- answers of `Verifies` agree where the answers that they are made of agree
  verified-respects : (a : Ahead T) (u t v w : Outcome O T) → Agree same u t → Made-verified a u v
      → Made-verified a t w → Agree same v w
  verified-respects a (Gives x b) (Gives y c) (Gives p i) (Gives q j) e h k =
      (subst (λ z. same z q) h.0 (subst (same x) k.0 e.0), sym h.1 ∙ e.1 ∙ k.1)
  verified-respects a (Gives x b) (Gives y c) (Gives p i) (Fails g) e h k = let f = respects x y true false e.0 h.2 k.0 in absurd (cc)
  verified-respects a (Gives x b) (Gives y c) (Fails f) (Gives q j) e h k = let g = respects x y false true e.0 h.0 k.2 in absurd (cc)
  verified-respects a (Gives x b) (Gives y c) (Fails f) (Fails g) e h k = sym h.1 ∙ k.1
  verified-respects a (Gives x b) (Fails g) v w e h k = absurd e
  verified-respects a (Fails f) (Gives y c) v w e h k = absurd e
  verified-respects a (Fails f) (Fails g) v w e h k = keeps-failure same f g v w e h k

  -- `Verifies` has one answer where its parts have one
  pub determined-verify : IsDetermined same (Verifies answers inner)
  determined-verify = determined-image inner (Verifies answers inner) Made-verified same same verified-image verified-respects d
