-- A parser that reads a slice alone: its answers, one by one, and that it has one answer.
use Rattle.std.specs.Prelude.{◌≡◌, false, Bool, ◌⊎◌}
use Rattle.std.proofs.Common.{refl, ap, sym, ◌∙◌, subst, inl, inr}
use Rattle.winnow_stream.specs.declared.needed.Needed.{Needed}
use Rattle.winnow_error.specs.declared.failure.Failure.{Failure}
use Rattle.winnow_error.specs.declared.failure.Failure.TheVariants.{Incomplete, Backtrack, Cut, Refused}
use Rattle.winnow_parser.specs.Outcome.{Ahead, Failed, Backtracks, Cuts, Needs, Refuses, Outcome, Gives, Fails, Meaning}
use Rattle.winnow_parser.specs.Answer.{failed}
use Rattle.winnow_parser.specs.Laws.{IsFinal}
use Rattle.winnow_parser.specs.Determined.{IsGranted, Agree, IsDetermined, Shows}
use Rattle.winnow_binary.specs.LengthAndThen.{IsLengthAndThen}

-- the failure of the inner parser, with the stream at another place
abbrev left_failed : {T U : Type 0} → Ahead T → Failed U → Failed T
left_failed b (Backtracks c) = Backtracks b
left_failed b (Cuts c) = Cuts b
left_failed b (Needs n) = Needs n
left_failed b Refuses = Refuses

-- the answer of the inner parser, with the stream at another place
abbrev left : {O T U : Type 0} → Ahead T → Outcome O U → Outcome O T
left b (Gives x c) = Gives x b
left b (Fails f) = Fails (left_failed b f)

module _ {O S T U : Type 0} (stands : S → Ahead U) (inner : Meaning O U) (outer : Meaning S T) where
  -- a failure of the outer parser is one of `IsLengthAndThen`
  pub within-outer : {E : Type 0} (partial : Bool) (a b : Ahead T) (failure : Failure E Needed)
      → outer partial a (Fails (failed failure b))
      → IsLengthAndThen stands inner outer partial a (Fails (failed failure b))
  within-outer partial a b (Backtrack e) h = inl h
  within-outer partial a b (Cut e) h = inl h
  within-outer partial a b (Incomplete n) h = h
  within-outer partial a b (Refused r) h = inl h

  -- a failure of the inner parser is one of `IsLengthAndThen`, with the stream after the slice
  pub within-inner : {E : Type 0} → IsFinal inner
      → (partial : Bool) (a b : Ahead T) (s : S) (c : Ahead U) (failure : Failure E Needed)
      → outer partial a (Gives s b) → inner false (stands s) (Fails (failed failure c))
      → IsLengthAndThen stands inner outer partial a (Fails (failed failure b))
  within-inner final partial a b s c (Backtrack e) h k = inr (s, (h, (c, k)))
  within-inner final partial a b s c (Cut e) h k = inr (s, (h, (c, k)))
  within-inner final partial a b s c (Incomplete n) h k = absurd (final (stands s) n k)
  within-inner final partial a b s c (Refused r) h k = inr (s, (b, (h, k)))

  -- the answer is a failure of the outer parser
  abbrev IsOuter : Bool → Ahead T → Outcome O T → Type 0
  IsOuter partial a v = (f : Failed T) × ((v ≡ Fails f) × outer partial a (Fails f))

  -- the answer is one of the inner parser on a slice of the outer one
  abbrev IsInner : Bool → Ahead T → Outcome O T → Type 0
  IsInner partial a v = (s : S) × ((b : Ahead T) × ((w : Outcome O U) × (outer partial a (Gives s b) × inner false (stands s) w × IsGranted w × (v ≡ left b w))))

  -- each answer of `IsLengthAndThen` is one of these, unless memory was refused
  within-cases : (partial : Bool) (a : Ahead T) (v : Outcome O T) → IsGranted v
      → IsLengthAndThen stands inner outer partial a v → IsOuter partial a v ⊎ IsInner partial a v
  within-cases partial a (Gives x b) s h = inr (h.0, (b, (Gives x h.1.1.0, (h.1.0, h.1.1.1, tt, refl))))
  within-cases partial a (Fails (Backtracks b)) s (inl h) = inl (Backtracks b, (refl, h))
  within-cases partial a (Fails (Backtracks b)) s (inr h) = inr (h.0, (b, (Fails (Backtracks h.1.1.0), (h.1.0, h.1.1.1, tt, refl))))
  within-cases partial a (Fails (Cuts b)) s (inl h) = inl (Cuts b, (refl, h))
  within-cases partial a (Fails (Cuts b)) s (inr h) = inr (h.0, (b, (Fails (Cuts h.1.1.0), (h.1.0, h.1.1.1, tt, refl))))
  within-cases partial a (Fails (Needs n)) s h = inl (Needs n, (refl, h))
  within-cases partial a (Fails Refuses) s h = absurd s

  module _ (same : O → O → Type 0) (d : IsDetermined same inner) (e : IsDetermined (Shows stands) outer) where
    -- two answers of the inner parser that agree also agree with the stream at one other place
    left-agree : (b c : Ahead T) (v w : Outcome O U) → b ≡ c → Agree same v w
        → Agree same (left b v) (left c w)
    left-agree b c (Gives x p) (Gives y q) place h = (h.0, place)
    left-agree b c (Gives x p) (Fails g) place h = h
    left-agree b c (Fails f) (Gives y q) place h = h
    left-agree b c (Fails f) (Fails g) place h = ap (left_failed b) h ∙ ap (λ m. left_failed m g) place

    -- two failures of the outer parser agree
    outer-agree : (partial : Bool) (a : Ahead T) (v w : Outcome O T) → IsGranted v → IsGranted w
        → IsOuter partial a v → IsOuter partial a w → Agree same v w
    outer-agree partial a v w s t h k =
        let one : Agree {O = S} (Shows stands) (Fails h.0) (Fails k.0) = e partial a (Fails h.0) (Fails k.0) (subst IsGranted h.1.0 s) (subst IsGranted k.1.0 t) h.1.1 k.1.1 in
        subst (λ u. Agree same u w) (sym h.1.0) (subst (λ u. Agree same (Fails h.0) u) (sym k.1.0) one)

    -- two answers of the inner parser agree
    inner-agree : (partial : Bool) (a : Ahead T) (v w : Outcome O T) → IsInner partial a v
        → IsInner partial a w → Agree same v w
    inner-agree partial a v w (s, (b, (x, (h, p, g, i)))) (t, (c, (y, (k, q, o, j)))) =
        let slices = e partial a (Gives s b) (Gives t c) tt tt h k in
        let values = d false (stands s) x y g o p (subst (λ m. inner false m y) (sym slices.0) q) in
        subst (λ u. Agree same u w) (sym i) (subst (λ u. Agree same (left b x) u) (sym j) (left-agree b c x y slices.1 values))

    -- two answers of `IsLengthAndThen` agree, by which parser each comes from
    within-agree : (partial : Bool) (a : Ahead T) (v w : Outcome O T) → IsGranted v → IsGranted w
        → IsOuter partial a v ⊎ IsInner partial a v → IsOuter partial a w ⊎ IsInner partial a w
        → Agree same v w
    within-agree partial a v w s t (inl h) (inl k) = outer-agree partial a v w s t h k
    within-agree partial a v w s t (inl h) (inr k) = absurd (e partial a (Fails h.0) (Gives k.0 k.1.0) (subst IsGranted h.1.0 s) tt h.1.1 k.1.1.1.0)
    within-agree partial a v w s t (inr h) (inl k) = absurd (e partial a (Gives h.0 h.1.0) (Fails k.0) tt (subst IsGranted k.1.0 t) h.1.1.1.0 k.1.1)
    within-agree partial a v w s t (inr h) (inr k) = inner-agree partial a v w h k

    -- `IsLengthAndThen` has one answer where its parts have one
    pub determined-length_and_then : IsDetermined same (IsLengthAndThen stands inner outer)
    determined-length_and_then partial a v w s t h k = within-agree partial a v w s t (within-cases partial a v s h) (within-cases partial a w t k)
