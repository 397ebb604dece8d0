-- A scan of a reply goes on while nothing is settled.
use Rattle.std.proofs.Common.{◌≡◌, ℕ, zero, suc, ◌+◌, ◌≤◌, ◌<◌, List, [], ◌∷◌, ◌++◌, length, take, drop, get_or, inl, inr, Some, ap, sym, ◌∙◌, subst, refl, arith, append_assoc, append-nil, length-take, length-drop}
use Rattle.std.specs.Prelude.{⊤}
use Rattle.format_resp.specs.Language.{line, IsLength, greatest_count}
use Rattle.format_resp.specs.Scan.{Settles, Follow, IsPart, Leads, IsScanned}
use Rattle.format_resp.specs.Wanted.{with_next}
use Rattle.format_resp.specs.declared.scan.Part.{Part}
use Rattle.format_resp.specs.declared.scan.Part.TheVariants.{Begin, Text, TextEnd, Number, NumberEnd, Held, HeldEnd}
use Rattle.format_resp.specs.declared.scan.ReplyScan.{ReplyScan}
use Rattle.format_resp.proofs.lemmas.BreakLemmas.{line-before}
use Rattle.format_resp.proofs.lemmas.OpenLemmas.{array-done, next_depth, next-sum, next-settles, nothing-open, text-open, number-begun, held-open}

-- ---- What has begun settles nothing

module _ (longest depth : ℕ) (Then : List ℕ → Type 0) where
  -- a part of a reply settles nothing
  pub part-open : (part : Part) (digits begun : List ℕ) → IsPart longest part digits begun
      → ¬ (Settles longest depth Then begun)
  part-open Begin digits begun none h = nothing-open longest depth Then (subst (Settles longest depth Then) none h)
  part-open (Text n) digits begun (kind, (text, (e, is, fits, l))) h =
      text-open longest depth Then kind text [] is fits (inl refl)
      (subst (Settles longest depth Then) (e ∙ ap (λ t. kind ∷ t) (sym (append-nil text))) h)
  part-open TextEnd digits begun (kind, (text, (e, is, fits))) h =
      text-open longest depth Then kind text (13 ∷ []) is fits (inr refl) (subst (Settles longest depth Then) e h)
  part-open (Number kind) digits begun (e, is, fits) h =
      number-begun longest depth Then kind digits [] is fits (inl refl)
      (subst (Settles longest depth Then) (e ∙ ap (λ t. kind ∷ t) (sym (append-nil digits))) h)
  part-open (NumberEnd kind) digits begun (e, is, fits) h =
      number-begun longest depth Then kind digits (13 ∷ []) is fits (inr refl) (subst (Settles longest depth Then) e h)
  part-open (Held left) digits begun (text, (held, (e, is))) h =
      held-open longest depth Then text held (length held + left) is (inl (omega arith)) (subst (Settles longest depth Then) e h)
  part-open HeldEnd digits begun (text, (held, (e, is))) h =
      held-open longest depth Then text (held ++ 13 ∷ []) (length held) is (inr (held, (refl, refl))) (subst (Settles longest depth Then) e h)

-- ---- One byte more

-- with more bytes, more has begun
pub leads-on : (longest depth : ℕ) (bytes : List ℕ) (inner : ℕ) (wanted begun passed : List ℕ)
    → Leads longest depth bytes inner wanted begun
    → Leads longest depth (bytes ++ passed) inner wanted (begun ++ passed)
leads-on longest depth bytes inner wanted begun passed leads more h =
    subst (Settles longest inner (Follow longest inner wanted)) (sym (append_assoc begun passed more))
    (leads (passed ++ more) (subst (Settles longest depth (λ rest. ⊤)) (append_assoc bytes passed more) h))

-- where the reply that has begun is done, the next one is
pub leads-next : (longest depth : ℕ) (bytes : List ℕ) (inner : ℕ) (wanted new begun passed : List ℕ)
    → Leads longest depth bytes inner wanted begun → with_next wanted ≡ Some new
    → ((s : List ℕ) → Settles longest inner (Follow longest inner wanted) (begun ++ (passed ++ s)) → Follow longest inner wanted s)
    → Leads longest depth (bytes ++ passed) (next_depth wanted inner) new []
leads-next longest depth bytes inner wanted new begun passed leads e done more h =
    next-settles longest wanted new inner more e
    (done more (leads (passed ++ more) (subst (Settles longest depth (λ rest. ⊤)) (append_assoc bytes passed more) h)))

-- where an array begins, its first reply does
pub leads-inside : (longest depth : ℕ) (bytes : List ℕ) (inner : ℕ) (wanted begun passed : List ℕ)
    (count : ℕ)
    → Leads longest depth bytes (suc inner) wanted begun
    → ((s : List ℕ) → Settles longest (suc inner) (Follow longest (suc inner) wanted) (begun ++ (passed ++ s))
    → Settles longest inner (Follow longest inner (count ∷ wanted)) s)
    → Leads longest depth (bytes ++ passed) inner (count ∷ wanted) []
leads-inside longest depth bytes inner wanted begun passed count leads opens more h =
    opens more (leads (passed ++ more) (subst (Settles longest depth (λ rest. ⊤)) (append_assoc bytes passed more) h))

module _ (longest depth : ℕ) (bytes : List ℕ) (old new : ReplyScan) (h : IsScanned longest depth bytes old) where
  -- the scan is in a part of the same reply
  pub scanned-on : (passed : List ℕ) → new.wanted ≡ old.wanted
      → IsPart longest new.part new.digits (h.1.0 ++ passed)
      → IsScanned longest depth (bytes ++ passed) new
  scanned-on passed same part = (
    h.0,
    (
      h.1.0 ++ passed,
      (
        ap (λ l. h.0 + length l) same ∙ h.1.1.0,
        part,
        subst (λ l. Leads longest depth (bytes ++ passed) h.0 l (h.1.0 ++ passed)) (sym same)
            (leads-on longest depth bytes h.0 old.wanted h.1.0 passed h.1.1.2),
      ),
    ),
  )

  -- the reply is done, and the scan is at the beginning of the next
  pub scanned-next : (passed : List ℕ) → new.part ≡ Begin → with_next old.wanted ≡ Some new.wanted
      → ((s : List ℕ) → Settles longest h.0 (Follow longest h.0 old.wanted) (h.1.0 ++ (passed ++ s)) → Follow longest h.0 old.wanted s)
      → IsScanned longest depth (bytes ++ passed) new
  scanned-next passed begin e done = (
    next_depth old.wanted h.0,
    (
      [],
      (
        next-sum old.wanted new.wanted h.0 e ∙ h.1.1.0,
        subst (λ p. IsPart longest p new.digits []) (sym begin) refl,
        leads-next longest depth bytes h.0 old.wanted new.wanted h.1.0 passed h.1.1.2 e done,
      ),
    ),
  )

-- the bytes after a line that is there
pub line-passed : (kind : ℕ) (begun text s : List ℕ) → begun ≡ kind ∷ (text ++ 13 ∷ [])
    → begun ++ 10 ∷ s ≡ kind ∷ (line text ++ s)
line-passed kind begun text s e =
    ap (λ l. l ++ 10 ∷ s) e ∙ ap (λ l. kind ∷ l) (append_assoc text (13 ∷ []) (10 ∷ s) ∙ sym (line-before text s))

-- an array opens
pub scanned-inside : (longest depth : ℕ) (bytes : List ℕ) (old new : ReplyScan) (count : ℕ)
    → IsScanned longest depth bytes old → old.part ≡ NumberEnd 42 → new.part ≡ Begin
    → length old.wanted < depth → new.wanted ≡ count ∷ old.wanted
    → IsLength greatest_count old.digits (Some (suc count))
    → IsScanned longest depth (bytes ++ 10 ∷ []) new
scanned-inside longest depth bytes old new count (zero, (begun, (sum, part, leads))) at begin deep e is =
    absurd (omega (arith, sum, deep))
scanned-inside longest depth bytes old new count (suc inner, (begun, (sum, part, leads))) at begin deep e is =
    let here = subst (λ p. IsPart longest p old.digits begun) at part in (
      inner,
      (
        [],
        (
          omega (arith, sum, ap length e),
          subst (λ p. IsPart longest p new.digits []) (sym begin) refl,
          subst (λ l. Leads longest depth (bytes ++ 10 ∷ []) inner l []) (sym e)
              (leads-inside longest depth bytes inner old.wanted begun (10 ∷ []) count leads
              (λ s k. array-done longest inner (Follow longest (suc inner) old.wanted) old.digits s (suc count) is
              (subst (Settles longest (suc inner) (Follow longest (suc inner) old.wanted)) (line-passed 42 begun old.digits s here.0) k))),
        ),
      ),
    )

-- ---- A scan of a piece

-- a scan that has not begun
pub scanned-start : (longest depth : ℕ) (scan : ReplyScan) → scan.part ≡ Begin → scan.wanted ≡ []
    → IsScanned longest depth [] scan
scanned-start longest depth scan begin none = (
  depth,
  (
    [],
    (
      omega (arith, ap length none),
      subst (λ p. IsPart longest p scan.digits []) (sym begin) refl,
      subst (λ l. Leads longest depth [] depth l []) (sym none) (λ more h. h),
    ),
  ),
)

-- no bytes more
pub scanned-same : (longest depth : ℕ) (bytes passed : List ℕ) (scan : ReplyScan)
    → length passed ≡ 0 → IsScanned longest depth bytes scan
    → IsScanned longest depth (bytes ++ passed) scan
scanned-same longest depth bytes [] scan none h =
    subst (λ l. IsScanned longest depth l scan) (sym (append-nil bytes)) h
scanned-same longest depth bytes (x ∷ passed) scan none h = absurd (omega (arith, none))

-- bytes of which one more was gone over
pub take-one : (n m : ℕ) (xs : List ℕ) → m ≡ suc n → n < length xs
    → take m xs ≡ take n xs ++ get_or xs n 0 ∷ []
take-one n m [] e within = absurd (omega (arith, within))
take-one n zero (x ∷ xs) e within = absurd (omega (arith, e))
take-one zero (suc m) (x ∷ xs) e within =
    let none : m ≡ 0 = omega (arith, e) in ap (λ k. x ∷ take k xs) none
take-one (suc n) (suc m) (x ∷ xs) e within =
    ap (λ l. x ∷ l) (take-one n m xs (omega (arith, e)) (omega (arith, within)))

-- the first of no bytes are none
take-none : (n : ℕ) (xs : List ℕ) → xs ≡ [] → take n xs ≡ []
take-none zero xs e = refl
take-none (suc n) [] e = refl
take-none (suc n) (x ∷ xs) e = absurd (cc e)

-- bytes of which some more were gone over
pub take-plus : (n m k : ℕ) (xs : List ℕ) → k ≡ n + m
    → take k xs ≡ take n xs ++ take m (drop n xs)
take-plus zero m k xs e = let same : k ≡ m = omega (arith, e) in ap (λ j. take j xs) same
take-plus (suc n) m k [] e = take-none k [] refl ∙ sym (take-none m [] refl)
take-plus (suc n) m zero (x ∷ xs) e = absurd (omega (arith, e))
take-plus (suc n) m (suc k) (x ∷ xs) e =
    ap (λ l. x ∷ l) (take-plus n m k xs (omega (arith, e)))

-- as many bytes were passed
pub passed-length : (n m : ℕ) (xs : List ℕ) → n + m ≤ length xs → length (take m (drop n xs)) ≡ m
passed-length n m xs within =
    omega (arith, within, length-take m (drop n xs), length-drop n xs)

-- they were gone over after those before
pub scanned-far : (longest depth : ℕ) (front far passed all : List ℕ) (scan : ReplyScan)
    → all ≡ far ++ passed → IsScanned longest depth ((front ++ far) ++ passed) scan
    → IsScanned longest depth (front ++ all) scan
scanned-far longest depth front far passed all scan e h =
    subst (λ l. IsScanned longest depth l scan)
    (append_assoc front far passed ∙ ap (λ l. front ++ l) (sym e)) h
