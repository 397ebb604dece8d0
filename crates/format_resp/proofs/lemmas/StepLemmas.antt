-- What one byte more makes of a scan.
use Rattle.std.proofs.Common.{◌≡◌, ◌≢◌, ℕ, ◌+◌, ◌<◌, true, List, [], ◌∷◌, ◌++◌, length, inl, inr, Some, ap, sym, ◌∙◌, subst, refl, arith, append_assoc, length-append, ℤ}
use Rattle.std.specs.Prelude.{◌==◌, ◌||◌}
use Rattle.std.proofs.lemmas.Bool.Decides.{nat_tests, eqb_tells, Decides-eqb}
use Rattle.format_resp.specs.Language.{AreInLine, IsText, line, no_length, IsInteger, IsLength, greatest_count}
use Rattle.format_resp.specs.Meanings.{most_digits}
use Rattle.format_resp.specs.Wanted.{with_next}
use Rattle.format_resp.specs.Parts.{is_number_kind}
use Rattle.format_resp.specs.Scan.{Settles, Follow, is_text_kind, IsTextKind, IsNumberKind, IsPart, IsScanned}
use Rattle.format_resp.specs.declared.scan.Part.{Part}
use Rattle.format_resp.specs.declared.scan.Part.TheVariants.{Begin, Text, TextEnd, Number, NumberEnd, Held, HeldEnd}
use Rattle.format_resp.specs.declared.scan.ReplyScan.{ReplyScan}
use Rattle.format_resp.proofs.lemmas.BreakLemmas.{line-before}
use Rattle.format_resp.proofs.lemmas.SettledLemmas.{text-done, integer-done, null-done, bulk-done, null_array-done, empty-done}
use Rattle.format_resp.proofs.lemmas.ScanLemmas.{scanned-on, scanned-next, line-passed}

-- ---- Kinds

-- the byte of a text's kind is one of two
pub text-kinds : (b : ℕ) → is_text_kind b ≡ true → IsTextKind b
text-kinds b h = elim (eqb_tells 43 b) [
  | inl (on, e) ↦ inl (sym e)
  | inr (off, other) ↦ inr (sym ((Decides-eqb 45 b).0 (sym (ap (λ t. t || (45 == b)) off) ∙ h)))
]

-- that of a number's kind is one of three
pub number-kinds : (b : ℕ) → is_number_kind b ≡ true → IsNumberKind b
number-kinds b h = elim (eqb_tells 58 b) [
  | inl (on, e) ↦ inl (sym e)
  | inr (off, other) ↦ elim (eqb_tells 36 b) [
    | inl (on, e) ↦ inr (inl (sym e))
    | inr (never, another) ↦ inr (inr (sym ((Decides-eqb 42 b).0
        (sym (ap (λ t. t || (42 == b)) never) ∙ (sym (ap (λ t. t || (36 == b || 42 == b)) off) ∙ h)))))
  ]
]

-- ---- In the same reply

-- a text is in line with a byte more
line-more : (text : List ℕ) (b : ℕ) → AreInLine text → b ≢ 13 → b ≢ 10 → AreInLine (text ++ b ∷ [])
line-more [] b h no_return no_feed = (grind (arith, nat_tests, no_return, no_feed), tt)
line-more (x ∷ text) b h no_return no_feed = (h.0, line-more text b h.1 no_return no_feed)

module _ (longest : ℕ) (digits begun : List ℕ) where
  -- a text begins
  pub text-begins : (b : ℕ) → IsTextKind b → IsPart longest Begin digits begun
      → IsPart longest (Text 0) digits (begun ++ b ∷ [])
  text-begins b is none = (b, ([], (ap (λ l. l ++ b ∷ []) none, is, (tt, omega arith), refl)))

  -- a number begins
  pub number-begins : (b : ℕ) (new : List ℕ) → new ≡ [] → IsNumberKind b
      → IsPart longest Begin digits begun → IsPart longest (Number b) new (begun ++ b ∷ [])
  number-begins b new empty is none = (
    ap (λ l. l ++ b ∷ []) none ∙ ap (λ d. b ∷ d) (sym empty),
    is,
    subst (IsText most_digits) (sym empty) (tt, omega arith),
  )

  -- a text has one byte more
  pub text-more : (n b : ℕ) → b ≢ 13 → b ≢ 10 → n < longest → IsPart longest (Text n) digits begun
      → IsPart longest (Text (n + 1)) digits (begun ++ b ∷ [])
  text-more n b no_return no_feed room (kind, (text, (e, is, fits, l))) =
      let long : length (text ++ b ∷ []) ≡ n + 1 = omega (arith, l, length-append text (b ∷ [])) in (
        kind,
        (text ++ b ∷ [], (ap (λ x. x ++ b ∷ []) e, is, (line-more text b fits.0 no_return no_feed, omega (arith, long, room)), long)),
      )

  -- CR follows it
  pub text-return : (n b : ℕ) → b ≡ 13 → IsPart longest (Text n) digits begun
      → IsPart longest TextEnd digits (begun ++ b ∷ [])
  text-return n b cr (kind, (text, (e, is, fits, l))) =
      (kind, (text, (ap (λ x. x ++ b ∷ []) e ∙ ap (λ c. kind ∷ (text ++ c ∷ [])) cr, is, fits)))

  -- a number has one byte more
  pub number-more : (kind b : ℕ) (new : List ℕ) → b ≢ 13 → b ≢ 10 → length digits < 21
      → new ≡ digits ++ b ∷ [] → IsPart longest (Number kind) digits begun
      → IsPart longest (Number kind) new (begun ++ b ∷ [])
  number-more kind b new no_return no_feed room same (e, is, fits) = (
    ap (λ x. x ++ b ∷ []) e ∙ ap (λ d. kind ∷ d) (sym same),
    is,
    (
      subst AreInLine (sym same) (line-more digits b fits.0 no_return no_feed),
      omega (arith, room, ap length same, length-append digits (b ∷ [])),
    ),
  )

  -- CR follows it
  pub number-return : (kind b : ℕ) → b ≡ 13 → IsPart longest (Number kind) digits begun
      → IsPart longest (NumberEnd kind) digits (begun ++ b ∷ [])
  number-return kind b cr (e, is, fits) =
      (ap (λ x. x ++ b ∷ []) e ∙ ap (λ c. kind ∷ (digits ++ c ∷ [])) cr, is, fits)

  -- the length of a bulk string is there
  pub held-begins : (count : ℕ) → IsLength longest digits (Some count)
      → IsPart longest (NumberEnd 36) digits begun
      → IsPart longest (Held count) digits (begun ++ 10 ∷ [])
  held-begins count is (e, known, fits) =
      let same : count ≡ 0 + count = omega arith in
      (digits, ([], (line-passed 36 begun digits [] e, subst (λ n. IsLength longest digits (Some n)) same is)))

  -- a bulk string has more bytes
  pub held-more : (left now : ℕ) (passed : List ℕ) → length passed + now ≡ left
      → IsPart longest (Held left) digits begun
      → IsPart longest (Held now) digits (begun ++ passed)
  held-more left now passed sum (text, (held, (e, is))) =
      let same : length held + left ≡ length (held ++ passed) + now = omega (arith, sum, length-append held passed) in (
        text,
        (
          held ++ passed,
          (
            ap (λ x. x ++ passed) e ∙ ap (λ x. 36 ∷ x) (append_assoc (line text) held passed),
            subst (λ n. IsLength longest text (Some n)) same is,
          ),
        ),
      )

  -- CR follows it
  pub held-return : (left b : ℕ) → left ≡ 0 → b ≡ 13 → IsPart longest (Held left) digits begun
      → IsPart longest HeldEnd digits (begun ++ b ∷ [])
  held-return left b none cr (text, (held, (e, is))) =
      let same : length held + left ≡ length held = omega (arith, none) in (
        text,
        (
          held,
          (
            ap (λ x. x ++ b ∷ []) e ∙ ap (λ x. 36 ∷ x) (append_assoc (line text) held (b ∷ [])) ∙ ap (λ c. 36 ∷ (line text ++ (held ++ c ∷ []))) cr,
            subst (λ n. IsLength longest text (Some n)) same is,
          ),
        ),
      )

-- a scan goes on in a part of the same reply
pub goes-on : (longest depth : ℕ) (bytes : List ℕ) (old new : ReplyScan) (passed : List ℕ)
    (from to : Part)
    → old.part ≡ from → new.part ≡ to → new.wanted ≡ old.wanted
    → ((begun : List ℕ) → IsPart longest from old.digits begun
    → IsPart longest to new.digits (begun ++ passed))
    → IsScanned longest depth bytes old → IsScanned longest depth (bytes ++ passed) new
goes-on longest depth bytes old new passed from to at there same step h =
    scanned-on longest depth bytes old new h passed same
    (subst (λ p. IsPart longest p new.digits (h.1.0 ++ passed)) (sym there)
    (step h.1.0 (subst (λ p. IsPart longest p old.digits h.1.0) at h.1.1.1)))

-- ---- At the next reply

module _ (longest depth : ℕ) (bytes : List ℕ) (old new : ReplyScan) (b : ℕ) (feed : b ≡ 10) (begins : new.part ≡ Begin) (next : with_next old.wanted ≡ Some new.wanted) (h : IsScanned longest depth bytes old) where
  -- the bytes of the reply so far are those of its part
  part-at : (from : Part) → old.part ≡ from → IsPart longest from old.digits h.1.0
  part-at from at = subst (λ p. IsPart longest p old.digits h.1.0) at h.1.1.1

  -- LF ends a reply
  by-feed : ((s : List ℕ) → Settles longest h.0 (Follow longest h.0 old.wanted) (h.1.0 ++ 10 ∷ s)
      → Follow longest h.0 old.wanted s)
      → IsScanned longest depth (bytes ++ b ∷ []) new
  by-feed done = subst (λ c. IsScanned longest depth (bytes ++ c ∷ []) new) (sym feed)
      (scanned-next longest depth bytes old new h (10 ∷ []) begins next done)

  -- LF ends a text
  pub text-next : old.part ≡ TextEnd → IsScanned longest depth (bytes ++ b ∷ []) new
  text-next at =
      let here = part-at TextEnd at in
      by-feed (λ s k. text-done longest h.0 (Follow longest h.0 old.wanted) here.0 here.1.0 s here.1.1.1 here.1.1.2
      (subst (Settles longest h.0 (Follow longest h.0 old.wanted)) (line-passed here.0 h.1.0 here.1.0 s here.1.1.0) k))

  -- an integer
  pub integer-next : (n : ℤ) → old.part ≡ NumberEnd 58 → IsInteger old.digits n
      → IsScanned longest depth (bytes ++ b ∷ []) new
  integer-next n at is =
      let here = part-at (NumberEnd 58) at in
      by-feed (λ s k. integer-done longest h.0 (Follow longest h.0 old.wanted) old.digits s n is
      (subst (Settles longest h.0 (Follow longest h.0 old.wanted)) (line-passed 58 h.1.0 old.digits s here.0) k))

  -- the null bulk string
  pub null-next : old.part ≡ NumberEnd 36 → old.digits ≡ no_length
      → IsScanned longest depth (bytes ++ b ∷ []) new
  null-next at null =
      let here = part-at (NumberEnd 36) at in
      by-feed (λ s k. null-done longest h.0 (Follow longest h.0 old.wanted) old.digits s null
      (subst (Settles longest h.0 (Follow longest h.0 old.wanted)) (line-passed 36 h.1.0 old.digits s here.0) k))

  -- the null array
  pub null_array-next : old.part ≡ NumberEnd 42 → old.digits ≡ no_length
      → IsScanned longest depth (bytes ++ b ∷ []) new
  null_array-next at null =
      let here = part-at (NumberEnd 42) at in
      by-feed (λ s k. null_array-done longest h.0 (Follow longest h.0 old.wanted) old.digits s null
      (subst (Settles longest h.0 (Follow longest h.0 old.wanted)) (line-passed 42 h.1.0 old.digits s here.0) k))

  -- an array without replies
  pub empty-next : old.part ≡ NumberEnd 42 → IsLength greatest_count old.digits (Some 0)
      → IsScanned longest depth (bytes ++ b ∷ []) new
  empty-next at is =
      let here = part-at (NumberEnd 42) at in
      by-feed (λ s k. empty-done longest h.0 (Follow longest h.0 old.wanted) old.digits s (omega arith, is.1, is.2)
      (subst (Settles longest h.0 (Follow longest h.0 old.wanted)) (line-passed 42 h.1.0 old.digits s here.0) k))

  -- a bulk string
  pub held-next : old.part ≡ HeldEnd → IsScanned longest depth (bytes ++ b ∷ []) new
  held-next at =
      let here = part-at HeldEnd at in
      let text = here.0 in
      let held = here.1.0 in
      by-feed (λ s k. bulk-done longest h.0 (Follow longest h.0 old.wanted) text held s here.1.1.1
      (subst (Settles longest h.0 (Follow longest h.0 old.wanted))
      (ap (λ x. x ++ 10 ∷ s) here.1.1.0 ∙ ap (λ x. 36 ∷ x) (append_assoc (line text) (held ++ 13 ∷ []) (10 ∷ s)
      ∙ ap (λ x. line text ++ x) (append_assoc held (13 ∷ []) (10 ∷ s) ∙ sym (line-before held s)))) k))
