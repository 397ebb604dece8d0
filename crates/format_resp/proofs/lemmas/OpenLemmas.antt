-- The replies in an array that is open, and bytes that settle nothing yet.
use Rattle.std.proofs.Common.{◌≡◌, ◌≢◌, ℕ, zero, suc, ◌+◌, ◌≤◌, ◌<◌, true, false, List, [], ◌∷◌, ◌++◌, length, inl, inr, Some, ap, sym, ◌∙◌, subst, refl, arith, append_assoc, length-append}
use Rattle.std.specs.Prelude.{◌⊎◌}
use Rattle.std.proofs.lemmas.Option.{none-some, same_Some}
use Rattle.winnow_stream.specs.Source.{Source, units}
use Rattle.format_resp.specs.Language.{IsText, line, IsLength, greatest_count, SpellAll, Spells}
use Rattle.format_resp.specs.Meanings.{is_kind, most_digits}
use Rattle.format_resp.specs.Damage.{cause_at, EndBreaksOff, BytesBreakOff, LayerBreaksOff, StopsAt, BreaksOff}
use Rattle.format_resp.specs.Scan.{Settles, AllSettle, Follow, IsTextKind, IsNumberKind}
use Rattle.format_resp.specs.Wanted.{with_next}
use Rattle.format_resp.specs.declared.causes.Cause.{Cause}
use Rattle.format_resp.specs.declared.causes.Cause.TheVariants.{EndsInside, NoKind}
use Rattle.format_resp.specs.declared.reply.Reply.{Reply}
use Rattle.format_resp.specs.declared.reply.Reply.TheViews.{out-Reply}
use Rattle.format_resp.proofs.lemmas.NumberLemmas.{length-line}
use Rattle.format_resp.proofs.lemmas.PartLemmas.{length-line-of}
use Rattle.format_resp.proofs.lemmas.BreakLemmas.{units-ahead, IsOpenEnd, end-open, line-open}
use Rattle.format_resp.proofs.lemmas.SettleLemmas.{length-once, null-no_length, shape-of, no-shape, nothing-shape, body-breaks, text-breaks, number-breaks, bytes-break}
use Rattle.format_resp.proofs.lemmas.SettledLemmas.{Inner, InnerStops, inner_most, spells-layer, stops-layer, text-kind, by-line, bulk-completes, by-elements, same-front}

-- ---- Arrays

module _ (longest depth : ℕ) (Then : List ℕ → Type 0) where
  -- replies stand, and then comes what comes then
  all-stand : (replies : List Reply) (bytes more rest : List ℕ)
      → SpellAll (Spells longest depth) replies more → bytes ≡ more ++ rest → Then rest
      → AllSettle longest depth (length replies) Then bytes
  all-stand [] bytes more rest none e then = subst Then (sym (e ∙ ap (λ l. l ++ rest) none)) then
  all-stand (y ∷ ys) bytes more rest (one, (others, (split, spells, all))) e then =
      inl (
        y,
        (
          one,
          (
            others ++ rest,
            (
              e ∙ ap (λ l. l ++ rest) split ∙ append_assoc one others rest,
              spells,
              all-stand ys (others ++ rest) others rest all refl then,
            ),
          ),
        ),
      )

  -- some stand, and then one breaks off
  some-stand : (replies : List Reply) (count : ℕ) (bytes more next : List ℕ) (cause : Cause)
      (rest : Source ℕ)
      → SpellAll (Spells longest depth) replies more → bytes ≡ more ++ next → length replies < count
      → cause ≢ EndsInside → StopsAt cause (BreaksOff false cause longest depth) (units next) rest
      → AllSettle longest depth count Then bytes
  some-stand replies zero bytes more next cause rest all e few other stops = absurd (omega (arith, few))
  some-stand [] (suc count) bytes more next cause rest none e few other stops =
      inr (cause, (rest, (other, subst (λ l. StopsAt cause (BreaksOff false cause longest depth) (units l) rest) (sym (e ∙ ap (λ l. l ++ next) none)) stops)))
  some-stand (y ∷ ys) (suc count) bytes more next cause rest (one, (others, (split, spells, all))) e few other stops =
      inl (
        y,
        (
          one,
          (
            others ++ next,
            (
              e ∙ ap (λ l. l ++ next) split ∙ append_assoc one others next,
              spells,
              some-stand ys count (others ++ next) others next cause rest all refl (omega (arith, few)) other stops,
            ),
          ),
        ),
      )

  -- after the length of an array that many replies settle, one after the other
  pub array-done : (text s : List ℕ) (count : ℕ) → IsLength greatest_count text (Some count)
      → Settles longest (suc depth) Then (42 ∷ (line text ++ s))
      → AllSettle longest depth count Then s
  array-done text s count is h = elim (by-elements longest (suc depth) Then text s count is h) [
    | inl (replies, (more, (rest, (e, same, all, then)))) ↦
        subst (λ n. AllSettle longest depth n Then s) same (all-stand replies s more rest all e then)
    | inr (cause, (rest, (other, (replies, (more, (next, (a, all, few, stops))))))) ↦
        (let there = units-ahead s more next a in
        some-stand replies count s more there.0 cause rest all there.1.0 few other
        (subst (λ n. StopsAt cause (BreaksOff false cause longest depth) n rest) there.1.1 stops))
  ]

-- ---- What is wanted next

-- how deep the replies may stand in the array that wants the next one
pub next_depth : List ℕ → ℕ → ℕ
next_depth [] depth = depth
next_depth (zero ∷ ns) depth = next_depth ns (suc depth)
next_depth (suc n ∷ ns) depth = depth

-- the arrays that are closed make it as much less deep
pub next-sum : (wanted new : List ℕ) (depth : ℕ) → with_next wanted ≡ Some new
    → next_depth wanted depth + length new ≡ depth + length wanted
unfolding next_depth
next-sum [] new depth e = absurd (none-some new e)
next-sum (zero ∷ ns) new depth e = let more = next-sum ns new (suc depth) e in omega (arith, more)
next-sum (suc n ∷ ns) new depth e = omega (arith, ap length (same_Some (n ∷ ns) new e))

-- and what follows begins with that reply
pub next-settles : (longest : ℕ) (wanted new : List ℕ) (depth : ℕ) (bytes : List ℕ)
    → with_next wanted ≡ Some new → Follow longest depth wanted bytes
    → Settles longest (next_depth wanted depth) (Follow longest (next_depth wanted depth) new) bytes
unfolding next_depth
next-settles longest [] new depth bytes e h = absurd (none-some new e)
next-settles longest (zero ∷ ns) new depth bytes e h = next-settles longest ns new (suc depth) bytes e h
next-settles longest (suc n ∷ ns) new depth bytes e h =
    subst (λ l. Settles longest depth (Follow longest depth l) bytes) (same_Some (n ∷ ns) new e) h

-- ---- Bytes that settle nothing

module _ (longest depth : ℕ) (Then : List ℕ → Type 0) where
  -- no reply breaks off in no bytes, but since they end
  nothing-breaks : (cause : Cause) (rest : Source ℕ) → cause ≢ EndsInside
      → ¬ (StopsAt cause (LayerBreaksOff (Inner longest depth) (InnerStops longest cause depth) false cause longest (inner_most depth)) [] rest)
  nothing-breaks cause rest other (inl (same, none, why)) =
      other (why ∙ ap (λ r. cause_at r NoKind) (sym same))
  nothing-breaks cause rest other (inr (k, (after, (known, a, body)))) =
      let there = units-ahead [] (k ∷ []) after a in let f = there.1.0 in cc f

  -- no bytes settle nothing
  pub nothing-open : ¬ (Settles longest depth Then [])
  nothing-open (inl (y, (one, (rest, (e, spells, then))))) =
      nothing-shape longest (Inner longest depth) one rest (shape-of longest (Inner longest depth) (out-Reply y) one (spells-layer longest depth y one spells)) e
  nothing-open (inr (cause, (rest, (other, h)))) =
      nothing-breaks cause rest other (stops-layer longest depth cause [] rest h)

  -- nor a text whose line has not ended
  pub text-open : (kind : ℕ) (text e : List ℕ) → IsTextKind kind → IsText longest text → IsOpenEnd e
      → ¬ (Settles longest depth Then (kind ∷ (text ++ e)))
  text-open kind text e is fits cut (inl (y, (one, (rest, (same, spells, then))))) =
      no-shape longest (Inner longest depth) kind text e one rest fits.0 cut
      (shape-of longest (Inner longest depth) (out-Reply y) one (spells-layer longest depth y one spells)) same
  text-open kind text e is fits cut (inr (cause, (rest, (other, h)))) =
      other (line-open longest text e cause rest fits cut
      (text-breaks longest (inner_most depth) (Inner longest depth) (InnerStops longest cause depth) cause kind (units (text ++ e)) rest is
      (body-breaks longest (inner_most depth) (Inner longest depth) (InnerStops longest cause depth) cause kind (text ++ e) rest (text-kind longest depth Then kind is)
      (stops-layer longest depth cause (units (kind ∷ (text ++ e))) rest h))))

  -- the byte of a number's kind is one
  number-kind : (kind : ℕ) → IsNumberKind kind → is_kind kind ≡ true
  number-kind kind (inl e) = ap is_kind e
  number-kind kind (inr (inl e)) = ap is_kind e
  number-kind kind (inr (inr e)) = ap is_kind e

  -- nor a number whose line has not ended
  pub number-begun : (kind : ℕ) (text e : List ℕ) → IsNumberKind kind → IsText most_digits text
      → IsOpenEnd e → ¬ (Settles longest depth Then (kind ∷ (text ++ e)))
  number-begun kind text e is fits cut (inl (y, (one, (rest, (same, spells, then))))) =
      no-shape longest (Inner longest depth) kind text e one rest fits.0 cut
      (shape-of longest (Inner longest depth) (out-Reply y) one (spells-layer longest depth y one spells)) same
  number-begun kind text e is fits cut (inr (cause, (rest, (other, h)))) =
      other (number-breaks longest (inner_most depth) (Inner longest depth) (InnerStops longest cause depth) cause kind text e rest is fits cut
      (body-breaks longest (inner_most depth) (Inner longest depth) (InnerStops longest cause depth) cause kind (text ++ e) rest (number-kind kind is)
      (stops-layer longest depth cause (units (kind ∷ (text ++ e))) rest h)))

  -- fewer bytes than those of a bulk string and the end of its line
  abbrev pub IsShort : ℕ → List ℕ → Type 0
  IsShort count part = (length part ≤ count)
      ⊎ ((held : List ℕ) × ((length held ≡ count) × (part ≡ held ++ 13 ∷ [])))

  -- they are less by two at most
  short-length : (count : ℕ) (part : List ℕ) → IsShort count part → length part ≤ count + 1
  short-length count part (inl few) = omega (arith, few)
  short-length count part (inr (held, (full, is))) =
      omega (arith, full, ap length is, length-append held (13 ∷ []))

  -- they break off only since they end
  short-breaks : (count : ℕ) (part : List ℕ) (cause : Cause) (rest : Source ℕ) → IsShort count part
      → BytesBreakOff false cause count (units part) rest → cause ≡ EndsInside
  short-breaks count part cause rest short (inl (over, few, left)) = over
  short-breaks count part cause rest (inl few) (inr (other, (end, (a, enough, breaks)))) =
      let there = units-ahead part other end a in
      let f = there.0 in
      let none : f ≡ [] = no-length f (omega (arith, few, enough, ap length there.1.0, length-append other f)) in
      end-open f cause rest (inl none) (subst (λ r. EndBreaksOff cause r rest) there.1.1 breaks)
    where
      no-length : (f : List ℕ) → length f ≡ 0 → f ≡ []
      no-length [] e = refl
      no-length (x ∷ f) e = absurd (omega (arith, e))
  short-breaks count part cause rest (inr (held, (full, is))) (inr (other, (end, (a, enough, breaks)))) =
      let there = units-ahead part other end a in
      let both = same-front longest depth Then held other (13 ∷ []) there.0 (full ∙ sym enough) (sym is ∙ there.1.0) in
      end-open there.0 cause rest (inr (sym both.1)) (subst (λ r. EndBreaksOff cause r rest) there.1.1 breaks)

  -- nor a bulk string that has not ended
  pub held-open : (text part : List ℕ) (count : ℕ) → IsLength longest text (Some count)
      → IsShort count part → ¬ (Settles longest depth Then (36 ∷ (line text ++ part)))
  held-open text part count is short h =
      elim (by-line longest depth Then 36 text part refl (length-line longest text (Some count) is).0 h) [
        | inl (more, (rest, (e, c, then))) ↦ elim (bulk-completes longest depth Then text more c) [
          | inl k ↦ null-no_length longest text count k.0 is
          | inr k ↦
              (let same = length-once longest longest text count (length k.0) is k.1.0 in
              omega (arith, same, short-length count part short, ap length e, length-append more rest, ap length k.1.1, length-line-of k.0))
        ]
        | inr (cause, (rest, (other, body))) ↦ other (short-breaks count part cause rest short
            (bytes-break longest (inner_most depth) (Inner longest depth) (InnerStops longest cause depth) cause text part count rest is body))
      ]
