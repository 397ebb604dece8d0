-- What the parser of a line gives, and how a reader has read lines.
use Rattle.std.specs.Prelude.{Bool, true, Option, None, Some, option_map}
use Rattle.std.specs.Borrow.{Bor}
use Rattle.std.specs.Global.{Vec}
use Rattle.std.proofs.Common.{◌≡◌, ℕ, ◌+◌, List, [], ◌∷◌, ◌++◌, length, take, drop, refl, ap, sym, ◌∙◌, subst, inl, inr, arith}
use Rattle.std.proofs.lemmas.List.{append_cancel_left, take-append-drop, length-take-le, append_assoc}
use Rattle.std.proofs.lemmas.Bool.{false≢true}
use Rattle.std.proofs.lemmas.Bool.Decides.{nat_tests}
use Rattle.winnow_base.specs.Source.{Source, units}
use Rattle.winnow_base.specs.Bytes.{bytes_of}
use Rattle.winnow_base.specs.Comparison.{comparison}
use Rattle.winnow_base.specs.Search.{hit}
use Rattle.winnow_stream.proofs.lemmas.UnitLemmas.{units-drop}
use Rattle.winnow_match.proofs.lemmas.ByteLemmas.{bytes_of-units}
use Rattle.winnow_match.proofs.lemmas.HitLemmas.{hit-splits}
use Rattle.winnow_match.specs.declared.compare.CompareResult.TheVariants as compared
use Rattle.winnow.specs.Outcome.{Ahead, Outcome, Meaning, after, Backtracks, Cuts, Needs, Gives, Fails}
use Rattle.winnow.specs.Meanings.{IsTerminated}
use Rattle.winnow.specs.TakeUntil.{TakesUntil, has_counts}
use Rattle.winnow.specs.Literal.{IsLiteral}
use Rattle.winnow.specs.Place.{IsByteSlice, bytes_at}
use Rattle.winnow.specs.InTurn.{bytes_at-slice}
use Rattle.winnow_base.specs.Needed.{Needed}
use Rattle.winnow_base.specs.Needed.TheVariants.{Unknown}
use Rattle.example_lines.specs.Lines.{line_end, LineSlice, OneLine, IsNextLine, first_end}

-- ---- The parser

-- what `terminated` of a search and a literal means, of which both are the line end
abbrev LineBetween : List ℕ → List ℕ → ℕ → Option ℕ → Meaning (Bor (List ℕ)) ℕ
LineBetween needle text least greatest =
    IsTerminated (TakesUntil IsByteSlice (λ r. hit (needle ∷ []) (bytes_of r)) least greatest)
    (IsLiteral IsByteSlice (λ r. comparison text (bytes_of r)))

-- the search alone, and the literal alone
abbrev LineStart : Meaning (Bor (List ℕ)) ℕ
LineStart = TakesUntil IsByteSlice (λ r. hit (line_end ∷ []) (bytes_of r)) 0 None

abbrev LineEnd : Meaning (Bor (List ℕ)) ℕ
LineEnd = IsLiteral IsByteSlice (λ r. comparison line_end (bytes_of r))

-- it is the slice of a line
pub line-slice : (needle text : List ℕ) (least : ℕ) (greatest : Option ℕ) (partial : Bool)
    (a : Ahead ℕ) (v : Outcome (Bor (List ℕ)) ℕ) → needle ≡ line_end → text ≡ line_end → least ≡ 0
    → greatest ≡ None → LineBetween needle text least greatest partial a v → LineSlice partial a v
line-slice needle text least greatest partial a v n t l g h =
    subst (λ x. LineBetween x line_end 0 None partial a v) n
    (subst (λ x. LineBetween needle x 0 None partial a v) t
    (subst (λ x. LineBetween needle text x None partial a v) l
    (subst (λ x. LineBetween needle text least x partial a v) g h)))

-- ---- The slice before a line end

-- the bytes from a place on, where a line end stands
after-place : (bytes rest : List ℕ) (n : ℕ) → bytes ≡ take n bytes ++ line_end ++ rest
    → drop n bytes ≡ line_end ++ rest
after-place bytes rest n e =
    append_cancel_left (take n bytes) (drop n bytes) (line_end ++ rest) (take-append-drop n bytes ∙ e ∙ append_assoc (take n bytes) line_end rest)

module _ (place : ℕ) (bytes : List ℕ) where
  -- the search gives the slice of the next line, and leaves its end
  before-end : (partial : Bool) (slice : Bor (List ℕ)) (c : Ahead ℕ)
      → LineStart partial (bytes_at place bytes) (Gives slice c)
      → (there : ℕ) × ((rest : List ℕ)
      × ((c ≡ bytes_at there (line_end ++ rest)) × IsNextLine bytes slice.now rest))
  before-end partial slice c (stays, (r, (at, (of, c_is, counts)))) =
      let found : hit (line_end ∷ []) bytes ≡ Some r = ap (λ x. hit (line_end ∷ []) x) (sym (bytes_of-units bytes)) ∙ at.0 in
      let split = hit-splits line_end bytes r found in
      let rest : List ℕ = drop r.end bytes in
      let taken = bytes_at-slice place bytes slice r.start at.1 of in
      let text = taken.1 in
      let long : length slice.now ≡ r.start = ap length text ∙ length-take-le r.start bytes taken.0 in (
        place + r.start,
        (
          rest,
          (
            c_is ∙ taken.2 ∙ ap (bytes_at (place + r.start)) (after-place bytes rest r.start split.2),
            (
              split.2 ∙ ap (λ l. l ++ line_end ++ rest) (sym text),
              ap (option_map (λ p. p.start)) found ∙ ap Some (sym long),
            ),
          ),
        ),
      )

-- a line end is read where it stands
end-stands : (there : ℕ) (rest : List ℕ)
    → comparison line_end (bytes_of (bytes_at there (line_end ++ rest)).tokens) ≡ compared.Ok 2
end-stands there rest = refl

-- two lengths of a comparison that fits are the same
same-width : (n m : ℕ) → compared.Ok n ≡ compared.Ok m → n ≡ m
same-width n m e = grind arith

-- what the line end leaves
end-given : (partial : Bool) (there : ℕ) (rest : List ℕ) (slice : Bor (List ℕ)) (b : Ahead ℕ)
    → LineEnd partial (bytes_at there (line_end ++ rest)) (Gives slice b) → b ≡ bytes_at (there + 2) rest
end-given partial there rest slice b (n, (fits, offset, of_end, b_is)) =
    b_is ∙ ap (after (bytes_at there (line_end ++ rest))) (same-width n 2 (sym fits ∙ end-stands there rest))
    ∙ ap (λ t. record { location = Some (there + 2); tokens = t }) (sym (units-drop (line_end ++ rest) 2 (omega arith)))

-- each number of bytes is allowed
any-count : (r : Source ℕ) (n : ℕ) → has_counts 0 None r n ≡ true
any-count r n = grind (arith, nat_tests)

-- a comparison that fits is no other
differs : compared.Ok 2 ≡ compared.Incomplete → ⊥
differs e = cc

differs' : compared.Ok 2 ≡ compared.Error → ⊥
differs' e = cc

-- ---- A line

module _ (place : ℕ) (bytes : List ℕ) where
  -- a line that is given is the next one
  pub line-given : (partial : Bool) (line : Vec ℕ) (b : Ahead ℕ)
      → OneLine partial (bytes_at place bytes) (Gives line b)
      → (there : ℕ) × ((rest : List ℕ) × ((b ≡ bytes_at there rest) × IsNextLine bytes line.items rest))
  line-given partial line b (slice, ((both, (is, (c, (start, end)))), copied)) =
      let s = before-end place bytes partial both.0 c start in
      let there : ℕ = s.0 in
      let rest : List ℕ = s.1.0 in
      let left = end-given partial there rest both.1 b (subst (λ a. LineEnd partial a (Gives both.1 b)) s.1.1.0 end) in
      let text : both.0.now ≡ line.items = ap (λ x. x.now) is ∙ sym copied in
      (there + 2, (rest, (left, subst (λ l. IsNextLine bytes l rest) text s.1.1.1)))

  -- where more may follow, more is needed just where no line end stands in the rest
  pub needs-end : (need : Needed) → OneLine true (bytes_at place bytes) (Fails (Needs need))
      → (first_end bytes ≡ None) × (need ≡ Unknown)
  needs-end need (inl (inl (stays, (may, none, counts, unknown)))) =
      (ap (λ x. option_map (λ p. p.start) (hit (line_end ∷ []) x)) (sym (bytes_of-units bytes)) ∙ ap (option_map (λ p. p.start)) none, unknown)
  needs-end need (inl (inr (slice, (c, (start, (may, short, unknown)))))) =
      let s = before-end place bytes true slice c start in
      absurd (differs (sym (end-stands s.0 s.1.0) ∙ ap (λ a. comparison line_end (bytes_of a.tokens)) (sym s.1.1.0) ∙ short))
  needs-end need (inr (refusal, given)) = absurd refusal

  -- where more may follow, a line never fails
  pub never-backtracks : (b : Ahead ℕ)
      → ¬ (OneLine true (bytes_at place bytes) (Fails (Backtracks b)))
  never-backtracks b (inl (inl (stays, (is, allowed, inl (none, whole))))) = absurd (cc)
  never-backtracks b (inl (inl (stays, (is, allowed, inr (r, (at, few)))))) = absurd (false≢true (sym few ∙ any-count (units bytes) r.start))
  never-backtracks b (inl (inr (slice, (c, (start, (is, inl differ)))))) =
      let s = before-end place bytes true slice c start in
      absurd (differs' (sym (end-stands s.0 s.1.0) ∙ ap (λ a. comparison line_end (bytes_of a.tokens)) (sym s.1.1.0) ∙ differ))
  never-backtracks b (inl (inr (slice, (c, (start, (is, inr (short, whole))))))) = absurd (cc)
  never-backtracks b (inr (refusal, given)) = absurd refusal

  pub never-cuts : (b : Ahead ℕ) → ¬ (OneLine true (bytes_at place bytes) (Fails (Cuts b)))
  never-cuts b (inl (inl (stays, (is, none)))) = absurd (false≢true (sym none))
  never-cuts b (inl (inr (slice, (c, (start, end))))) = absurd end
  never-cuts b (inr (refusal, given)) = absurd refusal
