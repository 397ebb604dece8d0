-- What is kept of bytes that are dropped.
use Rattle.std.proofs.Common.{◌≡◌, ℕ, ◌+◌, ◌-◌, ◌<◌, ◌≤◌, ◌^◌, ◌⊎◌, List, [], ◌∷◌, ◌++◌, length, take, drop, inl, inr, ap, sym, subst, ◌∙◌, arith, append_assoc, length-append, length-drop, cond, ◌==◌, Result, Ok, Err, IfOk, IsOk, OnOk}
use Rattle.std.specs.declared.alloc.AllocError.{AllocError}
use Rattle.std.specs.List.{fold}
use Rattle.std.proofs.lemmas.List.{take-append-drop}
use Rattle.std.proofs.lemmas.List.Sums.{fold-append, sum_by-append, count_by-le-length}
use Rattle.wb_base.specs.Positions.{line_feeds, next_column, IsPositionAfter}
use Rattle.wb_base.specs.Excerpts.{IsExcerpt}
use Rattle.wb_base.specs.Recents.{AreLastOf, IsRecent}
use Rattle.wb_base.specs.declared.excerpt.Excerpt.{Excerpt}
use Rattle.wb_base.specs.declared.position.Position.{Position}
use Rattle.wb_base.specs.declared.remembering.Recent.{Recent}

-- what a success says
pub on-ok : {A E P : Type 0} (r : Result A E) → IsOk r → OnOk r P → P
on-ok (Ok a) h p = p
on-ok (Err e) h p = cc

-- line feeds of bytes one after the other
pub feeds-append : (xs ys : List ℕ) → line_feeds (xs ++ ys) ≡ line_feeds xs + line_feeds ys
feeds-append xs ys = sum_by-append (λ byte. cond (byte == 10) 1 0) xs ys

-- a byte is at most one character
next-le : (n byte : ℕ) → next_column n byte ≤ n + 1
next-le n byte = grind arith

-- a line has no more characters than bytes
pub column-le : (n : ℕ) (xs : List ℕ) → fold next_column n xs ≤ n + length xs
column-le n [] = omega arith
column-le n (x ∷ xs) = omega (arith, column-le (next_column n x) xs, next-le n x)

-- the last bytes, after more of them
pub last-more : (taken last bytes : List ℕ) → AreLastOf taken last
    → AreLastOf (taken ++ bytes) (last ++ bytes)
last-more taken last bytes (first, (is, inl e)) = (first, (ap (λ t. t ++ bytes) is ∙ append_assoc first last bytes, inl e))
last-more taken last bytes (first, (is, inr h)) =
    (first, (ap (λ t. t ++ bytes) is ∙ append_assoc first last bytes, inr (omega (arith, h, length-append last bytes))))

-- enough of the last bytes are the last of more
pub last-of-more : (taken bytes last : List ℕ) → 120 ≤ length bytes → AreLastOf bytes last
    → AreLastOf (taken ++ bytes) last
last-of-more taken bytes last enough (first, (is, inl e)) =
    (taken ++ first, (ap (λ b. taken ++ b) is ∙ sym (append_assoc taken first last), inr (omega (arith, enough, ap length is, length-append first last, ap length e))))
last-of-more taken bytes last enough (first, (is, inr h)) =
    (taken ++ first, (ap (λ b. taken ++ b) is ∙ sym (append_assoc taken first last), inr h))

-- the last of the last bytes
pub last-of-last : (taken last kept : List ℕ) → AreLastOf taken last → AreLastOf last kept
    → AreLastOf taken kept
last-of-last taken last kept (first, (is, some)) (more, (holds, inr h)) =
    (first ++ more, (is ∙ ap (λ l. first ++ l) holds ∙ sym (append_assoc first more kept), inr h))
last-of-last taken last kept (first, (is, inl none)) (more, (holds, inl e)) =
    (first ++ more, (is ∙ ap (λ l. first ++ l) holds ∙ sym (append_assoc first more kept), inl (ap (λ f. f ++ more) none ∙ e)))
last-of-last taken last kept (first, (is, inr h)) (more, (holds, inl e)) =
    (first ++ more, (is ∙ ap (λ l. first ++ l) holds ∙ sym (append_assoc first more kept), inr (omega (arith, h, ap length holds, length-append more kept, ap length e))))

-- one number is as great as another, or less
le-or-lt : (m n : ℕ) → (m ≤ n) ⊎ (n < m)
le-or-lt m n = grind arith

-- bytes that are no more than those that are wanted are all
short-zero : (len n : ℕ) → n ≡ len - 120 → len < 120 → n ≡ 0
short-zero len n e h = omega (arith, e, h)

-- the bytes from a place on, if enough are there or nothing stands before them
pub last-dropped : (bytes : List ℕ) (n : ℕ) → n ≡ length bytes - 120
    → AreLastOf bytes (drop n bytes)
last-dropped bytes n e = elim (le-or-lt 120 (length bytes)) [
  | inl h ↦ (take n bytes, (sym (take-append-drop n bytes), inr (omega (arith, h, e, length-drop n bytes))))
  | inr h ↦ (take n bytes, (sym (take-append-drop n bytes), inl (ap (λ k. take k bytes) (short-zero (length bytes) n e h))))
]

-- the line of a place is that line after more bytes
pub excerpt-before : (more before rest : List ℕ) (e : Excerpt) → IsExcerpt before rest e
    → IsExcerpt (more ++ before) rest e
excerpt-before more before rest e is = record {
  start = more ++ is.start;
  more = is.more;
  ahead = ap (λ b. more ++ b) is.ahead ∙ sym (append_assoc more is.start e.before.items);
  after = is.after;
  line_ahead = is.line_ahead;
  line_after = is.line_after;
}

-- the excerpt, if there is one, is that after more bytes
pub excerpts-before : (more before rest : List ℕ) (r : Result Excerpt AllocError)
    → IfOk r (IsExcerpt before rest)
    → IfOk r (IsExcerpt (more ++ before) rest)
excerpts-before more before rest (Ok e) h = excerpt-before more before rest e h
excerpts-before more before rest (Err e) h = tt

-- the excerpt of the last bytes and what follows them is that of all
pub excerpts-last : (taken last before line rest : List ℕ) (r : Result Excerpt AllocError)
    → AreLastOf taken last
    → line ≡ last ++ before → IfOk r (IsExcerpt line rest) → IfOk r (IsExcerpt (taken ++ before) rest)
excerpts-last taken last before line rest r (first, (is, some)) e h =
    subst (λ b. IfOk r (IsExcerpt b rest)) (ap (λ l. first ++ l) e ∙ sym (append_assoc first last before) ∙ ap (λ t. t ++ before) (sym is))
    (excerpts-before first line rest r h)

-- what is kept of bytes, and what they are short of
pub recent-fits : (taken bytes : List ℕ) (r : Recent) → IsRecent taken r
    → length (taken ++ bytes) + 1 < 2 ^ 64
    → (r.feeds + line_feeds bytes + 1 < 2 ^ 64) × (r.column + length bytes + 1 < 2 ^ 64)
recent-fits taken bytes r is fits = (
  omega (arith, fits, length-append taken bytes, is.feeds, count_by-le-length (λ byte. byte == 10) taken, count_by-le-length (λ byte. byte == 10) bytes),
  omega (arith, fits, length-append taken bytes, is.column, column-le 0 taken),
)

-- what is kept after more bytes
pub recent-more : (taken bytes : List ℕ) (old new : Recent) → IsRecent taken old
    → length (taken ++ bytes) + 1 < 2 ^ 64
    → new.feeds ≡ old.feeds + line_feeds bytes → new.column ≡ fold next_column old.column bytes
    → AreLastOf (taken ++ bytes) new.last.items → IsRecent (taken ++ bytes) new
recent-more taken bytes old new is fits feeds column last = record {
  short = fits;
  feeds = omega (arith, feeds, is.feeds, feeds-append taken bytes);
  column = column ∙ ap (λ n. fold next_column n bytes) is.column ∙ sym (fold-append next_column 0 taken bytes);
  last = last;
}

-- the position after bytes that follow those that were taken
pub recent-position : (taken before : List ℕ) (r : Recent) (p : Position) → IsRecent taken r
    → p.line ≡ r.feeds + line_feeds before + 1 → p.column ≡ fold next_column r.column before + 1
    → IsPositionAfter (taken ++ before) p
recent-position taken before r p is line column = (
  omega (arith, line, is.feeds, feeds-append taken before),
  column ∙ ap (λ n. fold next_column n before + 1) is.column ∙ ap (λ n. n + 1) (sym (fold-append next_column 0 taken before)) ∙ omega arith,
)
