-- Records that are no longer than a limit, and one that is.
use Rattle.std.proofs.Common.{◌≡◌, ◌≢◌, ℕ, ◌+◌, ◌-◌, ◌≤◌, ◌<◌, ◌⊎◌, Bool, true, false, List, [], ◌∷◌, ◌++◌, length, drop, inl, inr, refl, ap, sym, ◌∙◌, subst, arith, append_assoc, length-append, length-drop}
use Rattle.winnow_reader.specs.State.{ReaderState, pushed, ended_after, taken_by}
use Rattle.winnow_reader.specs.Reading.{MayFollow}
use Rattle.format_csv.specs.Language.{RecordAhead}
use Rattle.format_csv.specs.Filling.{IsUnfinished, BeginsJust}
use Rattle.format_csv.specs.declared.grammar.Row.{Row}
use Rattle.format_csv.proofs.lemmas.ReaderLemmas.{none-follows}
use Rattle.wb_csv.specs.Copying.{AreShort, IsOver}

-- ---- Short records

-- short records, and one more of them
short-push : (limit : ℕ) (bytes mid rest : List ℕ) (rows : List (List (List ℕ)))
    (row : List (List ℕ))
    → AreShort limit bytes rows mid → RecordAhead false mid row rest
    → length mid ≤ limit + length rest → AreShort limit bytes (rows ++ row ∷ []) rest
short-push limit bytes mid rest [] row e stands l = (
  rest,
  (
    subst (λ b. RecordAhead false b row rest) (sym e) stands,
    subst (λ b. length b ≤ limit + length rest) (sym e) l,
    refl,
  ),
)
short-push limit bytes mid rest (r ∷ rows) row (more, (first, fits, others)) stands l =
    (more, (first, fits, short-push limit more mid rest rows row others stands l))

-- what a reader has read, all of it short
abbrev pub ReadsShort : ℕ → ReaderState Row → List ℕ → List (List (List ℕ)) → Type 0
ReadsShort limit f input rows = (more : List ℕ) → MayFollow f.ended more false
    → AreShort limit (input ++ more) rows (f.ahead ++ more)

-- with a piece more the records are short
pub shorts-pushed : (limit : ℕ) (f g : ReaderState Row) (input piece : List ℕ)
    (rows : List (List (List ℕ)))
    → f.ended ≡ false → g ≡ pushed f piece → ReadsShort limit f input rows
    → ReadsShort limit g (input ++ piece) rows
shorts-pushed limit f g input piece rows goes e shorts more may =
    let old = shorts (piece ++ more) (subst (λ b. MayFollow b (piece ++ more) false) (sym goes) tt) in
    let ahead : f.ahead ++ (piece ++ more) ≡ g.ahead ++ more = sym (append_assoc f.ahead piece more) ∙ ap (λ (k : ReaderState Row). k.ahead ++ more) (sym e) in
    subst (λ i. AreShort limit i rows (g.ahead ++ more)) (sym (append_assoc input piece more))
    (subst (λ a. AreShort limit (input ++ (piece ++ more)) rows a) ahead old)

-- nothing follows the end
after-end : (ended : Bool) (more : List ℕ) → ended ≡ true → MayFollow ended more false → more ≡ []
after-end true more e may = may.0
after-end false more e may = let f = e in cc

-- and so they are at the end
pub shorts-ended : (limit : ℕ) (f g : ReaderState Row) (input : List ℕ)
    (rows : List (List (List ℕ)))
    → g ≡ ended_after f → ReadsShort limit f input rows → ReadsShort limit g input rows
shorts-ended limit f g input rows e shorts more may =
    let none = after-end g.ended more (ap (λ (k : ReaderState Row). k.ended) e) may in
    subst (λ m. AreShort limit (input ++ m) rows (g.ahead ++ m)) (sym none)
    (subst (λ a. AreShort limit (input ++ []) rows (a ++ [])) (ap (λ (k : ReaderState Row). k.ahead) (sym e)) (shorts [] (none-follows f.ended)))

-- and with a record more, if it is short
pub shorts-value : (limit : ℕ) (f k : ReaderState Row) (input : List ℕ)
    (rows : List (List (List ℕ)))
    (row : List (List ℕ)) (n : ℕ) → ReadsShort limit f input rows → n ≤ length f.ahead
    → BeginsJust f.ended f.ahead row k.ahead → k ≡ taken_by f n → n ≤ limit
    → ReadsShort limit k input (rows ++ row ∷ [])
shorts-value limit f k input rows row n shorts fits begins e within more may =
    let follows = subst (λ b. MayFollow b more false) (ap (λ (k : ReaderState Row). k.ended) e) may in
    let stands = (begins.1 more follows).0 in
    let left : length k.ahead ≡ length f.ahead - n = ap (λ (k : ReaderState Row). length k.ahead) e ∙ length-drop n f.ahead in
    short-push limit (input ++ more) (f.ahead ++ more) (k.ahead ++ more) rows row (shorts more follows) stands
    (omega (arith, within, fits, left, length-append f.ahead more, length-append k.ahead more))

-- ---- A long record

-- the first of some bytes
abbrev first : List ℕ → ℕ
first [] = 0
first (x ∷ xs) = x

-- a front that is no longer than another one begins it
front-begins : (a b c d : List ℕ) → a ++ b ≡ c ++ d → length c ≤ length a
    → a ≡ c ++ drop (length c) a
front-begins a b [] d e l = refl
front-begins [] b (y ∷ c) d e l = absurd (omega (arith, l))
front-begins (x ∷ a) b (y ∷ c) d e l =
    ap (λ z. z ∷ a) (ap first e) ∙ ap (λ t. y ∷ t) (front-begins a b c d (ap (drop 1) e) (omega (arith, l)))

-- bytes with something in them are not none
some-bytes : (bytes : List ℕ) → 0 < length bytes → bytes ≢ []
some-bytes bytes l e = omega (arith, l, ap length e)

-- a record with an end of these bytes stands within the first of them, if it leaves more than what
-- follows
stands-ended : (a follow text end rest : List ℕ) → a ++ follow ≡ text ++ (end ++ rest)
    → length follow < length rest → (mid : List ℕ) × ((a ≡ text ++ (end ++ mid)) × (a ≢ []))
stands-ended a follow text end rest e l =
    let both = text ++ end in
    let whole : a ++ follow ≡ both ++ rest = e ∙ sym (append_assoc text end rest) in
    let fits : length both < length a = omega (arith, l, ap length whole, length-append a follow, length-append both rest) in (
      drop (length both) a,
      (
        front-begins a follow both rest whole (omega (arith, fits)) ∙ append_assoc text end (drop (length both) a),
        some-bytes a (omega (arith, fits)),
      ),
    )

stands-within : (a follow rest : List ℕ) (row : List (List ℕ))
    → RecordAhead false (a ++ follow) row rest
    → length follow < length rest → (mid : List ℕ) × RecordAhead true a row mid
stands-within a follow rest row (some, (text, (more, (e, spells, inl f)))) l =
    let s = stands-ended a follow text (13 ∷ 10 ∷ []) rest (e ∙ ap (λ m. text ++ m) f) l in
    (s.0, (s.1.1, (text, (13 ∷ 10 ∷ s.0, (s.1.0, spells, inl refl)))))
stands-within a follow rest row (some, (text, (more, (e, spells, inr (inl f))))) l =
    let s = stands-ended a follow text (10 ∷ []) rest (e ∙ ap (λ m. text ++ m) f) l in
    (s.0, (s.1.1, (text, (10 ∷ s.0, (s.1.0, spells, inr (inl refl))))))
stands-within a follow rest row (some, (text, (more, (e, spells, inr (inr f))))) l =
    absurd (omega (arith, l, ap length f.1))

-- one number is less than another, or not
lt-or-le : (m n : ℕ) → (m < n) ⊎ (n ≤ m)
lt-or-le m n = grind arith

-- an unfinished record that is too long already is too long whatever follows
pub over-unfinished : (limit : ℕ) (ended : Bool) (a follow : List ℕ) → IsUnfinished ended a
    → limit < length a
    → IsOver limit (a ++ follow)
over-unfinished limit ended a follow unfinished l = (
  omega (arith, l, length-append a follow),
  λ row rest stands. elim (lt-or-le (length follow) (length rest)) [
    | inl m ↦ let s = stands-within a follow rest row stands m in absurd (unfinished.2 row s.0 s.1)
    | inr m ↦ omega (arith, l, m, length-append a follow)
  ],
)

-- a record that is too long is so whatever follows
pub over-value : (limit : ℕ) (f k : ReaderState Row) (row : List (List ℕ)) (n : ℕ) (follow : List ℕ)
    → n ≤ length f.ahead → BeginsJust f.ended f.ahead row k.ahead → k ≡ taken_by f n → limit < n
    → MayFollow f.ended follow false → IsOver limit (f.ahead ++ follow)
over-value limit f k row n follow fits begins e over may =
    let left : length k.ahead ≡ length f.ahead - n = ap (λ (k : ReaderState Row). length k.ahead) e ∙ length-drop n f.ahead in
    let just = (begins.1 follow may).1 in (
      omega (arith, over, fits, length-append f.ahead follow),
      λ other rest stands.
          let after = (just other rest stands).1 in
          omega (arith, over, fits, left, ap length after, length-append f.ahead follow, length-append k.ahead follow),
    )
