-- If a source begins with bytes that a parser reads, the parser returns a value for them, or memory
-- is refused.
use Rattle.std.proofs.Common.{◌≡◌, ℕ, ◌<◌, ◌≤◌, ◌==◌, nat_le, Bool, true, false, ◌&&◌, List, [], ◌∷◌, ◌++◌, length, take, drop, inl, inr, Option, Some, None, ap, sym, ◌∙◌, subst, refl, arith, length-append}
use Rattle.std.specs.Prelude.{⊤, IfSome, ℤ}
use Rattle.std.proofs.lemmas.Bool.Decides.{nat_tests}
use Rattle.std.proofs.lemmas.List.{take_all}
use Rattle.std.proofs.lemmas.Option.{none-some, same_Some}
use Rattle.winnow_stream.specs.Source.{Source, width, first_token, held_front, HoldsAll, HasPositiveWidths}
use Rattle.winnow_stream.specs.Front.{is_offset, back}
use Rattle.winnow_stream.specs.SliceBytes.{SlicesHaveBytes}
use Rattle.winnow_stream.proofs.lemmas.HeldLemmas.{held_front-append}
use Rattle.winnow_count.specs.Reading.{IsSomeExactly}
use Rattle.winnow_parser.specs.Outcome.{Ahead, Backtracks, Cuts, Needs, Refuses, Outcome, Gives, Fails, Meaning}
use Rattle.winnow_parser.specs.Meanings.{Maps, Pair, IsTerminated, CutsErr, VerifyMaps, Returns}
use Rattle.winnow_parser.specs.FlatMap.{FlatMaps}
use Rattle.winnow_token.specs.OneOf.{IsOneOf}
use Rattle.winnow_token.specs.TakeWhile.{TakesWhile, held_within, is_offset-within}
use Rattle.winnow_token.specs.Take.{Takes}
use Rattle.winnow_combinator.specs.Gathering.{Gathered}
use Rattle.format_lemmas.specs.Bytes.{bytes_of}
use Rattle.format_lemmas.proofs.lemmas.TokenLemmas.{itself}
use Rattle.format_lemmas.proofs.lemmas.ByteLemmas.{length-bytes}
use Rattle.format_resp.specs.Language.{line_end, is_in_line, AreInLine, IsText, line, IsInteger, IsLength}
use Rattle.format_resp.specs.Meanings.{most_digits, LineEnd, Line, Text, Number, Length, Bytes, HasBytes}
use Rattle.format_resp.specs.Ahead.{IsAhead}
use Rattle.format_resp.proofs.lemmas.AheadLemmas.{ahead-split, ahead-wide, ahead-first, ahead-none, take-seam}
use Rattle.format_resp.proofs.lemmas.YieldLemmas.{slice-taken}

-- a value of which P holds, with this rest; or memory was refused
abbrev pub IsAccepted : {O : Type 0} → (O → Type 0) → Source ℕ → Outcome O ℕ → Type 0
IsAccepted P s (Gives x b) = P x × (b.tokens ≡ s)
IsAccepted P s (Fails f) = f ≡ Refuses

-- the parser accepts the source, and leaves this rest
abbrev pub Accepts : {O : Type 0} → Meaning O ℕ → Source ℕ → (O → Type 0) → Source ℕ → Type 0
Accepts {O} means r P s = (partial : Bool) (a : Ahead ℕ) (v : Outcome O ℕ) → a.tokens ≡ r → means partial a v → IsAccepted P s v

-- the parser accepts each source that begins with the text
abbrev pub Reads : {O : Type 0} → Meaning O ℕ → List ℕ → (O → Type 0) → Type 0
Reads means text P = (r s : Source ℕ) → HasPositiveWidths r → IsAhead r text s → Accepts means r P s

-- what is known of the value that is read can be weakened
pub reads-weaker : {O : Type 0} (means : Meaning O ℕ) (t : List ℕ) (A B : O → Type 0)
    → ((x : O) → A x → B x) → Reads means t A → Reads means t B
reads-weaker means t A B on one r s wide stands partial a (Gives x b) e h =
    let k = one r s wide stands partial a (Gives x b) e h in (on x k.0, k.1)
reads-weaker means t A B on one r s wide stands partial a (Fails f) e h = one r s wide stands partial a (Fails f) e h

module _ {O P : Type 0} (first : Meaning O ℕ) (second : Meaning P ℕ) (r m s : Source ℕ) (A : O → Type 0) (B : P → Type 0) (one : Accepts first r A m) (two : Accepts second m B s) where
  -- two parsers accept a source, the second what the first leaves
  pub accepts-pair : Accepts (Pair first second) r (λ both. A both.0 × B both.1) s
  accepts-pair partial a (Gives both c) e h =
      let x = one partial a (Gives both.0 h.0) e h.1.0 in
      let y = two partial h.0 (Gives both.1 c) x.1 h.1.1 in
      ((x.0, y.0), y.1)
  accepts-pair partial a (Fails f) e (inl h) = one partial a (Fails f) e h
  accepts-pair partial a (Fails f) e (inr (x, (b, (h, g)))) =
      let y = one partial a (Gives x b) e h in two partial b (Fails f) y.1 g

  -- `IsTerminated` accepts the same, and gives the first value
  pub accepts-terminated : Accepts (IsTerminated first second) r A s
  accepts-terminated partial a (Gives x c) e h =
      let k = accepts-pair partial a (Gives h.0 c) e h.1.1 in (subst A h.1.0 k.0.0, k.1)
  accepts-terminated partial a (Fails f) e h = accepts-pair partial a (Fails f) e h

module _ {O P : Type 0} (first : Meaning O ℕ) (second : Meaning P ℕ) (t u : List ℕ) (A : O → Type 0) (B : P → Type 0) (one : Reads first t A) (two : Reads second u B) where
  -- two parsers read two texts in a row
  pub reads-pair : Reads (Pair first second) (t ++ u) (λ both. A both.0 × B both.1)
  reads-pair r q wide stands =
      let k = ahead-split t u r q stands in
      accepts-pair first second r k.0 q A B (one r k.0 wide k.1.0) (two k.0 q (ahead-wide t r k.0 k.1.0 wide) k.1.1)

  -- `IsTerminated` reads the same, and gives the first value
  pub reads-terminated : Reads (IsTerminated first second) (t ++ u) A
  reads-terminated r q wide stands =
      let k = ahead-split t u r q stands in
      accepts-terminated first second r k.0 q A B (one r k.0 wide k.1.0) (two k.0 q (ahead-wide t r k.0 k.1.0 wide) k.1.1)

module _ {O P V : Type 0} (makes : O → V → Type 0) (means : V → Meaning P ℕ) (first : Meaning O ℕ) (t u : List ℕ) (A : O → Type 0) (B : P → Type 0) (one : Reads first t A) (two : (x : O) (v : V) → A x → makes x v → Reads (means v) u B) where
  -- a parser and the one that is made of its value read two texts in a row
  pub reads-continued : Reads (FlatMaps makes means first) (t ++ u) B
  reads-continued r q wide stands partial a (Gives y c) e (x, (b, (v, (h, m, g)))) =
      let k = ahead-split t u r q stands in
      let w = one r k.0 wide k.1.0 partial a (Gives x b) e h in
      two x v w.0 m k.0 q (ahead-wide t r k.0 k.1.0 wide) k.1.1 partial b (Gives y c) w.1 g
  reads-continued r q wide stands partial a (Fails f) e (inl h) =
      let k = ahead-split t u r q stands in one r k.0 wide k.1.0 partial a (Fails f) e h
  reads-continued r q wide stands partial a (Fails f) e (inr (x, (b, (v, (h, m, g))))) =
      let k = ahead-split t u r q stands in
      let w = one r k.0 wide k.1.0 partial a (Gives x b) e h in
      two x v w.0 m k.0 q (ahead-wide t r k.0 k.1.0 wide) k.1.1 partial b (Fails f) w.1 g

module _ {O P : Type 0} (gives : O → P → Type 0) (inner : Meaning O ℕ) (t : List ℕ) (A : O → Type 0) (B : P → Type 0) (one : Reads inner t A) (on : (x : O) (y : P) → A x → gives x y → B y) where
  -- `Maps` reads what the inner parser reads
  pub reads-maps : Reads (Maps gives inner) t B
  reads-maps r s wide stands partial a (Gives y b) e h =
      let k = one r s wide stands partial a (Gives h.0 b) e h.1.1 in (on h.0 y k.0 h.1.0, k.1)
  reads-maps r s wide stands partial a (Fails f) e h = one r s wide stands partial a (Fails f) e h

  -- `Gathered` reads what the inner parser reads
  pub reads-gathered : Reads (Gathered ⊤ gives inner) t B
  reads-gathered r s wide stands partial a (Gives y b) e h =
      let k = one r s wide stands partial a (Gives h.0 b) e h.1.1 in (on h.0 y k.0 h.1.0, k.1)
  reads-gathered r s wide stands partial a (Fails (Backtracks b)) e h = one r s wide stands partial a (Fails (Backtracks b)) e h
  reads-gathered r s wide stands partial a (Fails (Cuts b)) e h = one r s wide stands partial a (Fails (Cuts b)) e h
  reads-gathered r s wide stands partial a (Fails (Needs n)) e h = one r s wide stands partial a (Fails (Needs n)) e h
  reads-gathered r s wide stands partial a (Fails Refuses) e h = refl

-- no failure but a refusal is a refusal
backtracks-not : {b : Ahead ℕ} → Backtracks b ≡ Refuses → ⊥
backtracks-not e = cc

module _ {O : Type 0} (inner : Meaning O ℕ) (t : List ℕ) (A : O → Type 0) (one : Reads inner t A) where
  -- `CutsErr` reads what the inner parser reads
  pub reads-cut : Reads (CutsErr inner) t A
  reads-cut r s wide stands partial a (Gives x b) e h = one r s wide stands partial a (Gives x b) e h
  reads-cut r s wide stands partial a (Fails (Backtracks b)) e h = absurd h
  reads-cut r s wide stands partial a (Fails (Cuts b)) e (inl h) =
      absurd (backtracks-not (one r s wide stands partial a (Fails (Backtracks b)) e h))
  reads-cut r s wide stands partial a (Fails (Cuts b)) e (inr h) = one r s wide stands partial a (Fails (Cuts b)) e h
  reads-cut r s wide stands partial a (Fails (Needs n)) e h = one r s wide stands partial a (Fails (Needs n)) e h
  reads-cut r s wide stands partial a (Fails Refuses) e h = refl

module _ {O P : Type 0} (gives : O → Option P → Type 0) (inner : Meaning O ℕ) (t : List ℕ) (A : O → Type 0) (y : P) (one : Reads inner t A) (on : (x : O) (made : Option P) → A x → gives x made → made ≡ Some y) where
  -- `VerifyMaps` reads what the inner parser reads, if the value is chosen
  pub reads-chosen : Reads (VerifyMaps gives inner) t (λ z. z ≡ y)
  reads-chosen r s wide stands partial a (Gives z b) e h =
      let k = one r s wide stands partial a (Gives h.0 b) e h.1.1 in (same_Some _ _ (on h.0 (Some z) k.0 h.1.0), k.1)
  reads-chosen r s wide stands partial a (Fails (Backtracks b)) e (inl h) = one r s wide stands partial a (Fails (Backtracks b)) e h
  reads-chosen r s wide stands partial a (Fails (Backtracks b)) e (inr (same, (x, (c, (h, g))))) =
      let k = one r s wide stands partial a (Gives x c) e h in absurd (none-some _ (on x None k.0 g))
  reads-chosen r s wide stands partial a (Fails (Cuts b)) e h = one r s wide stands partial a (Fails (Cuts b)) e h
  reads-chosen r s wide stands partial a (Fails (Needs n)) e h = one r s wide stands partial a (Fails (Needs n)) e h
  reads-chosen r s wide stands partial a (Fails Refuses) e h = refl

-- nothing is read where nothing is asked for
pub reads-returns : Reads {O = Unit {0}} (Returns tt) [] (λ x. ⊤)
reads-returns r s wide stands partial a (Gives x b) e h = (tt, ap (λ c. c.tokens) (sym h.1) ∙ e ∙ ahead-none r s stands)
reads-returns r s wide stands partial a (Fails f) e h = absurd h

module _ (holds : ℕ → Bool) (c : ℕ) (held : holds c ≡ true) where
  -- a first token that is held is accepted
  accepts-one : (x : ℕ × ℕ) (s : Source ℕ) → x.0 ≡ c
      → Accepts (IsOneOf holds) (x ∷ s) (λ y. y ≡ c) s
  accepts-one x s is partial a (Gives y b) e h =
      (same_Some y x.0 (sym h.0 ∙ ap first_token e) ∙ is, ap (λ k. k.tokens) h.2 ∙ ap (drop 1) e)
  accepts-one x s is partial a (Fails (Backtracks b)) e h =
      let no : holds x.0 ≡ false = subst (λ r. IfSome (first_token r) (λ z. holds z ≡ false)) e h.0 in
      let yes : holds x.0 ≡ true = ap holds is ∙ held in
      absurd (let f = sym no ∙ yes in cc)
  accepts-one x s is partial a (Fails (Cuts b)) e h = absurd h
  accepts-one x s is partial a (Fails (Needs n)) e h = absurd (let f = sym e ∙ h.0 in cc)
  accepts-one x s is partial a (Fails Refuses) e h = absurd h

  -- a byte that is held is read
  pub reads-one : Reads (IsOneOf holds) (c ∷ []) (λ y. y ≡ c)
  reads-one r s wide stands partial a v e h =
      let k = ahead-first c [] r s stands in
      accepts-one k.0 s k.1.1.1 partial a v (e ∙ k.1.1.0 ∙ ap (λ q. k.0 ∷ q) (ahead-none k.1.0 s k.1.1.2)) h

-- a value that is accepted for one reason is accepted for a weaker one
pub weaker : {O : Type 0} (A B : O → Type 0) (s : Source ℕ) (v : Outcome O ℕ)
    → ((x : O) → A x → B x) → IsAccepted A s v → IsAccepted B s v
weaker A B s (Gives x b) on h = (on x h.0, h.1)
weaker A B s (Fails f) on h = h

-- the end of a line is read
pub reads-end : Reads (LineEnd itself) line_end (λ both. ⊤)
reads-end r s wide stands partial a v e h =
    weaker (λ both. (both.0 ≡ 13) × (both.1 ≡ 10)) (λ both. ⊤) s v (λ x k. tt)
    (reads-pair (IsOneOf (λ token. 13 == token)) (IsOneOf (λ token. 10 == token)) (13 ∷ []) (10 ∷ []) (λ y. y ≡ 13) (λ y. y ≡ 10) (reads-one (λ token. 13 == token) 13 refl) (reads-one (λ token. 10 == token) 10 refl) r s wide stands partial a v e h)

-- ---- Slices

-- the first tokens of which bytes can stand in a line are held
held-line : (f : Source ℕ) (t : List ℕ) → bytes_of f ≡ t → AreInLine t → HoldsAll is_in_line f
held-line [] t e h = tt
held-line (x ∷ f) t e h =
    let all : AreInLine (x.0 ∷ bytes_of f) = subst AreInLine (sym e) h in (all.0, held-line f (bytes_of f) refl all.1)

-- a prefix that does not reach the end of the input is not lengthened by more input
no-growth : (partial below : Bool) (m n : ℕ) → n < m → (partial && (nat_le m n && below)) ≡ true → ⊥
no-growth true below m n l h =
    let e : nat_le m n ≡ false = grind (arith, nat_tests, l) in
    let k : (nat_le m n && below) ≡ true = h in
    let f = rw e at k in
    cc
no-growth false below m n l h = cc

module _ {S : Type 0} (counts_shortage : Bool) (is_slice : S → Source ℕ → ℕ → Type 0) (bytes : S → List ℕ) (have : SlicesHaveBytes is_slice bytes) where
  -- a text that is the longest prefix of members, before another byte, is accepted
  accepts-front : (longest : ℕ) (f s : Source ℕ) (x : ℕ × ℕ) (a : Ahead ℕ) → a.tokens ≡ f ++ x ∷ s
      → held_within (Some longest) is_in_line a.tokens ≡ f → HasPositiveWidths a.tokens
      → (partial : Bool) (v : Outcome S ℕ)
      → TakesWhile is_slice is_in_line 0 (Some longest) partial a v
      → IsAccepted (λ slice. bytes slice ≡ bytes_of f) (x ∷ s) v
  accepts-front longest f s x a whole held wide partial (Gives slice b) h =
      let is = subst (λ t. is_slice slice a.tokens (width t)) held h.0 in
      let offset = subst (λ t. is_offset a.tokens (width t) ≡ true) held (is_offset-within is_in_line (Some longest) a.tokens) in
      let got = slice-taken counts_shortage is_slice bytes have a.tokens f (x ∷ s) slice whole wide offset is in
      (got.0, ap (λ c. c.tokens) h.1 ∙ ap (λ t. back a.tokens (width t)) held ∙ got.1)
  accepts-front longest f s x a whole held wide partial (Fails (Backtracks b)) h = absurd (omega (arith, h.1))
  accepts-front longest f s x a whole held wide partial (Fails (Cuts b)) h = absurd (grind (arith, nat_tests, h.1))
  accepts-front longest f s x a whole held wide partial (Fails (Needs n)) h =
      absurd (no-growth partial _ (length a.tokens) (length (held_within (Some longest) is_in_line a.tokens)) (omega (arith, ap length held, ap length whole, length-append f (x ∷ s))) h.2)
  accepts-front longest f s x a whole held wide partial (Fails Refuses) h = refl

  -- a text before a byte that cannot stand in a line is accepted
  accepts-held : (longest : ℕ) (f s : Source ℕ) (x : ℕ × ℕ) (r : Source ℕ) → r ≡ f ++ x ∷ s
      → HoldsAll is_in_line f → is_in_line x.0 ≡ false → length f ≤ longest → HasPositiveWidths r
      → Accepts (TakesWhile is_slice is_in_line 0 (Some longest)) r (λ slice. bytes slice
      ≡ bytes_of f) (x ∷ s)
  accepts-held longest f s x r whole all ends short wide partial a v e h =
      let here : a.tokens ≡ f ++ x ∷ s = e ∙ whole in
      let held : held_within (Some longest) is_in_line a.tokens ≡ f =
      ap (λ t. take longest (held_front is_in_line t)) here
      ∙ ap (take longest) (held_front-append is_in_line f (x ∷ s) all (λ y first. ap is_in_line (sym (same_Some _ _ first)) ∙ ends))
      ∙ take_all longest f short in
      accepts-front longest f s x a here held (subst HasPositiveWidths (sym e) wide) partial v h

  -- the text of a line and its end are read
  pub reads-line : (longest : ℕ) (t : List ℕ) → IsText longest t
      → Reads (Line itself counts_shortage is_slice bytes longest) (line t) (λ slice. bytes slice
      ≡ t)
  reads-line longest t text r q wide stands =
      let k = ahead-split t line_end r q stands in
      let f = k.1.0.0 in
      let x = ahead-first 13 (10 ∷ []) k.0 q k.1.1 in
      let whole : r ≡ f ++ x.0 ∷ x.1.0 = k.1.0.1.0 ∙ ap (λ s. f ++ s) x.1.1.0 in
      let ends : is_in_line x.0.0 ≡ false = ap is_in_line x.1.1.1 in
      let short : length f ≤ longest = omega (arith, text.1, ap length k.1.0.1.1, length-bytes f) in
      let held = accepts-held longest f x.1.0 x.0 r whole (held-line f t k.1.0.1.1 text.0) ends short wide in
      let end = reads-end k.0 q (ahead-wide t r k.0 k.1.0 wide) k.1.1 in
      accepts-terminated (TakesWhile is_slice is_in_line 0 (Some longest)) (LineEnd itself) r k.0 q (λ slice. bytes slice ≡ t) (λ both. ⊤)
      (λ partial a v e h. weaker _ _ k.0 v (λ slice is. is ∙ k.1.0.1.1) (subst (λ s. IsAccepted (λ slice. bytes slice ≡ bytes_of f) s v) (sym x.1.1.0) (held partial a v e h)))
      end

  -- the text of a line is read
  pub reads-text : (longest : ℕ) (t : List ℕ) → IsText longest t
      → Reads (Text itself counts_shortage is_slice bytes longest) (line t) (λ v. v.items ≡ t)
  reads-text longest t text = reads-gathered (HasBytes bytes) (CutsErr (Line itself counts_shortage is_slice bytes longest)) (line t) (λ slice. bytes slice ≡ t) (λ v. v.items ≡ t)
      (reads-cut (Line itself counts_shortage is_slice bytes longest) (line t) (λ slice. bytes slice ≡ t) (reads-line longest t text)) (λ slice v is has. has ∙ is)

  -- the value that a line is read as is read
  pub reads-value : {R : Type 0} (reads : List ℕ → R → Type 0) (t : List ℕ) (n : R) → reads t n
      → IsText most_digits t
      → Reads
      (CutsErr
      (VerifyMaps (λ slice m. IsSomeExactly (reads (bytes slice)) m)
      (Line itself counts_shortage is_slice bytes most_digits))) (line t) (λ m. m ≡ n)
  reads-value {R = R} reads t n h text =
      let gives : S → Option R → Type 0 = λ slice m. IsSomeExactly (reads (bytes slice)) m in
      let on : (slice : S) (made : Option R) → bytes slice ≡ t → gives slice made → made ≡ Some n = λ slice made is g. (g n).1 (subst (λ s. reads s n) (sym is) h) in
      reads-cut (VerifyMaps gives (Line itself counts_shortage is_slice bytes most_digits)) (line t) (λ m. m ≡ n)
      (reads-chosen gives (Line itself counts_shortage is_slice bytes most_digits) (line t) (λ slice. bytes slice ≡ t) n (reads-line most_digits t text) on)

  -- an integer is read
  pub reads-number : (t : List ℕ) (n : ℤ) → IsInteger t n → IsText most_digits t
      → Reads (Number itself counts_shortage is_slice bytes) (line t) (λ m. m ≡ n)
  reads-number = reads-value IsInteger

  -- a length is read
  pub reads-length : (greatest : ℕ) (t : List ℕ) (n : Option ℕ) → IsLength greatest t n
      → IsText most_digits t
      → Reads (Length itself counts_shortage is_slice bytes greatest) (line t) (λ m. m ≡ n)
  reads-length greatest = reads-value (IsLength greatest)

  -- that many bytes are accepted
  accepts-counted : (n : ℕ) (f s r : Source ℕ) → r ≡ f ++ s → length f ≡ n → HasPositiveWidths r
      → Accepts (Takes counts_shortage is_slice n) r (λ slice. bytes slice ≡ bytes_of f) s
  accepts-counted n f s r whole count wide partial a (Gives slice b) e h =
      let here : a.tokens ≡ f ++ s = e ∙ whole in
      let taken : take n a.tokens ≡ f = ap (take n) here ∙ ap (λ k. take k (f ++ s)) (sym count) ∙ take-seam f s in
      let is = subst (λ t. is_slice slice a.tokens (width t)) taken h.2 in
      let offset = subst (λ t. is_offset a.tokens (width t) ≡ true) taken h.1 in
      let got = slice-taken counts_shortage is_slice bytes have a.tokens f s slice here (subst HasPositiveWidths (sym e) wide) offset is in
      (got.0, ap (λ c. c.tokens) h.3 ∙ ap (λ t. back a.tokens (width t)) taken ∙ got.1)
  accepts-counted n f s r whole count wide partial a (Fails (Backtracks b)) e h =
      absurd (omega (arith, h.0, ap length e, ap length whole, length-append f s, count))
  accepts-counted n f s r whole count wide partial a (Fails (Cuts b)) e h = absurd h
  accepts-counted n f s r whole count wide partial a (Fails (Needs m)) e h =
      absurd (omega (arith, h.0, ap length e, ap length whole, length-append f s, count))
  accepts-counted n f s r whole count wide partial a (Fails Refuses) e h = absurd h

  -- that many bytes and the end of a line are read
  pub reads-bytes : (n : ℕ) (t : List ℕ) → length t ≡ n
      → Reads (Bytes itself counts_shortage is_slice bytes n) (line t) (λ v. v.items ≡ t)
  reads-bytes n t count =
      reads-gathered (HasBytes bytes) (CutsErr (IsTerminated (Takes counts_shortage is_slice n) (LineEnd itself))) (line t) (λ slice. bytes slice ≡ t) (λ v. v.items ≡ t)
      (reads-cut (IsTerminated (Takes counts_shortage is_slice n) (LineEnd itself)) (line t) (λ slice. bytes slice ≡ t)
      (reads-terminated (Takes counts_shortage is_slice n) (LineEnd itself) t line_end (λ slice. bytes slice ≡ t) (λ both. ⊤)
      (λ r s wide stands partial a v e h. weaker _ _ s v (λ slice is. is ∙ stands.1.1) (accepts-counted n stands.0 s r stands.1.0 (sym (length-bytes stands.0) ∙ ap length stands.1.1 ∙ count) wide partial a v e h))
      reads-end))
      (λ slice v is has. has ∙ is)
