-- What a format means: which bytes spell a value, and what a reader of it answers.
use Rattle.std.specs.Prelude.{◌≡◌, ℕ, Bool, true, false, List, [], ◌++◌, map, ⊤}
use Rattle.std.proofs.Common.{ap, sym, ◌∙◌, append_assoc}
use Rattle.std.proofs.lemmas.List.{map-append}
use Rattle.winnow_stream.specs.Source.{Source}
use Rattle.winnow_parser.specs.Outcome.{Ahead, Backtracks, Cuts, Needs, Refuses, Gives, Fails, Meaning, Moves}
use Rattle.winnow_parser.specs.Laws.{longer, IsStable, IsFinal, IsOnward, IsParser}

-- the bytes of a source
abbrev pub bytes_of : Source ℕ → List ℕ
bytes_of r = map (λ x. x.0) r

-- which bytes spell which value
abbrev pub Spelling : Type 0 → Type 1
Spelling V = V → List ℕ → Type 0

-- the stream took these bytes, from one place to the other
pub record Takes (bytes : List ℕ) (a b : Ahead ℕ) : Type 0 where
  pub moves : Moves a b
  pub taken : bytes_of moves.taken ≡ bytes

-- no value is spelled at the front of the bytes, nor at the front of what they become where more
-- may follow
abbrev pub SpellsNone : {V : Type 0} → Spelling V → Bool → List ℕ → Type 0
SpellsNone {V} spells partial ahead = (v : V) (bytes more rest : List ℕ)
    → (partial ≡ false → more ≡ []) → spells v bytes → ahead ++ more ≡ bytes ++ rest → ⊥

-- what a reader of a format may answer: a value whose spelling it took; a backtrack where no value
-- is spelled ahead, whatever follows; and that more is needed where more may follow and no value is
-- spelled yet. It never cuts
abbrev pub Reads : {V : Type 0} → Spelling V → Meaning V ℕ
Reads spells partial a (Gives v b) = (bytes : List ℕ) × (spells v bytes × Takes bytes a b)
Reads spells partial a (Fails (Backtracks b)) = Moves a b × SpellsNone spells partial (bytes_of a.tokens)
Reads spells partial a (Fails (Cuts b)) = ⊥
Reads spells partial a (Fails (Needs n)) = (partial ≡ true) × SpellsNone spells false (bytes_of a.tokens)
Reads spells partial a (Fails Refuses) = ⊤

-- where two spellings stand at the front of the same bytes, they are one, and their values are the
-- same
abbrev pub IsPrefixFree : {V : Type 0} → (V → V → Type 0) → Spelling V → Type 0
IsPrefixFree {V} same spells = (v w : V) (bytes others rest left : List ℕ) → spells v bytes → spells w others
    → bytes ++ rest ≡ others ++ left → same v w × (bytes ≡ others)

-- the laws of a format: a value has one spelling, and no spelling is the front of another's
pub record IsFormat {V : Type 0} (same : V → V → Type 0) (spells : Spelling V) : Type 0 where
  pub canonical : (v : V) (bytes others : List ℕ) → spells v bytes → spells v others
      → bytes ≡ others
  pub prefix_free : (v w : V) (bytes others rest left : List ℕ) → spells v bytes → spells w others
      → bytes ++ rest ≡ others ++ left → same v w × (bytes ≡ others)

-- both are one
abbrev pub IsEqual : {V : Type 0} → V → V → Type 0
IsEqual v w = v ≡ w

-- values that are the same are equal
abbrev pub IsExact : {V : Type 0} → (V → V → Type 0) → Type 0
IsExact {V} same = (v w : V) → same v w → v ≡ w

-- a format whose values are the same only where they are equal
pub IsFormat-Exact : {V : Type 0} (same : V → V → Type 0) (spells : Spelling V)
    → IsExact same → IsFormat same spells → IsFormat IsEqual spells
IsFormat-Exact same spells exact f = record {
  canonical = f.canonical;
  prefix_free = λ v w b c r s h k e. let p = f.prefix_free v w b c r s h k e in (exact v w p.0, p.1);
}

-- ---- A reader of a format is a parser

module _ {V : Type 0} (spells : Spelling V) where
  -- what was taken is taken when more input follows
  abbrev moves-longer : (more : Source ℕ) (a b : Ahead ℕ) → Moves a b → Moves (longer more a)
      (longer more b)
  moves-longer more a b m = record {
    taken = m.taken;
    whole = ap (λ r. r ++ more) m.whole ∙ append_assoc m.taken b.tokens more;
    place = m.place;
  }

  -- where no value is spelled, whatever follows, none is spelled when more input follows
  none-longer : (more : Source ℕ) (partial : Bool) (r : Source ℕ) → SpellsNone spells true
      (bytes_of r)
      → SpellsNone spells partial (bytes_of (r ++ more))
  none-longer more partial r h v bytes others rest _ s e =
      h v bytes (bytes_of more ++ others) rest (λ t. absurd (cc)) s
      (sym (append_assoc (bytes_of r) (bytes_of more) others) ∙ ap (λ l. l ++ others) (sym (map-append (λ x. x.0) r more)) ∙ e)

  -- a settled answer of `Reads` stays when more input follows
  reads-stable : IsStable (Reads spells)
  reads-stable more partial a (Gives v b) s h =
      (h.0, (h.1.0, record { moves = moves-longer more a b h.1.1.moves; taken = h.1.1.taken }))
  reads-stable more partial a (Fails (Backtracks b)) s h = (moves-longer more a b h.0, none-longer more partial a.tokens h.1)
  reads-stable more partial a (Fails (Cuts b)) s h = absurd h
  reads-stable more partial a (Fails (Needs n)) s h = absurd s
  reads-stable more partial a (Fails Refuses) s h = absurd s

  -- `Reads` only moves the stream on
  reads-onward : IsOnward (Reads spells)
  reads-onward partial a (Gives v b) h = h.1.1.moves
  reads-onward partial a (Fails (Backtracks b)) h = h.0
  reads-onward partial a (Fails (Cuts b)) h = absurd h
  reads-onward partial a (Fails (Needs n)) h = tt
  reads-onward partial a (Fails Refuses) h = tt

  -- `Reads` needs nothing more where nothing more may follow
  reads-final : IsFinal (Reads spells)
  reads-final a n h = let e = h.0 in cc

  -- `Reads` keeps the laws of a parser
  pub IsParser-Reads : IsParser (Reads spells)
  IsParser-Reads = record { stable = reads-stable; final = reads-final; onward = reads-onward }
