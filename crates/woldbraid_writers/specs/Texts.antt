-- Whole JSON texts, as calls write them: 44 is a comma, 58 a colon.
use Rattle.std.specs.Prelude.{◌≡◌, ℕ, zero, suc, List, [], ◌∷◌, ◌++◌, Option, Some, None, IsUtf8, ◌⊎◌}
use Rattle.std.specs.List.{All, flat_map}
use Rattle.format_json_scalars.specs.Quoting.{written_string}
use Rattle.woldbraid_writers.specs.Drafts.{Draft, opening, closing, Call, Word, Number, Quoted, Name, Start, Finish, IsSound, bar, after_call}
use Rattle.woldbraid_writers.specs.declared.due.Bracket.{Bracket}
use Rattle.woldbraid_writers.specs.declared.due.Bracket.TheVariants as bracket
use Rattle.woldbraid_writers.specs.declared.due.Due.TheVariants as due

-- calls, and the bytes that they write
pub record Passage : Type 0 where
  pub calls : List Call
  pub text : List ℕ

-- what a call writes whose value is neither an array nor an object
abbrev pub scalar_text : Call → Option (List ℕ)
scalar_text (Word text) = Some text
scalar_text (Number text) = Some text
scalar_text (Quoted text) = Some (written_string text)
scalar_text other = None

-- one call, of such a value
abbrev pub IsScalar : Passage → Type 0
IsScalar p =
    (call : Call) × ((p.calls ≡ call ∷ []) × IsSound call × (scalar_text call ≡ Some p.text))

-- a name, and a colon after it
abbrev pub named : List ℕ → Passage
named name = record { calls = Name name ∷ []; text = written_string name ++ 58 ∷ [] }

-- the one, and the other after it
abbrev pub followed_by : Passage → Passage → Passage
followed_by p q = record { calls = p.calls ++ q.calls; text = p.text ++ q.text }

-- texts with a comma between two
abbrev pub commas_between : List Passage → List ℕ
commas_between [] = []
commas_between (p ∷ []) = p.text
commas_between (p ∷ q ∷ more) = p.text ++ 44 ∷ commas_between (q ∷ more)

-- these between brackets
abbrev pub bracketed : Bracket → List Passage → Passage
bracketed b items = record {
  calls = Start b ∷ (flat_map (λ p. p.calls) items ++ Finish b ∷ []);
  text = opening b ∷ (commas_between items ++ closing b ∷ []);
}

-- where a property says which passages are values
module _ (IsValue : Passage → Type 0) where
  -- what an array has are values; what an object has are members, each a name and a value
  abbrev pub IsItem : Bracket → Passage → Type 0
  IsItem bracket.Array p = IsValue p
  IsItem bracket.Object p = (name : List ℕ)
      × ((value : Passage) × (IsUtf8 name × IsValue value × (p ≡ followed_by (named name) value)))

  -- an array or an object
  abbrev pub IsNested : Passage → Type 0
  IsNested p = (b : Bracket) × ((items : List Passage) × (All (IsItem b) items × (p ≡ bracketed b items)))

-- a value within fewer than `depth` arrays and objects
abbrev pub IsWithin : ℕ → Passage → Type 0
IsWithin zero p = ⊥
IsWithin (suc depth) p = IsScalar p ⊎ IsNested (IsWithin depth) p

-- a value within at most `depth` arrays and objects
abbrev pub IsText : ℕ → Passage → Type 0
IsText depth p = IsWithin (suc depth) p

-- the calls may come, one after the other, and lead there
abbrev pub Leads : Draft → List Call → Draft → Type 0
Leads d [] e = e ≡ d
Leads d (call ∷ calls) e = (bar d call ≡ None) × IsSound call × Leads (after_call d call) calls e

-- the same text after this one, which was dropped
abbrev pub preceded : List ℕ → Draft → Draft
preceded kept d = record d { text = kept ++ d.text }

-- a text that is whole, of these bytes
abbrev pub whole_draft : ℕ → List ℕ → Draft
whole_draft depth text = record { text = text; open_brackets = []; due = due.Nothing; depth = depth }
