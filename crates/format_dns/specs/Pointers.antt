-- Names whose pointers are followed through a message (RFC 1035, section 4.1.4).
use Rattle.std.specs.Prelude.{◌≡◌, ℕ, ◌≤◌, ◌<◌, List, [], ◌∷◌, ◌++◌, length, drop, ⊤}
use Rattle.winnow_codec.specs.Formats.{Spelling}
use Rattle.winnow_codec.specs.Lists.{SpellsEach}
use Rattle.format_dns.specs.Names.{SpellsLabels, SpellsName}
use Rattle.format_dns.specs.declared.name.Ending.{Ending}
use Rattle.format_dns.specs.declared.name.Ending.TheVariants.{Root, Pointer}
use Rattle.format_dns.specs.declared.name.Name.{Name}
use Rattle.format_dns.specs.declared.expansion.Unexpanded.{Unexpanded}
use Rattle.format_dns.specs.declared.expansion.Unexpanded.TheVariants as why

-- the name stands at this place of the message
abbrev pub NameAt : List ℕ → ℕ → Name → Type 0
NameAt message place name =
    (front : List ℕ) × ((rest : List ℕ)
    × (SpellsName name front × (drop place message ≡ front ++ rest)))

-- from this ending on, which may lead to places below the limit, pointers lead through these names:
-- each to a place further back, where the next name stands. The last one has that ending, and was
-- at that place
abbrev pub Leads : List ℕ → ℕ → Ending → List Name → Ending → ℕ → Type 0
Leads message limit e [] last place = (last ≡ e) × (place ≡ limit)
Leads message limit Root (n ∷ ns) last place = ⊥
Leads message limit (Pointer p) (n ∷ ns) last place =
    (p < limit) × NameAt message p n × Leads message p n.ending ns last place

-- the labels of names, one after the other
abbrev pub SpellsChain : Spelling (List Name)
SpellsChain = SpellsEach (λ n. SpellsLabels n.labels.items)

-- the pointers of the name lead through these names to this ending, from this place, and all their
-- labels are spelled so
pub record Reaches (message : List ℕ) (name : Name) (last : Ending) (place : ℕ) (text : List ℕ) : Type 0 where
  pub names : List Name
  pub leads : Leads message 16384 name.ending names last place
  pub spelled : SpellsChain (name ∷ names) text

-- the bytes are all labels of the name, and then the root; at most 255
abbrev pub Expands : List ℕ → Name → List ℕ → Type 0
Expands message name bytes = (place : ℕ) × ((text : List ℕ) × (Reaches message name Root place text
    × (bytes ≡ text ++ 0 ∷ []) × (length bytes ≤ 255)))

-- why the name is not expanded: no name stands where a pointer leads; a pointer leads no further
-- back; the labels are too long; the labels of the name itself have no spelling
abbrev pub IsWhyNot : List ℕ → Name → Unexpanded → Type 0
IsWhyNot message name (why.NoName p) = (place : ℕ) × ((text : List ℕ) × (Reaches message name (Pointer p) place text
    × (p < place) × ((n : Name) → NameAt message p n → ⊥)))
IsWhyNot message name (why.NotBack p) =
    (place : ℕ) × ((text : List ℕ) × (Reaches message name (Pointer p) place text × (place ≤ p)))
IsWhyNot message name why.TooLong = (last : Ending) × ((place : ℕ) × ((text : List ℕ)
    × (Reaches message name last place text × (255 ≤ length text))))
IsWhyNot message name why.Unspelled = (text : List ℕ) → SpellsLabels name.labels.items text → ⊥
IsWhyNot message name (why.Refused r) = ⊤

-- the next name stands at the place, and its labels were appended; or why not
abbrev pub AppendsName : List ℕ → ℕ → List ℕ → Name → List ℕ → Type 0
AppendsName message place old n new = NameAt message place n
    × ((text : List ℕ) × (SpellsLabels n.labels.items text × (new ≡ old ++ text)))

abbrev pub IsWhyNone : List ℕ → ℕ → Unexpanded → Type 0
IsWhyNone message place (why.NoName p) = (p ≡ place) × ((n : Name) → NameAt message place n → ⊥)
IsWhyNone message place (why.Refused r) = ⊤
IsWhyNone message place other = ⊥
