-- What writers of the parts of a reply answer.
use Rattle.std.specs.Prelude.{◌≡◌, ℕ, List, ◌++◌, Result, Ok, Err, ⊤}
use Rattle.winnow_codec.specs.Formats.{Spelling}
use Rattle.winnow_codec.specs.declared.unwritten.Unwritten.{Unwritten}
use Rattle.winnow_codec.specs.declared.unwritten.Unwritten.TheVariants.{Unspelled, Refused}
use Rattle.format_resp3.specs.Replies.{first_of, held_of, SpellsFirst}
use Rattle.format_resp3.specs.declared.reply.Reply.{Reply}
use Rattle.format_resp3.specs.declared.reply.Reply.TheOpen.{Reply-F}

-- the first line of a reply, and the bytes that it holds after it
abbrev pub SpellsOpening : ℕ → Spelling (Reply-F Reply)
SpellsOpening longest x bytes = (front : List ℕ) × (SpellsFirst longest (first_of x) front × (bytes ≡ front ++ held_of x))

-- a spelling of the value was appended; or the value has none, or memory was refused
abbrev pub Appends : {V : Type 0} → Spelling V → V → List ℕ → Result (Unit {0}) Unwritten → List ℕ
    → Type 0
Appends spells v old (Ok done) new = (bytes : List ℕ) × (spells v bytes × (new ≡ old ++ bytes))
Appends spells v old (Err Unspelled) new = (bytes : List ℕ) → spells v bytes → ⊥
Appends spells v old (Err (Refused e)) new = ⊤
