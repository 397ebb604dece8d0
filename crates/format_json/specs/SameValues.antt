-- Values that are the same, though they lie elsewhere in memory.
use Rattle.std.specs.Prelude.{◌≡◌, ℕ, zero, suc, List, [], ◌∷◌, ⊤}
use Rattle.std.specs.String.{string_bytes}
use Rattle.std.specs.declared.string.String.{String}
use Rattle.std.specs.declared.alloc.Global.{Global}
use Rattle.format_json.specs.declared.value.Value.{Value}
use Rattle.format_json.specs.declared.value.Value.TheOpen as open_value
use Rattle.format_json.specs.declared.value.Value.TheOpen.{Value-F, Null}
use Rattle.format_json.specs.declared.value.Value.TheViews.{out-Value}

-- the lists have the same elements in the same order, where a relation says which are the same
abbrev pub SameAll : {T : Type 0} → (T → T → Type 0) → List T → List T → Type 0
SameAll same [] [] = ⊤
SameAll same (v ∷ vs) (w ∷ ws) = same v w × SameAll same vs ws
SameAll same vs ws = ⊥

-- the members have the same name, and the same value
abbrev pub SameMember : (Value → Value → Type 0) → String Global × Value → String Global × Value
    → Type 0
SameMember same m n = (string_bytes m.0 ≡ string_bytes n.0) × same m.1 n.1

-- the layers are of one kind, with the same text and integer, the same characters, or the same
-- values inside
abbrev pub SameLayer : (Value → Value → Type 0) → Value-F Value → Value-F Value → Type 0
SameLayer same Null Null = ⊤
SameLayer same (open_value.Bool a) (open_value.Bool b) = a ≡ b
SameLayer same (open_value.Number n) (open_value.Number m) =
    (n.text.items ≡ m.text.items) × (n.integer ≡ m.integer)
SameLayer same (open_value.String v) (open_value.String w) = string_bytes v ≡ string_bytes w
SameLayer same (open_value.Array vs) (open_value.Array ws) = SameAll same vs.items ws.items
SameLayer same (open_value.Object ms) (open_value.Object ns) =
    SameAll (SameMember same) ms.items ns.items
SameLayer same x y = ⊥

-- the values are the same, and stand within fewer than `depth` arrays and objects
abbrev pub SameValue : ℕ → Value → Value → Type 0
SameValue zero v w = ⊥
SameValue (suc depth) v w = SameLayer (SameValue depth) (out-Value v) (out-Value w)
