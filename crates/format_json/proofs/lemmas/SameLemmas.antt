-- The same bytes spell the same value.
use Rattle.std.proofs.Common.{◌≡◌, ℕ, zero, suc, Bool, true, false, List, [], ◌∷◌, ap, sym, ◌∙◌, subst, refl, arith}
use Rattle.std.specs.Int.{w64}
use Rattle.std.specs.Prelude.{encode_utf8_all}
use Rattle.std.specs.String.{string_bytes}
use Rattle.std.specs.declared.string.String.{String}
use Rattle.std.specs.declared.alloc.Global.{Global}
use Rattle.winnow_count.specs.Reading.{IsSomeExactly, ReadsSigned}
use Rattle.format_lemmas.proofs.lemmas.ByteLemmas.{heads, tails}
use Rattle.format_json_scalars.specs.Numbers.{is_number_byte}
use Rattle.format_json.specs.Language.{after_blanks, MemberAhead, Elements, Inside, Bracketed, Layer, Nested}
use Rattle.format_json_scalars.specs.StringAnswers.{StringHere}
use Rattle.format_json_scalars.specs.NumberAnswers.{NumberHere}
use Rattle.format_json.specs.SameValues.{SameAll, SameMember, SameLayer, SameValue}
use Rattle.format_json_scalars.specs.declared.numbers.Number.{Number}
use Rattle.format_json.specs.declared.value.Value.{Value}
use Rattle.format_json.specs.declared.value.Value.TheOpen as open_value
use Rattle.format_json.specs.declared.value.Value.TheOpen.{Value-F, Null}
use Rattle.format_json.specs.declared.value.Value.TheViews.{out-Value}
use Rattle.format_json_scalars.proofs.lemmas.NumberAnswerLemmas.{number-bytes}
use Rattle.format_json_scalars.proofs.lemmas.RunLemmas.{split-once}
use Rattle.format_json_scalars.proofs.lemmas.NumberTextLemmas.{some-once}
use Rattle.format_json_scalars.proofs.lemmas.StringLemmas.{string-once}
use Rattle.format_json.proofs.lemmas.GrammarLemmas.{Once, NoneAt, elements-first, name-once, member-once, member-none, kind, same-kind, nested-once, nested-none}

-- the same bytes begin with the same values
abbrev pub Agree : {T : Type 0} → (T → List ℕ → List ℕ → Type 0) → (T → T → Type 0) → Type 0
Agree {T} inner same = (v w : T) (b r s : List ℕ) → inner v b r → inner w b s → same v w

module _ {T : Type 0} (inner : T → List ℕ → List ℕ → Type 0) (close : ℕ) (same : T → T → Type 0) (comma : ¬ (close ≡ 44)) (once : Once inner) (none : NoneAt close inner) (agree : Agree inner same) where
  -- the same bytes begin with the same elements
  elements-same : (vs ws : List T) (b r s : List ℕ) → Elements inner close vs b r
      → Elements inner close ws b s → SameAll same vs ws
  elements-same [] ws b r s h g = absurd h
  elements-same (v ∷ vs) [] b r s h g = absurd g
  elements-same (v ∷ []) (w ∷ []) b r s (a, (h, e)) (c, (g, f)) = (agree v w b a c h g, tt)
  elements-same (v ∷ []) (w ∷ x ∷ ws) b r s (a, (h, e)) (c, (n, (g, f, k))) =
      absurd (comma (heads close 44 r n (sym e ∙ ap after_blanks (once v w b a c h g) ∙ f)))
  elements-same (v ∷ y ∷ vs) (w ∷ []) b r s (a, (m, (h, e, k))) (c, (g, f)) =
      absurd (comma (heads close 44 s m (sym f ∙ ap after_blanks (sym (once v w b a c h g)) ∙ e)))
  elements-same (v ∷ y ∷ vs) (w ∷ x ∷ ws) b r s (a, (m, (h, e, k))) (c, (n, (g, f, l))) =
      let next = tails 44 44 m n (sym e ∙ ap after_blanks (once v w b a c h g) ∙ f) in
      (agree v w b a c h g, elements-same (y ∷ vs) (x ∷ ws) n r s (subst (λ t. Elements inner close (y ∷ vs) t r) next k) l)

  -- the same bytes have the same elements between brackets
  inside-same : (vs ws : List T) (b r s : List ℕ) → Inside inner close vs b r
      → Inside inner close ws b s → SameAll same vs ws
  inside-same [] [] b r s e f = tt
  inside-same [] (w ∷ ws) b r s e g =
      let first = elements-first inner close w ws b s g in absurd (none w b first.0 r e first.1)
  inside-same (v ∷ vs) [] b r s h f =
      let first = elements-first inner close v vs b r h in absurd (none v b first.0 s f first.1)
  inside-same (v ∷ vs) (w ∷ ws) b r s h g = elements-same (v ∷ vs) (w ∷ ws) b r s h g

  bracketed-same : (begin : ℕ) (vs ws : List T) (b r s : List ℕ)
      → Bracketed inner close begin vs b r
      → Bracketed inner close begin ws b s → SameAll same vs ws
  bracketed-same begin vs ws b r s (m, (e, h)) (n, (f, g)) =
      inside-same vs ws n r s (subst (λ t. Inside inner close vs t r) (tails begin begin m n (sym e ∙ f)) h) g

-- the same bytes are the same string
name-same : (v w : String Global) (b r s : List ℕ) → StringHere v b r → StringHere w b s
    → string_bytes v ≡ string_bytes w
name-same v w b r s (cs, (h, has)) (ds, (g, gas)) =
    has ∙ ap encode_utf8_all (string-once b cs r ds s h g).0 ∙ sym gas

module _ (partial : Bool) where
  -- the same bytes are the same number
  number-same : (n m : Number) (b r s : List ℕ) → NumberHere partial n b r
      → NumberHere partial m b s
      → (n.text.items ≡ m.text.items) × (n.integer ≡ m.integer)
  number-same n m b r s (t, ((e, is, ends), of)) (u, ((f, js, fends), og)) =
      let split = split-once is_number_byte t r u s (number-bytes t is) ends.0 (number-bytes u js) fends.0 (sym e ∙ f) in
      (of.0 ∙ split.0 ∙ sym og.0, some-once (ReadsSigned w64 u) n.integer m.integer (subst (λ l. IsSomeExactly (ReadsSigned w64 l) n.integer) split.0 of.1) og.1)

-- the same bytes are the same member
member-same : (inner : Value → List ℕ → List ℕ → Type 0) (same : Value → Value → Type 0)
    → Once inner
    → Agree inner same → Agree (MemberAhead inner) (SameMember same)
member-same inner same once agree v w b r s (a, (m, (h, e, k))) (c, (n, (g, f, l))) =
    let after = name-once v.0 w.0 (after_blanks b) a c h g in
    let next = tails 58 58 m n (sym e ∙ ap after_blanks after ∙ f) in
    (name-same v.0 w.0 (after_blanks b) a c h g, agree v.1 w.1 n r s (subst (λ t. inner v.1 t r) next k) l)

module _ (partial : Bool) (inner : Value → List ℕ → List ℕ → Type 0) (same : Value → Value → Type 0) (once : Once inner) (none : NoneAt 93 inner) (agree : Agree inner same) where
  -- the same bytes are the same layer, where both are of one kind
  layer-same : (x y : Value-F Value) (b r s : List ℕ) → kind y ≡ kind x → Layer partial inner x b r
      → Layer partial inner y b s → SameLayer same x y
  layer-same Null Null b r s e h g = tt
  layer-same Null (open_value.Bool true) b r s e h g = absurd (omega (arith, e))
  layer-same Null (open_value.Bool false) b r s e h g = absurd (omega (arith, e))
  layer-same Null (open_value.Number m) b r s e h g = absurd (omega (arith, e))
  layer-same Null (open_value.String w) b r s e h g = absurd (omega (arith, e))
  layer-same Null (open_value.Array ws) b r s e h g = absurd (omega (arith, e))
  layer-same Null (open_value.Object ns) b r s e h g = absurd (omega (arith, e))
  layer-same (open_value.Bool true) Null b r s e h g = absurd (omega (arith, e))
  layer-same (open_value.Bool true) (open_value.Bool true) b r s e h g = refl
  layer-same (open_value.Bool true) (open_value.Bool false) b r s e h g = absurd (omega (arith, e))
  layer-same (open_value.Bool true) (open_value.Number m) b r s e h g = absurd (omega (arith, e))
  layer-same (open_value.Bool true) (open_value.String w) b r s e h g = absurd (omega (arith, e))
  layer-same (open_value.Bool true) (open_value.Array ws) b r s e h g = absurd (omega (arith, e))
  layer-same (open_value.Bool true) (open_value.Object ns) b r s e h g = absurd (omega (arith, e))
  layer-same (open_value.Bool false) Null b r s e h g = absurd (omega (arith, e))
  layer-same (open_value.Bool false) (open_value.Bool true) b r s e h g = absurd (omega (arith, e))
  layer-same (open_value.Bool false) (open_value.Bool false) b r s e h g = refl
  layer-same (open_value.Bool false) (open_value.Number m) b r s e h g = absurd (omega (arith, e))
  layer-same (open_value.Bool false) (open_value.String w) b r s e h g = absurd (omega (arith, e))
  layer-same (open_value.Bool false) (open_value.Array ws) b r s e h g = absurd (omega (arith, e))
  layer-same (open_value.Bool false) (open_value.Object ns) b r s e h g = absurd (omega (arith, e))
  layer-same (open_value.Number n) Null b r s e h g = absurd (omega (arith, e))
  layer-same (open_value.Number n) (open_value.Bool true) b r s e h g = absurd (omega (arith, e))
  layer-same (open_value.Number n) (open_value.Bool false) b r s e h g = absurd (omega (arith, e))
  layer-same (open_value.Number n) (open_value.Number m) b r s e h g = number-same partial n m b r s h g
  layer-same (open_value.Number n) (open_value.String w) b r s e h g = absurd (omega (arith, e))
  layer-same (open_value.Number n) (open_value.Array ws) b r s e h g = absurd (omega (arith, e))
  layer-same (open_value.Number n) (open_value.Object ns) b r s e h g = absurd (omega (arith, e))
  layer-same (open_value.String v) Null b r s e h g = absurd (omega (arith, e))
  layer-same (open_value.String v) (open_value.Bool true) b r s e h g = absurd (omega (arith, e))
  layer-same (open_value.String v) (open_value.Bool false) b r s e h g = absurd (omega (arith, e))
  layer-same (open_value.String v) (open_value.Number m) b r s e h g = absurd (omega (arith, e))
  layer-same (open_value.String v) (open_value.String w) b r s e h g = name-same v w b r s h g
  layer-same (open_value.String v) (open_value.Array ws) b r s e h g = absurd (omega (arith, e))
  layer-same (open_value.String v) (open_value.Object ns) b r s e h g = absurd (omega (arith, e))
  layer-same (open_value.Array vs) Null b r s e h g = absurd (omega (arith, e))
  layer-same (open_value.Array vs) (open_value.Bool true) b r s e h g = absurd (omega (arith, e))
  layer-same (open_value.Array vs) (open_value.Bool false) b r s e h g = absurd (omega (arith, e))
  layer-same (open_value.Array vs) (open_value.Number m) b r s e h g = absurd (omega (arith, e))
  layer-same (open_value.Array vs) (open_value.String w) b r s e h g = absurd (omega (arith, e))
  layer-same (open_value.Array vs) (open_value.Array ws) b r s e h g = bracketed-same inner 93 same (λ e. omega (arith, e)) once none agree 91 vs.items ws.items b r s h g
  layer-same (open_value.Array vs) (open_value.Object ns) b r s e h g = absurd (omega (arith, e))
  layer-same (open_value.Object ms) Null b r s e h g = absurd (omega (arith, e))
  layer-same (open_value.Object ms) (open_value.Bool true) b r s e h g = absurd (omega (arith, e))
  layer-same (open_value.Object ms) (open_value.Bool false) b r s e h g = absurd (omega (arith, e))
  layer-same (open_value.Object ms) (open_value.Number m) b r s e h g = absurd (omega (arith, e))
  layer-same (open_value.Object ms) (open_value.String w) b r s e h g = absurd (omega (arith, e))
  layer-same (open_value.Object ms) (open_value.Array ws) b r s e h g = absurd (omega (arith, e))
  layer-same (open_value.Object ms) (open_value.Object ns) b r s e h g = bracketed-same (MemberAhead inner) 125 (SameMember same) (λ e. omega (arith, e)) (member-once inner once) (member-none inner) (member-same inner same once agree) 123 ms.items ns.items b r s h g

-- the same bytes are the same value
pub nested-same : (partial : Bool) (depth : ℕ) → Agree (Nested partial depth) (SameValue depth)
nested-same partial zero v w b r s h g = absurd h
nested-same partial (suc depth) v w b r s h g =
    let inner = Nested partial depth in
    layer-same partial inner (SameValue depth) (nested-once partial depth) (nested-none partial depth) (nested-same partial depth) (out-Value v) (out-Value w) (after_blanks b) r s (same-kind partial inner (out-Value v) (out-Value w) (after_blanks b) r s h g) h g
