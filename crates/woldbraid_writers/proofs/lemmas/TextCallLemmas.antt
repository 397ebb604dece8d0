-- The calls of a value may come one after the other where a value may, and write it; and what is
-- dropped on the way changes nothing.
use Rattle.std.proofs.Common.{◌≡◌, ℕ, zero, suc, ◌+◌, ◌-◌, ◌≤◌, nat_lt, Bool, true, false, if◌then◌else◌, List, [], ◌∷◌, ◌++◌, inl, inr, Some, None, length, take, ap, sym, ◌∙◌, subst, refl, arith, append_assoc, append-nil, length-append}
use Rattle.std.specs.Prelude.{slice_get}
use Rattle.std.specs.List.{All, flat_map}
use Rattle.std.proofs.lemmas.List.Elements.{All-head, All-tail}
use Rattle.std.proofs.lemmas.Bool.{le-ltb}
use Rattle.format_json_scalars.specs.Quoting.{written_string}
use Rattle.woldbraid_writers.specs.Drafts.{takes_value, takes_name, takes_end, comma_before, first_in, next_in, opening, closing, Draft, new_draft, after_value, value_added, name_added, started, finished, Call, Word, Number, Quoted, Name, Start, Finish, IsSound, value_bar, bar, after_call}
use Rattle.woldbraid_writers.specs.Texts.{Passage, scalar_text, commas_between, bracketed, IsItem, IsWithin, IsText, Leads, preceded, whole_draft}
use Rattle.woldbraid_writers.specs.declared.due.Bracket.{Bracket}
use Rattle.woldbraid_writers.specs.declared.due.Bracket.TheVariants as bracket
use Rattle.woldbraid_writers.specs.declared.due.Due.{Due}
use Rattle.woldbraid_writers.specs.declared.status.Status.TheVariants as status

-- ---- What is dropped

-- a call does the same after text that was dropped
call-after : (kept : List ℕ) (d : Draft) (call : Call)
    → after_call (preceded kept d) call ≡ preceded kept (after_call d call)
call-after kept d (Word text) =
    ap (λ l. record (value_added d text) { text = l }) (append_assoc kept d.text (comma_before d.due ++ text))
call-after kept d (Number text) =
    ap (λ l. record (value_added d text) { text = l }) (append_assoc kept d.text (comma_before d.due ++ text))
call-after kept d (Quoted text) =
    ap (λ l. record (value_added d (written_string text)) { text = l }) (append_assoc kept d.text (comma_before d.due ++ written_string text))
call-after kept d (Name text) =
    ap (λ l. record (name_added d (written_string text)) { text = l }) (append_assoc kept d.text (comma_before d.due ++ (written_string text ++ 58 ∷ [])))
call-after kept d (Start b) =
    ap (λ l. record (started d b) { text = l }) (append_assoc kept d.text (comma_before d.due ++ opening b ∷ []))
call-after kept d (Finish b) =
    ap (λ l. record (finished d b) { text = l }) (append_assoc kept d.text (closing b ∷ []))

-- it may come where it may
bar-after : (kept : List ℕ) (d : Draft) (call : Call) → bar (preceded kept d) call ≡ bar d call
bar-after kept d (Word text) = refl
bar-after kept d (Number text) = refl
bar-after kept d (Quoted text) = refl
bar-after kept d (Name text) = refl
bar-after kept d (Start b) = refl
bar-after kept d (Finish b) = refl

pub leads-after : (kept : List ℕ) (d e : Draft) (calls : List Call) → Leads d calls e
    → Leads (preceded kept d) calls (preceded kept e)
leads-after kept d e [] same = ap (preceded kept) same
leads-after kept d e (call ∷ calls) (may, sound, leads) = (
  bar-after kept d call ∙ may,
  sound,
  subst (λ x. Leads x calls (preceded kept e)) (sym (call-after kept d call)) (leads-after kept (after_call d call) e calls leads),
)

-- ---- The calls of a value

-- calls that lead on
leads-on : (d e f : Draft) (calls more : List Call) → Leads d calls e → Leads e more f
    → Leads d (calls ++ more) f
leads-on d e f [] more same leads = subst (λ x. Leads x more f) same leads
leads-on d e f (call ∷ calls) more (may, sound, first) leads =
    (may, sound, leads-on (after_call d call) e f calls more first leads)

-- a value may come
may-come : (takes deep : Bool) → takes ≡ true → deep ≡ false
    → (if takes then (if deep then Some status.TooDeep else None) else Some status.Unexpected) ≡ None
may-come true false e same = refl
may-come true true e same = absurd (cc same)
may-come false deep e same = absurd (cc e)

module _ (s : Draft) (room : length s.open_brackets ≤ s.depth) where
  value-may : takes_value s.due ≡ true → value_bar s ≡ None
  value-may takes =
      may-come (takes_value s.due) (nat_lt s.depth (length s.open_brackets)) takes (le-ltb s.depth (length s.open_brackets) room)

  name-may : takes_name s.due ≡ true → (name : List ℕ) → bar s (Name name) ≡ None
  name-may takes name =
      may-come (takes_name s.due) (nat_lt s.depth (length s.open_brackets)) takes (le-ltb s.depth (length s.open_brackets) room)

  same-text : {a b : List ℕ} → Some a ≡ Some b → b ≡ a
  same-text e = cc e

  -- one call, of a value that is neither an array nor an object
  scalar-leads : takes_value s.due ≡ true → (call : Call) (text : List ℕ) → IsSound call
      → scalar_text call ≡ Some text → Leads s (call ∷ []) (value_added s text)
  scalar-leads takes (Word t) text sound e = (value-may takes, sound, ap (value_added s) (same-text e))
  scalar-leads takes (Number t) text sound e = (value-may takes, sound, ap (value_added s) (same-text e))
  scalar-leads takes (Quoted t) text sound e = (value-may takes, sound, ap (value_added s) (same-text e))
  scalar-leads takes (Name t) text sound e = absurd (cc e)
  scalar-leads takes (Start b) text sound e = absurd (cc e)
  scalar-leads takes (Finish b) text sound e = absurd (cc e)

-- what may come after the innermost bracket's items, and what is left where it ends
slice-last : (o : List Bracket) (k : Bracket) → slice_get (o ++ k ∷ []) (length o) ≡ Some k
slice-last [] k = refl
slice-last (x ∷ o) k = slice-last o k

bracket-due : (o : List Bracket) (k : Bracket) → after_value (o ++ k ∷ []) ≡ next_in (Some k)
bracket-due o k =
    let one : length (o ++ k ∷ []) - 1 ≡ length o = let n = length-append o (k ∷ []) in omega (arith, n) in
    ap (λ i. next_in (slice_get (o ++ k ∷ []) i)) one ∙ ap next_in (slice-last o k)

take-front : (o : List Bracket) (k : Bracket) → take (length o) (o ++ k ∷ []) ≡ o
take-front [] k = refl
take-front (x ∷ o) k = ap (λ l. x ∷ l) (take-front o k)

bracket-left : (o : List Bracket) (k : Bracket)
    → take (length (o ++ k ∷ []) - 1) (o ++ k ∷ []) ≡ o
bracket-left o k =
    let one : length (o ++ k ∷ []) - 1 ≡ length o = let n = length-append o (k ∷ []) in omega (arith, n) in
    ap (λ i. take i (o ++ k ∷ [])) one ∙ take-front o k

-- items, after one that stands before them or after none
abbrev due_past : Bracket → Bool → Due
due_past b false = first_in b
due_past b true = next_in (Some b)

abbrev texts_past : Bool → List Passage → List ℕ
texts_past past [] = []
texts_past past (x ∷ items) = (if past then 44 ∷ [] else []) ++ (x.text ++ texts_past true items)

abbrev past_all : Bool → List Passage → Bool
past_all past [] = past
past_all past (x ∷ items) = past_all true items

comma-past : (b : Bracket) (past : Bool)
    → comma_before (due_past b past) ≡ (if past then 44 ∷ [] else [])
comma-past bracket.Array false = refl
comma-past bracket.Array true = refl
comma-past bracket.Object false = refl
comma-past bracket.Object true = refl

texts-more : (items : List Passage) (x : Passage)
    → x.text ++ texts_past true items ≡ commas_between (x ∷ items)
texts-more [] x = append-nil x.text
texts-more (y ∷ items) x = ap (λ l. x.text ++ 44 ∷ l) (texts-more items y)

texts-all : (items : List Passage) → texts_past false items ≡ commas_between items
texts-all [] = refl
texts-all (x ∷ items) = texts-more items x

value-past : (past : Bool) → takes_value (due_past bracket.Array past) ≡ true
value-past false = refl
value-past true = refl

name-past : (past : Bool) → takes_name (due_past bracket.Object past) ≡ true
name-past false = refl
name-past true = refl

end-past : (b : Bracket) (past : Bool)
    → (if takes_end (due_past b past) b then None else Some status.Unexpected) ≡ None
end-past bracket.Array false = refl
end-past bracket.Array true = refl
end-past bracket.Object false = refl
end-past bracket.Object true = refl

-- values within fewer than `n` arrays and objects may come where a value is due
abbrev ValuesLead : ℕ → Type 0
ValuesLead n = (p : Passage) (s : Draft) → IsWithin n p → takes_value s.due ≡ true
    → length s.open_brackets + n ≤ suc s.depth → Leads s p.calls (value_added s p.text)

-- a value takes room
room-for : (n : ℕ) (v : Passage) (s : Draft) → IsWithin n v
    → length s.open_brackets + n ≤ suc s.depth → length s.open_brackets ≤ s.depth
room-for zero v s w room = absurd w
room-for (suc n) v s w room = omega (arith, room)

module _ (n : ℕ) (values : ValuesLead n) where
  -- one item
  item-leads : (b : Bracket) (past : Bool) (x : Passage) (t : Draft) → IsItem (IsWithin n) b x
      → t.due ≡ due_past b past → length t.open_brackets + n ≤ suc t.depth
      → Leads t x.calls (value_added t x.text)
  item-leads bracket.Array past x t is e room =
      values x t is (ap takes_value e ∙ value-past past) room
  item-leads bracket.Object past x t (name, (v, (utf8, w, same))) e room =
      let u = name_added t (written_string name) in
      let head = written_string name ++ 58 ∷ [] in
      let text = append_assoc t.text (comma_before t.due ++ head) v.text
      ∙ ap (λ l. t.text ++ l) (append_assoc (comma_before t.due) head v.text) in
      subst (λ y. Leads t y.calls (value_added t y.text)) (sym same) (
        name-may t (room-for n v t w room) (ap takes_name e ∙ name-past past) name,
        utf8,
        subst (λ l. Leads u v.calls (record (value_added t []) { text = l })) text (values v u w refl room),
      )

  -- items, one after the other
  items-lead : (b : Bracket) (past : Bool) (items : List Passage) (t : Draft)
      → All (IsItem (IsWithin n) b) items → t.due ≡ due_past b past
      → after_value t.open_brackets ≡ next_in (Some b) → length t.open_brackets + n ≤ suc t.depth
      → Leads t (flat_map (λ p. p.calls) items)
      (record t { text = t.text ++ texts_past past items; due = due_past b (past_all past items) })
  items-lead b past [] t all e next room =
      ap (λ l. record t { text = l; due = due_past b past }) (append-nil t.text) ∙ ap (λ d. record t { due = d }) (sym e)
  items-lead b past (x ∷ items) t all e next room =
      let u = value_added t x.text in
      let P = IsItem (IsWithin n) b in
      let last = due_past b (past_all true items) in
      let text = append_assoc t.text (comma_before t.due ++ x.text) (texts_past true items)
      ∙ ap (λ l. t.text ++ l) (append_assoc (comma_before t.due) x.text (texts_past true items)
      ∙ ap (λ l. l ++ (x.text ++ texts_past true items)) (ap comma_before e ∙ comma-past b past)) in
      leads-on t u _ x.calls (flat_map (λ p. p.calls) items)
      (item-leads b past x t (All-head P x items all) e room)
      (subst (λ l. Leads u (flat_map (λ p. p.calls) items) (record t { text = l; due = last })) text
      (items-lead b true items u (All-tail P x items all) next next room))

-- an array or an object ends after its items
nested-leads : (n : ℕ) → ValuesLead n → (b : Bracket) (items : List Passage) (s : Draft)
    → All (IsItem (IsWithin n) b) items → takes_value s.due ≡ true
    → length s.open_brackets + suc n ≤ suc s.depth
    → Leads s (bracketed b items).calls (value_added s (bracketed b items).text)
nested-leads n values b items s all takes room =
    let t = started s b in
    let past = past_all false items in
    let texts = commas_between items in
    let u : Draft = record t { text = t.text ++ texts_past false items; due = due_past b past } in
    let inside : length (s.open_brackets ++ b ∷ []) + n ≤ suc s.depth = let m = length-append s.open_brackets (b ∷ []) in omega (arith, room, m) in
    let left = bracket-left s.open_brackets b in
    let comma = comma_before s.due in
    let text : u.text ++ closing b ∷ [] ≡ s.text ++ (comma ++ (bracketed b items).text) =
    ap (λ l. (t.text ++ l) ++ closing b ∷ []) (texts-all items)
    ∙ append_assoc t.text texts (closing b ∷ [])
    ∙ append_assoc s.text (comma ++ opening b ∷ []) (texts ++ closing b ∷ [])
    ∙ ap (λ l. s.text ++ l) (append_assoc comma (opening b ∷ []) (texts ++ closing b ∷ [])) in
    let ends : value_added s (bracketed b items).text ≡ finished u b =
    sym (ap (λ l. record (value_added s []) { text = l }) text)
    ∙ ap (λ o. record { text = u.text ++ closing b ∷ []; open_brackets = o; due = after_value o; depth = s.depth }) (sym left) in (
      value-may s (omega (arith, room)) takes,
      tt,
      leads-on t u _ (flat_map (λ p. p.calls) items) (Finish b ∷ [])
          (items-lead n values b false items t all refl (bracket-due s.open_brackets b) inside)
          (end-past b past, tt, ends),
    )

-- values may come
values-lead : (n : ℕ) → ValuesLead n
values-lead zero p s w takes room = absurd w
values-lead (suc n) p s (inl (call, (e, sound, text))) takes room =
    subst (λ l. Leads s l (value_added s p.text)) (sym e) (scalar-leads s (omega (arith, room)) takes call p.text sound text)
values-lead (suc n) p s (inr (b, (items, (all, e)))) takes room =
    subst (λ x. Leads s x.calls (value_added s x.text)) (sym e) (nested-leads n (values-lead n) b items s all takes room)

-- so the calls of a text may come from the start on
pub text-comes : (depth : ℕ) (p : Passage) → IsText depth p
    → Leads (new_draft depth) p.calls (whole_draft depth p.text)
text-comes depth p w = values-lead (suc depth) p (new_draft depth) w refl (omega arith)
