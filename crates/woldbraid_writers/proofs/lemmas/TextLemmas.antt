-- Calls that may come one after the other, and lead to a whole text, write one value.
use Rattle.std.proofs.Common.{◌≡◌, ℕ, zero, suc, ◌-◌, ◌<◌, nat_lt, Bool, true, false, if◌then◌else◌, List, [], ◌∷◌, ◌++◌, ◌⊎◌, inl, inr, Some, None, length, take, ap, sym, ◌∙◌, subst, refl, arith, append_assoc, append-nil}
use Rattle.std.specs.Prelude.{slice_get, IsUtf8}
use Rattle.std.specs.List.{All, flat_map}
use Rattle.std.proofs.lemmas.List.Elements.{All-append, All-nil, All-cons}
use Rattle.std.proofs.lemmas.Grind.{flat_map-append}
use Rattle.std.proofs.lemmas.Bool.{ltb-false}
use Rattle.format_json_scalars.specs.Quoting.{written_string}
use Rattle.woldbraid_writers.specs.Drafts.{takes_value, takes_name, takes_end, comma_before, first_in, next_in, opening, closing, Draft, new_draft, after_value, Call, Word, Number, Quoted, Name, Start, Finish, IsSound, bar, after_call}
use Rattle.woldbraid_writers.specs.Texts.{Passage, IsScalar, named, followed_by, commas_between, IsItem, IsWithin, IsText, Leads}
use Rattle.woldbraid_writers.specs.declared.due.Bracket.{Bracket}
use Rattle.woldbraid_writers.specs.declared.due.Bracket.TheVariants as bracket
use Rattle.woldbraid_writers.specs.declared.due.Due.{Due}
use Rattle.woldbraid_writers.specs.declared.due.Due.TheVariants as due
use Rattle.woldbraid_writers.specs.declared.status.Status.TheVariants as status

-- ---- Passages

-- nothing
abbrev nothing : Passage
nothing = record { calls = []; text = [] }

-- calls, and what they write where this is due
abbrev due_passage : Due → Passage → Passage
due_passage d q = record q { text = comma_before d ++ q.text }

-- a bracket, and the items after it
abbrev begun : Bracket → List Passage → Passage
begun b items = record {
  calls = Start b ∷ flat_map (λ p. p.calls) items;
  text = opening b ∷ commas_between items;
}

-- the comma before one more item
abbrev comma_after : List Passage → List ℕ
comma_after [] = []
comma_after (p ∷ items) = 44 ∷ []

-- a bracket, the items after it, and one more that may go on
abbrev going : Bracket → List Passage → Passage → Passage
going b items q = record {
  calls = Start b ∷ (flat_map (λ p. p.calls) items ++ q.calls);
  text = opening b ∷ (commas_between items ++ (comma_after items ++ q.text));
}

-- of these calls and this text
abbrev passage : List Call → List ℕ → Passage
passage calls text = record { calls = calls; text = text }

-- passages are the same where their calls and texts are
passages-same : {calls more : List Call} {text other : List ℕ} → calls ≡ more → text ≡ other
    → passage calls text ≡ passage more other
passages-same {calls} {more} {text} {other} e same =
    ap (λ l. passage l text) e ∙ ap (λ l. passage more l) same

followed-assoc : (p q r : Passage)
    → followed_by (followed_by p q) r ≡ followed_by p (followed_by q r)
followed-assoc p q r =
    passages-same (append_assoc p.calls q.calls r.calls) (append_assoc p.text q.text r.text)

-- an item that goes on
going-on : (b : Bracket) (items : List Passage) (q r : Passage)
    → followed_by (going b items q) r ≡ going b items (followed_by q r)
going-on b items q r =
    let front = flat_map (λ p. p.calls) items in
    let texts = commas_between items in
    let comma = comma_after items in
    passages-same (ap (λ l. Start b ∷ l) (append_assoc front q.calls r.calls))
    (ap (λ l. opening b ∷ l) (append_assoc texts (comma ++ q.text) r.text ∙ ap (λ l. texts ++ l) (append_assoc comma q.text r.text)))

-- items with one more
items-more : (items : List Passage) (q : Passage)
    → commas_between (items ++ q ∷ []) ≡ commas_between items ++ (comma_after items ++ q.text)
items-more [] q = refl
items-more (x ∷ []) q = refl
items-more (x ∷ y ∷ more) q =
    ap (λ l. x.text ++ 44 ∷ l) (items-more (y ∷ more) q)
    ∙ sym (append_assoc x.text (44 ∷ commas_between (y ∷ more)) (44 ∷ q.text))

-- one more item that is whole
going-whole : (b : Bracket) (items : List Passage) (q : Passage)
    → going b items q ≡ begun b (items ++ q ∷ [])
going-whole b items q =
    let calls : Passage → List Call = λ p. p.calls in
    passages-same (ap (λ l. Start b ∷ l) (ap (λ l. flat_map calls items ++ l) (sym (append-nil q.calls)) ∙ sym (flat_map-append calls items (q ∷ []))))
    (ap (λ l. opening b ∷ l) (sym (items-more items q)))

-- ---- Where a text stands

-- what may come after the items
abbrev due_after : Bracket → List Passage → Due
due_after b [] = first_in b
due_after b (p ∷ items) = next_in (Some b)

comma-due : (b : Bracket) (items : List Passage)
    → comma_before (due_after b items) ≡ comma_after items
comma-due bracket.Array [] = refl
comma-due bracket.Object [] = refl
comma-due bracket.Array (p ∷ items) = refl
comma-due bracket.Object (p ∷ items) = refl

due-more : (b : Bracket) (items : List Passage) (q : Passage)
    → next_in (Some b) ≡ due_after b (items ++ q ∷ [])
due-more b [] q = refl
due-more b (p ∷ items) q = refl

-- one more item begins
item-begins : (b : Bracket) (items : List Passage) (q : Passage)
    → followed_by (begun b items) (due_passage (due_after b items) q) ≡ going b items q
item-begins b items q =
    passages-same refl (ap (λ l. opening b ∷ (commas_between items ++ (l ++ q.text))) (comma-due b items))

-- what stands before the value of an item: nothing in an array, a name in an object
abbrev IsHead : Bracket → Passage → Type 0
IsHead bracket.Array h = h ≡ nothing
IsHead bracket.Object h = (name : List ℕ) × (IsUtf8 name × (h ≡ named name))

module _ (n : ℕ) (b : Bracket) where
  -- the items are values within fewer than `n` arrays and objects, or members of such
  abbrev AreItems : List Passage → Type 0
  AreItems items = All (IsItem (IsWithin n) b) items

  -- the bracket is open, and no item goes on
  abbrev IsBetween : Due → Passage → Type 0
  IsBetween d p = (items : List Passage)
      × (AreItems items × (d ≡ due_after b items) × (p ≡ begun b items))

  -- the bracket is open, and a value is due after a name
  abbrev IsAfterName : Due → Passage → Type 0
  IsAfterName d p = (items : List Passage) × (AreItems items × ((h : Passage)
      × (IsHead b h × (d ≡ due.Value) × (p ≡ going b items h))))

  -- the bracket is open, and an item goes on, whose value is so far what the property says
  abbrev IsGoing : (Passage → Type 0) → Passage → Type 0
  IsGoing Inner p = (items : List Passage) × (AreItems items × ((h : Passage) × ((q : Passage)
      × (IsHead b h × Inner q × (p ≡ going b items (followed_by h q))))))

-- these brackets are open, within fewer than `n` arrays and objects
abbrev IsOpen : ℕ → Bracket → List Bracket → Due → Passage → Type 0
IsOpen zero b more d p = ⊥
IsOpen (suc n) b [] d p = IsBetween n b d p ⊎ IsAfterName n b d p
IsOpen (suc n) b (c ∷ more) d p = IsGoing n b (IsOpen n c more d) p

-- ---- Items

-- a head and a value are an item
head-item : (n : ℕ) (b : Bracket) (h v : Passage) → IsHead b h → IsWithin n v
    → IsItem (IsWithin n) b (followed_by h v)
head-item n bracket.Array h v e w =
    subst (λ x. IsWithin n (followed_by x v)) (sym e) w
head-item n bracket.Object h v (name, (utf8, e)) w =
    (name, (v, (utf8, w, ap (λ x. followed_by x v) e)))

-- an item whose value is whole
item-whole : (n : ℕ) (b : Bracket) (items : List Passage) (h v : Passage) → AreItems n b items
    → IsHead b h → IsWithin n v → IsBetween n b (next_in (Some b)) (going b items (followed_by h v))
item-whole n b items h v all head w =
    let q = followed_by h v in
    let P = IsItem (IsWithin n) b in (
      items ++ q ∷ [],
      (
        All-append P items (q ∷ []) all (All-cons P q [] (head-item n b h v head w) (All-nil P)),
        due-more b items q,
        going-whole b items q,
      ),
    )

-- ---- Calls within brackets

-- what may come after a value in the innermost of these
abbrev after : Bracket → List Bracket → Due
after b [] = next_in (Some b)
after b (c ∷ more) = after c more

-- a value may come among the items of an array alone
value-due : (b : Bracket) (items : List Passage) → takes_value (due_after b items) ≡ true
    → IsHead b nothing
value-due bracket.Array items e = refl
value-due bracket.Object [] e = absurd (cc e)
value-due bracket.Object (p ∷ items) e = absurd (cc e)

-- a name may come among the items of an object alone
name-due : (b : Bracket) (items : List Passage) (name : List ℕ)
    → takes_name (due_after b items) ≡ true → IsUtf8 name → IsHead b (named name)
name-due bracket.Object items name e utf8 = (name, (utf8, refl))
name-due bracket.Array [] name e utf8 = absurd (cc e)
name-due bracket.Array (p ∷ items) name e utf8 = absurd (cc e)

-- the end may come among the items of its own array or object alone
end-due : (b k : Bracket) (items : List Passage) → takes_end (due_after b items) k ≡ true → k ≡ b
end-due bracket.Array bracket.Array items e = refl
end-due bracket.Object bracket.Object items e = refl
end-due bracket.Array bracket.Object [] e = absurd (cc e)
end-due bracket.Array bracket.Object (p ∷ items) e = absurd (cc e)
end-due bracket.Object bracket.Array [] e = absurd (cc e)
end-due bracket.Object bracket.Array (p ∷ items) e = absurd (cc e)

-- an item that goes on goes on by what is written of its value
on-inner : (b : Bracket) (items : List Passage) (h q r : Passage)
    → followed_by (going b items (followed_by h q)) r ≡ going b items (followed_by h (followed_by q r))
on-inner b items h q r = going-on b items (followed_by h q) r ∙ ap (going b items) (followed-assoc h q r)

-- where an item begins whose value is so far what the property says
module _ (n : ℕ) (b : Bracket) (Inner : Passage → Type 0) (d : Due) (v : Passage) (holds : Inner v) where
  -- one more
  first-in : (p : Passage) → takes_value d ≡ true → IsBetween n b d p
      → IsGoing n b Inner (followed_by p (due_passage d v))
  first-in p takes (items, (all, e, same)) =
      let head = value-due b items (subst (λ x. takes_value x ≡ true) e takes) in
      let text = ap (λ x. followed_by x (due_passage d v)) same
      ∙ ap (λ x. followed_by (begun b items) (due_passage x v)) e ∙ item-begins b items v in
      (items, (all, (nothing, (v, (head, holds, text)))))

  -- after a name
  after-name : (p : Passage) → IsAfterName n b d p
      → IsGoing n b Inner (followed_by p (due_passage d v))
  after-name p (items, (all, (h, (head, e, same)))) =
      let text = ap (λ x. followed_by x (due_passage d v)) same
      ∙ ap (λ x. followed_by (going b items h) (due_passage x v)) e ∙ going-on b items h v in
      (items, (all, (h, (v, (head, holds, text)))))

  pub item-goes : (p : Passage) → takes_value d ≡ true → IsBetween n b d p ⊎ IsAfterName n b d p
      → IsGoing n b Inner (followed_by p (due_passage d v))
  item-goes p takes (inl between) = first-in p takes between
  item-goes p takes (inr named) = after-name p named

-- an item goes on by what its value does
goes-by : (n : ℕ) (b : Bracket) (Inner Next : Passage → Type 0) (p r : Passage)
    → ((q : Passage) → Inner q → Next (followed_by q r)) → IsGoing n b Inner p
    → IsGoing n b Next (followed_by p r)
goes-by n b Inner Next p r step (items, (all, (h, (q, (head, inner, same))))) = (
  items,
  (all, (h, (followed_by q r, (head, step q inner, ap (λ x. followed_by x r) same ∙ on-inner b items h q r)))),
)

-- an item whose value is whole goes on no more
goes-whole : (n : ℕ) (b : Bracket) (p : Passage) → IsGoing n b (IsWithin n) p
    → IsBetween n b (next_in (Some b)) p
goes-whole n b p (items, (all, (h, (q, (head, w, same))))) =
    subst (IsBetween n b (next_in (Some b))) (sym same) (item-whole n b items h q all head w)

-- a value is written that is neither an array nor an object
value-step : (n : ℕ) (b : Bracket) (more : List Bracket) (d : Due) (p v : Passage) → IsScalar v
    → length (b ∷ more) < n → takes_value d ≡ true → IsOpen n b more d p
    → IsOpen n b more (after b more) (followed_by p (due_passage d v))
value-step zero b more d p v is room takes at = absurd at
value-step (suc zero) b more d p v is room takes at = absurd (omega (arith, room))
value-step (suc (suc n)) b [] d p v is room takes at =
    inl (goes-whole (suc n) b _ (item-goes (suc n) b (IsWithin (suc n)) d v (inl is) p takes at))
value-step (suc (suc n)) b (c ∷ more) d p v is room takes at =
    goes-by (suc n) b (IsOpen (suc n) c more d) (IsOpen (suc n) c more (after c more)) p (due_passage d v)
    (λ q inner. value-step (suc n) c more d q v is (omega (arith, room)) takes inner) at

-- a name is written
name-first : (n : ℕ) (b : Bracket) (d : Due) (p : Passage) (name : List ℕ) → IsUtf8 name
    → takes_name d ≡ true → IsBetween n b d p ⊎ IsAfterName n b d p
    → IsAfterName n b due.Value (followed_by p (due_passage d (named name)))
name-first n b d p name utf8 takes (inl (items, (all, e, same))) =
    let head = name-due b items name (subst (λ x. takes_name x ≡ true) e takes) utf8 in
    let text = ap (λ x. followed_by x (due_passage d (named name))) same
    ∙ ap (λ x. followed_by (begun b items) (due_passage x (named name))) e ∙ item-begins b items (named name) in
    (items, (all, (named name, (head, refl, text))))
name-first n b d p name utf8 takes (inr (items, (all, (h, (head, e, same))))) =
    absurd (cc (subst (λ x. takes_name x ≡ true) e takes))

name-step : (n : ℕ) (b : Bracket) (more : List Bracket) (d : Due) (p : Passage) (name : List ℕ)
    → IsUtf8 name → takes_name d ≡ true → IsOpen n b more d p
    → IsOpen n b more due.Value (followed_by p (due_passage d (named name)))
name-step zero b more d p name utf8 takes at = absurd at
name-step (suc n) b [] d p name utf8 takes at = inr (name-first n b d p name utf8 takes at)
name-step (suc n) b (c ∷ more) d p name utf8 takes at =
    goes-by n b (IsOpen n c more d) (IsOpen n c more due.Value) p (due_passage d (named name))
    (λ q inner. name-step n c more d q name utf8 takes inner) at

-- an array or an object begins
start-step : (n : ℕ) (b : Bracket) (more : List Bracket) (d : Due) (p : Passage) (k : Bracket)
    → length (b ∷ more) < n → takes_value d ≡ true → IsOpen n b more d p
    → IsOpen n b (more ++ k ∷ []) (first_in k) (followed_by p (due_passage d (begun k [])))
start-step zero b more d p k room takes at = absurd at
start-step (suc zero) b more d p k room takes at = absurd (omega (arith, room))
start-step (suc (suc n)) b [] d p k room takes at =
    item-goes (suc n) b (IsOpen (suc n) k [] (first_in k)) d (begun k [])
    (inl ([], (All-nil (IsItem (IsWithin n) k), refl, refl))) p takes at
start-step (suc (suc n)) b (c ∷ more) d p k room takes at =
    goes-by (suc n) b (IsOpen (suc n) c more d) (IsOpen (suc n) c (more ++ k ∷ []) (first_in k)) p
    (due_passage d (begun k []))
    (λ q inner. start-step (suc n) c more d q k (omega (arith, room)) takes inner) at

-- all of these but the last
abbrev without_last : Bracket → List Bracket → List Bracket
without_last b [] = []
without_last b (c ∷ more) = b ∷ without_last c more

-- the innermost of these has ended
abbrev IsEnded : ℕ → Bracket → List Bracket → Passage → Type 0
IsEnded n b [] p = IsWithin n p
IsEnded n b (c ∷ more) p = IsOpen n b (without_last c more) (after b (without_last c more)) p

-- the end of an array or an object
abbrev finish : Bracket → Passage
finish k = record { calls = Finish k ∷ []; text = closing k ∷ [] }

finish-first : (n : ℕ) (b : Bracket) (d : Due) (p : Passage) (k : Bracket) → takes_end d k ≡ true
    → IsBetween n b d p ⊎ IsAfterName n b d p → IsWithin (suc n) (followed_by p (finish k))
finish-first n b d p k takes (inl (items, (all, e, same))) =
    let is = end-due b k items (subst (λ x. takes_end x k ≡ true) e takes) in
    inr (b, (items, (all, ap (λ x. followed_by x (finish k)) same ∙ ap (λ x. followed_by (begun b items) (finish x)) is)))
finish-first n b d p k takes (inr (items, (all, (h, (head, e, same))))) =
    absurd (cc (subst (λ x. takes_end x k ≡ true) e takes))

finish-step : (n : ℕ) (b : Bracket) (more : List Bracket) (d : Due) (p : Passage) (k : Bracket)
    → takes_end d k ≡ true → IsOpen n b more d p → IsEnded n b more (followed_by p (finish k))
finish-step zero b more d p k takes at = absurd at
finish-step (suc n) b [] d p k takes at = finish-first n b d p k takes at
finish-step (suc n) b (c ∷ []) d p k takes at =
    inl (goes-whole n b _ (goes-by n b (IsOpen n c [] d) (IsWithin n) p (finish k)
    (λ q inner. finish-step n c [] d q k takes inner) at))
finish-step (suc n) b (c ∷ e ∷ more) d p k takes at =
    goes-by n b (IsOpen n c (e ∷ more) d) (IsOpen n c (without_last e more) (after c (without_last e more))) p (finish k)
    (λ q inner. finish-step n c (e ∷ more) d q k takes inner) at

-- ---- Calls

-- what may come after a value, where these are open
after-is : (b : Bracket) (more : List Bracket) → after_value (b ∷ more) ≡ after b more
after-is b [] = refl
after-is b (c ∷ more) =
    let one : length (b ∷ c ∷ more) - 1 ≡ suc (length more) = omega arith in
    let less : length (c ∷ more) - 1 ≡ length more = omega arith in
    ap (λ i. next_in (slice_get (b ∷ c ∷ more) i)) one ∙ ap (λ i. next_in (slice_get (c ∷ more) i)) (sym less) ∙ after-is c more

-- all that are open but the last
last-ends : (b : Bracket) (more : List Bracket)
    → take (length (b ∷ more) - 1) (b ∷ more) ≡ without_last b more
last-ends b [] = refl
last-ends b (c ∷ more) =
    let one : length (b ∷ c ∷ more) - 1 ≡ suc (length more) = omega arith in
    let less : length (c ∷ more) - 1 ≡ length more = omega arith in
    ap (λ i. take i (b ∷ c ∷ more)) one ∙ ap (λ i. b ∷ take i (c ∷ more)) (sym less) ∙ ap (λ l. b ∷ l) (last-ends c more)

-- where a text stands after these calls, which wrote this: nothing is written; or all is; or
-- brackets are open
abbrev Stands : ℕ → List Bracket → Due → Passage → Type 0
Stands n [] d p = ((d ≡ due.Value) × (p ≡ nothing)) ⊎ ((d ≡ due.Nothing) × IsWithin n p)
Stands n (b ∷ more) d p = IsOpen n b more d p

-- a value or a name that may come is due, and not too deep
may-value : (takes deep : Bool)
    → (if takes then (if deep then Some status.TooDeep else None) else Some status.Unexpected) ≡ None
    → (takes ≡ true) × (deep ≡ false)
may-value true false e = (refl, refl)
may-value true true e = absurd (cc e)
may-value false deep e = absurd (cc e)

may-end : (takes : Bool) → (if takes then None else Some status.Unexpected) ≡ None → takes ≡ true
may-end true e = refl
may-end false e = absurd (cc e)

-- after calls that wrote the passage
abbrev draft_at : List Bracket → Due → ℕ → Passage → Draft
draft_at open_brackets d depth p =
    record { text = p.text; open_brackets = open_brackets; due = d; depth = depth }

module _ (depth : ℕ) where
  -- a text that stands there after these calls
  abbrev HasStood : Draft → List Call → Type 0
  HasStood d calls = (d.depth ≡ depth) × Stands (suc depth) d.open_brackets d.due (passage calls d.text)

  value-stands : (open_brackets : List Bracket) (d : Due) (p v : Passage) → IsScalar v
      → length open_brackets < suc depth → takes_value d ≡ true → Stands (suc depth) open_brackets d p
      → Stands (suc depth) open_brackets (after_value open_brackets) (followed_by p (due_passage d v))
  value-stands [] d p v is room takes (inl (e, none)) =
      let text = ap (λ x. followed_by x (due_passage d v)) none ∙ ap (λ x. due_passage x v) e in
      inr (refl, subst (IsWithin (suc depth)) (sym text) (inl is))
  value-stands [] d p v is room takes (inr (e, w)) =
      absurd (cc (subst (λ x. takes_value x ≡ true) e takes))
  value-stands (b ∷ more) d p v is room takes at =
      subst (λ x. IsOpen (suc depth) b more x (followed_by p (due_passage d v))) (sym (after-is b more))
      (value-step (suc depth) b more d p v is room takes at)

  name-stands : (open_brackets : List Bracket) (d : Due) (p : Passage) (name : List ℕ) → IsUtf8 name
      → takes_name d ≡ true → Stands (suc depth) open_brackets d p
      → Stands (suc depth) open_brackets due.Value (followed_by p (due_passage d (named name)))
  name-stands [] d p name utf8 takes (inl (e, none)) =
      absurd (cc (subst (λ x. takes_name x ≡ true) e takes))
  name-stands [] d p name utf8 takes (inr (e, w)) =
      absurd (cc (subst (λ x. takes_name x ≡ true) e takes))
  name-stands (b ∷ more) d p name utf8 takes at = name-step (suc depth) b more d p name utf8 takes at

  start-stands : (open_brackets : List Bracket) (d : Due) (p : Passage) (k : Bracket)
      → length open_brackets < suc depth → takes_value d ≡ true → Stands (suc depth) open_brackets d p
      → Stands (suc depth) (open_brackets ++ k ∷ []) (first_in k) (followed_by p (due_passage d (begun k [])))
  start-stands [] d p k room takes (inl (e, none)) =
      let text = ap (λ x. followed_by x (due_passage d (begun k []))) none ∙ ap (λ x. due_passage x (begun k [])) e in
      inl ([], (All-nil (IsItem (IsWithin depth) k), refl, text))
  start-stands [] d p k room takes (inr (e, w)) =
      absurd (cc (subst (λ x. takes_value x ≡ true) e takes))
  start-stands (b ∷ more) d p k room takes at = start-step (suc depth) b more d p k room takes at

  ends-stand : (b : Bracket) (more : List Bracket) (p : Passage) → IsEnded (suc depth) b more p
      → Stands (suc depth) (without_last b more) (after_value (without_last b more)) p
  ends-stand b [] p w = inr (refl, w)
  ends-stand b (c ∷ more) p at =
      subst (λ x. IsOpen (suc depth) b (without_last c more) x p) (sym (after-is b (without_last c more))) at

  finish-stands : (open_brackets : List Bracket) (d : Due) (p : Passage) (k : Bracket)
      → takes_end d k ≡ true → Stands (suc depth) open_brackets d p
      → let rest = take (length open_brackets - 1) open_brackets in
      Stands (suc depth) rest (after_value rest) (followed_by p (finish k))
  finish-stands [] d p k takes (inl (e, none)) =
      absurd (cc (subst (λ x. takes_end x k ≡ true) e takes))
  finish-stands [] d p k takes (inr (e, w)) =
      absurd (cc (subst (λ x. takes_end x k ≡ true) e takes))
  finish-stands (b ∷ more) d p k takes at =
      subst (λ l. Stands (suc depth) l (after_value l) (followed_by p (finish k))) (sym (last-ends b more))
      (ends-stand b more _ (finish-step (suc depth) b more d p k takes at))

  -- where a call may come, it leads on
  call-stands : (d : Draft) (calls : List Call) (call : Call) → HasStood d calls → bar d call ≡ None
      → IsSound call → HasStood (after_call d call) (calls ++ call ∷ [])
  call-stands d calls (Word text) (same, at) may sound =
      let (takes, deep) = may-value (takes_value d.due) (nat_lt d.depth (length d.open_brackets)) may in
      let v = passage (Word text ∷ []) text in
      (same, value-stands d.open_brackets d.due (passage calls d.text) v (Word text, (refl, sound, refl)) (omega (arith, ltb-false d.depth (length d.open_brackets) deep, same)) takes at)
  call-stands d calls (Number text) (same, at) may sound =
      let (takes, deep) = may-value (takes_value d.due) (nat_lt d.depth (length d.open_brackets)) may in
      let v = passage (Number text ∷ []) text in
      (same, value-stands d.open_brackets d.due (passage calls d.text) v (Number text, (refl, sound, refl)) (omega (arith, ltb-false d.depth (length d.open_brackets) deep, same)) takes at)
  call-stands d calls (Quoted text) (same, at) may sound =
      let (takes, deep) = may-value (takes_value d.due) (nat_lt d.depth (length d.open_brackets)) may in
      let v = passage (Quoted text ∷ []) (written_string text) in
      (same, value-stands d.open_brackets d.due (passage calls d.text) v (Quoted text, (refl, sound, refl)) (omega (arith, ltb-false d.depth (length d.open_brackets) deep, same)) takes at)
  call-stands d calls (Name text) (same, at) may sound =
      let (takes, deep) = may-value (takes_name d.due) (nat_lt d.depth (length d.open_brackets)) may in
      (same, name-stands d.open_brackets d.due (passage calls d.text) text sound takes at)
  call-stands d calls (Start b) (same, at) may sound =
      let (takes, deep) = may-value (takes_value d.due) (nat_lt d.depth (length d.open_brackets)) may in
      (same, start-stands d.open_brackets d.due (passage calls d.text) b (omega (arith, ltb-false d.depth (length d.open_brackets) deep, same)) takes at)
  call-stands d calls (Finish b) (same, at) may sound =
      (same, finish-stands d.open_brackets d.due (passage calls d.text) b (may-end (takes_end d.due b) may) at)

  -- where calls may come one after the other, they lead on
  calls-stand : (d : Draft) (calls more : List Call) (e : Draft) → HasStood d calls → Leads d more e
      → HasStood e (calls ++ more)
  calls-stand d calls [] e at same =
      subst (λ l. HasStood e l) (sym (append-nil calls)) (subst (λ x. HasStood x calls) (sym same) at)
  calls-stand d calls (call ∷ more) e at (may, sound, leads) =
      subst (λ l. HasStood e l) (append_assoc calls (call ∷ []) more)
      (calls-stand (after_call d call) (calls ++ call ∷ []) more e (call-stands d calls call at may sound) leads)

-- where a bracket is open, something may come
open-due : (n : ℕ) (b : Bracket) (more : List Bracket) (d : Due) (p : Passage) → d ≡ due.Nothing
    → IsOpen n b more d p → ⊥
open-due zero b more d p e at = at
open-due (suc n) bracket.Array [] d p e (inl ([], (all, is, same))) = absurd (cc (sym e ∙ is))
open-due (suc n) bracket.Object [] d p e (inl ([], (all, is, same))) = absurd (cc (sym e ∙ is))
open-due (suc n) bracket.Array [] d p e (inl (x ∷ items, (all, is, same))) = absurd (cc (sym e ∙ is))
open-due (suc n) bracket.Object [] d p e (inl (x ∷ items, (all, is, same))) = absurd (cc (sym e ∙ is))
open-due (suc n) b [] d p e (inr (items, (all, (h, (head, is, same))))) = absurd (cc (sym e ∙ is))
open-due (suc n) b (c ∷ more) d p e (items, (all, (h, (q, (head, inner, same))))) =
    open-due n c more d q e inner

-- where nothing may come, the passage is a value
none-due : (depth : ℕ) (open_brackets : List Bracket) (d : Due) (p : Passage) → d ≡ due.Nothing
    → Stands (suc depth) open_brackets d p → IsText depth p
none-due depth [] d p e (inl (is, none)) = absurd (cc (sym e ∙ is))
none-due depth [] d p e (inr (is, w)) = w
none-due depth (b ∷ more) d p e at = absurd (open-due (suc depth) b more d p e at)

-- calls that lead to a whole text write a value
pub text-whole : (depth : ℕ) (calls : List Call) (d : Draft) → Leads (new_draft depth) calls d
    → d.due ≡ due.Nothing → IsText depth (passage calls d.text)
text-whole depth calls d leads none =
    let (same, at) = calls-stand depth (new_draft depth) [] calls d (refl, inl (refl, refl)) leads in
    none-due depth d.open_brackets d.due (passage calls d.text) none at
