-- What readers and writers of the entries of a map do, one entry at a time.
use Rattle.std.proofs.Common.{◌≡◌, ℕ, zero, suc, ◌<◌, Bool, false, List, [], ◌∷◌, ◌++◌, length, take, Result, Ok, Err, ap, sym, ◌∙◌, subst, refl, arith, append_assoc, get_or}
use Rattle.std.proofs.Math.Seq.{take-append_seam}
use Rattle.std.proofs.lemmas.List.{append-nil}
use Rattle.winnow_parser.specs.Outcome.{Ahead, Failed, Backtracks, Cuts, Needs, Refuses, Gives, Fails}
use Rattle.winnow_codec.specs.Formats.{bytes_of, Spelling, Takes, SpellsNone, Reads, IsFormat}
use Rattle.winnow_codec.specs.Writing.{Writes}
use Rattle.winnow_codec.specs.declared.unwritten.Unwritten.{Unwritten}
use Rattle.winnow_codec.specs.declared.unwritten.Unwritten.TheVariants.{Unspelled, Refused}
use Rattle.winnow_codec.proofs.lemmas.Reading.{takes-front, moves-both}
use Rattle.format_cbor.specs.Entries.{IsBefore, SpellsEntries, SpellsMap, SpellsKey, SpellsEntry, SpellsValue}
use Rattle.format_cbor.specs.EntryLaws.{three-parts, same-entry}
use Rattle.format_cbor.specs.declared.item.Item.{Item}

module _ (inner : Spelling Item) where
  -- entries after a last key, of which the last one has the spelling `to`
  abbrev pub Run : List ℕ → List (Item × Item) → List ℕ → List ℕ → Type 0
  Run last [] to bytes = (to ≡ last) × (bytes ≡ [])
  Run last (entry ∷ entries) to bytes = (key value more : List ℕ) × (inner entry.0 key × IsBefore last key
      × inner entry.1 value × Run key entries to more × (bytes ≡ key ++ (value ++ more)))

  -- such entries are spelled
  pub run-spelled : (es : List (Item × Item)) (last to bytes : List ℕ) → Run last es to bytes
      → SpellsEntries inner last es bytes
  run-spelled [] last to bytes h = h.1
  run-spelled (e ∷ es) last to bytes (k, v, m, (a, b, c, d, f)) = (k, v, m, (a, b, c, run-spelled es k to m d, f))

  -- an entry more
  run-more : (es : List (Item × Item)) (last to x : List ℕ) (e : Item × Item)
      (key value : List ℕ) → Run last es to x
      → inner e.0 key → IsBefore to key → inner e.1 value → Run last (es ++ e ∷ []) key (x ++ (key ++ value))
  run-more [] last to x e key value h k b v = (
    key,
    value,
    [],
    (k, subst (λ t. IsBefore t key) h.0 b, v, (refl, refl), ap (λ l. l ++ (key ++ value)) h.1 ∙ ap (λ l. key ++ l) (sym (append-nil value))),
  )
  run-more (w ∷ ws) last to x e key value (p, q, m, (a, b, c, d, f)) k i v = (
    p,
    q,
    m ++ (key ++ value),
    (a, b, c, run-more ws p to m e key value d k i v, three-parts p q m x (key ++ value) f),
  )

  module _ (same : Item → Item → Type 0) (laws : IsFormat same inner) where
    -- an entry more, whose key has this spelling
    pub run-entry : (es : List (Item × Item)) (last to x : List ℕ) (e : Item × Item)
        (spelling y : List ℕ)
        → Run last es to x → SpellsEntry inner to e y → inner e.0 spelling → Run last (es ++ e ∷ []) spelling (x ++ y)
    run-entry es last to x e spelling y h (key, value, ((k, b), v, d)) s =
        let one : key ≡ spelling = laws.canonical e.0 key spelling k s in
        subst (λ t. Run last (es ++ e ∷ []) t (x ++ y)) one
        (subst (λ l. Run last (es ++ e ∷ []) key (x ++ l)) (sym d) (run-more es last to x e key value h k b v))

    -- the bytes of the first entries are the front of those of more, and those of the next follow
    run-left : (vs ws : List (Item × Item)) (last to x y ahead rest : List ℕ)
        → length vs < length ws
        → Run last vs to x → SpellsEntries inner last ws y → x ++ ahead ≡ y ++ rest
        → (w : Item × Item) × ((key value left : List ℕ) × (inner w.0 key × IsBefore to key × inner w.1 value × (ahead ≡ key ++ (value ++ left))))
    run-left vs [] last to x y ahead rest l h k e = absurd (omega (arith, l))
    run-left [] (w ∷ ws) last to x y ahead rest l h (p, q, m, (a, b, c, d, f)) e =
        (w, (p, q, m ++ rest, (a, subst (λ t. IsBefore t p) (sym h.0) b, c, ap (λ n. n ++ ahead) (sym h.1) ∙ e ∙ three-parts p q m y rest f)))
    run-left (v ∷ vs) (w ∷ ws) last to x y ahead rest l (p, q, m, (a, b, c, d, f)) (r, s, n, (i, j, k, o, g)) e =
        let both = same-entry same inner laws v w p q m r s n x y ahead rest a c i k f g e in
        run-left vs ws p to m n ahead rest (omega (arith, l)) d (subst (λ t. SpellsEntries inner t ws n) (sym both.0.1) o) both.1.1

    module _ (a b : Ahead ℕ) (n : ℕ) (es : List (Item × Item)) (to x : List ℕ) (fewer : length es < n) (spelled : Run [] es to x) (taken : Takes x a b) where
      -- where no entry follows fewer entries, no map is spelled
      none-follows : (partial : Bool)
          → SpellsNone (SpellsEntry inner to) partial (bytes_of b.tokens)
          → SpellsNone (SpellsMap inner n) partial (bytes_of a.tokens)
      none-follows partial none v bytes more rest follows (e, each) whole =
          let start : x ++ (bytes_of b.tokens ++ more) ≡ bytes ++ rest =
          sym (append_assoc x (bytes_of b.tokens) more) ∙ ap (λ l. l ++ more) (sym (takes-front taken)) ∙ whole in
          let found = run-left es v.items [] to x bytes (bytes_of b.tokens ++ more) rest (omega (arith, fewer, e)) spelled each start in
          let key = found.1.0 in let value = found.1.1 in let left = found.1.2 in let has = found.1.3 in
          none found.0 (key ++ value) more left follows (key, value, ((has.0, has.1), has.2, refl)) (has.3 ∙ sym (append_assoc key value left))

      -- an entry that is not read after fewer entries
      pub map-stopped : (partial : Bool) (f : Failed ℕ)
          → Reads (SpellsEntry inner to) partial b (Fails f)
          → Reads (SpellsMap inner n) partial a (Fails f)
      map-stopped partial (Backtracks c) h = (moves-both taken.moves h.0, none-follows partial h.1)
      map-stopped partial (Cuts c) h = absurd h
      map-stopped partial (Needs m) h = (h.0, none-follows false h.1)
      map-stopped partial Refuses h = tt

    -- ---- Keys

    -- a key is read, and its spelling, which is not after the last one
    pub key-before : (last spelling : List ℕ) (partial : Bool) (a b : Ahead ℕ) (key : Item)
        → Reads inner partial a (Gives key b) → inner key spelling → (IsBefore last spelling → ⊥)
        → Reads (SpellsKey inner last) partial a (Fails (Backtracks b))
    key-before last spelling partial a b key (x, (s, t)) k not = (
      t.moves,
      λ w bytes more rest follows h whole.
          let one = laws.prefix_free key w x bytes (bytes_of b.tokens ++ more) rest s h.0
          (sym (append_assoc x (bytes_of b.tokens) more) ∙ ap (λ l. l ++ more) (sym (takes-front t)) ∙ whole) in
          not (subst (IsBefore last) (sym one.1 ∙ laws.canonical key x spelling s k) h.1),
    )

    -- a key is read whose spelling is after the last one
    pub key-after : (last spelling : List ℕ) (partial : Bool) (a b : Ahead ℕ) (key : Item)
        → Reads inner partial a (Gives key b) → inner key spelling → IsBefore last spelling
        → Reads (SpellsKey inner last) partial a (Gives key b)
    key-after last spelling partial a b key (x, (s, t)) k is =
        (x, ((s, subst (IsBefore last) (laws.canonical key spelling x k s) is), t))

    -- ---- Writing

    -- a key is not written, and so no entry
    pub entry-keyless : (last : List ℕ) (entry : Item × Item) (old new held : List ℕ)
        (unwritten : Unwritten)
        → Writes inner entry.0 [] (Err unwritten) held → new ≡ old
        → Writes (SpellsEntry inner last) entry old (Err unwritten) new
    entry-keyless last entry old new held Unspelled h e = (λ bytes (x, y, ((i, j), k, d)). h.0 x i, e)
    entry-keyless last entry old new held (Refused r) h e = e

    -- the spelling of the key is not after the last one
    pub entry-before : (last key : List ℕ) (entry : Item × Item) (old new : List ℕ)
        → inner entry.0 key → (IsBefore last key → ⊥) → new ≡ old
        → Writes (SpellsEntry inner last) entry old (Err Unspelled) new
    entry-before last key entry old new k not e =
        (λ bytes (x, y, ((i, j), m, d)). not (subst (IsBefore last) (laws.canonical entry.0 x key i k) j), e)

    -- the bytes of the key and the value are written, or not
    pub entry-written : (last key : List ℕ) (entry : Item × Item) (old new : List ℕ)
        (result : Result (Unit {0}) Unwritten)
        → inner entry.0 key → IsBefore last key
        → Writes (SpellsValue inner key) entry.1 old result new
        → Writes (SpellsEntry inner last) entry old result new
    entry-written last key entry old new (Ok done) k is (bytes, ((back, (s, d)), e)) =
        (bytes, ((key, back, ((k, is), s, d)), e))
    entry-written last key entry old new (Err Unspelled) k is h =
        (λ bytes (x, y, ((i, j), m, d)). h.0 (key ++ y) (y, (m, refl)), h.1)
    entry-written last key entry old new (Err (Refused r)) k is h = h

  -- a value is written after a key
  pub value-written : (key old mid new : List ℕ) (value : Item) → mid ≡ old ++ key
      → Writes inner value mid (Ok tt) new → Writes (SpellsValue inner key) value old (Ok tt) new
  value-written key old mid new value e (bytes, (s, d)) =
      (key ++ bytes, ((bytes, (s, refl)), d ∙ ap (λ l. l ++ bytes) e ∙ append_assoc old key bytes))

  -- a value is not written after a key
  pub value-unwritten : (key old mid new : List ℕ) (value : Item) (unwritten : Unwritten)
      → mid ≡ old ++ key
      → Writes inner value mid (Err unwritten) new
      → Writes (SpellsValue inner key) value old (Err unwritten) (take (length old) new)
  value-unwritten key old mid new value Unspelled e h =
      (λ bytes (back, (s, d)). h.0 back s, ap (take (length old)) (h.1 ∙ e) ∙ take-append_seam old key)
  value-unwritten key old mid new value (Refused r) e h = ap (take (length old)) (h ∙ e) ∙ take-append_seam old key

  -- each entry of a map that is spelled is spelled after some key, if those before it are
  entries-at : (same : Item → Item → Type 0) → IsFormat same inner → (es : List (Item × Item))
      (last to x y : List ℕ) (i : ℕ) (d : Item × Item)
      → i < length es → Run last (take i es) to x → SpellsEntries inner last es y
      → (z : List ℕ) × SpellsEntry inner to (get_or es i d) z
  entries-at same laws [] last to x y i d l h k = absurd (omega (arith, l))
  entries-at same laws (e ∷ es) last to x y zero d l h (p, q, m, (a, b, c, o, f)) =
      (p ++ q, (p, q, ((a, subst (λ t. IsBefore t p) (sym h.0) b), c, refl)))
  entries-at same laws (e ∷ es) last to x y (suc i) d l (r, s, n, (i1, j, k, g, t)) (p, q, m, (a, b, c, o, f)) =
      entries-at same laws es r to n m i d (omega (arith, l)) g (subst (λ u. SpellsEntries inner u es m) (laws.canonical e.0 p r a i1) o)

  -- an entry that is not written
  pub entries-unwritten : (same : Item → Item → Type 0) → IsFormat same inner
      → (es : List (Item × Item)) (i : ℕ) (e : Item × Item) (old mid new x to : List ℕ)
      (unwritten : Unwritten)
      → i < length es → e ≡ get_or es i e → Run [] (take i es) to x → mid ≡ old ++ x
      → Writes (SpellsEntry inner to) e mid (Err unwritten) new
      → Writes (SpellsEntries inner []) es old (Err unwritten) (take (length old) new)
  entries-unwritten same laws es i e old mid new x to Unspelled l is h f w = (
    λ bytes k. let one = entries-at same laws es [] to x bytes i e l h k in
        w.0 one.0 (subst (λ v. SpellsEntry inner to v one.0) (sym is) one.1),
    ap (take (length old)) (w.1 ∙ f) ∙ take-append_seam old x,
  )
  entries-unwritten same laws es i e old mid new x to (Refused r) l is h f w = ap (take (length old)) (w ∙ f) ∙ take-append_seam old x
