-- What is found in bytes, from what is found in a part of them.
use Rattle.std.proofs.Common.{◌≡◌, ℕ, ◌+◌, ◌<◌, ◌≤◌, Bool, List, [], ◌∷◌, ◌++◌, length, drop, get_or, ap, sym, ◌∙◌, subst, refl, arith, append_assoc, append-nil, length-drop}
use Rattle.std.proofs.lemmas.List.{drop_more, drop-drop}
use Rattle.format_lemmas.specs.Bytes.{StartsWith}
use Rattle.format_lemmas.proofs.lemmas.ByteLemmas.{heads, tails}
use Rattle.format_json.specs.Language.{after_blanks, Elements}
use Rattle.format_json.specs.Founds.{MayFollow, HasNone, IsFound, GoesNotOn}
use Rattle.format_json.specs.Damage.{EachWithComma}
use Rattle.format_json.specs.declared.found.Found.{Found}
use Rattle.format_json.specs.declared.found.Found.TheVariants.{Begun, Damaged}
use Rattle.format_json.specs.TokenLaws.{blanks-more}
use Rattle.format_json.proofs.lemmas.GrammarLemmas.{Once, Stable, blanks-past, elements-first}

-- ---- Words and bytes

module _ (bytes : List ℕ) (at : ℕ) (inside : at < length bytes) (e : drop at bytes ≡ after_blanks bytes) where
  -- the first byte after blanks, and those after it
  pub blanks-first : after_blanks bytes ≡ get_or bytes at 0 ∷ drop (at + 1) bytes
  blanks-first = sym e ∙ drop_more bytes at 0 inside

  -- where another byte stands, this one does not, no matter what follows
  pub other-byte : (byte : ℕ) → ¬ (get_or bytes at 0 ≡ byte) → (more : List ℕ)
      → ¬ (StartsWith byte (after_blanks (bytes ++ more)))
  other-byte byte other more s =
      other (subst (StartsWith byte) (blanks-more bytes (get_or bytes at 0) (drop (at + 1) bytes) more blanks-first) s)

-- where only blanks stand and nothing follows, no byte does
pub no-byte : (bytes more : List ℕ) (byte : ℕ) → after_blanks bytes ≡ [] → more ≡ []
    → ¬ (StartsWith byte (after_blanks (bytes ++ more)))
no-byte bytes more byte e none s =
    subst (StartsWith byte) (blanks-past bytes more e ∙ ap after_blanks none) s

-- what begins with a byte starts with it
pub byte-starts : (byte : ℕ) (bytes rest : List ℕ) → bytes ≡ byte ∷ rest → StartsWith byte bytes
byte-starts byte bytes rest e = subst (StartsWith byte) (sym e) refl

-- ---- Parts

-- each value that begins bytes has a part that begins other bytes, no matter what follows
abbrev pub Covers : {T U : Type 0} → (T → List ℕ → List ℕ → Type 0) → List ℕ
    → (U → List ℕ → List ℕ → Type 0) → List ℕ → Bool → Type 0
Covers {T} {U} part c whole b partial = (more : List ℕ) → MayFollow partial more → (v : U) (r : List ℕ)
    → whole v (b ++ more) r → (m : List ℕ) × ((more ≡ [] → m ≡ [])
    × ((w : T) × ((s : List ℕ) × part w (c ++ m) s)))

-- what is found in bytes that are the same, as the same
pub found-same : {T : Type 0} (R : T → List ℕ → List ℕ → Type 0) (partial : Bool) (t u : List ℕ)
    (x y : Found T) → IsFound R partial t x → t ≡ u → x ≡ y → IsFound R partial u y
found-same R partial t u x y h e f =
    subst (λ z. IsFound R partial u z) f (subst (λ l. IsFound R partial l x) e h)

module _ {T U : Type 0} (part : T → List ℕ → List ℕ → Type 0) (whole : U → List ℕ → List ℕ → Type 0) (partial : Bool) (c b : List ℕ) (covers : Covers part c whole b partial) where
  -- where no part stands, no value does, no matter what follows
  pub none-as : HasNone part partial c → HasNone whole partial b
  none-as none more may v r h =
      let k = covers more may v r h in
      none k.0 (λ p. k.1.0 (may p)) k.1.1.0 k.1.1.1.0 k.1.1.1.1

  -- where a part is damaged, the value is
  pub damaged-as : (n m : ℕ) → m ≤ length b → IsFound part partial c (Damaged n)
      → IsFound whole partial b (Damaged m)
  damaged-as n m fits (within, none) = (fits, none-as none)

  -- where no part stands, no value does
  pub missed-as : ((w : T) (s : List ℕ) → ¬ (part w c s)) → (v : U) (r : List ℕ) → ¬ (whole v b r)
  missed-as none v r h =
      let k = covers [] (λ p. refl) v r (subst (λ l. whole v l r) (sym (append-nil b)) h) in
      none k.1.1.0 k.1.1.1.0 (subst (λ l. part k.1.1.0 l k.1.1.1.0) (ap (λ m. c ++ m) (k.1.0 refl) ∙ append-nil c) k.1.1.1.1)

  -- where a part is begun, the value is
  pub begun-as : IsFound part partial c Begun → IsFound whole partial b Begun
  begun-as (may, none) = (may, missed-as none)

-- where no value stands no matter what follows, none stands there
pub none-here : {T : Type 0} (ahead : T → List ℕ → List ℕ → Type 0) (partial : Bool) (b : List ℕ)
    → HasNone ahead partial b → (v : T) (r : List ℕ) → ¬ (ahead v b r)
none-here ahead partial b none v r h =
    none [] (λ p. refl) v r (subst (λ l. ahead v l r) (sym (append-nil b)) h)

-- the length of a prefix and of a prefix of the rest
pub fits-both : (b : List ℕ) (at n : ℕ) → at ≤ length b → n ≤ length (drop at b)
    → at + n ≤ length b
fits-both b at n h k = omega (arith, h, k, length-drop at b)

-- a value that stands first, in bytes after blanks
pub after-covers : {T : Type 0} (R : T → List ℕ → List ℕ → Type 0) (partial : Bool) (b c : List ℕ)
    → c ≡ after_blanks b → Covers R c (λ v l r. R v (after_blanks l) r) b partial
after-covers R partial b [] e more may v r h =
    (after_blanks more, (λ none. ap after_blanks none, (v, (r, subst (λ l. R v l r) (blanks-past b more (sym e)) h))))
after-covers R partial b (x ∷ c) e more may v r h =
    (more, (λ none. none, (v, (r, subst (λ l. R v l r) (blanks-more b x c more (sym e)) h))))

-- ---- Lists of elements

-- one more element and its comma
chain-more : {T : Type 0} (inner : T → List ℕ → List ℕ → Type 0) (vs : List T) (v : T)
    (bytes b after next : List ℕ)
    → EachWithComma inner vs bytes b → inner v b after → after_blanks after ≡ 44 ∷ next
    → EachWithComma inner (vs ++ v ∷ []) bytes next
chain-more inner [] v bytes b after next e h f =
    (after, (next, (subst (λ l. inner v l after) (sym e) h, f, refl)))
chain-more inner (w ∷ ws) v bytes b after next (a, (n, (k, g, rest))) h f =
    (a, (n, (k, g, chain-more inner ws v n b after next rest h f)))

module _ {T : Type 0} (inner : T → List ℕ → List ℕ → Type 0) (close : ℕ) (partial : Bool) (bytes : List ℕ) where
  -- the first bytes are these elements, each with a comma after it
  pub record HasRead (at : ℕ) (items : List T) : Type 0 where
    pub within : at ≤ length bytes
    pub sound : (vs : List T) (r : List ℕ) → Elements inner close vs (drop at bytes) r
        → Elements inner close (items ++ vs) bytes r
    pub onward : (more : List ℕ) → MayFollow partial more → (ws : List T) (r : List ℕ)
        → Elements inner close ws (bytes ++ more) r
        → (vs : List T) × Elements inner close vs (drop at bytes ++ more) r
    pub chain : EachWithComma inner items bytes (drop at bytes)

  -- no bytes are no elements
  pub read-begins : HasRead 0 []
  read-begins = record {
    within = omega arith;
    sound = λ vs r h. h;
    onward = λ more may ws r h. (ws, h);
    chain = refl;
  }

  module _ (at : ℕ) (items : List T) (read : HasRead at items) where
    -- the next element is one of the elements
    next-first : (more : List ℕ) (vs : List T) (r : List ℕ)
        → Elements inner close vs (drop at bytes ++ more) r
        → (w : T) × ((s : List ℕ) × inner w (drop at bytes ++ more) s)
    next-first more [] r h = absurd h
    next-first more (v ∷ vs) r h = (v, elements-first inner close v vs (drop at bytes ++ more) r h)

    -- where the elements stand, the next one does
    pub element-covers : {U : Type 0} (items_of : U → List T)
        → Covers inner (drop at bytes) (λ u. Elements inner close (items_of u)) bytes partial
    element-covers items_of more may u r h =
        let k = read.onward more may (items_of u) r h in
        (more, (λ none. none, next-first more k.0 r k.1))

    module _ (comma : ¬ (close ≡ 44)) (once : Once inner) (stable : Stable partial inner) (v : T) (n : ℕ) (is : inner v (drop at bytes) (drop n (drop at bytes))) where
      -- the bytes after the element
      after-is : (u : T) (a more : List ℕ) → MayFollow partial more
          → inner u (drop at bytes ++ more) a
          → drop (at + n) bytes ++ more ≡ a
      after-is u a more may h =
          ap (λ l. l ++ more) (sym (drop-drop n at bytes)) ∙ once v u (drop at bytes ++ more) (drop n (drop at bytes) ++ more) a (stable v (drop at bytes) (drop n (drop at bytes)) more may is) h

      module _ (m : ℕ) (fits : m ≤ length (drop (at + n) bytes)) where
        module _ (goes : after_blanks (drop (at + n) bytes) ≡ 44 ∷ drop m (drop (at + n) bytes)) where
          -- the bytes after the comma
          comma-is : after_blanks (drop (at + n) bytes) ≡ 44 ∷ drop (at + n + m) bytes
          comma-is = goes ∙ ap (λ l. 44 ∷ l) (drop-drop m (at + n) bytes)

          -- the elements after the comma
          on-sound : (vs : List T) (r : List ℕ)
              → Elements inner close vs (drop (at + n + m) bytes) r
              → Elements inner close ((items ++ v ∷ []) ++ vs) bytes r
          on-sound [] r h = absurd h
          on-sound (w ∷ ws) r h =
              subst (λ l. Elements inner close l bytes r) (sym (append_assoc items (v ∷ []) (w ∷ ws))) (read.sound (v ∷ w ∷ ws) r (drop (at + n) bytes, (drop (at + n + m) bytes, (subst (inner v (drop at bytes)) (drop-drop n at bytes) is, comma-is, h))))

          -- each list of elements goes on after the comma
          on-rest : (more : List ℕ) → MayFollow partial more → (us : List T) (r : List ℕ)
              → Elements inner close us (drop at bytes ++ more) r
              → (vs : List T) × Elements inner close vs (drop (at + n + m) bytes ++ more) r
          on-rest more may [] r h = absurd h
          on-rest more may (u ∷ []) r (a, (hu, e)) =
              let there = blanks-more (drop (at + n) bytes) 44 (drop (at + n + m) bytes) more comma-is in
              absurd (comma (heads close 44 r (drop (at + n + m) bytes ++ more) (sym e ∙ ap after_blanks (sym (after-is u a more may hu)) ∙ there)))
          on-rest more may (u ∷ y ∷ us) r (a, (q, (hu, e, h))) =
              let there = blanks-more (drop (at + n) bytes) 44 (drop (at + n + m) bytes) more comma-is in
              let same = tails 44 44 q (drop (at + n + m) bytes ++ more) (sym e ∙ ap after_blanks (sym (after-is u a more may hu)) ∙ there) in
              (y ∷ us, subst (λ l. Elements inner close (y ∷ us) l r) same h)

          -- an element and the comma after it are read
          pub read-on : at + n ≤ length bytes → HasRead (at + n + m) (items ++ v ∷ [])
          read-on fit = record {
            within = fits-both bytes (at + n) m fit fits;
            sound = on-sound;
            onward = λ more may ws r h. let k = read.onward more may ws r h in on-rest more may k.0 r k.1;
            chain = chain-more inner items v bytes (drop at bytes) (drop (at + n) bytes) (drop (at + n + m) bytes) read.chain (subst (inner v (drop at bytes)) (drop-drop n at bytes) is) comma-is;
          }

        -- the last element and the bracket after it are read
        pub read-ends : after_blanks (drop (at + n) bytes) ≡ close ∷ drop m (drop (at + n) bytes)
            → Elements inner close (items ++ v ∷ []) bytes (drop (at + n + m) bytes)
        read-ends e =
            read.sound (v ∷ []) (drop (at + n + m) bytes) (drop (at + n) bytes, (subst (inner v (drop at bytes)) (drop-drop n at bytes) is, e ∙ ap (λ l. close ∷ l) (drop-drop m (at + n) bytes)))

      -- where neither a comma nor the bracket follows, no elements stand there
      stops-rest : (more : List ℕ) → MayFollow partial more
          → ¬ (StartsWith 44 (after_blanks (drop (at + n) bytes ++ more)))
          → ¬ (StartsWith close (after_blanks (drop (at + n) bytes ++ more)))
          → (us : List T) (r : List ℕ) → ¬ (Elements inner close us (drop at bytes ++ more) r)
      stops-rest more may no_comma no_close [] r h = h
      stops-rest more may no_comma no_close (u ∷ []) r (a, (hu, e)) =
          no_close (byte-starts close (after_blanks (drop (at + n) bytes ++ more)) r (ap after_blanks (after-is u a more may hu) ∙ e))
      stops-rest more may no_comma no_close (u ∷ y ∷ us) r (a, (q, (hu, e, h))) =
          no_comma (byte-starts 44 (after_blanks (drop (at + n) bytes ++ more)) q (ap after_blanks (after-is u a more may hu) ∙ e))

      -- so the elements are damaged
      pub read-stops : {U : Type 0} (items_of : U → List T)
          → GoesNotOn close partial (drop (at + n) bytes)
          → HasNone (λ u. Elements inner close (items_of u)) partial bytes
      read-stops items_of never more may u r h =
          let k = read.onward more may (items_of u) r h in
          let none = never more may in
          stops-rest more may none.0 none.1 k.0 r k.1

      -- or begun
      pub read-begun : {U : Type 0} (items_of : U → List T)
          → after_blanks (drop (at + n) bytes) ≡ []
          → (u : U) (r : List ℕ) → ¬ (Elements inner close (items_of u) bytes r)
      read-begun items_of e u r h =
          let k = read.onward [] (λ p. refl) (items_of u) r (subst (λ l. Elements inner close (items_of u) l r) (sym (append-nil bytes)) h) in
          stops-rest [] (λ p. refl) (no-byte (drop (at + n) bytes) [] 44 e refl) (no-byte (drop (at + n) bytes) [] close e refl) k.0 r k.1
