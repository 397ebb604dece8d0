-- Values that are read with what is computed of their bytes.
use Rattle.std.proofs.Common.{◌≡◌, ℕ, Bool, false, List, ◌++◌, length, take, Ok, Err, ap, sym, ◌∙◌, subst, refl, append_assoc}
use Rattle.std.proofs.Math.Seq.{take-append_seam}
use Rattle.std.proofs.lemmas.List.{append_cancel_left}
use Rattle.winnow_parser.specs.Outcome.{Ahead, Failed, Backtracks, Cuts, Needs, Refuses, Gives, Fails}
use Rattle.winnow_codec.specs.Checks.{SpellsChecked}
use Rattle.winnow_codec.specs.Formats.{bytes_of, Spelling, Takes, SpellsNone, Reads, IsFormat}
use Rattle.winnow_codec.specs.Known.{SpellsExactly}
use Rattle.winnow_codec.specs.Writing.{Writes}
use Rattle.winnow_codec.specs.declared.unwritten.Unwritten.{Unwritten}
use Rattle.winnow_codec.specs.declared.unwritten.Unwritten.TheVariants.{Unspelled, Refused}
use Rattle.winnow_codec.proofs.lemmas.Reading.{takes-both, takes-front, moves-both}

module _ {V C : Type 0} (inner : Spelling V) (codes : Spelling C) (code_of : List ℕ → C) (partial : Bool) (a : Ahead ℕ) where
  -- if no value is spelled, none is spelled with its code
  none-before : (partial : Bool) (ahead : List ℕ) → SpellsNone inner partial ahead
      → SpellsNone (SpellsChecked inner codes code_of) partial ahead
  none-before partial ahead h v bytes more rest follows (x, y, (s, t, e)) whole =
      h v x more (y ++ rest) follows s (whole ∙ ap (λ l. l ++ rest) e ∙ append_assoc x y rest)

  -- the value is not read
  pub checked-unbegun : (f : Failed ℕ) → Reads inner partial a (Fails f)
      → Reads (SpellsChecked inner codes code_of) partial a (Fails f)
  checked-unbegun (Backtracks b) h = (h.0, none-before partial _ h.1)
  checked-unbegun (Cuts b) h = absurd h
  checked-unbegun (Needs n) h = (h.0, none-before false _ h.1)
  checked-unbegun Refuses h = tt

  module _ (same : V → V → Type 0) (laws : IsFormat same inner) (b : Ahead ℕ) (v : V) (part : List ℕ) (spelled : inner v part) where
    -- what was written again is what was read
    again : Reads inner partial a (Gives v b) → Takes part a b
    again (x, (s, t)) = subst (λ l. Takes l a b) (laws.canonical v x part s spelled) t

    -- the value and its code are read
    pub checked-given : (c : Ahead ℕ) → Reads inner partial a (Gives v b)
        → Reads (SpellsExactly codes (code_of part)) partial b (Gives tt c)
        → Reads (SpellsChecked inner codes code_of) partial a (Gives v c)
    checked-given c h (y, (k, t)) = (part ++ y, ((part, y, (spelled, k, refl)), takes-both (again h) t))

    -- if the code does not follow, no value is spelled with its code
    none-after : (partial : Bool) → Takes part a b
        → SpellsNone (SpellsExactly codes (code_of part)) partial (bytes_of b.tokens)
        → SpellsNone (SpellsChecked inner codes code_of) partial (bytes_of a.tokens)
    none-after partial t h w bytes more rest follows (y, z, (i, j, e)) whole =
        let one : part ++ (bytes_of b.tokens ++ more) ≡ y ++ (z ++ rest) =
        sym (append_assoc part (bytes_of b.tokens) more) ∙ ap (λ l. l ++ more) (sym (takes-front t)) ∙ whole ∙ ap (λ l. l ++ rest) e ∙ append_assoc y z rest in
        let free = laws.prefix_free v w part y (bytes_of b.tokens ++ more) (z ++ rest) spelled i one in
        let left = append_cancel_left part (bytes_of b.tokens ++ more) (z ++ rest) (one ∙ ap (λ l. l ++ (z ++ rest)) (sym free.1)) in
        h tt z more rest follows (subst (λ l. codes (code_of l) z) (sym free.1) j) left

    -- the code is not read
    pub checked-unfinished : (f : Failed ℕ) → Reads inner partial a (Gives v b)
        → Reads (SpellsExactly codes (code_of part)) partial b (Fails f)
        → Reads (SpellsChecked inner codes code_of) partial a (Fails f)
    checked-unfinished (Backtracks c) h k = (moves-both (again h).moves k.0, none-after partial (again h) k.1)
    checked-unfinished (Cuts c) h k = absurd k
    checked-unfinished (Needs n) h k = (k.0, none-after false (again h) k.1)
    checked-unfinished Refuses h k = tt

-- a value is written, and the code of its bytes is not
pub checked-unwritten : {V C : Type 0} (same : V → V → Type 0) (inner : Spelling V)
    → IsFormat same inner → (codes : Spelling C) (code_of : List ℕ → C)
    → (v : V) (old mid new : List ℕ) (code : C) (unwritten : Unwritten)
    → (w : Writes inner v old (Ok tt) mid) → code ≡ code_of w.0
    → Writes codes code mid (Err unwritten) new
    → Writes (SpellsChecked inner codes code_of) v old (Err unwritten) (take (length old) new)
checked-unwritten same inner laws codes code_of v old mid new code Unspelled w is k = (
  λ bytes (x, y, (i, j, e)).
      k.0 y (subst (λ n. codes n y) (ap code_of (laws.canonical v x w.0 i w.1.0) ∙ sym is) j),
  ap (take (length old)) (k.1 ∙ w.1.1) ∙ take-append_seam old w.0,
)
checked-unwritten same inner laws codes code_of v old mid new code (Refused r) w is k =
    ap (take (length old)) (k ∙ w.1.1) ∙ take-append_seam old w.0
