-- Two exchanges, and an exchange of what is read.
use Rattle.std.proofs.Common.{◌≡◌, ℕ, List, [], ◌∷◌, ◌++◌, take, drop, refl, ap, sym, subst, ◌∙◌, arith, append_assoc, Result, Ok, Err, IfOk}
use Rattle.std.specs.declared.alloc.AllocError.{AllocError}
use Rattle.std.proofs.lemmas.List.{take-append-drop}
use Rattle.std.specs.Prelude.{Option, None, Some}
use Rattle.std.specs.Io.KnownBytes.{Consumes, Keeps, IsAtEnd}
use Rattle.wb_base.specs.Exchanging.{exchanged_byte, exchanged, exchanged_known}
use Rattle.wb_base.specs.Excerpts.{IsExcerpt}
use Rattle.wb_base.specs.declared.excerpt.Excerpt.{Excerpt}

-- a byte that is exchanged twice is what it was
byte-twice : (one other byte : ℕ) → exchanged_byte one other (exchanged_byte one other byte) ≡ byte
byte-twice one other byte = grind arith

-- an exchange of a byte with itself changes none
byte-same : (one byte : ℕ) → exchanged_byte one one byte ≡ byte
byte-same one byte = grind arith

pub twice : (one other : ℕ) (bytes : List ℕ)
    → exchanged one other (exchanged one other bytes) ≡ bytes
twice one other [] = refl
twice one other (byte ∷ bytes) =
    ap (λ b. b ∷ exchanged one other (exchanged one other bytes)) (byte-twice one other byte) ∙ ap (λ bs. byte ∷ bs) (twice one other bytes)

pub same : (one : ℕ) (bytes : List ℕ) → exchanged one one bytes ≡ bytes
same one [] = refl
same one (byte ∷ bytes) = ap (λ b. b ∷ exchanged one one bytes) (byte-same one byte) ∙ ap (λ bs. byte ∷ bs) (same one bytes)

-- the exchange of bytes one after the other
pub exchanged-append : (one other : ℕ) (xs ys : List ℕ)
    → exchanged one other (xs ++ ys) ≡ exchanged one other xs ++ exchanged one other ys
exchanged-append one other [] ys = refl
exchanged-append one other (x ∷ xs) ys = ap (λ bs. exchanged_byte one other x ∷ bs) (exchanged-append one other xs ys)

-- what a reader loses is exchanged with what it has
pub exchanged-consumes : (one other : ℕ) (a b : Option (List ℕ)) (part read : List ℕ)
    → Consumes a b part
    → read ≡ exchanged one other part → Consumes (exchanged_known one other a) (exchanged_known one other b) read
exchanged-consumes one other None b part read h e = tt
exchanged-consumes one other (Some xs) None part read h e = absurd h
exchanged-consumes one other (Some xs) (Some ys) part read h e =
    ap (exchanged one other) h ∙ exchanged-append one other part ys ∙ ap (λ bs. bs ++ exchanged one other ys) (sym e)

-- at its end nothing is exchanged
pub exchanged-end : (one other : ℕ) (a : Option (List ℕ)) → IsAtEnd a
    → IsAtEnd (exchanged_known one other a)
exchanged-end one other None h = tt
exchanged-end one other (Some xs) h = ap (exchanged one other) h

-- what is kept is kept
pub exchanged-keeps : (one other : ℕ) (a b : Option (List ℕ)) → Keeps a b
    → Keeps (exchanged_known one other a) (exchanged_known one other b)
exchanged-keeps one other None b h = tt
exchanged-keeps one other (Some xs) None h = absurd h
exchanged-keeps one other (Some xs) (Some ys) h = ap (exchanged one other) h

-- the line of a place between some of the bytes on each side is that between all of them
pub excerpt-parts : (one other n m : ℕ) (before rest : List ℕ) (e : Excerpt)
    → IsExcerpt (exchanged one other (drop n before)) (exchanged one other (take m rest)) e
    → IsExcerpt (exchanged one other before) (exchanged one other rest) e
excerpt-parts one other n m before rest e is = record {
  start = exchanged one other (take n before) ++ is.start;
  more = is.more ++ exchanged one other (drop m rest);
  ahead =
      ap (exchanged one other) (sym (take-append-drop n before)) ∙ exchanged-append one other (take n before) (drop n before)
      ∙ ap (λ b. exchanged one other (take n before) ++ b) is.ahead ∙ sym (append_assoc (exchanged one other (take n before)) is.start e.before.items);
  after =
      ap (exchanged one other) (sym (take-append-drop m rest)) ∙ exchanged-append one other (take m rest) (drop m rest)
      ∙ ap (λ b. b ++ exchanged one other (drop m rest)) is.after ∙ append_assoc e.after.items is.more (exchanged one other (drop m rest));
  line_ahead = is.line_ahead;
  line_after = is.line_after;
}

-- and so is that between copies of them, if there is one
pub excerpts-parts : (one other n m : ℕ) (before rest left right : List ℕ)
    (r : Result Excerpt AllocError)
    → left ≡ exchanged one other (drop n before) → right ≡ exchanged one other (take m rest)
    → IfOk r (IsExcerpt left right) → IfOk r (IsExcerpt (exchanged one other before) (exchanged one other rest))
excerpts-parts one other n m before rest left right (Err e) a b h = tt
excerpts-parts one other n m before rest left right (Ok e) a b h =
    excerpt-parts one other n m before rest e (subst (λ l. IsExcerpt l (exchanged one other (take m rest)) e) a (subst (λ r. IsExcerpt left r e) b h))
