-- Values that fill framed parts.
use Rattle.std.proofs.Common.{ℕ, Bool, List, ◌++◌, ap, sym, ◌∙◌, subst, append_assoc}
use Rattle.std.specs.Prelude.{Vec}
use Rattle.std.specs.declared.alloc.Global.{Global}
use Rattle.winnow_parser.specs.Outcome.{Ahead, Failed, Backtracks, Cuts, Needs, Refuses, Gives, Fails}
use Rattle.winnow_codec.specs.Formats.{bytes_of, Spelling, Reads, IsPrefixFree, IsEqual}
use Rattle.winnow_codec.specs.Frames.{ReadsPart, SpellsInside}
use Rattle.winnow_codec.proofs.lemmas.Reading.{takes-front}

module _ {V : Type 0} (frames : Spelling (List ℕ)) (inner : Spelling V) (partial : Bool) (a b : Ahead ℕ) where
  -- a part is read, and its bytes spell a value
  pub inside-given : (part : Vec ℕ Global) (v : V) → ReadsPart frames partial a (Gives part b)
      → inner v part.items → Reads (SpellsInside frames inner) partial a (Gives v b)
  inside-given part v (bytes, (h, t)) s = (bytes, ((part.items, (s, h)), t))

  -- a part is read, and its bytes spell no value
  pub inside-malformed : IsPrefixFree IsEqual frames → (part : Vec ℕ Global)
      → ReadsPart frames partial a (Gives part b) → ((v : V) → inner v part.items → ⊥)
      → Reads (SpellsInside frames inner) partial a (Fails (Backtracks b))
  inside-malformed laws part (bytes, (h, t)) none = (
    t.moves,
    λ v others more rest follows (other, (s, k)) whole.
        let free = laws part.items other bytes others (bytes_of b.tokens ++ more) rest h k
        (sym (append_assoc bytes (bytes_of b.tokens) more) ∙ ap (λ l. l ++ more) (sym (takes-front t)) ∙ whole) in
        none v (subst (inner v) (sym free.0) s),
  )

-- no part is read
pub inside-unread : {V : Type 0} (frames : Spelling (List ℕ)) (inner : Spelling V) (partial : Bool)
    (a : Ahead ℕ) (f : Failed ℕ) → Reads frames partial a (Fails f)
    → Reads (SpellsInside frames inner) partial a (Fails f)
inside-unread frames inner partial a (Backtracks b) h =
    (h.0, λ v bytes more rest follows s. h.1 s.0 bytes more rest follows s.1.1)
inside-unread frames inner partial a (Cuts b) h = h
inside-unread frames inner partial a (Needs n) h =
    (h.0, λ v bytes more rest follows s. h.1 s.0 bytes more rest follows s.1.1)
inside-unread frames inner partial a Refuses h = h
