-- A copy of what a parser gives, since a record owns what it reads.
use Rattle.std.specs.Prelude.{◌≡◌, ℕ, List, ◌⊎◌, ⊤}
use Rattle.std.proofs.Common.{inl, inr}
use Rattle.winnow_parser.specs.Outcome.{Ahead, Failed, Backtracks, Cuts, Needs, Refuses, Gives, Fails, Meaning}
use Rattle.winnow_parser.specs.Laws.{IsStable, IsFinal, IsOnward, IsParser}

-- memory was refused
abbrev pub IsRefusal : {T : Type 0} → Failed T → Type 0
IsRefusal (Backtracks b) = ⊥
IsRefusal (Cuts b) = ⊥
IsRefusal (Needs n) = ⊥
IsRefusal Refuses = ⊤

module _ {S V : Type 0} (bytes : S → List ℕ) (items : V → List ℕ) where
  -- a value with the bytes of the slice that the parser gives; memory may be refused for it
  abbrev pub Copied : Meaning S ℕ → Meaning V ℕ
  Copied inner partial a (Gives v b) = (s : S) × (inner partial a (Gives s b) × (items v ≡ bytes s))
  Copied inner partial a (Fails f) = inner partial a (Fails f)
      ⊎ (IsRefusal f × ((s : S) × ((b : Ahead ℕ) × inner partial a (Gives s b))))

module _ {S V : Type 0} (bytes : S → List ℕ) (items : V → List ℕ) (inner : Meaning S ℕ) (p : IsParser inner) where
  -- a settled answer of `Copied` stays when more input follows
  copied-stable : IsStable (Copied bytes items inner)
  copied-stable more partial a (Gives v b) s h = (h.0, (p.stable more partial a (Gives h.0 b) tt h.1.0, h.1.1))
  copied-stable more partial a (Fails (Backtracks b)) s (inl h) = inl (p.stable more partial a (Fails (Backtracks b)) tt h)
  copied-stable more partial a (Fails (Backtracks b)) s (inr k) = absurd k.0
  copied-stable more partial a (Fails (Cuts b)) s (inl h) = inl (p.stable more partial a (Fails (Cuts b)) tt h)
  copied-stable more partial a (Fails (Cuts b)) s (inr k) = absurd k.0
  copied-stable more partial a (Fails (Needs n)) s h = absurd s
  copied-stable more partial a (Fails Refuses) s h = absurd s

  -- `Copied` needs nothing more where nothing more may follow
  copied-final : IsFinal (Copied bytes items inner)
  copied-final a n (inl h) = p.final a n h
  copied-final a n (inr k) = k.0

  -- `Copied` only moves the stream on
  copied-onward : IsOnward (Copied bytes items inner)
  copied-onward partial a (Gives v b) h = p.onward partial a (Gives h.0 b) h.1.0
  copied-onward partial a (Fails (Backtracks b)) (inl h) = p.onward partial a (Fails (Backtracks b)) h
  copied-onward partial a (Fails (Backtracks b)) (inr k) = absurd k.0
  copied-onward partial a (Fails (Cuts b)) (inl h) = p.onward partial a (Fails (Cuts b)) h
  copied-onward partial a (Fails (Cuts b)) (inr k) = absurd k.0
  copied-onward partial a (Fails (Needs n)) h = tt
  copied-onward partial a (Fails Refuses) h = tt

  -- `Copied` keeps the laws of a parser
  pub IsParser-Copied : IsParser (Copied bytes items inner)
  IsParser-Copied = record { stable = copied-stable; final = copied-final; onward = copied-onward }
