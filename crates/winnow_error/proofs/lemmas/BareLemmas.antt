-- Text that `Bare` passes on unchanged is written to the formatter, for any options.
use Rattle.std.specs.Prelude.{◌≡◌, ℕ, List, [], ◌∷◌, ◌++◌, Option, Some, None, Result}
use Rattle.std.proofs.Common.{refl, sym, ap, subst, ◌∙◌}
use Rattle.std.specs.List.{FoldsTo, concat}
use Rattle.std.specs.declared.fmt.Error.{Error}
use Rattle.std.specs.declared.fmt.Formatter.{Formatter}
use Rattle.std.specs.Fmt.{IsDefaultSpec, IsPlainFormatter, IsFlush, HasWrittenStyled, DisplaysOnOk, DisplaysStyledOnOk, formatter_writer}
use Rattle.std.proofs.lemmas.List.Folds.{concat-append}
use Rattle.winnow_error.specs.declared.bare.Bare.{Bare}

module _ {W : Type 0} (took : W → List ℕ → W → Type 0) where
  -- two runs of writes, one after the other, are one run of the appended writes
  FoldsTo-append : (w : W) (xs : List (List ℕ)) (v : W) (ys : List (List ℕ)) (u : W)
      → FoldsTo took w xs v → FoldsTo took v ys u → FoldsTo took w (xs ++ ys) u
  FoldsTo-append w [] v ys u p q = subst (λ (x : W). FoldsTo took x ys u) (sym p) q
  FoldsTo-append w (x ∷ xs) v ys u p q = (p.0, p.1, FoldsTo-append p.0 xs v ys u p.2 q)

  -- two writes, one after the other, write the appended texts
  HasWrittenStyled-append : (f : Formatter W) (a : List ℕ) (g : Formatter W) (b : List ℕ)
      (h : Formatter W) → HasWrittenStyled took f a g → HasWrittenStyled took g b h
      → HasWrittenStyled took f (a ++ b) h
  HasWrittenStyled-append f a g b h p q = record {
    wrote = record {
      parts = p.wrote.parts ++ q.wrote.parts;
      calls = FoldsTo-append _ p.wrote.parts _ q.wrote.parts _ p.wrote.calls q.wrote.calls;
      whole = concat-append p.wrote.parts q.wrote.parts ∙ (λ i. p.wrote.whole i ++ q.wrote.whole i);
    };
    spec = q.spec ∙ p.spec;
    flush = q.flush;
  }

  -- after one call, the inner formatter has written the same text, for any options
  abbrev pub PassedOn : Bare W → List ℕ → Bare W → Type 0
  PassedOn s bs t = (IsFlush s.f.now → HasWrittenStyled took s.f.now bs t.f.now) × (t.f.ghost_name ≡ s.f.ghost_name)

  -- after several calls, the inner formatter has written their texts, appended
  PassedOn-fold : (s : Bare W) (xs : List (List ℕ)) (t : Bare W) → FoldsTo PassedOn s xs t
      → PassedOn s (concat xs) t
  PassedOn-fold s [] t p = (λ flush. subst (λ (x : Bare W). HasWrittenStyled took s.f.now [] x.f.now) p (record { wrote = record { parts = []; calls = refl; whole = refl }; spec = refl; flush = flush }), ap (λ (x : Bare W). x.f.ghost_name) (sym p))
  PassedOn-fold s (x ∷ xs) t p =
      let rest = PassedOn-fold p.0 xs t p.2 in
      (λ flush. HasWrittenStyled-append s.f.now x p.0.f.now (concat xs) t.f.now (p.1.0 flush) (rest.0 (p.1.0 flush).flush), rest.1 ∙ p.1.1)

  -- a value that is written to a plain formatter over a `Bare` is written to the inner formatter,
  -- which is `v` when the loan ends
  pub styled-bare : (s t : Bare W) (v : Formatter W) (b c : Formatter (Bare W))
      (r : Result (Unit {0}) Error) (o : Option (List ℕ)) → formatter_writer b ≡ s
      → t ≡ formatter_writer c → IsPlainFormatter b
      → (t.f.ghost_name ≡ s.f.ghost_name → v ≡ t.f.now) → DisplaysOnOk PassedOn b r o c
      → DisplaysStyledOnOk took s.f.now r o v
  styled-bare s t v b c r None start end plain back p = tt
  styled-bare s t v b c r (Some bs) start end plain back p = λ flush ok.
      let written = (p plain ok).wrote in
      let calls = subst (λ (x : Bare W). FoldsTo PassedOn s written.parts x) (sym end) (subst (λ (x : Bare W). FoldsTo PassedOn x written.parts (formatter_writer c)) start written.calls) in
      let all = PassedOn-fold s written.parts t calls in
      subst (λ (x : Formatter W). HasWrittenStyled took s.f.now bs x) (sym (back all.1))
      (subst (λ (l : List ℕ). HasWrittenStyled took s.f.now l t.f.now) written.whole (all.0 flush))

  -- text that is written under any options is written under none
  pub displays-styled : (f g : Formatter W) (r : Result (Unit {0}) Error) (o : Option (List ℕ))
      → DisplaysStyledOnOk took f r o g → DisplaysOnOk took f r o g
  displays-styled f g r None p = tt
  displays-styled f g r (Some bs) p = λ plain ok.
      let h = p plain.flush ok in
      record { wrote = h.wrote; plain = record { bare = subst IsDefaultSpec (sym h.spec) plain.bare; flush = h.flush } }
