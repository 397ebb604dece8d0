-- The answers of the reader, from the meaning of the parser.
use Rattle.std.proofs.Common.{◌≡◌, ℕ, zero, suc, Bool, true, false, List, [], inl, inr, Some, None, ap, sym, subst, refl}
use Rattle.std.specs.Prelude.{Result, Ok, Err}
use Rattle.winnow_stream.specs.Source.{Source, units, HasPositiveWidths}
use Rattle.winnow_stream.specs.Units.{HasPositiveWidths-units}
use Rattle.winnow_stream.specs.Longer.{SlicesStay}
use Rattle.winnow_stream.specs.SliceBytes.{SlicesHaveBytes}
use Rattle.winnow_stream.specs.declared.needed.Needed.{Needed}
use Rattle.winnow_parser.specs.Outcome.{Ahead, Failed, Backtracks, Cuts, Needs, Refuses, Gives, Fails, Meaning}
use Rattle.winnow_parser.specs.Laws.{longer, failed_longer, IsDecided}
use Rattle.winnow_parser.specs.Answer.{outcome}
use Rattle.winnow_error.specs.declared.failure.Failure.{Failure}
use Rattle.winnow_error.specs.declared.failure.Failure.TheVariants.{Incomplete, Backtrack, Cut, Refused}
use Rattle.winnow_token.specs.OneOf.{IsOneOf}
use Rattle.winnow_combinator.specs.Ending.{IsFail}
use Rattle.format_lemmas.proofs.lemmas.TokenLemmas.{itself}
use Rattle.format_lemmas.proofs.lemmas.ByteLemmas.{positive-both}
use Rattle.format_resp.specs.Meanings.{is_kind, BulkOf, ArrayOf, Body, Layer, Nested, IsParser-Nested}
use Rattle.format_resp.specs.Language.{greatest_count}
use Rattle.format_resp.specs.Answers.{HasNoReply, IsBegun, CannotBeReply, IsAnswer, GivesEach}
use Rattle.format_resp.specs.declared.reply.Reply.{Reply}
use Rattle.format_resp.proofs.lemmas.ReplyLemmas.{yields-nested, reads-nested}
use Rattle.format_resp.proofs.lemmas.DamageLemmas.{nested-stops}

-- a decided failure is no refusal
decided-other : (f : Failed ℕ) → IsDecided f → ¬ (f ≡ Refuses)
decided-other (Backtracks b) h e = cc
decided-other (Cuts b) h e = cc
decided-other (Needs n) h e = h
decided-other Refuses h e = h

-- nor is the same failure of a longer input
still-decided : (more : Source ℕ) (f : Failed ℕ) → IsDecided f → ¬ (failed_longer more f ≡ Refuses)
still-decided more (Backtracks b) h e = cc
still-decided more (Cuts b) h e = cc
still-decided more (Needs n) h e = h
still-decided more Refuses h e = h

module _ {S : Type 0} (counts_shortage : Bool) (is_slice : S → Source ℕ → ℕ → Type 0) (stay : SlicesStay is_slice) (bytes : S → List ℕ) (have : SlicesHaveBytes is_slice bytes) where
  -- if the parser fails, but not by a refusal, the source begins with no reply
  none-stands : (longest depth : ℕ) (partial : Bool) (a : Ahead ℕ) (f : Failed ℕ)
      → HasPositiveWidths a.tokens
      → Nested itself counts_shortage is_slice bytes longest depth partial a (Fails f)
      → ¬ (f ≡ Refuses) → HasNoReply longest depth a.tokens
  none-stands longest depth partial a f wide h other = λ y s stands.
      other (reads-nested counts_shortage is_slice bytes have longest depth y stands.0 stands.1.1 a.tokens s wide stands.1.0 partial a (Fails f) refl h)

  -- a definite failure is one on each longer input, so no longer input begins with a reply
  none-can : (longest depth : ℕ) (partial : Bool) (a : Ahead ℕ) (f : Failed ℕ)
      → HasPositiveWidths a.tokens
      → Nested itself counts_shortage is_slice bytes longest depth partial a (Fails f) → IsDecided f
      → partial ≡ true → ¬ (IsBegun longest depth a.tokens)
  none-can longest depth partial a f wide h decided p (more, (reply, stands)) =
      let lawful = IsParser-Nested itself counts_shortage is_slice bytes stay longest depth in
      let far = lawful.stable (units more) true a (Fails f) decided (subst (λ q. Nested itself counts_shortage is_slice bytes longest depth q a (Fails f)) p h) in
      none-stands longest depth true (longer (units more) a) (failed_longer (units more) f) (positive-both a.tokens (units more) wide (HasPositiveWidths-units more)) far (still-decided (units more) f decided) reply [] stands

  -- the source begins with no reply on any continuation
  none-ever : (longest depth : ℕ) (partial : Bool) (a : Ahead ℕ) (f : Failed ℕ)
      → HasPositiveWidths a.tokens
      → Nested itself counts_shortage is_slice bytes longest depth partial a (Fails f) → IsDecided f
      → CannotBeReply longest depth partial a.tokens
  none-ever longest depth partial a f wide h decided =
      (none-stands longest depth partial a f wide h (decided-other f decided), none-can longest depth partial a f wide h decided)

  -- what follows the byte of a kind never backtracks
  body-holds : (longest most kind : ℕ) (inner : Meaning Reply ℕ) (partial : Bool) (a b : Ahead ℕ)
      → ¬
      (Body itself counts_shortage is_slice bytes longest most inner kind partial a
      (Fails (Backtracks b)))
  body-holds longest most kind inner partial a b (inl (e, inl h)) = h
  body-holds longest most kind inner partial a b (inl (e, inr (None, (c, (m, (h, same, k)))))) = absurd (let f : ArrayOf itself counts_shortage is_slice bytes inner None partial c (Fails (Backtracks b)) = subst (λ o. ArrayOf itself counts_shortage is_slice bytes inner o partial c (Fails (Backtracks b))) (sym same) k in f)
  body-holds longest most kind inner partial a b (inl (e, inr (Some n, (c, (m, (h, same, k)))))) = absurd (let f : ArrayOf itself counts_shortage is_slice bytes inner (Some n) partial c (Fails (Backtracks b)) = subst (λ o. ArrayOf itself counts_shortage is_slice bytes inner o partial c (Fails (Backtracks b))) (sym same) k in f)
  body-holds longest most kind inner partial a b (inr (inl (e, h))) = h
  body-holds longest most kind inner partial a b (inr (inr (inl (e, h)))) = h
  body-holds longest most kind inner partial a b (inr (inr (inr (inl (e, h))))) = h
  body-holds longest most kind inner partial a b (inr (inr (inr (inr (e, inl h))))) = h
  body-holds longest most kind inner partial a b (inr (inr (inr (inr (e, inr (None, (c, (m, (h, same, k))))))))) = absurd (let f : BulkOf itself counts_shortage is_slice bytes None partial c (Fails (Backtracks b)) = subst (λ o. BulkOf itself counts_shortage is_slice bytes o partial c (Fails (Backtracks b))) (sym same) k in f)
  body-holds longest most kind inner partial a b (inr (inr (inr (inr (e, inr (Some n, (c, (m, (h, same, k))))))))) = absurd (let f : BulkOf itself counts_shortage is_slice bytes (Some n) partial c (Fails (Backtracks b)) = subst (λ o. BulkOf itself counts_shortage is_slice bytes o partial c (Fails (Backtracks b))) (sym same) k in f)

  -- a backtrack is that of the byte of a kind
  layer-backtracks : (longest most : ℕ) (inner : Meaning Reply ℕ) (partial : Bool) (a b : Ahead ℕ)
      → Layer itself counts_shortage is_slice bytes longest most inner partial a (Fails (Backtracks b))
      → IsOneOf is_kind partial a (Fails (Backtracks b))
  layer-backtracks longest most inner partial a b (inl h) = h
  layer-backtracks longest most inner partial a b (inr (x, (c, (k, (h, same, g))))) = absurd (body-holds longest most k inner partial c b g)

  -- a backtrack of the whole parser is that of the byte of a kind
  nested-backtracks : (longest depth : ℕ) (partial : Bool) (a b : Ahead ℕ)
      → Nested itself counts_shortage is_slice bytes longest depth partial a (Fails (Backtracks b))
      → IsOneOf is_kind partial a (Fails (Backtracks b))
  nested-backtracks longest zero partial a b h = layer-backtracks longest 0 IsFail partial a b h
  nested-backtracks longest (suc depth) partial a b h = layer-backtracks longest greatest_count (Nested itself counts_shortage is_slice bytes longest depth) partial a b h

  -- more input is needed only where more may follow
  needs-more : (longest depth : ℕ) (partial : Bool) (a : Ahead ℕ) (n : Needed)
      → Nested itself counts_shortage is_slice bytes longest depth partial a (Fails (Needs n))
      → partial ≡ true
  needs-more longest depth true a n h = refl
  needs-more longest depth false a n h = absurd ((IsParser-Nested itself counts_shortage is_slice bytes stay longest depth).final a n h)

  -- each answer of the parser is one that `IsAnswer` allows
  pub answers : {E : Type 0} (longest depth : ℕ) (partial : Bool) (a b : Ahead ℕ)
      (result : Result Reply (Failure E Needed)) → HasPositiveWidths a.tokens
      → Nested itself counts_shortage is_slice bytes longest depth partial a (outcome result b)
      → IsAnswer longest depth partial a.tokens result b.tokens
  answers longest depth partial a b (Ok y) wide h =
      let k = yields-nested counts_shortage is_slice bytes have longest depth partial a b y wide h in (k.0, (k.1.0, k.1.1))
  answers longest depth partial a b (Err (Backtrack e)) wide h =
      let first = nested-backtracks longest depth partial a b h in
      (none-ever longest depth partial a (Backtracks b) wide h tt, first.0, ap (λ s. s.tokens) (sym first.2), first.1)
  answers longest depth partial a b (Err (Cut e)) wide h = (
    none-ever longest depth partial a (Cuts b) wide h tt,
    elim (nested-stops counts_shortage is_slice bytes have longest depth partial (Cuts b) a wide h) [
      | inl k ↦ absurd k.0
      | inr k ↦ k
    ],
  )
  answers longest depth partial a b (Err (Incomplete n)) wide h = (
    none-stands longest depth partial a (Needs n) wide h (λ e. cc),
    needs-more longest depth partial a n h,
    elim (nested-stops counts_shortage is_slice bytes have longest depth partial (Needs n) a wide h) [
      | inl k ↦ inl k.1
      | inr k ↦ inr k
    ],
  )
  answers longest depth partial a b (Err (Refused e)) wide h = tt

  -- each reply with which the source begins is returned
  pub gives-each : {E : Type 0} (longest depth : ℕ) (partial : Bool) (a b : Ahead ℕ)
      (result : Result Reply (Failure E Needed)) → HasPositiveWidths a.tokens
      → Nested itself counts_shortage is_slice bytes longest depth partial a (outcome result b)
      → GivesEach longest depth a.tokens result b.tokens
  gives-each longest depth partial a b (Ok y) wide h x s stands =
      let k = reads-nested counts_shortage is_slice bytes have longest depth x stands.0 stands.1.1 a.tokens s wide stands.1.0 partial a (Gives y b) refl h in (k.0.1, k.1)
  gives-each longest depth partial a b (Err (Backtrack e)) wide h x s stands =
      none-stands longest depth partial a (Backtracks b) wide h (λ e. cc) x s stands
  gives-each longest depth partial a b (Err (Cut e)) wide h x s stands =
      none-stands longest depth partial a (Cuts b) wide h (λ e. cc) x s stands
  gives-each longest depth partial a b (Err (Incomplete n)) wide h x s stands =
      none-stands longest depth partial a (Needs n) wide h (λ e. cc) x s stands
  gives-each longest depth partial a b (Err (Refused e)) wide h x s stands = tt
