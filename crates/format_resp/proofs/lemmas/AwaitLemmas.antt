-- While a scan of a reply goes on, the parser has neither a value nor a failure.
use Rattle.std.proofs.Common.{◌≡◌, ◌≢◌, ℕ, Bool, true, List, [], ◌∷◌, inl, inr, ap, sym, ◌∙◌, subst, refl, append-nil}
use Rattle.std.specs.Prelude.{Ok, Err, ⊤}
use Rattle.std.specs.Borrow.{Bor}
use Rattle.winnow_stream.specs.Source.{units}
use Rattle.winnow_stream.specs.Units.{HasPositiveWidths-units}
use Rattle.winnow_stream.specs.SliceBytes.{SlicesHaveBytes}
use Rattle.winnow_parser.specs.Outcome.{Outcome, Gives, Fails, Backtracks, Cuts, Needs, Refuses, Meaning}
use Rattle.winnow_parser.specs.Laws.{IsSettled}
use Rattle.winnow_error.specs.declared.failure.Failure.TheVariants.{Backtrack, Cut}
use Rattle.winnow_reader.specs.Place.{bytes_at, IsByteSlice, SlicesStay-bytes}
use Rattle.winnow_scan.specs.Scanning.{AwaitsMore}
use Rattle.format_lemmas.proofs.lemmas.TokenLemmas.{itself}
use Rattle.format_resp.specs.Meanings.{Nested}
use Rattle.format_resp.specs.Damage.{cause_at}
use Rattle.format_resp.specs.Scan.{Settles, Follow, IsScanned}
use Rattle.format_resp.specs.declared.causes.Cause.TheVariants.{NoKind}
use Rattle.format_resp.specs.declared.reply.Reply.{Reply}
use Rattle.format_resp.specs.declared.scan.ReplyScan.{ReplyScan}
use Rattle.format_resp.proofs.lemmas.AnswerLemmas.{answers}
use Rattle.format_resp.proofs.lemmas.BreakLemmas.{units-ahead}
use Rattle.format_resp.proofs.lemmas.ScanLemmas.{part-open}

-- slices of bytes have their own bytes
have-bytes : SlicesHaveBytes IsByteSlice (λ (slice : Bor (List ℕ)). slice.now)
have-bytes s r n o h = h

-- no reply begins with a byte of no kind, not since the bytes end
no-kind : (bytes : List ℕ) → bytes ≢ [] → NoKind ≡ cause_at (units bytes) NoKind
no-kind [] some = absurd (some refl)
no-kind (c ∷ bytes) some = refl

-- where there is a token there is a byte
some-byte : (bytes : List ℕ) → units bytes ≢ [] → bytes ≢ []
some-byte bytes some e = some (ap units e)

module _ (counts_shortage : Bool) where
  -- the parser of replies, over the bytes that a reader has ahead
  abbrev Reading : ℕ → ℕ → Meaning Reply ℕ
  Reading longest depth = Nested itself counts_shortage IsByteSlice (λ (slice : Bor (List ℕ)). slice.now) longest depth

  -- what the parser gives of bytes to which more may come, or where it fails, is settled by them
  given : (longest depth : ℕ) (bytes : List ℕ) (place : ℕ) (v : Outcome Reply ℕ) → IsSettled v
      → Reading longest depth true (bytes_at place bytes) v
      → Settles longest depth (λ rest. ⊤) bytes
  given longest depth bytes place (Gives y b) settled h =
      let k = answers counts_shortage IsByteSlice SlicesStay-bytes (λ slice. slice.now) have-bytes {E = Unit {0}} longest depth true (bytes_at place bytes) b (Ok y) (HasPositiveWidths-units bytes) h in
      let there = units-ahead bytes k.0 b.tokens k.1.0 in
      inl (y, (k.0, (there.0, (there.1.0, k.1.1, tt))))
  given longest depth bytes place (Fails (Backtracks b)) settled h =
      let k = answers counts_shortage IsByteSlice SlicesStay-bytes (λ slice. slice.now) have-bytes {E = Unit {0}} longest depth true (bytes_at place bytes) b (Err (Backtrack tt)) (HasPositiveWidths-units bytes) h in
      inr (NoKind, (b.tokens, ((λ e. cc e), inl (k.2, k.1, no-kind bytes (some-byte bytes (k.3 refl)) ∙ ap (λ r. cause_at r NoKind) k.2))))
  given longest depth bytes place (Fails (Cuts b)) settled h =
      let k = answers counts_shortage IsByteSlice SlicesStay-bytes (λ slice. slice.now) have-bytes {E = Unit {0}} longest depth true (bytes_at place bytes) b (Err (Cut tt)) (HasPositiveWidths-units bytes) h in
      inr (k.1.0, (b.tokens, (k.1.1.0 refl, inr k.1.1.1)))
  given longest depth bytes place (Fails (Needs n)) settled h = absurd settled
  given longest depth bytes place (Fails Refuses) settled h = absurd settled

  -- so of bytes that are scanned it needs more, or gives nothing and does not fail
  pub awaits-reply : (longest depth : ℕ) (bytes : List ℕ) (scan : ReplyScan)
      → IsScanned longest depth bytes scan → AwaitsMore (Reading longest depth) bytes
  awaits-reply longest depth bytes scan (inner, (begun, (sum, part, leads))) place =
      inr (λ v settled h. (let all = subst (Settles longest depth (λ rest. ⊤)) (sym (append-nil bytes)) (given longest depth bytes place v settled h) in
      part-open longest inner (Follow longest inner scan.wanted) scan.part scan.digits begun part
      (subst (Settles longest inner (Follow longest inner scan.wanted)) (append-nil begun) (leads [] all))))
