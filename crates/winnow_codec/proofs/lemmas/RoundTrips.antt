-- What reading and writing make of one another.
use Rattle.std.proofs.Common.{◌≡◌, ℕ, Bool, List, [], ◌++◌, length, drop, Ok, Err, ap, sym, ◌∙◌, refl}
use Rattle.std.proofs.Math.Seq.{drop-append_seam}
use Rattle.std.proofs.lemmas.List.{append-nil, append_cancel_left}
use Rattle.winnow_parser.specs.Outcome.{Ahead, Backtracks, Cuts, Needs, Refuses, Outcome, Gives, Fails}
use Rattle.winnow_codec.specs.Formats.{bytes_of, Spelling, IsFormat, Reads}
use Rattle.winnow_codec.specs.RoundTrips.{IsReadBack, ReadsWhatItWrites, WritesWhatItReads}
use Rattle.winnow_codec.specs.declared.unwritten.Unwritten.TheVariants.{Unspelled, Refused}
use Rattle.winnow_codec.proofs.lemmas.Reading.{takes-front}

module _ {V : Type 0} (same : V → V → Type 0) (spells : Spelling V) (laws : IsFormat same spells) where
  -- what is spelled ahead is read
  read-back : (v : V) (bytes rest : List ℕ) (partial : Bool) (a : Ahead ℕ) (out : Outcome V ℕ)
      → spells v bytes
      → bytes_of a.tokens ≡ bytes ++ rest → Reads spells partial a out → IsReadBack same v rest out
  read-back v bytes rest partial a (Gives w b) s e h =
      let both = laws.prefix_free v w bytes h.0 rest (bytes_of b.tokens) s h.1.0 (sym e ∙ takes-front h.1.1) in
      (both.0, append_cancel_left bytes (bytes_of b.tokens) rest (ap (λ l. l ++ bytes_of b.tokens) both.1 ∙ sym (takes-front h.1.1) ∙ e))
  read-back v bytes rest partial a (Fails (Backtracks b)) s e h = h.1 v bytes [] rest (λ _. refl) s (append-nil _ ∙ e)
  read-back v bytes rest partial a (Fails (Cuts b)) s e h = h
  read-back v bytes rest partial a (Fails (Needs n)) s e h = h.1 v bytes [] rest (λ _. refl) s (append-nil _ ∙ e)
  read-back v bytes rest partial a (Fails Refuses) s e h = tt

  pub reads-what-it-writes : ReadsWhatItWrites same spells
  reads-what-it-writes v old new rest partial a out h e r =
      read-back v h.0 rest partial a out h.1.0 (e ∙ ap (λ l. drop (length old) l ++ rest) h.1.1 ∙ ap (λ l. l ++ rest) (drop-append_seam old h.0)) r

  pub writes-what-it-reads : WritesWhatItReads spells
  writes-what-it-reads v partial a b old new (Ok done) h k =
      (k.0, (k.1.1, takes-front h.1.1 ∙ ap (λ l. l ++ bytes_of b.tokens) (laws.canonical v h.0 k.0 h.1.0 k.1.0)))
  writes-what-it-reads v partial a b old new (Err Unspelled) h k = k.0 h.0 h.1.0
  writes-what-it-reads v partial a b old new (Err (Refused r)) h k = tt
