-- A parser that is called again after each failure that is skipped.
use Rattle.std.specs.Prelude.{Bool, true, List, [], ◌∷◌}
use Rattle.std.proofs.Common.{ap}
use Rattle.winnow_stream.specs.Source.{Source}
use Rattle.winnow_parser.specs.Outcome.{Ahead, Meaning, Moves}
use Rattle.winnow_parser.specs.Laws.{longer, IsStable, IsOnward, IsParser}
use Rattle.winnow_parser.specs.Parts.{Moves-still, Moves-on, LeavesAfter-on}
use Rattle.winnow_resume.specs.Chain.{Chain}
use Rattle.winnow_resume.specs.Skipping.{Skips, Attempts, Skips-longer, Skips-moves, IsParser-Attempts}

-- some failures are skipped in a row, and then an attempt has this answer
abbrev pub RetriesAfter : {O T : Type 0} → Bool → Meaning O T → Meaning (Unit {0}) T → Meaning O T
RetriesAfter {T = T} records means recover partial a v =
    (places : List (Ahead T))
    × ((b : Ahead T)
    × (Chain (Skips true records means recover partial) places a b
    × Attempts records means recover partial b v))

module _ {O T : Type 0} (records : Bool) {means : Meaning O T} {recover : Meaning (Unit {0}) T}
    (p : IsParser means) (r : IsParser recover) where
  -- what is skipped stays when more input follows
  skips_all-longer : (more : Source T) (partial : Bool) (places : List (Ahead T)) (a b : Ahead T)
      → Chain (Skips true records means recover true) places a b
      → (longer_places : List (Ahead T)) × Chain (Skips true records means recover partial)
      longer_places (longer more a) (longer more b)
  skips_all-longer more partial [] a b e = ([], ap (longer more) e)
  skips_all-longer more partial (c ∷ cs) a b h =
      let rest = skips_all-longer more partial cs c b h.1 in
      (longer more c ∷ rest.0, (Skips-longer p r records true more partial a c h.0, rest.1))

  -- what is skipped moves the stream on
  skips_all-moves : (partial : Bool) (places : List (Ahead T)) (a b : Ahead T)
      → Chain (Skips true records means recover partial) places a b → Moves a b
  skips_all-moves partial [] a b e = Moves-still a b e
  skips_all-moves partial (c ∷ cs) a b h =
      Moves-on a c b (Skips-moves p r records true partial a c h.0) (skips_all-moves partial cs c b h.1)

  -- a settled answer of `RetriesAfter` stays when more input follows
  retries-stable : IsStable (RetriesAfter records means recover)
  retries-stable more partial a v s h =
      let skipped = skips_all-longer more partial h.0 a h.1.0 h.1.1.0 in
      (skipped.0, (longer more h.1.0, (skipped.1, (IsParser-Attempts p r records).stable more partial h.1.0 v s h.1.1.1)))

  -- `RetriesAfter` only moves the stream on
  retries-onward : IsOnward (RetriesAfter records means recover)
  retries-onward partial a v h =
      LeavesAfter-on a h.1.0 v (skips_all-moves partial h.0 a h.1.0 h.1.1.0) ((IsParser-Attempts p r records).onward partial h.1.0 v h.1.1.1)

  -- `RetriesAfter` keeps the laws of a parser
  pub IsParser-RetriesAfter : IsParser (RetriesAfter records means recover)
  IsParser-RetriesAfter = record {
    stable = retries-stable;
    final = λ a n h. (IsParser-Attempts p r records).final h.1.0 n h.1.1.1;
    onward = retries-onward;
  }
