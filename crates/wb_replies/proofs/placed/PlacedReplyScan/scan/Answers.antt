use Rattle.std.proofs.Common.{ℕ, List, ◌++◌, true}
use Rattle.std.specs.Borrow.{Bor}
use Rattle.winnow_reader.specs.Place.{IsByteSlice}
use Rattle.format_lemmas.proofs.lemmas.TokenLemmas.{itself}
use Rattle.format_resp.specs.Meanings.{Nested}
use Rattle.format_resp.specs.Scan.{IsScanned}
use Rattle.wb_replies.proofs.lemmas.PlacingLemmas.{placing-goes}
use Rattle.wb_replies.proofs.placed.PlacedReplyScan.scan.Goals as goal

pub returns : goal.returns
returns c = λ front h.
    let limits = c.args.self.now.limits in
    placing-goes (Nested itself true IsByteSlice (λ (slice : Bor (List ℕ)). slice.now) limits.longest limits.depth) (IsScanned limits.longest limits.depth)
    (front ++ c.args.more.now) c.scan.result c.scan.new.state (c.scan.ensures front h)
