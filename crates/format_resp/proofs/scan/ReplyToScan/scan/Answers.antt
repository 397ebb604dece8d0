use Rattle.std.proofs.Common.{◌≡◌, ◌≤◌, true, ◌+◌, [], ◌∷◌, ◌++◌, length, take, drop, get_or, refl, subst, append-nil, take_all, arith}
use Rattle.format_resp.specs.Scan.{IsScanned}
use Rattle.format_resp.proofs.lemmas.ScanLemmas.{scanned-far, take-one, take-plus, passed-length}
use Rattle.format_resp.proofs.lemmas.AwaitLemmas.{awaits-reply}
use Rattle.format_resp.proofs.scan.ReplyToScan.scan.Goals as goal

pub loop-at-preserved-then-skipped-gt0 : goal.loop-at-preserved-then-skipped-gt0
loop-at-preserved-then-skipped-gt0 c =
    let limits = c.args.self.now in
    let more = c.args.more.now in
    let at = c.loop-at.at in
    let n = c.skip-skipped.result in
    let within : at + n ≤ length more = omega (arith, c.skip-skipped.ensures.within, c.loop-at.invariant.0) in (
      within,
      λ front h.
          scanned-far limits.longest limits.depth front (take at more) (take n (drop at more)) (take (at + n) more) c.skip-skipped.new.self (take-plus at n (at + n) more refl)
          (c.skip-skipped.ensures.goes limits (front ++ take at more) (take n (drop at more)) (passed-length at n more within) (c.loop-at.invariant.1 front h)),
    )

pub loop-at-preserved : goal.loop-at-preserved
loop-at-preserved c =
    let limits = c.args.self.now in
    let more = c.args.more.now in
    let at = c.loop-at.at in
    let none : 0 ≡ c.skip-skipped.result = omega (arith, c.if-skipped-gt0.false) in (
      omega (arith, c.loop-at-test.true),
      λ front h.
          (let far = front ++ take at more in
          let same = subst (λ l. IsScanned limits.longest limits.depth l c.skip-skipped.new.self) (append-nil far)
          (c.skip-skipped.ensures.goes limits far [] none (c.loop-at.invariant.1 front h)) in
          scanned-far limits.longest limits.depth front (take at more) (get_or more at 0 ∷ []) (take (at + 1) more) c.goes_on.new.self (take-one at (at + 1) more (omega arith) c.loop-at-test.true)
          (c.goes_on.ensures far same c.if-not-goes_on.false)),
    )

pub returns : goal.returns
returns c = λ front h.
    let limits = c.args.self.now in
    let more = c.args.more.now in
    let all = subst (λ l. IsScanned limits.longest limits.depth (front ++ l) c.loop-at.state) (take_all c.loop-at.at more c.loop-at-test.false) (c.loop-at.invariant.1 front h) in
    (all, awaits-reply true limits.longest limits.depth (front ++ more) c.loop-at.state all)
