use Rattle.std.proofs.Common.{◌≡◌, ℕ, ◌+◌, ◌-◌, ◌^◌, ◌<◌, ◌≤◌, ◌%◌, suc, ap, sym, ◌∙◌, subst, arith}
use Rattle.std.proofs.lemmas.Bool.Decides.{nat_tests}
use Rattle.format_cbor.specs.Floats.{magnitude, IsMagnitudeOf}
use Rattle.format_cbor.proofs.lemmas.FloatLemmas.{fitted, fitting, of-nothing}
use Rattle.format_cbor.proofs.float.has_narrower.Goals as goal

-- whether a narrower float has a magnitude, with this exponent
HasNarrower : (digits lost last finer fraction exponent : ℕ) → Type 0
HasNarrower digits lost last finer fraction exponent = IsMagnitudeOf digits last finer (magnitude (digits + lost) exponent fraction)

pub returns-then-exponent-eq0 : goal.returns-then-exponent-eq0
unfolding HasNarrower
returns-then-exponent-eq0 c =
    let to = c.args.to in
    let zero_exponent : c.args.exponent ≡ 0 = grind (arith, nat_tests, c.if-exponent-eq0.true) in
    let both = of-nothing to.digits to.lost to.last to.finer c.args.fraction c.requires.some c.requires.apart c.requires.fraction in (
      λ t. subst (HasNarrower to.digits to.lost to.last to.finer c.args.fraction) (sym zero_exponent) (both.0 (grind (arith, nat_tests, t))),
      λ m. let n = both.1 (subst (HasNarrower to.digits to.lost to.last to.finer c.args.fraction) zero_exponent m) in grind (arith, nat_tests, n),
    )

pub returns-then-to-cut : goal.returns-then-to-cut
unfolding HasNarrower
returns-then-to-cut c =
    let to = c.args.to in
    let t = c.args.exponent - 1 in
    let above : c.args.exponent ≡ suc t = grind (arith, nat_tests, c.if-exponent-eq0.false) in (
      λ f. absurd (cc),
      λ m. let fits = fitting to.digits to.lost to.last to.finer c.requires.some t (2 ^ (to.digits + to.lost) + c.args.fraction) (omega arith) (omega (arith, c.requires.fraction)) c.cut_of-cut.result (c.cut_of-cut.ensures.normal, c.cut_of-cut.ensures.subnormal)
          (subst (HasNarrower to.digits to.lost to.last to.finer c.args.fraction) above m) in absurd (grind (arith, nat_tests, fits.few, c.if-to-cut.true)),
    )

pub returns-then-to-exponent : goal.returns-then-to-exponent
unfolding HasNarrower
returns-then-to-exponent c =
    let to = c.args.to in
    let t = c.args.exponent - 1 in
    let above : c.args.exponent ≡ suc t = grind (arith, nat_tests, c.if-exponent-eq0.false) in (
      λ f. absurd (cc),
      λ m. let fits = fitting to.digits to.lost to.last to.finer c.requires.some t (2 ^ (to.digits + to.lost) + c.args.fraction) (omega arith) (omega (arith, c.requires.fraction)) c.cut_of-cut.result (c.cut_of-cut.ensures.normal, c.cut_of-cut.ensures.subnormal)
          (subst (HasNarrower to.digits to.lost to.last to.finer c.args.fraction) above m) in absurd (grind (arith, nat_tests, fits.room, above, c.if-to-exponent.true)),
    )

pub returns : goal.returns
unfolding HasNarrower
returns c =
    let to = c.args.to in
    let t = c.args.exponent - 1 in
    let k = c.cut_of-cut.result in
    let s = 2 ^ (to.digits + to.lost) + c.args.fraction in
    let above : c.args.exponent ≡ suc t = grind (arith, nat_tests, c.if-exponent-eq0.false) in
    let value : (c.power.result + c.args.fraction) % c.power-2.result ≡ s % 2 ^ k = ap (λ x. (x + c.args.fraction) % c.power-2.result) c.power.ensures ∙ ap (λ x. s % x) c.power-2.ensures in
    let few : k ≤ to.digits + to.lost = grind (arith, nat_tests, c.if-to-cut.false) in
    let room : t + 1 + to.lost < to.last + to.finer = grind (arith, nat_tests, above, c.if-to-exponent.false) in (
      λ e. subst (HasNarrower to.digits to.lost to.last to.finer c.args.fraction) (sym above)
          (fitted to.digits to.lost to.last to.finer c.requires.some t s (omega arith) (omega (arith, c.requires.fraction)) k (c.cut_of-cut.ensures.normal, c.cut_of-cut.ensures.subnormal)
          (record { room = room; few = few; even = sym value ∙ grind (arith, nat_tests, e) })),
      λ m. let fits = fitting to.digits to.lost to.last to.finer c.requires.some t s (omega arith) (omega (arith, c.requires.fraction)) k (c.cut_of-cut.ensures.normal, c.cut_of-cut.ensures.subnormal)
          (subst (HasNarrower to.digits to.lost to.last to.finer c.args.fraction) above m) in
          let even : (c.power.result + c.args.fraction) % c.power-2.result ≡ 0 = value ∙ fits.even in grind (arith, nat_tests, even),
    )
