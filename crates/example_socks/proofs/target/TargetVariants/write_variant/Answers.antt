use Rattle.std.proofs.Common.{ap}
use Rattle.example_socks.specs.Targets.{target_case}
use Rattle.example_socks.proofs.target.TargetVariants.write_variant.Goals as goal

pub returns-in-Address4 : goal.returns-in-Address4
returns-in-Address4 c = c.write_first.ensures (target_case c.args.self.now) (ap target_case c.in-Address4.is)

pub returns-in-Domain : goal.returns-in-Domain
returns-in-Domain c = c.write_second.ensures (target_case c.args.self.now) (ap target_case c.in-Domain.is)

pub returns-in-Address6 : goal.returns-in-Address6
returns-in-Address6 c = c.write_last_of_three.ensures (target_case c.args.self.now) (ap target_case c.in-Address6.is)
