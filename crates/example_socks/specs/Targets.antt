-- The cases of targets.
use Rattle.std.specs.declared.alloc.Global.{Global}
use Rattle.std.specs.Prelude.{Vec, ℕ}
use Rattle.winnow_codec.specs.declared.choice.Choice.{Choice}
use Rattle.winnow_codec.specs.declared.choice.Choice.TheVariants.{First, Other}
use Rattle.example_socks.specs.declared.target.Target.{Target}
use Rattle.example_socks.specs.declared.target.Target.TheVariants.{Address4, Domain, Address6}

-- which case a target is
abbrev pub target_case : Target → Choice ℕ (Choice (Vec ℕ Global) (ℕ × ℕ))
target_case (Address4 address) = First address
target_case (Domain name) = Other (First name)
target_case (Address6 address) = Other (Other address)
