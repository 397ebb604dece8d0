-- What fragments of a text spell.
use Rattle.std.specs.Prelude.{List}
use Rattle.winnow_ascii.specs.declared.fragment.Fragment.{Fragment}
use Rattle.winnow_ascii.specs.declared.fragment.Fragment.TheVariants.{Normal, Escaped}

-- what a fragment spells, by what its value spells
abbrev pub spelled : {N E A : Type 0} → (N → List A) → (E → List A) → Fragment N E → List A
spelled normal escaped (Normal x) = normal x
spelled normal escaped (Escaped y) = escaped y
