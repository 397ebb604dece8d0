-- The faults that a script may have, and their texts.
use Rattle.std.specs.Prelude.{ℕ, ◌≤◌, List, ◌++◌, codes, decimal, ⊤}
use Rattle.winnow_script_lines.specs.declared.fault.ScriptFault.{ScriptFault}
use Rattle.winnow_script_lines.specs.declared.fault.ScriptFault.TheVariants.{Line, OutOfMemory}

-- the fault is a line for whose number `Holds` holds, or is memory
abbrev pub IsLineWhere : (ℕ → Type 0) → ScriptFault → Type 0
IsLineWhere Holds (Line k) = Holds k
IsLineWhere Holds OutOfMemory = ⊤

-- the fault is a line from 1 to n, or is memory
abbrev pub IsWithin : ℕ → ScriptFault → Type 0
IsWithin n fault = IsLineWhere (λ k. (1 ≤ k) × (k ≤ n)) fault

abbrev pub fault_text : ScriptFault → List ℕ
fault_text (Line k) = codes "line " ++ decimal k ++ codes ": faulty"
fault_text OutOfMemory = codes "out of memory"
