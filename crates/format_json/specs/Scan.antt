-- The scan of a token.
use Rattle.std.specs.Prelude.{◌≡◌, ◌≢◌, ℕ, List, []}
use Rattle.format_lemmas.specs.Bytes.{Each}
use Rattle.format_json_scalars.specs.Numbers.{is_number_byte}
use Rattle.format_json_scalars.specs.Tails.{EndsInTail}
use Rattle.format_json.specs.Language.{after_blanks}
use Rattle.format_json.specs.declared.scan.Part.{Part}
use Rattle.format_json.specs.declared.scan.Part.TheVariants.{Blanks, Number, Text}
use Rattle.format_json.specs.declared.scan.TokenScan.{TokenScan}

-- a scan of bytes, which are `here` after blanks, may be in this part, with this tail
abbrev pub IsIn : Part → List ℕ → List ℕ → Type 0
IsIn Blanks here tail = (here ≡ []) × (tail ≡ [])
IsIn Number here tail = (here ≢ []) × Each is_number_byte here
IsIn Text here tail = EndsInTail here tail

-- a scan of these bytes may be there
abbrev pub IsScanned : List ℕ → TokenScan → Type 0
IsScanned bytes scan = IsIn scan.part (after_blanks bytes) scan.tail
