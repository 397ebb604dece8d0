use Rattle.std.proofs.Common.{◌≡◌, ℕ, ◌<◌, ◌≤◌, List, length, take, Option, Some, None, ap, ◌∙◌, arith}
use Rattle.std.specs.Prelude.{IfSome, option_map}
use Rattle.std.proofs.lemmas.List.{take_all, length-take}
use Rattle.winnow_script_lines.proofs.reading.read_script.Goals as goal

-- if fewer bytes than the limit were read, all bytes were read
whole_below : (known : Option (List ℕ)) (limit : ℕ) (read : List ℕ)
    → IfSome (option_map (take limit) known) (λ xs. read ≡ xs)
    → length read < limit → IfSome known (λ bytes. read ≡ bytes)
whole_below None limit read e below = tt
whole_below (Some bytes) limit read e below =
    let short : length bytes ≤ limit = omega (arith, length-take limit bytes, ap length e) in
    e ∙ take_all limit bytes short

pub returns-clause-whole : goal.returns-clause-whole
returns-clause-whole g c =
    let read = rw (c.new-input.ensures.items, c.take.ensures.inner) at c.in_ok-length.ensures.bytes in
    whole_below _ c.take.result.limit _ read (omega (arith, c.in_ok-length.ensures.ok, c.new-input.ensures.len, c.take.ensures.limit))
