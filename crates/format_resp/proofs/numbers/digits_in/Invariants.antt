use Rattle.std.proofs.Common.{◌≡◌, ◌<◌, ◌^◌, take}
use Rattle.std.specs.Str.Parse.{AllDigits, digits_value}
use Rattle.format_resp.proofs.numbers.digits_in.Given as goal

-- the bytes so far are digits, and write the number
abbrev pub invariant-loop-byte : goal.invariant-loop-byte
invariant-loop-byte l = record {
  digits : AllDigits 10 (take l.byte-index l.text);
  number : l.number ≡ digits_value 10 (take l.byte-index l.text);
  small : l.number < 2 ^ 64;
}
