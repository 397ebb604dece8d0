-- The bytes of one character determine it.
use Rattle.std.proofs.Common.{◌≡◌, ℕ, [], ◌++◌, ap}
use Rattle.std.proofs.lemmas.Str.{encode_same}
use Rattle.std.proofs.Math.Utf8.{encode}

-- no two characters have the same bytes
pub encode_injective : (c d : ℕ) → encode c ≡ encode d → c ≡ d
encode_injective c d same = (encode_same c d [] [] (ap (λ bytes. bytes ++ []) same)).0
