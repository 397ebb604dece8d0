-- The text of damaged bytes, run by run.
use Rattle.std.proofs.Common.{◌≡◌, ◌<◌, ℕ, List, [], ◌++◌, length, drop, None, IsUtf8, sym, ap, subst, ◌∙◌, arith, append-nil, drop_at, length-append}
use Rattle.std.proofs.lemmas.List.{nil_from_length}
use Rattle.std.proofs.lemmas.Str.{utf8_valid_len-IsValidUpTo, utf8_valid_len-IsUtf8, utf8_lossy_chunk, utf8_lossy_last_chunk}
use Rattle.std.specs.Str.{IsValidUpTo}
use Rattle.std.specs.Str.Lossy.{utf8_lossy, utf8_valid_len, replacement_bytes}
use Rattle.bstr.specs.Utf8.{decoded}
use Rattle.bstr.proofs.lemmas.LossyLemmas.{utf8_invalid_len-decoded}
use Rattle.bstr.proofs.lemmas.UnicodeLemmas.{none_after_valid}

-- a run of text and the damaged bytes after it give the run and one U+FFFD
pub utf8_lossy-damaged : (bs text damaged rest : List ℕ) → bs ≡ text ++ (damaged ++ rest)
    → IsValidUpTo bs (length text)
    → length damaged ≡ (decoded (damaged ++ rest)).size → 0 < length damaged
    → utf8_lossy bs ≡ text ++ (replacement_bytes ++ utf8_lossy rest)
utf8_lossy-damaged bs text damaged rest parts longest piece some =
    let n = utf8_valid_len bs in
    let end : n ≡ length text = utf8_valid_len-IsValidUpTo bs _ longest in
    let behind : drop n bs ≡ damaged ++ rest = ap (drop n) parts ∙ drop_at text _ n (sym end) in
    let none = subst (λ k. (decoded (drop k bs)).char ≡ None) (sym end) (none_after_valid bs _ longest) in
    let size = piece ∙ ap (λ t. (decoded t).size) (sym behind) ∙ sym (utf8_invalid_len-decoded (drop n bs) none) in
    utf8_lossy_chunk bs text damaged rest parts (sym end) size some

-- the last run, with nothing after it, gives itself
pub utf8_lossy-last : (bs text damaged rest : List ℕ) → bs ≡ text ++ (damaged ++ rest) → IsUtf8 text
    → length damaged ≡ 0 → length rest ≡ 0 → utf8_lossy bs ≡ text ++ utf8_lossy rest
utf8_lossy-last bs text damaged rest parts valid no_damage no_rest =
    let none : damaged ++ rest ≡ [] = nil_from_length _ (omega (arith, length-append damaged rest)) in
    let whole : bs ≡ text = parts ∙ ap (λ t. text ++ t) none ∙ append-nil text in
    let end = ap length (sym whole) ∙ sym (utf8_valid_len-IsUtf8 bs (subst IsUtf8 (sym whole) valid)) in
    utf8_lossy_last_chunk bs text damaged rest parts end no_damage no_rest
