-- Joined fields, and the offsets at which they end, with one field more.
use Rattle.std.specs.Prelude.{ℕ, ◌+◌, ◌<◌, List, [], ◌∷◌, ◌++◌, length, take, get_or}
use Rattle.std.proofs.Common.{◌≡◌, ap, sym, ◌∙◌, arith}
use Rattle.std.proofs.lemmas.List.{append_assoc, append-nil, length-append, take_more}
use Rattle.woldbraid_readers.specs.Records.{joined, ends_from, ends_of}

-- the bytes of the fields with one more
pub joined-more : (fields : List (List ℕ)) (field : List ℕ)
    → joined (fields ++ field ∷ []) ≡ joined fields ++ field
unfolding joined
joined-more [] field = append-nil field
joined-more (x ∷ xs) field =
    ap (λ rest. x ++ rest) (joined-more xs field) ∙ sym (append_assoc x (joined xs) field)

-- the offsets of the fields with one more
pub ends-more : (start : ℕ) (fields : List (List ℕ)) (field : List ℕ)
    → ends_from start (fields ++ field ∷ []) ≡ ends_from start fields ++ (start + length (joined (fields ++ field ∷ []))) ∷ []
unfolding joined ends_from
ends-more start [] field = ap (λ n. (start + n) ∷ []) (sym (ap length (append-nil field)))
ends-more start (x ∷ xs) field =
    let more = ends-more (start + length x) xs field in
    let size = length-append x (joined (xs ++ field ∷ [])) in
    let same : start + length x + length (joined (xs ++ field ∷ [])) ≡ start + length (x ++ joined (xs ++ field ∷ [])) = omega (arith, size) in
    ap (λ rest. (start + length x) ∷ rest) (more ∙ ap (λ n. ends_from (start + length x) xs ++ n ∷ []) same)

-- the bytes and the offsets of the first i fields, with field i appended, are those of the first
-- i + 1 fields
pub fills-more : (fields : List (List ℕ)) (i : ℕ) (field : List ℕ) → i < length fields
    → get_or fields i [] ≡ field → (text ends : List ℕ)
    → text ≡ joined (take i fields) → ends ≡ ends_of (take i fields)
    → (text ++ field ≡ joined (take (i + 1) fields)) × (ends ++ (length text + length field) ∷ [] ≡ ends_of (take (i + 1) fields))
fills-more fields i field lt same text ends t e =
    let front = take i fields in
    let more = take_more fields i [] lt ∙ ap (λ f. take i fields ++ f ∷ []) same in
    let j = joined-more (take i fields) field in
    let k = ends-more 0 (take i fields) field in
    let size = length-append (joined (take i fields)) field in
    let there = ap length t in
    let all = ap length j in
    let sum : length text + length field ≡ 0 + length (joined (take i fields ++ field ∷ [])) = omega (arith, size, there, all) in (
      ap (λ x. x ++ field) t ∙ sym j ∙ ap joined (sym more),
      ap (λ x. x ++ (length text + length field) ∷ []) e ∙ ap (λ n. ends_of (take i fields) ++ n ∷ []) sum ∙ sym k ∙ ap ends_of (sym more),
    )
