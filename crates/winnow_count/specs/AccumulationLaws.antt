-- An accumulator holds what the list with one more item gives: the laws that its implementations
-- need.
use Rattle.std.proofs.Common.{◌≡◌, ◌==◌, ℕ, ◌+◌, ◌≤◌, Bool, true, false, cond, List, [], ◌∷◌, ◌++◌, length, refl, sym, ◌∙◌, ap, arith}
use Rattle.std.specs.Prelude.{Option, Some, MatchBool, encode_utf8}
use Rattle.std.specs.BTreeMap as tree
use Rattle.std.specs.BTreeMap.{BTreeMap}
use Rattle.std.specs.BTreeSet as sorted
use Rattle.std.specs.BTreeSet.{BTreeSet}
use Rattle.std.specs.Cmp.{IsEquivalence, IsTotalOrder}
use Rattle.std.specs.Cow.{cow_str_bytes}
use Rattle.std.specs.HashMap as hash
use Rattle.std.specs.HashMap.{HashMap}
use Rattle.std.specs.HashSet as bag
use Rattle.std.specs.HashSet.{HashSet}
use Rattle.std.specs.List.{flat_map}
use Rattle.std.specs.Ordering.{eq_by_cmp}
use Rattle.std.specs.Str.{encode_utf8_all}
use Rattle.std.specs.declared.borrow.CowStr.{CowStr}
use Rattle.std.specs.declared.borrow.CowStr.TheVariants.{Borrowed, Owned}
use Rattle.std.specs.declared.cmp.Ordering.{Ordering}
use Rattle.std.proofs.lemmas.Cmp.{eq_by_cmp_equiv}
use Rattle.std.proofs.lemmas.Grind.{common_steps}
use Rattle.std.proofs.lemmas.List.{length-append, flat_map_more, reverse-append}
use Rattle.std.proofs.lemmas.List.Folds.{list_any-append}
use Rattle.std.proofs.lemmas.Str.{encodes-append}
use Rattle.winnow_count.specs.Accumulation.{HasLastValues, HasKeys, AppendsOwned, BecomesOrAppends, CowUnchanged, room_of}

-- a count takes one more item
pub count_taken : {T : Type 0} (old new : ℕ) (items : List T) (item : T)
    → old ≡ length items → new ≡ old + 1 → new ≡ length (items ++ item ∷ [])
count_taken old new items item held taken = grind (arith, length-append items (item ∷ []))

-- the `view` of an accumulator, if each item gives a piece
module _ {S T A : Type 0} (view : S → List A) (piece : T → List A) where
  -- an accumulator that appends the piece of an item holds the pieces of the longer list
  pub concat_taken : (old new : S) (items : List T) (item : T)
      → view old ≡ flat_map piece items → view new ≡ view old ++ piece item
      → view new ≡ flat_map piece (items ++ item ∷ [])
  concat_taken old new items item held taken =
      taken ∙ ap (λ l. l ++ piece item) held ∙ flat_map_more piece [] items item

module _ {S : Type 0} (view : S → List ℕ) where
  -- a text that appends a character holds the characters of the longer list
  pub characters_taken : (old new : S) (characters : List ℕ) (c : ℕ)
      → view old ≡ encode_utf8_all characters → view new ≡ view old ++ encode_utf8 c
      → view new ≡ encode_utf8_all (characters ++ c ∷ [])
  characters_taken old new characters c held taken =
      grind (arith, common_steps, encodes-append characters (c ∷ []))

-- a text that becomes the text that it is given, or appends it
module _ {Z : Type 0} where
  -- in both cases it has the bytes that were there and then those that were given
  became : (front : List ℕ) (given new : CowStr Z) (Grows : Type 0)
      → (Grows → cow_str_bytes new ≡ front ++ cow_str_bytes given)
      → MatchBool (length front == 0) (new ≡ given) Grows
      → cow_str_bytes new ≡ front ++ cow_str_bytes given
  became [] given new Grows read taken = ap cow_str_bytes taken
  became (b ∷ bs) given new Grows read taken =
      let filled : (length (b ∷ bs) == 0) ≡ false = grind arith in read (rw filled at taken)

  -- a text that may be borrowed takes a character
  pub cow_characters_taken : (old new : CowStr Z) (characters : List ℕ) (c : ℕ)
      → cow_str_bytes old ≡ encode_utf8_all characters → AppendsOwned old (encode_utf8 c) new
      → cow_str_bytes new ≡ encode_utf8_all (characters ++ c ∷ [])
  cow_characters_taken old new characters c held taken =
      characters_taken cow_str_bytes old new characters c held taken.1

  -- a text that may be borrowed holds the same after a refusal
  pub cow_stays : {T : Type 0} (meaning : List T → List ℕ) (old new : CowStr Z) (items : List T)
      → cow_str_bytes old ≡ meaning items → CowUnchanged old new → cow_str_bytes new ≡ meaning items
  cow_stays meaning (Borrowed text) new items held same = ap cow_str_bytes same ∙ held
  cow_stays meaning (Owned text) new items held same = same.1 ∙ held

module _ {Z T : Type 0} where
  -- a text that may be borrowed takes a piece, or becomes it
  pub cow_appends_taken : (piece : T → List ℕ) (old new : CowStr Z) (items : List T) (item : T)
      → cow_str_bytes old ≡ flat_map piece items → AppendsOwned old (piece item) new
      → cow_str_bytes new ≡ flat_map piece (items ++ item ∷ [])
  cow_appends_taken piece old new items item held taken =
      concat_taken cow_str_bytes piece old new items item held taken.1

  pub cow_becomes_taken : (given : T → CowStr Z) (old new : CowStr Z) (items : List T) (item : T)
      → cow_str_bytes old ≡ flat_map (λ i. cow_str_bytes (given i)) items → BecomesOrAppends old (given item) new
      → cow_str_bytes new ≡ flat_map (λ i. cow_str_bytes (given i)) (items ++ item ∷ [])
  cow_becomes_taken given old new items item held taken =
      let grown : cow_str_bytes new ≡ cow_str_bytes old ++ cow_str_bytes (given item) =
      became (cow_str_bytes old) (given item) new (AppendsOwned old (cow_str_bytes (given item)) new) (λ grows. grows.1) taken in
      concat_taken cow_str_bytes (λ i. cow_str_bytes (given i)) old new items item held grown

-- the values that a map has at its keys, and the keys that a set has
module _ {K : Type 0} {same : K → K → Bool} (laws : IsEquivalence same) where
  -- a map with one more pair has the last values of the longer list
  last_value_taken : {V : Type 0} (old new : K → Option V) (pairs : List (K × V)) (pair : K × V)
      → HasLastValues same old pairs → ((key : K) → new key ≡ cond (same pair.0 key) (Some pair.1) (old key))
      → HasLastValues same new (pairs ++ pair ∷ [])
  last_value_taken old new pairs pair held taken key =
      rw (reverse-append pairs (pair ∷ [])) (rw (laws.symm key pair.0) (rw (sym (held key)) (taken key)))

  -- a set with one more key has the keys of the longer list
  keys_taken : (old new : K → Bool) (keys : List K) (item : K)
      → HasKeys same old keys → ((key : K) → new key ≡ cond (same item key) true (old key))
      → HasKeys same new (keys ++ item ∷ [])
  keys_taken old new keys item held taken key =
      let appended = list_any-append (same key) keys (item ∷ []) in
      let before = held key in
      let after = taken key in
      let turned = laws.symm item key in
      grind (arith, common_steps, appended, before, after, turned)

module _ {K V : Type 0} where
  -- an ordered map takes a pair, holds nothing at the start, and holds the same after a refusal
  pub tree_map_taken : {cmp : K → K
      → Ordering} (total : IsTotalOrder cmp) (old new : BTreeMap K V) (pairs : List (K
      × V)) (pair : K × V)
      → HasLastValues (eq_by_cmp cmp) (tree.get cmp old) pairs → tree.Updates cmp old new pair.0 (Some pair.1)
      → HasLastValues (eq_by_cmp cmp) (tree.get cmp new) (pairs ++ pair ∷ [])
  tree_map_taken {cmp} total old new pairs pair held taken =
      last_value_taken (eq_by_cmp_equiv total) (tree.get cmp old) (tree.get cmp new) pairs pair held taken.0

  pub tree_map_starts : (cmp : K → K → Ordering) (capacity : Option ℕ) (a : BTreeMap K V)
      → tree.IsEmpty a → HasLastValues (eq_by_cmp cmp) (tree.get cmp a) []
  tree_map_starts cmp capacity a empty key = rw empty refl

  pub tree_map_stays : (cmp : K → K → Ordering) (old new : BTreeMap K V) (pairs : List (K × V))
      → HasLastValues (eq_by_cmp cmp) (tree.get cmp old) pairs → tree.IsUnchanged old new
      → HasLastValues (eq_by_cmp cmp) (tree.get cmp new) pairs
  tree_map_stays cmp old new pairs held same key = rw same (held key)

module _ {K V S : Type 0} where
  -- a hashed map takes a pair, holds nothing at the start, and holds the same after a refusal
  pub hash_map_taken : {eq : K → K
      → Bool} (laws : IsEquivalence eq) (old new : HashMap K V S) (pairs : List (K × V)) (pair : K
      × V)
      → HasLastValues eq (hash.get eq old) pairs → hash.Updates eq old new pair.0 (Some pair.1)
      → HasLastValues eq (hash.get eq new) (pairs ++ pair ∷ [])
  hash_map_taken {eq} laws old new pairs pair held taken =
      last_value_taken laws (hash.get eq old) (hash.get eq new) pairs pair held taken.0

  pub hash_map_starts : (eq : K → K → Bool) (capacity : Option ℕ) (a : HashMap K V S)
      → hash.IsEmpty a × (room_of capacity ≤ hash.spare a) → HasLastValues (eq) (hash.get eq a) []
  hash_map_starts eq capacity a empty key = rw empty.0 refl

  pub hash_map_stays : (eq : K → K → Bool) (old new : HashMap K V S) (pairs : List (K × V))
      → HasLastValues eq (hash.get eq old) pairs → hash.IsUnchanged old new
      → HasLastValues eq (hash.get eq new) pairs
  hash_map_stays eq old new pairs held same key = rw same (held key)

module _ {K : Type 0} where
  -- an ordered set takes a key, holds nothing at the start, and holds the same after a refusal
  pub tree_set_taken : {cmp : K → K
      → Ordering} (total : IsTotalOrder cmp) (old new : BTreeSet K) (keys : List K) (item : K)
      → HasKeys (eq_by_cmp cmp) (sorted.contains cmp old) keys → sorted.Updates cmp old new item true
      → HasKeys (eq_by_cmp cmp) (sorted.contains cmp new) (keys ++ item ∷ [])
  tree_set_taken {cmp} total old new keys item held taken =
      keys_taken (eq_by_cmp_equiv total) (sorted.contains cmp old) (sorted.contains cmp new) keys item held taken.0

  pub tree_set_starts : (cmp : K → K → Ordering) (capacity : Option ℕ) (a : BTreeSet K)
      → sorted.IsEmpty a → HasKeys (eq_by_cmp cmp) (sorted.contains cmp a) []
  tree_set_starts cmp capacity a empty key = rw empty refl

  pub tree_set_stays : (cmp : K → K → Ordering) (old new : BTreeSet K) (keys : List K)
      → HasKeys (eq_by_cmp cmp) (sorted.contains cmp old) keys → sorted.IsUnchanged old new
      → HasKeys (eq_by_cmp cmp) (sorted.contains cmp new) keys
  tree_set_stays cmp old new keys held same key = rw same (held key)

module _ {K S : Type 0} where
  -- a hashed set takes a key, holds nothing at the start, and holds the same after a refusal
  pub hash_set_taken : {eq : K → K
      → Bool} (laws : IsEquivalence eq) (old new : HashSet K S) (keys : List K) (item : K)
      → HasKeys eq (bag.contains eq old) keys → bag.Updates eq old new item true
      → HasKeys eq (bag.contains eq new) (keys ++ item ∷ [])
  hash_set_taken {eq} laws old new keys item held taken =
      keys_taken laws (bag.contains eq old) (bag.contains eq new) keys item held taken.0

  pub hash_set_starts : (eq : K → K → Bool) (capacity : Option ℕ) (a : HashSet K S)
      → bag.IsEmpty a × (room_of capacity ≤ bag.spare a) → HasKeys (eq) (bag.contains eq a) []
  hash_set_starts eq capacity a empty key = rw empty.0 refl

  pub hash_set_stays : (eq : K → K → Bool) (old new : HashSet K S) (keys : List K)
      → HasKeys eq (bag.contains eq old) keys → bag.IsUnchanged old new → HasKeys eq (bag.contains eq new) keys
  hash_set_stays eq old new keys held same key = rw same (held key)
