-- The answers of the reader of records, in the words of the format.
use Rattle.std.proofs.Common.{◌≡◌, ℕ, Bool, true, false, List, [], ◌∷◌, ◌++◌, inl, inr, ap, sym, ◌∙◌, subst, refl, append_assoc}
use Rattle.std.specs.Prelude.{◌⊎◌, ⊤, Result, Ok, Err}
use Rattle.std.specs.declared.vec.Vec.{Vec}
use Rattle.std.specs.declared.alloc.Global.{Global}
use Rattle.std.proofs.lemmas.List.{append-nil}
use Rattle.winnow_stream.specs.Source.{Source, units, HasPositiveWidths}
use Rattle.winnow_stream.specs.Units.{HasPositiveWidths-units}
use Rattle.winnow_stream.specs.Longer.{SlicesStay}
use Rattle.winnow_stream.specs.SliceBytes.{SlicesHaveBytes}
use Rattle.winnow_stream.specs.declared.needed.Needed.{Needed}
use Rattle.winnow_error.specs.declared.failure.Failure.{Failure}
use Rattle.winnow_error.specs.declared.failure.Failure.TheVariants.{Incomplete, Backtrack, Cut, Refused}
use Rattle.winnow_parser.specs.Outcome.{Ahead, Failed, Backtracks, Cuts, Needs, Refuses, Gives, Fails}
use Rattle.winnow_parser.specs.Laws.{longer}
use Rattle.winnow_parser.specs.Answer.{outcome}
use Rattle.format_lemmas.specs.Bytes.{bytes_of}
use Rattle.format_lemmas.proofs.lemmas.ByteLemmas.{some, none-left, positive-both, bytes-longer}
use Rattle.format_csv.specs.Language.{SpellsRecord, EndsRecord, RecordAhead}
use Rattle.format_csv.specs.Meanings.{OneRow, IsParser-OneRow}
use Rattle.format_csv.specs.Answers.{values_of, IsAnswer, GivesEach, IsBegun}
use Rattle.format_csv.specs.Damage.{BreaksOff, IsUnclosed}
use Rattle.format_csv.proofs.lemmas.FieldLemmas.{IsRefusal}
use Rattle.format_csv.proofs.lemmas.RecordLemmas.{MayEnd, AreBegun, ends-once, end-given, end-fails, end-missed, list-given, list-fails, list-once, list-missed}

-- ---- What more input can make a record of

-- fields that some more bytes complete
pub fields-begun : (r : List ℕ) → AreBegun r → IsBegun r
fields-begun r (more, (values, spells)) =
    let whole : (r ++ more) ++ 10 ∷ [] ≡ r ++ (more ++ 10 ∷ []) = append_assoc r more (10 ∷ []) in
    (more ++ 10 ∷ [], (values, (λ none. some (r ++ more) [] 10 (whole ∙ none), (r ++ more, (10 ∷ [], (sym whole, spells, inr (inl refl)))))))

-- fields after which a record may still end
pub end-begun : (values : List (List ℕ)) (r text s : List ℕ) → r ≡ text ++ s
    → SpellsRecord values text
    → MayEnd s → IsBegun r
end-begun values r text s e spells (inl f) =
    let whole : r ++ [] ≡ text = append-nil r ∙ e ∙ ap (λ t. text ++ t) f ∙ append-nil text in
    fields-begun r ([], (values, subst (SpellsRecord values) (sym whole) spells))
end-begun values r text s e spells (inr f) =
    let whole : r ++ 10 ∷ [] ≡ text ++ 13 ∷ 10 ∷ [] =
    ap (λ t. t ++ 10 ∷ []) (e ∙ ap (λ t. text ++ t) f) ∙ append_assoc text (13 ∷ []) (10 ∷ []) in
    (10 ∷ [], (values, (λ none. some text (10 ∷ []) 13 (sym whole ∙ none), (text, (13 ∷ 10 ∷ [], (whole, spells, inl refl))))))

module _ {S : Type 0} (is_slice : S → Source ℕ → ℕ → Type 0) (bytes : S → List ℕ) (stay : SlicesStay is_slice) (have : SlicesHaveBytes is_slice bytes) (appends refusable : Type 0) (partial : Bool) where
  -- ---- What is answered

  -- the bytes begin with the record that is returned
  row-given : (row : Vec (Vec ℕ Global) Global) (a d : Ahead ℕ) → HasPositiveWidths a.tokens
      → OneRow is_slice bytes appends refusable partial a (Gives row d)
      → RecordAhead partial (bytes_of a.tokens) (values_of row) (bytes_of d.tokens)
  row-given row a d wide (both, (is, (b, ((at, (z, started)), (pair, (first, (c, (list, close)))))))) =
      let wide_b = subst (λ p. HasPositiveWidths p.tokens) at wide in
      let one = list-given is_slice bytes stay have appends refusable partial pair.0 b c wide_b list in (
        λ e. started.0 (none-left a.tokens e),
        (
          one.0,
          (
            bytes_of c.tokens,
            (
              ap (λ p. bytes_of p.tokens) at ∙ one.1.0,
              subst (λ r. SpellsRecord (values_of r) one.0) (first ∙ is) one.1.1,
              end-given is_slice appends refusable partial pair.1 c d close,
            ),
          ),
        ),
      )

  -- a failure: at the end; or where a record breaks off, or a closing quote is missing; or where
  -- more may follow and can make a record; or memory was refused
  abbrev RowFails : Ahead ℕ → Failed ℕ → Type 0
  RowFails a (Backtracks d) = (bytes_of a.tokens ≡ []) × (bytes_of d.tokens ≡ []) × (partial ≡ false)
  RowFails a (Cuts d) = BreaksOff partial (bytes_of a.tokens) (bytes_of d.tokens) ⊎ (IsUnclosed (bytes_of a.tokens) × (bytes_of d.tokens ≡ []) × (partial ≡ false))
  RowFails a (Needs n) = (partial ≡ true) × IsBegun (bytes_of a.tokens)
  RowFails a Refuses = ⊤

  -- a row fails as `RowFails` says
  row-fails : (f : Failed ℕ) (a : Ahead ℕ) → HasPositiveWidths a.tokens
      → OneRow is_slice bytes appends refusable partial a (Fails f) → RowFails a f
  row-fails (Backtracks d) a wide (inl (at, (x, (c, ended)))) =
      let none = ap bytes_of ended.0 in (none, sym (ap (λ p. bytes_of p.tokens) at) ∙ none, ended.1)
  row-fails (Backtracks d) a wide (inr (u, (b, ((at, started), inl h)))) =
      absurd (list-fails is_slice bytes stay have appends refusable partial (Backtracks d) b (subst (λ p. HasPositiveWidths p.tokens) at wide) h)
  row-fails (Backtracks d) a wide (inr (u, (b, (n, inr (row, (c, (list, close))))))) = absurd close
  row-fails (Cuts d) a wide (inl h) = absurd h
  row-fails (Cuts d) a wide (inr (u, (b, ((at, started), inl h)))) =
      let fails = list-fails is_slice bytes stay have appends refusable partial (Cuts d) b (subst (λ p. HasPositiveWidths p.tokens) at wide) h in
      inr (subst (λ p. IsUnclosed (bytes_of p.tokens)) (sym at) fails.0, fails.1, fails.2)
  row-fails (Cuts d) a wide (inr (u, (b, ((at, started), inr (row, (c, (list, inl close))))))) =
      let one = list-given is_slice bytes stay have appends refusable partial row b c (subst (λ p. HasPositiveWidths p.tokens) at wide) list in
      let fails = end-fails is_slice appends refusable partial (Backtracks d) c close in
      inl (subst (λ p. BreaksOff partial (bytes_of a.tokens) (bytes_of p.tokens)) (sym fails.1)
      (values_of row, (one.0, (ap (λ p. bytes_of p.tokens) at ∙ one.1.0, one.1.1, one.1.2, fails.0))))
  row-fails (Cuts d) a wide (inr (u, (b, (n, inr (row, (c, (list, inr close))))))) = absurd (end-fails is_slice appends refusable partial (Cuts d) c close)
  row-fails (Needs n) a wide (inl h) =
      (h.1, end-begun ([] ∷ []) (bytes_of a.tokens) [] (bytes_of a.tokens) refl ([], ([], (refl, inl (tt, refl), refl))) (inl (ap bytes_of h.0)))
  row-fails (Needs n) a wide (inr (u, (b, ((at, started), inl h)))) =
      let fails = list-fails is_slice bytes stay have appends refusable partial (Needs n) b (subst (λ p. HasPositiveWidths p.tokens) at wide) h in
      (fails.0, subst (λ p. IsBegun (bytes_of p.tokens)) (sym at) (fields-begun (bytes_of b.tokens) fails.1))
  row-fails (Needs n) a wide (inr (u, (b, ((at, started), inr (row, (c, (list, close))))))) =
      let one = list-given is_slice bytes stay have appends refusable partial row b c (subst (λ p. HasPositiveWidths p.tokens) at wide) list in
      let fails = end-fails is_slice appends refusable partial (Needs n) c close in
      (fails.0, end-begun (values_of row) (bytes_of a.tokens) one.0 (bytes_of c.tokens) (ap (λ p. bytes_of p.tokens) at ∙ one.1.0) one.1.1 fails.2)
  row-fails Refuses a wide h = tt

  -- ---- No record is missed

  -- the record with which the bytes begin is the one that is returned
  row-once : (row : Vec (Vec ℕ Global) Global) (a d : Ahead ℕ) (ws : List (List ℕ))
      (after : List ℕ) → HasPositiveWidths a.tokens
      → RecordAhead partial (bytes_of a.tokens) ws after
      → OneRow is_slice bytes appends refusable partial a (Gives row d)
      → (values_of row ≡ ws) × (bytes_of d.tokens ≡ after)
  row-once row a d ws after wide (some, (text, (more, (e, spells, ends)))) (both, (is, (b, ((at, started), (pair, (first, (c, (list, close)))))))) =
      let wide_b = subst (λ p. HasPositiveWidths p.tokens) at wide in
      let one = list-once is_slice bytes stay have appends refusable partial pair.0 ws b c text more after wide_b (sym (ap (λ p. bytes_of p.tokens) at) ∙ e) spells ends list in (
        sym (ap values_of (first ∙ is)) ∙ one.0,
        ends-once partial (bytes_of c.tokens) (bytes_of d.tokens) after (end-given is_slice appends refusable partial pair.1 c d close) (subst (λ r. EndsRecord partial r after) (sym one.1) ends),
      )

  -- if the bytes begin with a record, the parser fails only if memory is refused
  row-missed : (f : Failed ℕ) (a : Ahead ℕ) (ws : List (List ℕ)) (after : List ℕ)
      → HasPositiveWidths a.tokens → RecordAhead partial (bytes_of a.tokens) ws after
      → OneRow is_slice bytes appends refusable partial a (Fails f) → IsRefusal f
  row-missed (Backtracks d) a ws after wide stands h =
      stands.0 (row-fails (Backtracks d) a wide h).0
  row-missed (Cuts d) a ws after wide stands (inl h) = absurd h
  row-missed (Needs n) a ws after wide stands (inl h) = stands.0 (ap bytes_of h.0)
  row-missed Refuses a ws after wide stands h = tt
  row-missed f a ws after wide (some, (text, (more, (e, spells, ends)))) (inr (u, (b, ((at, started), inl h)))) =
      list-missed is_slice bytes stay have appends refusable partial f ws b text more after (subst (λ p. HasPositiveWidths p.tokens) at wide) (sym (ap (λ p. bytes_of p.tokens) at) ∙ e) spells ends h
  row-missed f a ws after wide (some, (text, (more, (e, spells, ends)))) (inr (u, (b, ((at, started), inr (row, (c, (list, close))))))) =
      let wide_b = subst (λ p. HasPositiveWidths p.tokens) at wide in
      let one = list-once is_slice bytes stay have appends refusable partial row ws b c text more after wide_b (sym (ap (λ p. bytes_of p.tokens) at) ∙ e) spells ends list in
      end-missed is_slice appends refusable partial f c after (subst (λ r. EndsRecord partial r after) (sym one.1) ends) close

  -- a cut is one on each longer input, so no longer input begins with a record
  cut-final : (a b : Ahead ℕ) → HasPositiveWidths a.tokens
      → OneRow is_slice bytes appends refusable partial a (Fails (Cuts b)) → partial ≡ true
      → ¬ (IsBegun (bytes_of a.tokens))
  cut-final a b wide h p (more, (values, stands)) =
      let lawful = IsParser-OneRow is_slice bytes stay appends refusable in
      let far = lawful.stable (units more) partial a (Fails (Cuts b)) tt (subst (λ q. OneRow is_slice bytes appends refusable q a (Fails (Cuts b))) p h) in
      let here : RecordAhead partial (bytes_of a.tokens ++ more) values [] = subst (λ q. RecordAhead q (bytes_of a.tokens ++ more) values []) (sym p) stands in
      row-missed (Cuts (longer (units more) b)) (longer (units more) a) values [] (positive-both a.tokens (units more) wide (HasPositiveWidths-units more)) (subst (λ r. RecordAhead partial r values []) (sym (bytes-longer a.tokens more)) here) far

  -- ---- Answers

  -- the answer of a row is one that `IsAnswer` allows
  pub answers : {E : Type 0} (a b : Ahead ℕ)
      (result : Result (Vec (Vec ℕ Global) Global) (Failure E Needed)) → HasPositiveWidths a.tokens
      → OneRow is_slice bytes appends refusable partial a (outcome result b)
      → IsAnswer partial (bytes_of a.tokens) result (bytes_of b.tokens)
  answers a b (Ok row) wide h = row-given row a b wide h
  answers a b (Err (Backtrack e)) wide h = row-fails (Backtracks b) a wide h
  answers a b (Err (Cut e)) wide h = (row-fails (Cuts b) a wide h, cut-final a b wide h)
  answers a b (Err (Incomplete n)) wide h = row-fails (Needs n) a wide h
  answers a b (Err (Refused r)) wide h = tt

  -- each record with which the bytes begin is returned
  pub gives-each : {E : Type 0} (a b : Ahead ℕ)
      (result : Result (Vec (Vec ℕ Global) Global) (Failure E Needed)) → HasPositiveWidths a.tokens
      → OneRow is_slice bytes appends refusable partial a (outcome result b)
      → GivesEach partial (bytes_of a.tokens) result (bytes_of b.tokens)
  gives-each a b (Ok row) wide h values after stands = row-once row a b values after wide stands h
  gives-each a b (Err (Backtrack e)) wide h values after stands = row-missed (Backtracks b) a values after wide stands h
  gives-each a b (Err (Cut e)) wide h values after stands = row-missed (Cuts b) a values after wide stands h
  gives-each a b (Err (Incomplete n)) wide h values after stands = row-missed (Needs n) a values after wide stands h
  gives-each a b (Err (Refused r)) wide h values after stands = tt
