-- What an expression over the lexer's tokens takes for a formula writes it: each operator has on
-- its left what binds at least as strong, and on its right what binds stronger.
use Rattle.std.proofs.Common.{◌≡◌, ℕ, zero, suc, Bool, List, [], ◌∷◌, ◌++◌, Option, Some, None, refl, ap, sym, ◌∙◌, subst, inl, inr, append_assoc}
use Rattle.std.specs.Prelude.{ℤ, pos, map, Result, Ok, Err, IfOk}
use Rattle.std.specs.declared.alloc.AllocError.{AllocError}
use Rattle.std.specs.declared.ops.Range.{Range}
use Rattle.std.proofs.lemmas.List.{map-append}
use Rattle.std.proofs.lemmas.Option.{none-some, same_Some}
use Rattle.winnow_stream.specs.Source.{Source, HasPositiveWidths}
use Rattle.winnow_parser.specs.Outcome.{Ahead, Gives, Meaning}
use Rattle.winnow_parser.specs.Meanings.{Maps}
use Rattle.winnow_combinator.specs.Ending.{IsFail}
use Rattle.winnow_spans.specs.TokenSpan.{span_of}
use Rattle.winnow_grammar.specs.Spelling.{tokens_of, TakesFor, IsSpelled}
use Rattle.winnow_grammar.specs.Spelled.{wide-after}
use Rattle.winnow_expression.specs.Expression.{IsOperand, IsNext, IsLayer, IsExpression}
use Rattle.winnow_expression.specs.Found.{Found, Fits, Unfit, Absent, IsFound}
use Rattle.winnow_expression.specs.Levels.{Admits}
use Rattle.winnow_expression.specs.Powers.{power_of, right_of as level_of, alone_of, operator_of}
use Rattle.winnow_expression.specs.Then.{Yields}
use Rattle.winnow_expression.specs.Turns.{InTurns, IsFollowed, WentOn, ended}
use Rattle.winnow_expression.specs.Unary.{HasPrefix}
use Rattle.winnow_expression.specs.declared.level.Level.{Level}
use Rattle.winnow_expression.specs.declared.level.Level.TheVariants.{AtLeast, Above}
use Rattle.winnow_expression.specs.declared.operators.Infix.{Infix}
use Rattle.winnow_expression.specs.declared.operators.Infix.TheVariants.{Left}
use Rattle.winnow_expression.specs.declared.operators.Prefix.{Prefix}
use Rattle.example_lexer.specs.declared.token.Token.{Token}
use Rattle.example_two_stages.specs.Formulas.{Part, Sum, Factor, part_of, right_of, byte_of, operation, minus}
use Rattle.example_two_stages.specs.Grammar.{IsNegative, IsBinary, WritesMade, IsMinus, IsInfix, operator_at, MissesNone}
use Rattle.example_two_stages.specs.Signs.{sign_of, infix_by, infix_of}
use Rattle.example_two_stages.specs.Trees.{Negated, Joined}
use Rattle.example_two_stages.specs.declared.tree.Operator.{Operator}
use Rattle.example_two_stages.specs.declared.tree.Tree.{Tree}
use Rattle.example_two_stages.proofs.lemmas.CoverLemmas.{covers-operation, covers-minus, writes-covers}
use Rattle.example_two_stages.proofs.lemmas.OperatorLemmas.{power, operator-by, infix_by-byte, FitsPart, fits-sum, fits-minus, fits-right, factor-as, made-as, left-as}

-- a formula, or that memory for it was refused
abbrev Made : Type 0
Made = Result Tree AllocError

module _ {T : Type 0} (the : T → Token) (source : List ℕ) where
  -- the tokens of the lexer
  abbrev here : List T → List Token
  here tokens = map the tokens

  -- an operator between two formulas is written by their tokens and its sign
  operation-made : (op : Operator) (x z y : Made) (sign : T) (ts us : List T)
      → WritesMade the source (part_of op) x ts → sign_of source (the sign) ≡ Some (byte_of op)
      → WritesMade the source (right_of op) z us → IfOk y (IsBinary x op z)
      → WritesMade the source (part_of op) y (ts ++ sign ∷ us)
  operation-made op x z (Err e) sign ts us h s k made = tt
  operation-made op (Err e) z (Ok y) sign ts us h s k made = absurd made
  operation-made op (Ok x) (Err e) (Ok y) sign ts us h s k made = absurd made
  operation-made op (Ok x) (Ok z) (Ok y) sign ts us h s k made =
      let whole : here (ts ++ sign ∷ us) ≡ here ts ++ (the sign) ∷ here us = map-append the ts (sign ∷ us) in
      let covers = covers-operation y x z (Joined x op z) (the sign) (here ts) (here us) (writes-covers source h) (writes-covers source k) made in
      rw whole (operation y x z op (the sign) (here ts) (here us) h s k made.1 covers)

  -- a minus before a factor is a factor
  minus-made : (value made : Made) (sign : T) (range : Range ℕ) (ts : List T)
      → sign_of source (the sign) ≡ Some 45
      → span_of (λ token. token.span.start) (λ token. token.span.end) ((the sign) ∷ []) ≡ Some range
      → WritesMade the source Factor value ts → IfOk made (IsNegative range value)
      → WritesMade the source Factor made (sign ∷ ts)
  minus-made value (Err e) sign range ts s spans h made = tt
  minus-made (Err e) (Ok tree) sign range ts s spans h made = absurd made
  minus-made (Ok inside) (Ok tree) sign range ts s spans h made =
      minus tree inside (the sign) (here ts) s h made.1 (covers-minus tree inside (Negated inside) (the sign) range (here ts) spans (writes-covers source h) made)

-- an operator was read, and what is right of it, and both were applied
record Step {T : Type 0} (the : T → Token) (source : List ℕ) (side : Level → Meaning Made T) (level : Level) (partial : Bool) (x y : Made) (alone : Option ℤ) (a b : Ahead T) : Type 0 where
  op : Operator
  admitted : Admits level (power op)
  sign : T × ℕ
  place : Ahead T
  right : Made
  whole : a.tokens ≡ sign ∷ place.tokens
  is_sign : sign_of source (the sign.0) ≡ Some (byte_of op)
  reads : side (Above (power op)) partial place (Gives right b)
  made : IfOk y (IsBinary x op right)
  free : alone ≡ None

-- tokens that are one token alone are it, with its width
one-token : {T : Type 0} (taken : Source T) (t : T) → tokens_of taken ≡ t ∷ []
    → (n : ℕ) × (taken ≡ (t, n) ∷ [])
one-token [] t e = absurd (cc e)
one-token (x ∷ []) t e = let same : x.0 ≡ t = cc e in (x.1, ap (λ y. (y, x.1) ∷ []) same)
one-token (x ∷ (y ∷ rest)) t e = absurd (cc e)

module _ {T : Type 0} (the : T → Token) (source : List ℕ) {B : Type 0} (operand : Meaning Made T) (minuses : Meaning (Prefix (Range ℕ)) T) (after : B → Made → Meaning Made T) (infixes : Meaning (Infix Operator) T) where
  -- what a minus makes of a formula, and an operator of two
  abbrev before : Range ℕ → Made → Meaning Made T
  before range value = Yields (λ made. IfOk made (IsNegative range value))

  abbrev joins : Made → Operator → Made → Meaning Made T
  joins left op right = Yields (λ made. IfOk made (IsBinary left op right))

  -- no postfix operators
  abbrev none : Meaning (ℤ × B) T
  none = IsFail

  -- an expression of the formula's operators
  abbrev pub Expr : ℕ → Level → Meaning Made T
  Expr = IsExpression operand (Maps HasPrefix minuses) before none after infixes joins

  -- no operator follows that the level admits
  abbrev Stops : Level → Source T → Type 0
  Stops level r = (i : Infix Operator) → operator_at the source r ≡ Some i → ¬ (Admits level (power_of i))

  -- the tokens that are taken write this part, and no operator follows that the level admits
  abbrev Reads : Part → Level → Meaning Made T → Type 0
  Reads part level means = (partial : Bool) (a b : Ahead T) (x : Made) → HasPositiveWidths a.tokens
      → means partial a (Gives x b) → TakesFor (WritesMade the source part) x a b × Stops level b.tokens

  module _ (reads : IsSpelled (IsInfix the source) infixes) (misses : MissesNone the source infixes) where
    -- an operator is the first token
    infix-gives : (partial : Bool) (a b : Ahead T) (i : Infix Operator) → HasPositiveWidths a.tokens
        → infixes partial a (Gives i b)
        → (token : T × ℕ) × ((a.tokens ≡ token ∷ b.tokens) × (infix_of source (the token.0) ≡ Some i))
    infix-gives partial a b i wide h =
        let k = reads partial a b i wide h in
        let one = one-token k.0 k.1.1.0 k.1.1.1.0 in
        ((k.1.1.0, one.0), (k.1.0 ∙ ap (λ r. r ++ b.tokens) one.1, k.1.1.1.1))

    -- ---- One turn

    module _ (side : Level → Meaning Made T) (level : Level) (partial : Bool) (x : Made) where
      -- an end, where no operator follows that the level admits
      follows-ended : (y : Made) (a b : Ahead T) → HasPositiveWidths a.tokens
          → IsFollowed none after infixes joins side level x None Absent partial a (ended (Gives y b))
          → (x ≡ y) × ((a ≡ b) × Stops level b.tokens)
      follows-ended y a b wide (Fits i, (d, (found, (z, (e, (right, (w, (went, made)))))))) = absurd (cc went)
      follows-ended y a b wide (Unfit, (d, ((same, (i, (e, (unfit, found)))), (ends, there)))) =
          let r = infix-gives partial a e i wide found in (
            cc ends,
            (
              same ∙ there,
              λ j is admits. unfit (subst (λ k. Admits level (power_of k)) (same_Some _ _ (sym (subst (λ p. operator_at the source p.tokens ≡ Some j) (sym (same ∙ there)) is) ∙ starts r.0 e.tokens a.tokens i r.1.0 r.1.1)) admits),
            ),
          )
        where
          starts : (token : T × ℕ) (rest whole : Source T) (i : Infix Operator)
              → whole ≡ token ∷ rest → infix_of source (the token.0) ≡ Some i → operator_at the source whole ≡ Some i
          starts token rest whole i e is = ap (operator_at the source) e ∙ is
      follows-ended y a b wide (Absent, (d, ((same, (e, fails)), (ends, there)))) = (
        cc ends,
        (
          same ∙ there,
          λ j is admits. none-some _ (sym (misses partial a e fails) ∙ subst (λ p. operator_at the source p.tokens ≡ Some j) (sym (same ∙ there)) is),
        ),
      )

      -- an operator
      follows-went : (y : Made) (alone : Option ℤ) (turn : _) (a b : Ahead T) → WentOn alone y turn
          → HasPositiveWidths a.tokens
          → IsFollowed none after infixes joins side level x None Absent partial a (Gives turn b)
          → Step the source side level partial x y alone a b
      follows-went y alone turn a b is wide (Fits i, (d, ((fits, found), (z, (e, (right, (w, (went, (made, same))))))))) =
          let r = infix-gives partial a d i wide found in
          let q = operator-by (sign_of source (the r.0.0)) i r.1.1 in
          let value : w ≡ y = cc (is, went) in
          let free : alone_of i ≡ alone = cc (is, went) in
          record {
            op = q.0;
            admitted = subst (λ j. Admits level (power_of j)) q.1.0 fits;
            sign = r.0;
            place = d;
            right = z;
            whole = r.1.0;
            is_sign = q.1.1;
            reads = subst (λ p. side (Above (power q.0)) partial d (Gives z p)) same (subst (λ j. side (level_of j) partial d (Gives z e)) q.1.0 right);
            made = subst (λ v. IfOk v (IsBinary x q.0 z)) value (subst (λ j. IfOk w (IsBinary x (operator_of j) z)) q.1.0 made);
            free = sym free ∙ ap alone_of q.1.0;
          }
      follows-went y alone turn a b is wide (Unfit, (d, (found, (ends, there)))) = absurd (cc (is, ends))
      follows-went y alone turn a b is wide (Absent, (d, (found, (ends, there)))) = absurd (cc (is, ends))

      -- the same where a postfix operator is looked for, and there is none
      ends-after : (y : Made) (a b : Ahead T) (found : Found (ℤ × B)) (c : Ahead T)
          → HasPositiveWidths a.tokens → IsFound (λ p. Admits level p.0) none partial a (Gives found c)
          → IsFollowed none after infixes joins side level x None found partial c (ended (Gives y b))
          → (x ≡ y) × ((a ≡ b) × Stops level b.tokens)
      ends-after y a b (Fits p) c wide finds h = absurd finds.1
      ends-after y a b Unfit c wide finds h = absurd finds.1.1.1.1
      ends-after y a b Absent c wide finds h =
          follows-ended y a b wide (subst (λ p. IsFollowed none after infixes joins side level x None Absent partial p (ended (Gives y b))) (sym finds.0) h)

      went-after : (y : Made) (alone : Option ℤ) (turn : _) (a b : Ahead T) (found : Found (ℤ × B))
          (c : Ahead T) → WentOn alone y turn → HasPositiveWidths a.tokens
          → IsFound (λ p. Admits level p.0) none partial a (Gives found c)
          → IsFollowed none after infixes joins side level x None found partial c (Gives turn b)
          → Step the source side level partial x y alone a b
      went-after y alone turn a b (Fits p) c is wide finds h = absurd finds.1
      went-after y alone turn a b Unfit c is wide finds h = absurd finds.1.1.1.1
      went-after y alone turn a b Absent c is wide finds h =
          follows-went y alone turn a b is wide (subst (λ p. IsFollowed none after infixes joins side level x None Absent partial p (Gives turn b)) (sym finds.0) h)

      -- the last turn
      next-ended : (y : Made) (a b : Ahead T) → HasPositiveWidths a.tokens
          → IsNext operand (Maps HasPrefix minuses) before none after infixes joins side level x None partial a (ended (Gives y b))
          → (x ≡ y) × ((a ≡ b) × Stops level b.tokens)
      next-ended y a b wide (found, (c, (finds, follows))) = ends-after y a b found c wide finds follows

      -- one turn that is not the last
      next-went : (alone : Option ℤ) (u : Made × Option ℤ) (a b : Ahead T) → alone ≡ None
          → HasPositiveWidths a.tokens
          → InTurns (IsNext operand (Maps HasPrefix minuses) before none after infixes joins side level) partial (u ∷ []) (x, alone) u a b
          → Step the source side level partial x u.0 u.1 a b
      next-went alone u a b free wide h =
          let turns = subst (λ n. InTurns (IsNext operand (Maps HasPrefix minuses) before none after infixes joins side level) partial (u ∷ []) (x, n) u a b) free h in
          let turn = turns.1.0.0 in
          subst (λ p. Step the source side level partial x u.0 u.1 a p) turns.1.1.1
          (went-after u.0 u.1 _ a turns.0 turn.0 turn.1.0 refl wide turn.1.1.0 turn.1.1.1)

    -- ---- All turns

    -- the operator that follows may have the value on its left
    abbrev MayBeLeft : Made → List T → Source T → Type 0
    MayBeLeft x ts r = (i : Infix Operator) → operator_at the source r ≡ Some i → WritesMade the source (part_of (operator_of i)) x ts

    -- the operator that follows a right side, at which no stronger one follows, may have the whole
    -- on its left
    left-after : (op : Operator) (y : Made) (ts : List T) (r : Source T)
        → WritesMade the source (part_of op) y ts → Stops (Above (power op)) r → MayBeLeft y ts r
    left-after op y ts [] h stops i is = absurd (none-some _ is)
    left-after op y ts (token ∷ r) h stops i is =
        let q = operator-by (sign_of source (the token.0)) i is in
        subst (λ j. WritesMade the source (part_of (operator_of j)) y ts) (sym q.1.0)
        (left-as the source y ts op q.0 (λ l. stops i is (subst (λ j. Admits (Above (power op)) (power_of j)) (sym q.1.0) l)) h)

    -- the operator that a sign is has on its left what may be there
    left-of : (op : Operator) (x : Made) (ts : List T) (sign : T × ℕ) (whole rest : Source T)
        → whole ≡ sign ∷ rest → sign_of source (the sign.0) ≡ Some (byte_of op) → MayBeLeft x ts whole
        → WritesMade the source (part_of op) x ts
    left-of op x ts sign whole rest e is may = may (Left (power op) op) (ap (operator_at the source) e ∙ ap infix_by is ∙ infix_by-byte op)

    -- turns in a row: the tokens so far write the part, and the operator that follows may have the
    -- value on its left
    record Climbed (part : Part) (a b : Ahead T) (s : Made × Option ℤ) : Type 0 where
      taken : Source T
      split : a.tokens ≡ taken ++ b.tokens
      writes : WritesMade the source part s.0 (tokens_of taken)
      left : MayBeLeft s.0 (tokens_of taken) b.tokens
      free : s.1 ≡ None
      wide : HasPositiveWidths b.tokens

    module _ (side : Level → Meaning Made T) (sides : (part : Part) (level : Level) → FitsPart part level → Reads part level (side level)) where
      module _ (part : Part) (level : Level) (fits : FitsPart part level) (partial : Bool) (a : Ahead T) where
        -- one turn more
        climb-on : (s u : Made × Option ℤ) (b c : Ahead T) → Climbed part a b s
            → Step the source side level partial s.0 u.0 u.1 b c → Climbed part a c u
        climb-on s u b c h step =
            let wide = (subst HasPositiveWidths step.whole h.wide).1 in
            let right = sides (right_of step.op) (Above (power step.op)) (fits-right step.op) partial step.place c step.right wide step.reads in
            let us = right.0.0 in
            let left = left-of step.op s.0 (tokens_of h.taken) step.sign b.tokens step.place.tokens step.whole step.is_sign h.left in
            let made = operation-made the source step.op s.0 step.right u.0 step.sign.0 (tokens_of h.taken) (tokens_of us) left step.is_sign right.0.1.1 step.made in
            let tokens : tokens_of (h.taken ++ step.sign ∷ us) ≡ tokens_of h.taken ++ step.sign.0 ∷ tokens_of us = map-append (λ t. t.0) h.taken (step.sign ∷ us) in
            let whole = subst (λ ts. WritesMade the source (part_of step.op) u.0 ts) (sym tokens) made in
            record {
              taken = h.taken ++ step.sign ∷ us;
              split = h.split ∙ ap (λ r. h.taken ++ r) (step.whole ∙ ap (λ r. step.sign ∷ r) right.0.1.0) ∙ sym (append_assoc h.taken (step.sign ∷ us) c.tokens);
              writes = made-as the source u.0 (tokens_of (h.taken ++ step.sign ∷ us)) part step.op (fits step.op step.admitted) whole;
              left = left-after step.op u.0 (tokens_of (h.taken ++ step.sign ∷ us)) c.tokens whole right.1;
              free = step.free;
              wide = wide-after us c.tokens (subst HasPositiveWidths right.0.1.0 wide);
            }

        -- all turns
        climb-all : (us : List (Made × Option ℤ)) (s t : Made × Option ℤ) (b c : Ahead T)
            → Climbed part a b s → InTurns (IsNext operand (Maps HasPrefix minuses) before none after infixes joins side level) partial us s t b c
            → Climbed part a c t
        climb-all [] s t b c h (same, there) = subst (λ v. Climbed part a c v) same (subst (λ p. Climbed part a p s) there h)
        climb-all (u ∷ us) s t b c h (d, (turn, more)) =
            climb-all us u t d c (climb-on s u b d h (next-went side level partial s.0 s.1 u b d h.free h.wide (d, (turn, (refl, refl))))) more

      -- ---- An expression

      module _ (one : IsSpelled (WritesMade the source Factor) operand) (signs : IsSpelled (IsMinus the source) minuses) where
        -- an operand is a factor
        operand-takes : (partial : Bool) (a b : Ahead T) (x : Made) → HasPositiveWidths a.tokens
            → IsOperand operand (Maps HasPrefix minuses) before none after infixes joins side partial a (Gives x b)
            → TakesFor (WritesMade the source Factor) x a b
        operand-takes partial a b x wide (inl h) = one partial a b x wide h
        operand-takes partial a b x wide (inr (c, (fails, (p, (d, ((minus_read, ((third, spans), reads)), (z, (e, (inside, (made, same)))))))))) =
            let m = signs partial a d minus_read wide reads in
            let token = one-token m.0 m.1.1.0 m.1.1.1.0 in
            let whole : a.tokens ≡ (m.1.1.0, token.0) ∷ d.tokens = m.1.0 ∙ ap (λ r. r ++ d.tokens) token.1 in
            let after_sign = (subst HasPositiveWidths whole wide).1 in
            let power : p.0 ≡ pos 3 = sym third ∙ m.1.1.1.2 in
            let at_3 = subst (λ n. side (AtLeast n) partial d (Gives z e)) power inside in
            let value = (sides Factor (AtLeast (pos 3)) fits-minus partial d e z after_sign at_3).0 in (
              (m.1.1.0, token.0) ∷ value.0,
              (
                whole ∙ ap (λ r. (m.1.1.0, token.0) ∷ r) (value.1.0 ∙ ap (λ q. value.0 ++ q.tokens) same),
                minus-made the source z x m.1.1.0 p.1 (tokens_of value.0) m.1.1.1.1 (m.1.1.1.3 ∙ ap Some spans) value.1.1 made,
              ),
            )

        -- a layer writes each part to whose operators the level keeps
        layer-reads : (part : Part) (level : Level) → FitsPart part level
            → Reads part level (IsLayer operand (Maps HasPrefix minuses) before none after infixes joins side level)
        layer-reads part level fits partial a b x wide (y, (c, (first, (us, (t, (d, (turns, last))))))) =
            let value = operand-takes partial a c y wide first in
            let start : Climbed part a c (y, None) = record {
              taken = value.0;
              split = value.1.0;
              writes = factor-as the source y (tokens_of value.0) part value.1.1;
              left = λ i is. factor-as the source y (tokens_of value.0) (part_of (operator_of i)) value.1.1;
              free = refl;
              wide = wide-after value.0 c.tokens (subst HasPositiveWidths value.1.0 wide);
            } in
            let end = climb-all part level fits partial a us (y, None) t c d start turns in
            let ends = next-ended side level partial t.0 x d b end.wide (subst (λ n. IsNext operand (Maps HasPrefix minuses) before none after infixes joins side level t.0 n partial d (ended (Gives x b))) end.free last) in
            ((end.taken, (end.split ∙ ap (λ p. end.taken ++ p.tokens) ends.1.0, subst (λ v. WritesMade the source part v (tokens_of end.taken)) ends.0 end.writes)), ends.1.1)

    module _ (one : IsSpelled (WritesMade the source Factor) operand) (signs : IsSpelled (IsMinus the source) minuses) where
      -- an expression writes each part to whose operators its level keeps
      expression-reads : (depth : ℕ) (part : Part) (level : Level) → FitsPart part level
          → Reads part level (Expr depth level)
      expression-reads zero part level fits = λ partial a b x wide h. absurd h
      expression-reads (suc depth) part level fits =
          layer-reads (Expr depth) (expression-reads depth) one signs part level fits

      -- an expression at level 0 writes a sum
      pub sum-takes : (depth : ℕ)
          → IsSpelled (WritesMade the source Sum) (Expr depth (AtLeast (pos 0)))
      sum-takes depth partial a b x wide h =
          (expression-reads depth Sum (AtLeast (pos 0)) fits-sum partial a b x wide h).0
