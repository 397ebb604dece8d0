-- Alternatives mean the same, however they are bracketed.
use Rattle.std.specs.Prelude.{◌≡◌, Bool, ◌⊎◌}
use Rattle.std.proofs.Common.{ap, sym, ◌∙◌, subst, inl, inr}
use Rattle.winnow_error.specs.declared.failure.Failure.TheVariants.{Backtrack}
use Rattle.winnow_parser.specs.Outcome.{Ahead, Backtracks, Cuts, Needs, Refuses, Outcome, Gives, Fails, Meaning}
use Rattle.winnow_parser.specs.Errors.{Errors, AltErrors2}
use Rattle.winnow_parser.specs.Meanings.{IsAlt2}
use Rattle.winnow_parser.specs.Determined.{IsGranted}
use Rattle.winnow_combinator.specs.Appended.{Appending, AppendedErrors}
use Rattle.winnow_combinator.specs.Alt.{IsAlt3}
use Rattle.winnow_combinator.specs.AltErrors.{AltErrors3}
use Rattle.winnow_combinator.specs.Bracketing.{MeansAlike, MeansAlikeGranted, AltOfTwo, AltOfThree, AltErrors, JoinsThree, AppendsThree, AppendsNothing}

module _ {O T : Type 0} (q r : Type 0) (x y z : Meaning O T) where
  -- an answer of one `alt` of three is one of an `alt` that begins with an `alt`
  three-left : (partial : Bool) (a : Ahead T) (v : Outcome O T) → AltOfThree q r x y z partial a v
      → AltOfTwo q r (AltOfTwo q r x y) z partial a v
  three-left partial a (Gives o b) h = h
  three-left partial a (Fails (Backtracks b)) h = h
  three-left partial a (Fails (Cuts b)) h = h
  three-left partial a (Fails (Needs n)) h = h
  three-left partial a (Fails Refuses) (inl (inl h)) = inl (inl (inl h))
  three-left partial a (Fails Refuses) (inl (inr h)) = inl (inr h)
  three-left partial a (Fails Refuses) (inr h) = inr h

  -- an answer of the `alt` that begins with one is one of the three, unless memory was refused
  left-three : (partial : Bool) (a : Ahead T) (v : Outcome O T) → IsGranted v
      → AltOfTwo q r (AltOfTwo q r x y) z partial a v → AltOfThree q r x y z partial a v
  left-three partial a (Gives o b) g h = h
  left-three partial a (Fails (Backtracks b)) g h = h
  left-three partial a (Fails (Cuts b)) g h = h
  left-three partial a (Fails (Needs n)) g h = h
  left-three partial a (Fails Refuses) g h = absurd g

  -- the same for memory that was refused, where it cannot be refused while appending
  left-refused : ¬ q → (partial : Bool) (a : Ahead T)
      → AltOfTwo q r (AltOfTwo q r x y) z partial a (Fails Refuses)
      → AltOfThree q r x y z partial a (Fails Refuses)
  left-refused never partial a (inl (inl (inl h))) = inl (inl h)
  left-refused never partial a (inl (inl (inr h))) = absurd (never h.0)
  left-refused never partial a (inl (inr h)) = inl (inr h)
  left-refused never partial a (inr h) = absurd (never h.0)

  -- an answer of one `alt` of three is one of an `alt` that ends with an `alt`
  three-right : (partial : Bool) (a : Ahead T) (v : Outcome O T) → AltOfThree q r x y z partial a v
      → AltOfTwo q r x (AltOfTwo q r y z) partial a v
  three-right partial a (Gives o b) (inl (inl h)) = inl h
  three-right partial a (Gives o b) (inl (inr (c, (h, k)))) = inr (c, (h, inl k))
  three-right partial a (Gives o b) (inr (d, ((c, (h, k)), l))) = inr (c, (h, inr (d, (k, l))))
  three-right partial a (Fails (Backtracks b)) (d, ((c, (h, k)), l)) = (c, (h, (d, (k, l))))
  three-right partial a (Fails (Cuts b)) (inl (inl h)) = inl h
  three-right partial a (Fails (Cuts b)) (inl (inr (c, (h, k)))) = inr (c, (h, inl k))
  three-right partial a (Fails (Cuts b)) (inr (d, ((c, (h, k)), l))) = inr (c, (h, inr (d, (k, l))))
  three-right partial a (Fails (Needs n)) (inl (inl h)) = inl h
  three-right partial a (Fails (Needs n)) (inl (inr (c, (h, k)))) = inr (c, (h, inl k))
  three-right partial a (Fails (Needs n)) (inr (d, ((c, (h, k)), l))) = inr (c, (h, inr (d, (k, l))))
  three-right partial a (Fails Refuses) (inl (inl (inl h))) = inl (inl h)
  three-right partial a (Fails Refuses) (inl (inl (inr (c, (h, inl k))))) = inl (inr (c, (h, inl (inl (inl k)))))
  three-right partial a (Fails Refuses) (inl (inl (inr (c, (h, inr k))))) = inl (inr (c, (h, inr k)))
  three-right partial a (Fails Refuses) (inl (inr (d, ((c, (h, k)), inl l)))) = inl (inr (c, (h, inl (inl (inr (d, (k, inl l)))))))
  three-right partial a (Fails Refuses) (inl (inr (d, ((c, (h, k)), inr l)))) = inl (inr (c, (h, inr l)))
  three-right partial a (Fails Refuses) (inr (refused, (e, (d, ((c, (h, k)), l))))) = inr (refused, (e, (c, (h, (d, (k, l))))))

  -- an answer of the `alt` that ends with one is one of the three, unless memory was refused
  right-three : (partial : Bool) (a : Ahead T) (v : Outcome O T) → IsGranted v
      → AltOfTwo q r x (AltOfTwo q r y z) partial a v → AltOfThree q r x y z partial a v
  right-three partial a (Gives o b) g (inl h) = inl (inl h)
  right-three partial a (Gives o b) g (inr (c, (h, inl k))) = inl (inr (c, (h, k)))
  right-three partial a (Gives o b) g (inr (c, (h, inr (d, (k, l))))) = inr (d, ((c, (h, k)), l))
  right-three partial a (Fails (Backtracks b)) g (c, (h, (d, (k, l)))) = (d, ((c, (h, k)), l))
  right-three partial a (Fails (Cuts b)) g (inl h) = inl (inl h)
  right-three partial a (Fails (Cuts b)) g (inr (c, (h, inl k))) = inl (inr (c, (h, k)))
  right-three partial a (Fails (Cuts b)) g (inr (c, (h, inr (d, (k, l))))) = inr (d, ((c, (h, k)), l))
  right-three partial a (Fails (Needs n)) g (inl h) = inl (inl h)
  right-three partial a (Fails (Needs n)) g (inr (c, (h, inl k))) = inl (inr (c, (h, k)))
  right-three partial a (Fails (Needs n)) g (inr (c, (h, inr (d, (k, l))))) = inr (d, ((c, (h, k)), l))
  right-three partial a (Fails Refuses) g h = absurd g

  -- the same for memory that was refused, where it cannot be refused while appending
  right-refused : ¬ q → (partial : Bool) (a : Ahead T)
      → AltOfTwo q r x (AltOfTwo q r y z) partial a (Fails Refuses)
      → AltOfThree q r x y z partial a (Fails Refuses)
  right-refused never partial a (inl (inl h)) = inl (inl (inl h))
  right-refused never partial a (inl (inr (c, (h, inl (inl (inl k)))))) = inl (inl (inr (c, (h, inl k))))
  right-refused never partial a (inl (inr (c, (h, inl (inl (inr (d, (k, inl l)))))))) = inl (inr (d, ((c, (h, k)), inl l)))
  right-refused never partial a (inl (inr (c, (h, inl (inl (inr (d, (k, inr l)))))))) = inl (inr (d, ((c, (h, k)), inr l)))
  right-refused never partial a (inl (inr (c, (h, inl (inr k))))) = absurd (never k.0)
  right-refused never partial a (inl (inr (c, (h, inr k)))) = inl (inl (inr (c, (h, inr k))))
  right-refused never partial a (inr h) = absurd (never h.0)

  -- three alternatives mean the same in either bracketing, unless memory was refused
  pub left-alike : MeansAlikeGranted (AltOfThree q r x y z) (AltOfTwo q r (AltOfTwo q r x y) z)
  left-alike partial a v g = (three-left partial a v, left-three partial a v g)

  pub right-alike : MeansAlikeGranted (AltOfThree q r x y z) (AltOfTwo q r x (AltOfTwo q r y z))
  right-alike partial a v g = (three-right partial a v, right-three partial a v g)

  -- they mean the same wholly where memory cannot be refused while appending
  pub left-wholly : ¬ q → MeansAlike (AltOfThree q r x y z) (AltOfTwo q r (AltOfTwo q r x y) z)
  left-wholly never partial a (Gives o b) = left-alike partial a (Gives o b) tt
  left-wholly never partial a (Fails (Backtracks b)) = left-alike partial a (Fails (Backtracks b)) tt
  left-wholly never partial a (Fails (Cuts b)) = left-alike partial a (Fails (Cuts b)) tt
  left-wholly never partial a (Fails (Needs n)) = left-alike partial a (Fails (Needs n)) tt
  left-wholly never partial a (Fails Refuses) = (three-left partial a (Fails Refuses), left-refused never partial a)

  pub right-wholly : ¬ q → MeansAlike (AltOfThree q r x y z) (AltOfTwo q r x (AltOfTwo q r y z))
  right-wholly never partial a (Gives o b) = right-alike partial a (Gives o b) tt
  right-wholly never partial a (Fails (Backtracks b)) = right-alike partial a (Fails (Backtracks b)) tt
  right-wholly never partial a (Fails (Cuts b)) = right-alike partial a (Fails (Cuts b)) tt
  right-wholly never partial a (Fails (Needs n)) = right-alike partial a (Fails (Needs n)) tt
  right-wholly never partial a (Fails Refuses) = (three-right partial a (Fails Refuses), right-refused never partial a)

module _ {O E S C T : Type 0} (q r : Type 0) (stood : C → Ahead T) (appends : E → S → C → E → Type 0) (stands : S → Ahead T) (gives : E → E → E → Type 0) (join : E → E → E) (joins : (a b e : E) → gives a b e → e ≡ join a b) (mx : Meaning O T) (x : Errors E S T) (my : Meaning O T) (y z : Errors E S T) where
  -- the error of one `alt` of three is what is appended to the three errors, joined
  pub appends-three : (partial : Bool) (a : Ahead T) (s : S) (e : E)
      → AppendedErrors stood appends (AltErrors3 stands r gives mx x my y z) partial a s (Backtrack e)
      → AppendsThree stood appends stands join mx x my y z partial a s e
  appends-three partial a s e (e0, (start, ((e12, (e3, ((t, ((e1, (e2, (h, k, j))), (c, (m, n)))), l, i))), p, g))) =
      (e0, (start, ((e1, (e2, (e3, (h, (t, (k, n)), l, joins e12 e3 e0 i ∙ ap (λ w. join w e3) (joins e1 e2 e12 j))))), p, g)))

  -- where nothing is appended, the error of an `alt` that begins with one joins three
  pub joins-left : AppendsNothing appends → (partial : Bool) (a : Ahead T) (s : S) (e : E)
      → AltErrors stood appends stands gives (AltOfTwo q r mx my) (AltErrors stood appends stands gives mx x y) z partial a s (Backtrack e)
      → JoinsThree stands join mx x my y z partial a s e
  joins-left same partial a s e (e0, (start, ((e12, (e3, ((t, ((f12, (begun, ((e1, (e2, (h, k, j))), u, w))), (c, (m, n)))), l, i))), p, g))) =
      let whole : e0 ≡ join e12 e3 = joins e12 e3 e0 i in
      let both : e12 ≡ join e1 e2 = same f12 t begun e12 w ∙ joins e1 e2 f12 j in
      (e1, (e2, (e3, (h, (t, (k, n)), l, same e0 s start e g ∙ whole ∙ ap (λ v. join v e3) both))))

  -- the error of an `alt` that ends with an `alt` is the same, if the function is associative
  pub joins-right : AppendsNothing appends → ((a b c : E) → join (join a b) c ≡ join a (join b c))
      → (partial : Bool) (a : Ahead T) (s : S) (e : E)
      → AltErrors stood appends stands gives mx x (AltErrors stood appends stands gives my y z) partial a s (Backtrack e)
      → JoinsThree stands join mx x my y z partial a s e
  joins-right same assoc partial a s e (e0, (start, ((e1, (e23, (h, (f23, (begun, ((e2, (e3, (k, l, j))), u, w))), i))), p, g))) =
      let whole : e0 ≡ join e1 e23 = joins e1 e23 e0 i in
      let both : e23 ≡ join e2 e3 = same f23 s begun e23 w ∙ joins e2 e3 f23 j in
      (e1, (e2, (e3, (h, k, l, same e0 s start e g ∙ whole ∙ ap (join e1) both ∙ sym (assoc e1 e2 e3)))))
