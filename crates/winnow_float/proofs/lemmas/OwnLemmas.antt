-- The errors of a float's parts are made of the stream as it is left.
use Rattle.std.proofs.Common.{inl, inr}
use Rattle.winnow_stream.specs.declared.needed.Needed.{Needed}
use Rattle.winnow_error.specs.declared.failure.Failure.{Failure}
use Rattle.winnow_error.specs.declared.failure.Failure.TheVariants.{Incomplete, Backtrack, Cut, Refused}
use Rattle.winnow_parser.specs.Outcome.{Ahead, Meaning}
use Rattle.winnow_parser.specs.Errors.{Errors, OwnErrors, NoError, PairErrors}
use Rattle.winnow_float.specs.IfNext.{IfNextErrors}
use Rattle.winnow_float.specs.Word.{WordErrors}
use Rattle.std.specs.Prelude.{Bool}

module _ {E I T : Type 0} (makes cuts : I → E → Type 0) where
  -- these errors are made of the stream as it is left
  abbrev pub AreOwn : Errors E I T → Type 0
  AreOwn errors = (partial : Bool) (a : Ahead T) (s : I) (f : Failure E Needed)
      → errors partial a s f → OwnErrors makes cuts partial a s f

  -- the errors of one token or of digits
  abbrev pub Own : Errors E I T
  Own = OwnErrors makes cuts

  own : AreOwn Own
  own partial a s f h = h

  -- no error is made of anything else
  own-none : AreOwn NoError
  own-none partial a s (Backtrack e) h = absurd h
  own-none partial a s (Cut e) h = absurd h
  own-none partial a s (Incomplete n) h = tt
  own-none partial a s (Refused r) h = tt

  -- the place from which a parser was called does not matter to them
  own-anywhere : (partial : Bool) (a b : Ahead T) (s : I) (f : Failure E Needed)
      → OwnErrors makes cuts partial b s f → OwnErrors makes cuts partial a s f
  own-anywhere partial a b s (Backtrack e) h = h
  own-anywhere partial a b s (Cut e) h = h
  own-anywhere partial a b s (Incomplete n) h = tt
  own-anywhere partial a b s (Refused r) h = tt

  -- the errors of a pair are such, if those of both are
  pub own-pair : {O : Type 0} (means : Meaning O T) {first second : Errors E I T} → AreOwn first
      → AreOwn second → AreOwn (PairErrors means first second)
  own-pair means p q partial a s f (inl h) = p partial a s f h
  own-pair means p q partial a s f (inr (x, (b, (gives, h)))) = own-anywhere partial a b s f (q partial b s f h)

  -- and so are those of a choice
  own-if_next : {first second : Errors E I T} → AreOwn first → AreOwn second
      → AreOwn (IfNextErrors first second)
  own-if_next p q partial a s f (inl h) = p partial a s f h
  own-if_next p q partial a s f (inr (inl h)) = q partial a s f h
  own-if_next p q partial a s (Backtrack e) (inr (inr h)) = absurd h
  own-if_next p q partial a s (Cut e) (inr (inr h)) = absurd h
  own-if_next p q partial a s (Incomplete n) (inr (inr h)) = tt
  own-if_next p q partial a s (Refused r) (inr (inr h)) = absurd h

  -- and those of a word
  own-word : {letters : Errors E I T} → AreOwn letters → AreOwn (WordErrors makes letters)
  own-word p partial a s f (inl h) = p partial a s f h
  own-word p partial a s (Backtrack e) (inr h) = h
  own-word p partial a s (Cut e) (inr h) = absurd h
  own-word p partial a s (Incomplete n) (inr h) = tt
  own-word p partial a s (Refused r) (inr h) = tt

  -- the errors of an exponent
  abbrev pub ExponentErrors : {A B : Type 0} → Meaning A T → Meaning B T → Errors E I T
  ExponentErrors mark sign = IfNextErrors (PairErrors mark Own (PairErrors sign Own Own)) NoError

  pub own-exponent : {A B : Type 0} (mark : Meaning A T) (sign : Meaning B T)
      → AreOwn (ExponentErrors mark sign)
  own-exponent mark sign = own-if_next (own-pair mark own (own-pair sign own own)) own-none

  module _ {A B C D P : Type 0} (point : Meaning A T) (digits : Meaning B T) (whole : Meaning C T) (fraction : Meaning D T) (mark : Meaning P T) where
    -- the errors of a number without a sign
    abbrev pub DecimalErrors : Errors E I T
    DecimalErrors = IfNextErrors (PairErrors point Own (PairErrors digits Own Own))
        (PairErrors whole Own (PairErrors fraction (PairErrors mark Own Own) Own))

    pub own-decimal : AreOwn DecimalErrors
    own-decimal =
        own-if_next (own-pair point own (own-pair digits own own)) (own-pair whole own (own-pair fraction (own-pair mark own own) own))

  module _ {A B C D P Q R : Type 0} (inf : Meaning A T) (b : Meaning B T) (c : Meaning C T) (d : Meaning D T) (p : Meaning P T) (q : Meaning Q T) (r : Meaning R T) where
    -- the errors of a magnitude
    abbrev pub MagnitudeErrors : Errors E I T
    MagnitudeErrors = IfNextErrors (PairErrors inf (WordErrors makes (PairErrors b Own (PairErrors c Own Own)))
        (WordErrors makes (PairErrors d Own (PairErrors p Own (PairErrors q Own (PairErrors r Own Own)))))) Own

    pub own-magnitude : AreOwn MagnitudeErrors
    own-magnitude =
        own-if_next (own-pair inf (own-word (own-pair b own (own-pair c own own))) (own-word (own-pair d own (own-pair p own (own-pair q own (own-pair r own own)))))) own

  -- the errors of the text of a float
  abbrev pub TextErrors : {A B C : Type 0} → Meaning A T → Meaning B T → Meaning C T
      → Errors E I T
  TextErrors a b sign = IfNextErrors (WordErrors makes (PairErrors a Own (PairErrors b Own Own)))
      (PairErrors sign Own Own)

  pub own-text : {A B C : Type 0} (a : Meaning A T) (b : Meaning B T) (sign : Meaning C T)
      → AreOwn (TextErrors a b sign)
  own-text a b sign = own-if_next (own-word (own-pair a own (own-pair b own own))) (own-pair sign own own)
