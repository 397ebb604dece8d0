-- What is said of a result.
use Rattle.std.specs.Prelude.{Result, Ok, Err, OnOk, IfErr, IfSome, Option, Some, None}

-- what is said of an answer's value follows from what is said of it
pub on-ok : {T E P Q : Type 0} (r : Result T E) → (P → Q) → OnOk r P → OnOk r Q
on-ok (Ok x) f h = f h
on-ok (Err e) f h = tt

-- and from two such
pub on-both : {T E P Q S : Type 0} (r : Result T E) → (P → Q → S) → OnOk r P → OnOk r Q → OnOk r S
on-both (Ok x) f h k = f h k
on-both (Err e) f h k = tt

-- and from three
pub on-three : {T E P Q S U : Type 0} (r : Result T E) → (P → Q → S → U) → OnOk r P → OnOk r Q
    → OnOk r S → OnOk r U
on-three (Ok x) f h k l = f h k l
on-three (Err e) f h k l = tt

-- and so does what is said of its error
pub if-err : {T E : Type 0} {P Q : E → Type 0} (r : Result T E) → ((e : E) → P e → Q e)
    → IfErr r P → IfErr r Q
if-err (Ok x) f h = tt
if-err (Err e) f h = f e h

-- what is said of a known value is carried over
pub if-some : {A : Type 0} {P Q : A → Type 0} (o : Option A) → ((a : A) → P a → Q a)
    → IfSome o P → IfSome o Q
if-some None f h = tt
if-some (Some a) f h = f a h
