-- Laws of what may be there, and of results.
use Rattle.std.proofs.Common.{◌≡◌, Option, None, Some, Result, Ok, Err}
use Rattle.std.specs.Prelude.{IfNone, IfSome}

-- what is found is one
pub same_some : {A : Type 0} (a b : A) → ◌≡◌ {A = Option A} (Some a) (Some b) → a ≡ b
same_some a b same = cc

pub none_is_some : {A P : Type 0} (a : A) → None ≡ Some a → P
none_is_some a same = absurd (cc)

-- what comes is one
pub same_ok : {F A : Type 0} (a b : A) → ◌≡◌ {A = Result A F} (Ok a) (Ok b) → a ≡ b
same_ok a b e = cc

pub same_fault : {F A : Type 0} (d e : F) → ◌≡◌ {A = Result A F} (Err d) (Err e) → d ≡ e
same_fault d e same = cc

-- a value is no fault
pub ok_no_fault : {F A : Type 0} (a : A) (e : F) → ◌≡◌ {A = Result A F} (Ok a) (Err e) → ⊥
ok_no_fault a e same = absurd (cc)

pub if_some : {A : Type 0} (o : Option A) (P Q : A → Type 0) → ((e : A) → P e → Q e) → IfSome o P → IfSome o Q
if_some None P Q f some = tt
if_some (Some x) P Q f some = f x some

pub if_none : {A P Q : Type 0} (found : Option A) → (P → Q) → IfNone found P → IfNone found Q
if_none (Some a) through none = none
if_none None through none = through none
