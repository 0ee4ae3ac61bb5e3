-- Loops over lists, one element after another.
use Rattle.std.proofs.Common.{◌≡◌, ◌∙◌, inl, inr, ap, sym, refl, ℕ, zero, suc, ◌<◌, ◌≤◌, ◌+◌, ◌-◌, Bool, true, false, cond, List, [], ◌∷◌, ◌++◌, length, take, drop, get_or, Option, None, Some, arith, drop-cons, add-one}
use Rattle.std.specs.Prelude.{filter, slice_get}
use Rattle.std.proofs.Math.Seq.{take-suc}
use Rattle.std.proofs.lemmas.Option.{get_or_from_slice_get, slice_get_within}
use Rattle.net_blif.specs.Statement.{Token}
use Rattle.net_blif.specs.Connection.{formal_of}
use Rattle.net_blif.specs.Instances.{first_found, or_else}
use Rattle.net_blif.specs.private.Connecting.{after, connect, formal_fault, table_fault, IsFault}
use Rattle.net_blif.specs.Table.{Numbers}
use Rattle.net_blif.specs.declared.fault.BlifFault.{BlifFault}

-- what is left begins with the element at i
pub rest_at : {A : Type 0} (xs : List A) (i : ℕ) (x d : A) → i < length xs → x ≡ get_or xs i d → drop i xs ≡ x ∷ drop (i + 1) xs
rest_at xs i x d below is = rw add-one (drop-cons xs i d below ∙ ap (λ y. y ∷ drop (suc i) xs) (sym is))

-- what is found at i, and what is left after it
pub rest_got : {A : Type 0} (xs : List A) (i : ℕ) (x : A) → Some x ≡ slice_get xs i → drop i xs ≡ x ∷ drop (i + 1) xs
rest_got xs i x at = rest_at xs i x x (slice_get_within xs i x (sym at)) (sym (get_or_from_slice_get xs i x x (sym at)))

pub after_got : {A B : Type 0} (f : A → B → A) (xs : List B) (i : ℕ) (x : B) (whole a new : A) → Some x ≡ slice_get xs i → whole ≡ after f a (drop i xs) → new ≡ f a x → whole ≡ after f new (drop (i + 1) xs)
after_got f xs i x whole a new at so_far made = so_far ∙ (ap (after f a) (rest_got xs i x at) ∙ ap (λ b. after f b (drop (i + 1) xs)) (sym made))

-- the elements that pass, with the one at i
pub filter_got : {A : Type 0} (test : A → Bool) (xs : List A) (i : ℕ) (x : A) → Some x ≡ slice_get xs i → filter test (drop i xs) ≡ cond (test x) (x ∷ filter test (drop (i + 1) xs)) (filter test (drop (i + 1) xs))
filter_got test xs i x at = ap (filter test) (rest_got xs i x at)

-- no more elements pass than there are
pub filter_few : {A : Type 0} (test : A → Bool) (xs : List A) → length (filter test xs) ≤ length xs
filter_few test [] = omega arith
filter_few test (x ∷ xs) = by (test x) (filter_few test xs)
  where
    by : (b : Bool) → length (filter test xs) ≤ length xs → length (cond b (x ∷ filter test xs) (filter test xs)) ≤ suc (length xs)
    by true few = omega (arith, few)
    by false few = omega (arith, few)

pub count_got : {A : Type 0} (test : A → Bool) (xs : List A) (i : ℕ) (x : A) (whole count one new : ℕ) → Some x ≡ slice_get xs i → whole ≡ count + length (filter test (drop i xs)) → one ≡ cond (test x) 1 0 → new ≡ count + one → whole ≡ new + length (filter test (drop (i + 1) xs))
count_got test xs i x whole count one new at so_far is made = by (test x) (so_far ∙ ap (λ ys. count + length ys) (filter_got test xs i x at)) is
  where
    by : (b : Bool) → whole ≡ count + length (cond b (x ∷ filter test (drop (i + 1) xs)) (filter test (drop (i + 1) xs))) → one ≡ cond b 1 0 → whole ≡ new + length (filter test (drop (i + 1) xs))
    by true e o = omega (arith, e, o, made)
    by false e o = omega (arith, e, o, made)

-- the element that passes after so many others
module _ {A : Type 0} (test : A → Bool) (xs : List A) (i left : ℕ) (x : A) (whole : Option A) (at : Some x ≡ slice_get xs i) (so_far : whole ≡ slice_get (filter test (drop i xs)) left) where
  filtered : slice_get (filter test (drop i xs)) left ≡ slice_get (cond (test x) (x ∷ filter test (drop (i + 1) xs)) (filter test (drop (i + 1) xs))) left
  filtered = ap (λ ys. slice_get ys left) (filter_got test xs i x at)

  pub passing_here : left ≡ 0 → test x ≡ true → whole ≡ Some x
  passing_here none passes = so_far ∙ (filtered ∙ rw (none, passes) refl)

  pub passing_later : (new : ℕ) → (test x ≡ true → 0 < left) → new ≡ cond (test x) (left - 1) left → whole ≡ slice_get (filter test (drop (i + 1) xs)) new
  passing_later new some is = by (test x) refl (so_far ∙ filtered) is
    where
      later : (n m : ℕ) → 0 < n → m ≡ n - 1 → slice_get (x ∷ filter test (drop (i + 1) xs)) n ≡ slice_get (filter test (drop (i + 1) xs)) m
      later zero m less e = absurd (omega arith)
      later (suc n) m less e = let same : m ≡ n = omega (arith, e) in ap (slice_get (filter test (drop (i + 1) xs))) (sym same)

      by : (b : Bool) → test x ≡ b → whole ≡ slice_get (cond b (x ∷ filter test (drop (i + 1) xs)) (filter test (drop (i + 1) xs))) left → new ≡ cond b (left - 1) left → whole ≡ slice_get (filter test (drop (i + 1) xs)) new
      by true passes e n = e ∙ later left new (some passes) n
      by false passes e n = e ∙ ap (slice_get (filter test (drop (i + 1) xs))) (sym n)

  pub fewer_later : (new : ℕ) → left < length (filter test (drop i xs)) → (test x ≡ true → 0 < left) → new ≡ cond (test x) (left - 1) left → new < length (filter test (drop (i + 1) xs))
  fewer_later new less some is = by (test x) refl (filter_got test xs i x at) is
    where
      by : (b : Bool) → test x ≡ b → filter test (drop i xs) ≡ cond b (x ∷ filter test (drop (i + 1) xs)) (filter test (drop (i + 1) xs)) → new ≡ cond b (left - 1) left → new < length (filter test (drop (i + 1) xs))
      by true passes e n = omega (arith, less, ap length e, n, some passes)
      by false passes e n = omega (arith, less, ap length e, n)

-- a copy of one element more
pub copy_step : {A : Type 0} (xs : List A) (i : ℕ) (x y d : A) (old new : List A) → i < length xs → x ≡ get_or xs i d → y ≡ x → old ≡ take i xs → new ≡ old ++ y ∷ [] → new ≡ take (i + 1) xs
copy_step {A = A} xs i x y d old new below is same was pushed = rw add-one (pushed ∙ (ap (λ (o : List A). o ++ y ∷ []) was ∙ (ap (λ (z : A). take i xs ++ z ∷ []) (same ∙ is) ∙ sym (take-suc xs i d below))))

pub after_step : {A B : Type 0} (f : A → B → A) (xs : List B) (i : ℕ) (x d : B) (whole a new : A) → i < length xs → x ≡ get_or xs i d → whole ≡ after f a (drop i xs) → new ≡ f a x → whole ≡ after f new (drop (i + 1) xs)
after_step f xs i x d whole a new below is so_far made = so_far ∙ (ap (after f a) (rest_at xs i x d below is) ∙ ap (λ b. after f b (drop (i + 1) xs)) (sym made))

-- what is found in what is left
module _ {F A : Type 0} (find : A → Option F) (xs : List A) (i : ℕ) (x d : A) (whole : Option F) (below : i < length xs) (is : x ≡ get_or xs i d) (so_far : whole ≡ first_found find (drop i xs)) where
  found_at : whole ≡ or_else (find x) (first_found find (drop (i + 1) xs))
  found_at = so_far ∙ ap (first_found find) (rest_at xs i x d below is)

  pub found_later : find x ≡ None → whole ≡ first_found find (drop (i + 1) xs)
  found_later none = found_at ∙ ap (λ o. or_else o (first_found find (drop (i + 1) xs))) none

  pub found_here : (found : F) → find x ≡ Some found → whole ≡ Some found
  found_here found some = found_at ∙ ap (λ o. or_else o (first_found find (drop (i + 1) xs))) some

pub fault_here : {A : Type 0} (find : A → Option BlifFault) (xs : List A) (i : ℕ) (x d : A) (whole : Option BlifFault) (fault : BlifFault) → i < length xs → x ≡ get_or xs i d → whole ≡ first_found find (drop i xs) → IsFault (find x) fault → IsFault whole fault
fault_here find xs i x d whole fault below is so_far (inl wanting) = inl wanting
fault_here find xs i x d whole fault below is so_far (inr some) = inr (found_here find xs i x d whole below is so_far fault some)

or_none : {F : Type 0} (o : Option F) → or_else o None ≡ o
or_none None = refl
or_none (Some f) = refl

-- the same, where the element is got
module _ {F A : Type 0} (find : A → Option F) (xs : List A) (i : ℕ) (x : A) (whole : Option F) (at : Some x ≡ slice_get xs i) (so_far : whole ≡ first_found find (drop i xs)) where
  pub got_later : find x ≡ None → whole ≡ first_found find (drop (i + 1) xs)
  got_later none = found_later find xs i x x whole (slice_get_within xs i x (sym at)) (sym (get_or_from_slice_get xs i x x (sym at))) so_far none

  pub got_here : (found : F) → find x ≡ Some found → whole ≡ Some found
  got_here found some = found_here find xs i x x whole (slice_get_within xs i x (sym at)) (sym (get_or_from_slice_get xs i x x (sym at))) so_far found some

pub fault_got : {A : Type 0} (find : A → Option BlifFault) (xs : List A) (i : ℕ) (x : A) (whole : Option BlifFault) (fault : BlifFault) → Some x ≡ slice_get xs i → whole ≡ first_found find (drop i xs) → IsFault (find x) fault → IsFault whole fault
fault_got find xs i x whole fault at so_far is = fault_here find xs i x x whole fault (slice_get_within xs i x (sym at)) (sym (get_or_from_slice_get xs i x x (sym at))) so_far is

-- connections one after another
module _ (line : ℕ) (formals connected : Numbers) (xs : List Token) (i : ℕ) (x d : Token) (whole : Option BlifFault) (below : i < length xs) (is : x ≡ get_or xs i d) (so_far : whole ≡ table_fault line formals connected (drop i xs)) where
  table_at : whole ≡ or_else (formal_fault line formals connected (formal_of x)) (table_fault line formals (connect connected x) (drop (i + 1) xs))
  table_at = so_far ∙ ap (table_fault line formals connected) (rest_at xs i x d below is)

  pub table_later : (new : Numbers) → table_fault line formals connected (x ∷ []) ≡ None → new ≡ connect connected x → whole ≡ table_fault line formals new (drop (i + 1) xs)
  table_later new none made = table_at ∙ (ap (λ o. or_else o (table_fault line formals (connect connected x) (drop (i + 1) xs))) (sym (or_none (formal_fault line formals connected (formal_of x))) ∙ none) ∙ ap (λ (c : Numbers). table_fault line formals c (drop (i + 1) xs)) (sym made))

  pub table_here : (fault : BlifFault) → IsFault (table_fault line formals connected (x ∷ [])) fault → IsFault whole fault
  table_here fault (inl wanting) = inl wanting
  table_here fault (inr some) = inr (table_at ∙ ap (λ o. or_else o (table_fault line formals (connect connected x) (drop (i + 1) xs))) (sym (or_none (formal_fault line formals connected (formal_of x))) ∙ some))
