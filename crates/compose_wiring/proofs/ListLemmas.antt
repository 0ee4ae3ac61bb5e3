-- Lists and places in them.
use Rattle.std.proofs.Common.{◌≡◌, ◌∙◌, ap, sym, ℕ, zero, suc, ◌<◌, ◌≤◌, Bool, true, false, subst, if◌then◌else◌, List, [], ◌∷◌, length, take, filter, Option, None, Some, arith}
use Rattle.std.specs.Prelude.{slice_get, IfNone}
use Rattle.lists.specs.Lists.{Has}

module _ {A : Type 0} where
  pub got_taken : (xs : List A) (n k : ℕ) (x : A) → k < n → slice_get xs k ≡ Some x → slice_get (take n xs) k ≡ Some x
  got_taken [] n k x less got = absurd (cc)
  got_taken (y ∷ ys) zero k x less got = absurd (omega (arith, less))
  got_taken (y ∷ ys) (suc n) zero x less got = got
  got_taken (y ∷ ys) (suc n) (suc k) x less got = got_taken ys n k x (omega (arith, less)) got

  pub taken_short : (n : ℕ) (xs : List A) → length (take n xs) ≤ length xs
  taken_short zero xs = omega arith
  taken_short (suc n) [] = omega arith
  taken_short (suc n) (x ∷ xs) = omega (arith, taken_short n xs)

  -- what a test leaves stands in the list
  pub kept_from : (test : A → Bool) (xs : List A) (x : A) → Has (filter test xs) x → Has xs x
  kept_from test [] x has = let got = has.1 in absurd (cc)
  kept_from test (y ∷ ys) x has = parts (test y) has (kept_from test ys x)
    where
      parts : (b : Bool) → Has (if b then y ∷ filter test ys else filter test ys) x → (Has (filter test ys) x → Has ys x) → Has (y ∷ ys) x
      parts true (zero, got) given = (0, got)
      parts true (suc k, got) given = let more = given (k, got) in (suc more.0, more.1)
      parts false more given = let found = given more in (suc found.0, found.1)

  -- and what passes is left
  pub from_kept : (test : A → Bool) (xs : List A) (w : ℕ) (x : A) → slice_get xs w ≡ Some x → test x ≡ true → Has (filter test xs) x
  from_kept test [] w x got is = absurd (cc)
  from_kept test (y ∷ ys) zero x got is =
      let same : y ≡ x = cc in
      let here : filter test (y ∷ ys) ≡ y ∷ filter test ys = ap (λ c. if c then y ∷ filter test ys else filter test ys) (ap test same ∙ is) in
      let P : List A → Type 0 = λ zs. Has zs x in
      subst P (sym here) (0, ap Some same)
  from_kept test (y ∷ ys) (suc w) x got is = parts (test y) (from_kept test ys w x got is)
    where
      parts : (b : Bool) → Has (filter test ys) x → Has (if b then y ∷ filter test ys else filter test ys) x
      parts true more = (suc more.0, more.1)
      parts false more = more

-- what follows where there is none
pub none_then : {X : Type 0} (r : Option X) {P Q : Type 0} → IfNone r P → (P → Q) → IfNone r Q
none_then None h f = f h
none_then (Some x) h f = tt
