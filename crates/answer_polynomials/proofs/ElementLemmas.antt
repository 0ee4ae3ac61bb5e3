-- Values as elements, one after another.
use Rattle.std.proofs.Common.{◌≡◌, ◌∙◌, ap, sym, refl, subst, inl, inr, ℕ, zero, suc, ◌+◌, ◌<◌, ◌≤◌, ◌^◌, List, [], ◌∷◌, ◌++◌, length, map, drop, get_or, Result, Ok, Err, arith}
use Rattle.std.proofs.Math.ListN.{drop_of_length-le}
use Rattle.std.proofs.lemmas.List.{append_assoc, append-nil, drop_more, get_or-map, length-map}
use Rattle.lists.specs.Lists.{Has}
use Rattle.outcome.specs.Outcome.{Outcome, ◌>>=◌, Exactly}
use Rattle.job_words.specs.Operands.{Word}
use Rattle.job_words.specs.declared.value_fault.ValueFault.{ValueFault}
use Rattle.answer_polynomials.specs.Values.{ElementOf, ElementsOf, ValuesOf}

-- the elements so far, and behind them those of the values that are left
abbrev pub Rest : (k place : ℕ) → List ℕ → List Word → Outcome ValueFault (List ℕ)
Rest k place so_far values = ElementsOf k place values >>= (λ more. Exactly (so_far ++ more))

rest_ok : (k place : ℕ) (so_far : List ℕ) (value : Word) (values : List Word) (x : ℕ) → ElementOf k place value (Ok x) → (outcome : Result (List ℕ) ValueFault) → Rest k (place + 1) (so_far ++ x ∷ []) values outcome → Rest k place so_far (value ∷ values) outcome
rest_ok k place so_far value values x one (Ok all) rest = (x ∷ rest.0, (x, one, (rest.0, rest.1, refl)), rest.2 ∙ append_assoc so_far (x ∷ []) rest.0)
rest_ok k place so_far value values x one (Err fault) (inl fails) = inl (inr (x, one, inl fails))
rest_ok k place so_far value values x one (Err fault) (inr (more, are, never)) = absurd never

module _ {A : Type 0} (f : A → Word) (k : ℕ) (xs : List A) (i : ℕ) (d : A) (less : i < length xs) where
  next_is : drop i (map f xs) ≡ f (get_or xs i d) ∷ drop (i + 1) (map f xs)
  next_is =
      let long : i < length (map f xs) = let same = length-map xs f in omega (arith, same) in
      drop_more (map f xs) i [] long ∙ ap (λ (w : Word). w ∷ drop (i + 1) (map f xs)) (get_or-map f xs i d [] less)

  -- one element more
  pub rest_step : (old new : List ℕ) (x : ℕ) → new ≡ old ++ x ∷ [] → ElementOf k (i + 1) (f (get_or xs i d)) (Ok x) → (outcome : Result (List ℕ) ValueFault) → Rest k (i + 1 + 1) new (drop (i + 1) (map f xs)) outcome → Rest k (i + 1) old (drop i (map f xs)) outcome
  rest_step old new x more one outcome rest =
      let P : List Word → Type 0 = λ ws. Rest k (i + 1) old ws outcome in
      let Q : List ℕ → Type 0 = λ es. Rest k (i + 1 + 1) es (drop (i + 1) (map f xs)) outcome in
      subst P (sym next_is) (rest_ok k (i + 1) old (f (get_or xs i d)) (drop (i + 1) (map f xs)) x one outcome (subst Q more rest))

  -- a value that is none
  pub rest_fails : (so_far : List ℕ) (fault : ValueFault) → ElementOf k (i + 1) (f (get_or xs i d)) (Err fault) → Rest k (i + 1) so_far (drop i (map f xs)) (Err fault)
  rest_fails so_far fault fails =
      let P : List Word → Type 0 = λ ws. Rest k (i + 1) so_far ws (Err fault) in
      subst P (sym next_is) (inl (inl fails))

-- no value is left
pub rest_end : {A : Type 0} (f : A → Word) (k place : ℕ) (so_far : List ℕ) (xs : List A) (i : ℕ) → length xs ≤ i → Rest k place so_far (drop i (map f xs)) (Ok so_far)
rest_end f k place so_far xs i past =
    let P : List Word → Type 0 = λ ws. Rest k place so_far ws (Ok so_far) in
    let gone : drop i (map f xs) ≡ [] = drop_of_length-le (map f xs) (let same = length-map xs f in omega (arith, same)) in
    subst P (sym gone) ([], refl, sym (append-nil so_far))

-- ---- elements that were taken

elements_fit : (k place : ℕ) (values : List Word) (xs : List ℕ) → ElementsOf k place values (Ok xs) → (length xs ≡ length values) × ((x : ℕ) → Has xs x → x < 2 ^ k)
elements_fit k place [] xs is = (ap (λ (ys : List ℕ). length ys) is, (λ x has. let P : List ℕ → Type 0 = λ ys. Has ys x in absurd (let none = (subst P is has).1 in cc)))
elements_fit k place (value ∷ values) xs (e, one, (es, are, is)) =
    let rest = elements_fit k (place + 1) values es are in (
      ap (λ (ys : List ℕ). length ys) is ∙ ap suc rest.0,
      λ x has. let P : List ℕ → Type 0 = λ ys. Has ys x in by x (subst P is has) rest.1,
    )
  where
    by : (x : ℕ) → Has (e ∷ es) x → ((y : ℕ) → Has es y → y < 2 ^ k) → x < 2 ^ k
    by x (zero, got) later = let same : e ≡ x = cc in let P : ℕ → Type 0 = λ y. y < 2 ^ k in subst P same one.1
    by x (suc i, got) later = later x (i, got)

-- one for each word, each below 2 to the k
pub values_fit : (k count : ℕ) (values : List Word) (xs : List ℕ) → ValuesOf k count values (Ok xs) → (length xs ≡ count) × ((x : ℕ) → Has xs x → x < 2 ^ k)
values_fit k count values xs (u, long, are) = let fit = elements_fit k 1 values xs are in (fit.0 ∙ long, fit.1)
