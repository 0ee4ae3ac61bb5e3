-- Lists under new numbers.
use Rattle.std.proofs.Common.{◌≡◌, ◌∙◌, ap, sym, refl, subst, ℕ, suc, ◌==◌, Bool, List, [], ◌∷◌, ◌++◌, map, inl, inr}
use Rattle.std.specs.Prelude.{◌||◌}
use Rattle.std.specs.List.{list_any}
use Rattle.std.proofs.lemmas.Bool.{eq-eqb, ne_eqb}
use Rattle.lists.specs.Lists.{Has}
use Rattle.lists.specs.laws.NumberLaws.{nat_eq_or}

pub map_both : {A B C : Type 0} (g : B → C) (f : A → B) (xs : List A) → map g (map f xs) ≡ map (λ x. g (f x)) xs
map_both g f [] = refl
map_both g f (x ∷ xs) = ap (λ (ys : List _). g (f x) ∷ ys) (map_both g f xs)

pub map_same : {A : Type 0} (f : A → A) (xs : List A) → ((x : A) → Has xs x → f x ≡ x) → map f xs ≡ xs
map_same f [] same = refl
map_same f (x ∷ xs) same = (λ i. same x (0, refl) i ∷ map_same f xs (λ y has. same y (suc has.0, has.1)) i)

pub map_join : {A B : Type 0} (f : A → B) (xs ys : List A) → map f (xs ++ ys) ≡ map f xs ++ map f ys
map_join f [] ys = refl
map_join f (x ∷ xs) ys = ap (λ (zs : List _). f x ∷ zs) (map_join f xs ys)

-- a test of the elements before and after
pub any_under : {A B : Type 0} (u : A → B) (p : A → Bool) (q : B → Bool) (xs : List A) → ((x : A) → Has xs x → q (u x) ≡ p x) → list_any q (map u xs) ≡ list_any p xs
any_under u p q [] same = refl
any_under u p q (x ∷ xs) same = (λ i. same x (0, refl) i || any_under u p q xs (λ y has. same y (suc has.0, has.1)) i)

-- numbers that f keeps apart are equal after where they are before
pub equal_under : (f : ℕ → ℕ) (m n : ℕ) → (f m ≡ f n → m ≡ n) → (f m == f n) ≡ (m == n)
equal_under f m n apart = elim (nat_eq_or m n) [
  | inl same ↦ let P : ℕ → Type 0 = λ x. (f m == f x) ≡ (m == x) in subst P same (both (f m) m)
  | inr other ↦ ne_eqb (f m) (f n) (λ e. absurd (other (apart e))) ∙ sym (ne_eqb m n other)
]
  where
    both : (a b : ℕ) → (a == a) ≡ (b == b)
    both a b = eq-eqb a a refl ∙ sym (eq-eqb b b refl)
