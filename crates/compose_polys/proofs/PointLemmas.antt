-- Points and lists of elements.
use Rattle.std.proofs.Common.{◌≡◌, ap₂, refl, subst, ℕ, zero, suc, ◌<◌, ◌≤◌, ◌+◌, ◌-◌, ◌^◌, List, [], ◌∷◌, ◌++◌, length, map, take, get_or, replicate, Some, arith, length-append}
use Rattle.std.specs.Prelude.{slice_get}
use Rattle.std.specs.List.{AllByRecursion}
use Rattle.std.proofs.Math.ListN.{length-replicate}
use Rattle.std.proofs.lemmas.Nat.{pow_pos}
use Rattle.poly_mixed.specs.Polynomial.{value, IsElement, IsPoint, Point, Terms}
use Rattle.compose_polys.specs.Instance.{point_of}
use Rattle.compose_polys.specs.InstancePolys.{poly_at}

pub taken_elements : (k n : ℕ) (xs : List ℕ) (x i : ℕ) → AllByRecursion (IsElement k) xs → slice_get (take n xs) i ≡ Some x → x < 2 ^ k
taken_elements k zero xs x i all got = absurd (cc)
taken_elements k (suc n) [] x i all got = absurd (cc)
taken_elements k (suc n) (y ∷ xs) x zero all got = let same : y ≡ x = cc in let P : ℕ → Type 0 = λ z. z < 2 ^ k in subst P same all.0
taken_elements k (suc n) (y ∷ xs) x (suc i) all got = taken_elements k n xs x i all.1 got

pub word_element : (k : ℕ) (xs : List ℕ) (w : ℕ) → AllByRecursion (IsElement k) xs → get_or xs w 0 < 2 ^ k
word_element k [] zero all = pow_pos k
word_element k [] (suc w) all = pow_pos k
word_element k (x ∷ xs) zero all = all.0
word_element k (x ∷ xs) (suc w) all = word_element k xs w all.1

pub mapped_same : {A : Type 0} (g h : A → ℕ) (xs : List A) → ((i : ℕ) (x : A) → slice_get xs i ≡ Some x → g x ≡ h x) → map g xs ≡ map h xs
mapped_same g h [] same = refl
mapped_same g h (x ∷ xs) same = ap₂ (λ y ys. y ∷ ys) (same 0 x refl) (mapped_same g h xs (λ i z got. same (suc i) z got))

pub mapped_elements : {A : Type 0} (k : ℕ) (g : A → ℕ) (xs : List A) → ((x : A) → g x < 2 ^ k) → AllByRecursion (IsElement k) (map g xs)
mapped_elements k g [] all = tt
mapped_elements k g (x ∷ xs) all = (all x, mapped_elements k g xs all)

-- the value of an instance's polynomial among those of all
pub value_at : (mul : ℕ → ℕ → ℕ) (p : Point) (polys : List Terms) (i : ℕ) → get_or (map (value mul p) polys) i 0 ≡ value mul p (poly_at polys i)
value_at mul p [] zero = refl
value_at mul p [] (suc i) = refl
value_at mul p (ts ∷ polys) zero = refl
value_at mul p (ts ∷ polys) (suc i) = value_at mul p polys i

elements_append : (k : ℕ) (xs ys : List ℕ) → AllByRecursion (IsElement k) xs → AllByRecursion (IsElement k) ys → AllByRecursion (IsElement k) (xs ++ ys)
elements_append k [] ys a b = b
elements_append k (x ∷ xs) ys a b = (a.0, elements_append k xs ys a.1 b)

pub zeros : (k n : ℕ) → AllByRecursion (IsElement k) (replicate n 0)
zeros k zero = tt
zeros k (suc n) = (pow_pos k, zeros k n)

-- elements of a block's words as a point
pub is_point_of : (k : ℕ) (xs : List ℕ) → length xs ≤ 8 → AllByRecursion (IsElement k) xs → IsPoint k (point_of xs)
is_point_of k xs few all = record {
  words = omega (arith, few, length-append xs (replicate (8 - length xs) 0), length-replicate {A = ℕ} (8 - length xs) 0);
  elements = elements_append k xs (replicate (8 - length xs) 0) all (zeros k (8 - length xs));
}
