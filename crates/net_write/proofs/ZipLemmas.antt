-- Two lists whose elements are in a relation, place by place.
use Rattle.std.proofs.Common.{◌≡◌, ◌∙◌, ap, refl, subst, zero, suc, List, [], ◌∷◌, ◌++◌, length, map, arith}
use Rattle.std.specs.Prelude.{All}
use Rattle.std.specs.List.{AllZip}
use Rattle.lists.specs.Lists.{Has}
use Rattle.lists.specs.laws.OptionLaws.{same_some}

pub zip_weaker : {A B : Type 0} (R S : A → B → Type 0) → ((a : A) (b : B) → R a b → S a b) → (xs : List A) (ys : List B) → AllZip R xs ys → AllZip S xs ys
zip_weaker R S to [] [] all = tt
zip_weaker R S to [] (y ∷ ys) all = absurd all
zip_weaker R S to (x ∷ xs) [] all = absurd all
zip_weaker R S to (x ∷ xs) (y ∷ ys) all = (to x y all.0, zip_weaker R S to xs ys all.1)

pub zip_append : {A B : Type 0} (R : A → B → Type 0) (xs : List A) (ys : List B) (us : List A) (vs : List B) → AllZip R xs ys → AllZip R us vs → AllZip R (xs ++ us) (ys ++ vs)
zip_append R [] [] us vs h k = k
zip_append R [] (y ∷ ys) us vs h k = absurd h
zip_append R (x ∷ xs) [] us vs h k = absurd h
zip_append R (x ∷ xs) (y ∷ ys) us vs h k = (h.0, zip_append R xs ys us vs h.1 k)

pub zip_map : {A B C D : Type 0} (R : A → B → Type 0) (S : C → D → Type 0) (f : A → C) (g : B → D) → ((a : A) (b : B) → R a b → S (f a) (g b)) → (xs : List A) (ys : List B) → AllZip R xs ys → AllZip S (map f xs) (map g ys)
zip_map R S f g to [] [] all = tt
zip_map R S f g to [] (y ∷ ys) all = absurd all
zip_map R S f g to (x ∷ xs) [] all = absurd all
zip_map R S f g to (x ∷ xs) (y ∷ ys) all = (to x y all.0, zip_map R S f g to xs ys all.1)

-- what is said of each pair is an equation of what is made of them
pub zip_same : {A B C : Type 0} (R : A → B → Type 0) (f : A → C) (g : B → C) → ((a : A) (b : B) → R a b → f a ≡ g b) → (xs : List A) (ys : List B) → AllZip R xs ys → map f xs ≡ map g ys
zip_same R f g to [] [] all = refl
zip_same R f g to [] (y ∷ ys) all = absurd all
zip_same R f g to (x ∷ xs) [] all = absurd all
zip_same {C} R f g to (x ∷ xs) (y ∷ ys) all = ap (λ (c : C). c ∷ map f xs) (to x y all.0) ∙ ap (λ (l : List C). g y ∷ l) (zip_same R f g to xs ys all.1)

pub zip_length : {A B : Type 0} (R : A → B → Type 0) (xs : List A) (ys : List B) → AllZip R xs ys → length xs ≡ length ys
zip_length R [] [] all = refl
zip_length R [] (y ∷ ys) all = absurd all
zip_length R (x ∷ xs) [] all = absurd all
zip_length R (x ∷ xs) (y ∷ ys) all = ap suc (zip_length R xs ys all.1)

-- an element has a partner
pub zip_has : {A B : Type 0} (R : A → B → Type 0) (xs : List A) (ys : List B) → AllZip R xs ys → (x : A) → Has xs x → (y : B) × Has ys y × R x y
zip_has R [] ys all x (k, at) = absurd (cc)
zip_has R (a ∷ xs) [] all x has = absurd all
zip_has {A} {B} R (a ∷ xs) (b ∷ ys) all x (zero, at) = let P : A → Type 0 = λ z. R z b in (b, (0, refl), subst P (same_some a x at) all.0)
zip_has R (a ∷ xs) (b ∷ ys) all x (suc k, at) = let more = zip_has R xs ys all.1 x (k, at) in (more.0, (suc more.1.0, more.1.1), more.2)

pub zip_each : {A B : Type 0} (R : A → B → Type 0) (P : A → Type 0) (Q : B → Type 0) → ((a : A) (b : B) → R a b → Q b → P a) → (xs : List A) (ys : List B) → AllZip R xs ys → All Q ys → All P xs
zip_each R P Q to [] ys all each k d less = absurd (omega (arith, less))
zip_each R P Q to (x ∷ xs) [] all each k d less = absurd all
zip_each R P Q to (x ∷ xs) (y ∷ ys) all each zero d less = to x y all.0 (each 0 y (omega arith))
zip_each R P Q to (x ∷ xs) (y ∷ ys) all each (suc k) d less = zip_each R P Q to xs ys all.1 (λ i e low. each (suc i) e (omega (arith, low))) k d (omega (arith, less))
