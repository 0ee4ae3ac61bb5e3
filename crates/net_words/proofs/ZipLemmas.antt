-- Lists that go together place by place, while they grow.
use Rattle.std.proofs.Common.{◌≡◌, ◌∙◌, ap, sym, refl, subst, ℕ, zero, suc, ◌<◌, ◌+◌, List, [], ◌∷◌, ◌++◌, length, map, take, get_or, arith, add-one, All}
use Rattle.std.proofs.Math.Seq.{take-suc}
use Rattle.std.specs.List.{AllZip}
use Rattle.lists.specs.laws.ListLaws.{map_push as map-push}

-- at each place of the first list there is a partner
pub zip-at : {A B C : Type 0} (R : A → B → Type 0) (f : C → A) (xs : List C) (ys : List B) (i : ℕ) (d : C) → AllZip R (map f xs) ys → i < length xs → (y : B) × R (f (get_or xs i d)) y
zip-at R f [] ys i d zip less = absurd (omega arith)
zip-at R f (x ∷ xs) [] i d zip less = absurd zip
zip-at R f (x ∷ xs) (y ∷ ys) zero d zip less = (y, zip.0)
zip-at R f (x ∷ xs) (y ∷ ys) (suc i) d zip less = zip-at R f xs ys i d zip.1 (omega arith)

pub zip-push : {A B : Type 0} (R : A → B → Type 0) (xs : List A) (ys : List B) (x : A) (y : B) → AllZip R xs ys → R x y → AllZip R (xs ++ x ∷ []) (ys ++ y ∷ [])
zip-push R [] [] x y zip r = (r, tt)
zip-push R [] (z ∷ ys) x y zip r = absurd zip
zip-push R (w ∷ xs) [] x y zip r = absurd zip
zip-push R (w ∷ xs) (z ∷ ys) x y zip r = (zip.0, zip-push R xs ys x y zip.1 r)

pub all-at : {A C : Type 0} (P : A → Type 0) (f : C → A) (xs : List C) (i : ℕ) (d : C) → All P (map f xs) → i < length xs → P (f (get_or xs i d))
all-at P f [] i d all less = absurd (omega arith)
all-at P f (x ∷ xs) zero d all less = all 0 (f x) (omega arith)
all-at P f (x ∷ xs) (suc i) d all less = all-at P f xs i d (λ k e below. all (suc k) e (omega arith)) (omega arith)

pub all-push : {A : Type 0} (P : A → Type 0) (xs : List A) (x : A) → All P xs → P x → All P (xs ++ x ∷ [])
all-push P [] x all one zero d less = one
all-push P [] x all one (suc k) d less = absurd (omega arith)
all-push P (y ∷ ys) x all one zero d less = all 0 d (omega arith)
all-push P (y ∷ ys) x all one (suc k) d less = all-push P ys x (λ j e below. all (suc j) e (omega arith)) one k d (omega arith)

-- the front with one more item
pub map-front : {A B : Type 0} (f : A → B) (xs : List A) (i : ℕ) (d : A) → i < length xs → map f (take (i + 1) xs) ≡ map f (take i xs) ++ f (get_or xs i d) ∷ []
map-front f xs i d less = rw add-one (ap (map f) (take-suc xs i d less) ∙ map-push f (take i xs) (get_or xs i d))

pub map-get : {A B : Type 0} (f : A → B) (xs : List A) (i : ℕ) (d : A) (e : B) → i < length xs → get_or (map f xs) i e ≡ f (get_or xs i d)
map-get f [] i d e less = absurd (omega arith)
map-get f (x ∷ xs) zero d e less = refl
map-get f (x ∷ xs) (suc i) d e less = map-get f xs i d e (omega arith)

-- one more pair of places that go together
pub zip-grow : {A B C : Type 0} (R : A → B → Type 0) (f : C → A) (xs : List C) (i : ℕ) (d : C) (ys new : List B) (y : B) → i < length xs → AllZip R (map f (take i xs)) ys → R (f (get_or xs i d)) y → new ≡ ys ++ y ∷ [] → AllZip R (map f (take (i + 1) xs)) new
zip-grow {A} {B} R f xs i d ys new y less zip r e =
    let P : List A → Type 0 = λ front. AllZip R front new in
    let Q : List B → Type 0 = λ zs. AllZip R (map f (take i xs) ++ f (get_or xs i d) ∷ []) zs in
    subst P (sym (map-front f xs i d less)) (subst Q (sym e) (zip-push R (map f (take i xs)) ys (f (get_or xs i d)) y zip r))

-- one more place of a list that is made place by place
pub map-grow : {A C : Type 0} (f : C → A) (xs : List C) (i : ℕ) (d : C) (ys new : List A) (y : A) → i < length xs → ys ≡ map f (take i xs) → y ≡ f (get_or xs i d) → new ≡ ys ++ y ∷ [] → new ≡ map f (take (i + 1) xs)
map-grow f xs i d ys new y less same is e = e ∙ rw (same, is) (sym (map-front f xs i d less))

pub all-grow : {A : Type 0} (P : A → Type 0) (xs new : List A) (x : A) → All P xs → P x → new ≡ xs ++ x ∷ [] → All P new
all-grow {A} P xs new x all one e = let Q : List A → Type 0 = λ ys. All P ys in subst Q (sym e) (all-push P xs x all one)
