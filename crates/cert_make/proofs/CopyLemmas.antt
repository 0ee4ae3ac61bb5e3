-- The keys of multipliers, one by one.
use Rattle.std.proofs.Common.{◌≡◌, ◌∙◌, ap, sym, refl, subst, ℕ, zero, suc, ◌<◌, ◌≤◌, ◌+◌, List, [], ◌∷◌, ◌++◌, length, take, get_or, take_all, arith, add-one}
use Rattle.std.proofs.lemmas.List.{map-append, length-map}
use Rattle.poly_mixed.specs.Labels.{Labelling}
use Rattle.poly_mixed.specs.Steps.{Step}
use Rattle.cert_make.specs.declared.certificate.Entry.{Entry}
use Rattle.cert_make.specs.private.Kept.{pair_of, pairs_of}
use Rattle.cert_make.specs.private.Keys.{KeyParts, key_by, keys}
use Rattle.cert_make.proofs.WrittenLemmas.{pairs_taken}

-- ---- the list of keys

pub keys_more : (l : Labelling) (es : List Entry) (i : ℕ) (e : Entry) (old new : List KeyParts) (t : KeyParts) → i < length es → e ≡ get_or es i e → old ≡ keys l (take i (pairs_of es)) → t ≡ key_by l (pair_of e).1 → new ≡ old ++ t ∷ [] → new ≡ keys l (take (i + 1) (pairs_of es))
keys_more l es i e old new t less is before told adds =
    adds
    ∙ ((λ j. before j ++ told j ∷ [])
    ∙ (sym (map-append (λ (s : Step). key_by l s.1) (take i (pairs_of es)) (pair_of e ∷ []))
    ∙ ap (keys l) (sym (pairs_taken es i e less is))))

pub keys_all : (l : Labelling) (es : List Entry) (i : ℕ) (list : List KeyParts) → length es ≤ i → list ≡ keys l (take i (pairs_of es)) → list ≡ keys l (pairs_of es)
keys_all l es i list past is = is ∙ ap (keys l) (take_all i (pairs_of es) (let long : length (pairs_of es) ≡ length es = length-map es pair_of in omega (arith, long, past)))

-- the pair of a key in the list
pub record IsNext (l : Labelling) (pairs : List Step) (i : ℕ) (t : KeyParts) : Type 0 where
  pub pair : Step
  pub told : t ≡ key_by l pair.1
  pub taken : take (i + 1) pairs ≡ take i pairs ++ pair ∷ []

next_pair : (l : Labelling) (pairs : List Step) (list : List KeyParts) (i : ℕ) (t : KeyParts) → list ≡ keys l pairs → i < length list → t ≡ get_or list i t → (s : Step) × (t ≡ key_by l s.1) × (take (suc i) pairs ≡ take i pairs ++ s ∷ [])
next_pair l pairs list i t are less is =
    let P : List KeyParts → Type 0 = λ xs. (i < length xs) × (t ≡ get_or xs i t) in
    let here : P (keys l pairs) = subst P are (less, is) in
    found pairs i here.0 here.1
  where
    found : (ps : List Step) (n : ℕ) → n < length (keys l ps) → t ≡ get_or (keys l ps) n t → (s : Step) × (t ≡ key_by l s.1) × (take (suc n) ps ≡ take n ps ++ s ∷ [])
    found [] n low at = absurd (omega (arith, low))
    found (p ∷ ps) zero low at = (p, at, refl)
    found (p ∷ ps) (suc n) low at =
        let more = found ps n (omega (arith, low)) at in
        (more.0, more.1, ap (λ (xs : List Step). p ∷ xs) more.2)

pub next_is : (l : Labelling) (pairs : List Step) (list : List KeyParts) (i : ℕ) (t : KeyParts) → list ≡ keys l pairs → i < length list → t ≡ get_or list i t → IsNext l pairs i t
next_is l pairs list i t are less is =
    let found = next_pair l pairs list i t are less is in
    record { pair = found.0; told = found.1; taken = ap (λ n. take n pairs) (add-one i) ∙ found.2 }

-- and the key of a pair
pub key_at : (l : Labelling) (es : List Entry) (list : List KeyParts) (i : ℕ) (e : Entry) (t : KeyParts) → list ≡ keys l (pairs_of es) → i < length es → e ≡ get_or es i e → t ≡ get_or list i t → t ≡ key_by l (pair_of e).1
key_at l es list i e t are less is at =
    let P : List KeyParts → Type 0 = λ xs. t ≡ get_or xs i t in
    found es i less is (subst P are at)
  where
    found : (xs : List Entry) (n : ℕ) → n < length xs → e ≡ get_or xs n e → t ≡ get_or (keys l (pairs_of xs)) n t → t ≡ key_by l (pair_of e).1
    found [] n low at this = absurd (omega (arith, low))
    found (x ∷ xs) zero low at this = this ∙ ap (λ (y : Entry). key_by l (pair_of y).1) (sym at)
    found (x ∷ xs) (suc n) low at this = found xs n (omega (arith, low)) at this
