-- What is decided of lists and of names that makers ask for: that it holds, or that it does not.
use Rattle.std.proofs.Common.{◌≡◌, ◌∙◌, ap, refl, subst, inl, inr, ℕ, zero, suc, ◌+◌, List, [], ◌∷◌, length, Some, arith}
use Rattle.std.specs.Prelude.{slice_get}
use Rattle.lists.specs.Lists.{Has}
use Rattle.lists.specs.laws.HasLaws.{none_at}
use Rattle.net_write.specs.Plain.{IsPlainByte}
use Rattle.make_nets.specs.MakerNames.{AreApart, AreMakerNames, IsMakerName}
use Rattle.reader_laws.proofs.DecidedLemmas.{all_decided, both_decided, bytes_decided, even_decided, moved_decided, most_decided, IsDecided}
use Rattle.job_laws.proofs.Searches.{not_decided}

-- ---- lists

pub empty_decided : {X : Type 0} (xs : List X) → IsDecided (xs ≡ [])
empty_decided [] = inl refl
empty_decided (x ∷ xs) = inr (λ same. omega (arith, ap length same))

-- each that stands in a list, with its place, where the places are counted from n
module _ {X : Type 0} (P : ℕ → X → Type 0) (each : (i : ℕ) (x : X) → IsDecided (P i x)) where
  abbrev AreEach : ℕ → List X → Type 0
  AreEach n xs = (i : ℕ) (x : X) → slice_get xs i ≡ Some x → P (n + i) x

  each_more : (n : ℕ) (x : X) (xs : List X) → P n x → AreEach (suc n) xs → AreEach n (x ∷ xs)
  each_more n x xs first rest zero y got =
      let same : x ≡ y = cc in
      let here : n ≡ n + 0 = omega arith in
      let Q : X → Type 0 = λ z. P (n + 0) z in
      let R : ℕ → Type 0 = λ m. P m x in
      subst Q same (subst R here first)
  each_more n x xs first rest (suc i) y got =
      let there : suc n + i ≡ n + suc i = omega arith in
      let R : ℕ → Type 0 = λ m. P m y in
      subst R there (rest i y got)

  each_first : (n : ℕ) (x : X) (xs : List X) → AreEach n (x ∷ xs) → P n x
  each_first n x xs all = let here : n + 0 ≡ n = omega arith in let R : ℕ → Type 0 = λ m. P m x in subst R here (all 0 x refl)

  each_later : (n : ℕ) (x : X) (xs : List X) → AreEach n (x ∷ xs) → AreEach (suc n) xs
  each_later n x xs all i y got = let there : n + suc i ≡ suc n + i = omega arith in let R : ℕ → Type 0 = λ m. P m y in subst R there (all (suc i) y got)

  from_decided : (n : ℕ) (xs : List X) → IsDecided (AreEach n xs)
  from_decided n [] = inl (λ i x got. absurd (none_at x (i, got)))
  from_decided n (x ∷ xs) =
      elim (each n x) [
        | inl first ↦ elim (from_decided (suc n) xs) [
          | inl rest ↦ inl (each_more n x xs first rest)
          | inr other ↦ inr (λ all. other (each_later n x xs all))
        ]
        | inr other ↦ inr (λ all. other (each_first n x xs all))
      ]

  at_start : (xs : List X) → AreEach 0 xs → (i : ℕ) (x : X) → slice_get xs i ≡ Some x → P i x
  at_start xs all i x got = let same : 0 + i ≡ i = omega arith in let Q : ℕ → Type 0 = λ n. P n x in subst Q same (all i x got)

  from_start : (xs : List X) → ((i : ℕ) (x : X) → slice_get xs i ≡ Some x → P i x) → AreEach 0 xs
  from_start xs all i x got = let same : i ≡ 0 + i = omega arith in let Q : ℕ → Type 0 = λ n. P n x in subst Q same (all i x got)

  pub places_decided : (xs : List X) → IsDecided ((i : ℕ) (x : X) → slice_get xs i ≡ Some x → P i x)
  places_decided xs = moved_decided (at_start xs) (from_start xs) (from_decided 0 xs)

pub every_decided : {X : Type 0} (P : X → Type 0) → ((x : X) → IsDecided (P x)) → (xs : List X) → IsDecided ((x : X) → Has xs x → P x)
every_decided P each xs = moved_decided (λ all x has. all has.0 x has.1) (λ all i x got. all x (i, got)) (places_decided (λ i x. P x) (λ i x. each x) xs)

-- ---- names

later : (name other : List ℕ) (names : List (List ℕ)) → (other ≡ name → ⊥) → (Has names name → ⊥) → Has (other ∷ names) name → ⊥
later name other names apart none (zero, got) = let same : other ≡ name = cc in apart same
later name other names apart none (suc i, got) = none (i, got)

pub has_decided : (name : List ℕ) (names : List (List ℕ)) → IsDecided (Has names name)
has_decided name [] = inr (λ has. none_at name has)
has_decided name (other ∷ names) =
    elim (bytes_decided other name) [
      | inl same ↦ inl (0, ap Some same)
      | inr apart ↦ elim (has_decided name names) [ inl has ↦ inl (suc has.0, has.1) | inr none ↦ inr (later name other names apart none) ]
    ]

apart_more : (first : List ℕ) (names : List (List ℕ)) → (Has names first → ⊥) → AreApart names → AreApart (first ∷ names)
apart_more first names new rest zero zero name p q = refl
apart_more first names new rest zero (suc j) name p q = let same : name ≡ first = cc in absurd (new (j, q ∙ ap Some same))
apart_more first names new rest (suc i) zero name p q = let same : name ≡ first = cc in absurd (new (i, p ∙ ap Some same))
apart_more first names new rest (suc i) (suc j) name p q = ap suc (rest i j name p q)

apart_decided : (names : List (List ℕ)) → IsDecided (AreApart names)
apart_decided [] = inl (λ i j name p q. absurd (none_at name (i, p)))
apart_decided (first ∷ names) =
    elim (has_decided first names) [
      | inl has ↦ inr (λ apart. omega (arith, apart 0 (suc has.0) first refl has.1))
      | inr new ↦ elim (apart_decided names) [
        | inl rest ↦ inl (apart_more first names new rest)
        | inr other ↦ inr (λ apart. other (λ i j name p q. omega (arith, apart (suc i) (suc j) name p q)))
      ]
    ]

plain_byte_decided : (b : ℕ) → IsDecided (IsPlainByte b)
plain_byte_decided b =
    moved_decided (λ is. (is.0, is.1.0, is.1.1.0, is.1.1.1)) (λ (is : IsPlainByte b). (is.0, (is.1, (is.2, is.3))))
    (both_decided (most_decided 33 b) (both_decided (most_decided b 126) (both_decided (not_decided (even_decided b 35)) (not_decided (even_decided b 92)))))

maker_name_decided : (name : List ℕ) → IsDecided (IsMakerName name)
maker_name_decided name =
    moved_decided (λ is. record { plain = is.0; some = is.1.0; most = is.1.1 }) (λ (is : IsMakerName name). (is.plain, (is.some, is.most)))
    (both_decided (all_decided IsPlainByte plain_byte_decided name) (both_decided (most_decided 1 (length name)) (most_decided (length name) 128)))

pub maker_names_decided : (names : List (List ℕ)) → IsDecided (AreMakerNames names)
maker_names_decided names = moved_decided (λ is. record { each = is.0; apart = is.1 }) (λ (is : AreMakerNames names). (is.each, is.apart)) (both_decided (every_decided IsMakerName maker_name_decided names) (apart_decided names))
