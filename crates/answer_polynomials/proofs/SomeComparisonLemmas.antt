-- Two functions of a circuit's input that have an element at each input are the same, or there is the input at which they are told apart.
use Rattle.std.proofs.Common.{◌≡◌, ◌≢◌, ◌∙◌, ◌⊎◌, ap, sym, refl, subst, inl, inr, ℕ, zero, suc, ◌+◌, ◌<◌, ◌≤◌, ◌^◌, true, false, List, [], ◌∷◌, ◌++◌, length, Option, None, Some, append-nil, arith}
use Rattle.std.specs.Prelude.{nat_eq}
use Rattle.std.specs.declared.cmp.Ordering.TheVariants.{Less, Equal, Greater}
use Rattle.std.specs.Ordering.{ordering_reverse}
use Rattle.std.proofs.lemmas.Bool.{eq-eqb, eqb-true}
use Rattle.std.proofs.lemmas.List.{append_assoc, length-append}
use Rattle.lists.specs.Lists.{Has}
use Rattle.lists.specs.laws.HasLaws.{Has_cases, none_at, one_of}
use Rattle.circuit_model.specs.Circuit.{Circuit, IsInput}
use Rattle.circuit_model.specs.Differing.{Differ, Difference, IsComparison}
use Rattle.circuit_model.specs.Ones.{AreOnes, ones_cmp, ones_cmp_total}
use Rattle.circuit_model.specs.WellFormed.{IsWellFormed}
use Rattle.circuit_model.proofs.Functions.{IsFunction}
use Rattle.spec_compare.proofs.InputLemmas.{one_list}
use Rattle.spec_compare.proofs.SomeOnesLemmas.{some_ones, the_ones}

-- ---- the order of lists of ranks

-- where one comes after another, the other does not come after it
not_before : (a b : List ℕ) → ones_cmp a b ≡ Greater → ones_cmp b a ≢ Greater
not_before a b e f =
    let less : Less ≡ Greater = sym (ones_cmp_total.antisymm b a ∙ ap ordering_reverse e) ∙ f in
    absurd (cc)

not_after : (a b d : List ℕ) → ones_cmp a b ≢ Greater → ones_cmp b d ≢ Greater → ones_cmp a d ≢ Greater
not_after a b d p q =
    elim (ones_cmp a b) as (λ o. ones_cmp a b ≡ o → ones_cmp a d ≢ Greater) [
      | Less ↦ λ e. elim (ones_cmp b d) as (λ o. ones_cmp b d ≡ o → ones_cmp a d ≢ Greater) [
        | Less ↦ λ f g. let less : Less ≡ Greater = sym (ones_cmp_total.trans a b d e f) ∙ g in absurd (cc)
        | Equal ↦ λ f g. p (ones_cmp_total.antisymm a b ∙ ap ordering_reverse (ones_cmp_total.congr b d a f ∙ (ones_cmp_total.antisymm d a ∙ ap ordering_reverse g)))
        | Greater ↦ λ f. absurd (q f)
      ] refl
      | Equal ↦ λ e g. q (sym (ones_cmp_total.congr a b d e) ∙ g)
      | Greater ↦ λ e. absurd (p e)
    ] refl

module _ (c : Circuit) (f g : List ℕ → ℕ → Type 0) where
  -- ---- the first of some inputs at which two functions differ

  -- of the lists of which S holds it is the first
  record IsFirst (S : List ℕ → Type 0) (xs : List ℕ) (left right : ℕ) : Type 0 where
    member : S xs
    differ : Differ f g xs left right
    ones : List ℕ
    are : AreOnes c xs ones
    least : (ys others : List ℕ) (l r : ℕ) → S ys → AreOnes c ys others → Differ f g ys l r → ones_cmp ones others ≢ Greater

  -- they differ at none of these, or one is the first
  abbrev Searched : (List ℕ → Type 0) → Type 0
  Searched S = ((xs : List ℕ) (l r : ℕ) → S xs → Differ f g xs l r → ⊥) ⊎ ((xs : List ℕ) × (left : ℕ) × (right : ℕ) × IsFirst S xs left right)

  moved : (S T : List ℕ → Type 0) → ((xs : List ℕ) → T xs → S xs) → ((xs : List ℕ) → S xs → T xs) → Searched S → Searched T
  moved S T back there (inl none) = inl (λ xs l r is apart. none xs l r (back xs is) apart)
  moved S T back there (inr (xs, left, right, first)) =
      inr (
        xs,
        left,
        right,
        record {
          member = there xs first.member;
          differ = first.differ;
          ones = first.ones;
          are = first.are;
          least = λ ys others l r is are apart. first.least ys others l r (back ys is) are apart;
        },
      )

  module _ (S T U : List ℕ → Type 0) (split : (xs : List ℕ) → U xs → S xs ⊎ T xs) (left_in : (xs : List ℕ) → S xs → U xs) (right_in : (xs : List ℕ) → T xs → U xs) where
    -- the first of S is the first of both, where none of T comes before it
    first_left : (xs : List ℕ) (l r : ℕ) → (first : IsFirst S xs l r) → ((ys others : List ℕ) (m n : ℕ) → T ys → AreOnes c ys others → Differ f g ys m n → ones_cmp first.ones others ≢ Greater) → IsFirst U xs l r
    first_left xs l r first rest = record {
      member = left_in xs first.member;
      differ = first.differ;
      ones = first.ones;
      are = first.are;
      least = λ ys others m n is are apart. elim (split ys is) [ inl s ↦ first.least ys others m n s are apart | inr t ↦ rest ys others m n t are apart ];
    }

    first_right : (xs : List ℕ) (l r : ℕ) → (first : IsFirst T xs l r) → ((ys others : List ℕ) (m n : ℕ) → S ys → AreOnes c ys others → Differ f g ys m n → ones_cmp first.ones others ≢ Greater) → IsFirst U xs l r
    first_right xs l r first rest = record {
      member = right_in xs first.member;
      differ = first.differ;
      ones = first.ones;
      are = first.are;
      least = λ ys others m n is are apart. elim (split ys is) [ inl s ↦ rest ys others m n s are apart | inr t ↦ first.least ys others m n t are apart ];
    }

    joined : Searched S → Searched T → Searched U
    joined (inl none) (inl nothing) = inl (λ xs l r is apart. elim (split xs is) [ inl s ↦ none xs l r s apart | inr t ↦ nothing xs l r t apart ])
    joined (inl none) (inr (xs, l, r, first)) = inr (xs, l, r, first_right xs l r first (λ ys others m n s are apart. absurd (none ys m n s apart)))
    joined (inr (xs, l, r, first)) (inl nothing) = inr (xs, l, r, first_left xs l r first (λ ys others m n t are apart. absurd (nothing ys m n t apart)))
    joined (inr (xs, l, r, a)) (inr (ys, m, n, b)) =
        elim (ones_cmp a.ones b.ones) as (λ o. ones_cmp a.ones b.ones ≡ o → Searched U) [
          | Less ↦ λ e. inr (xs, l, r, first_left xs l r a (λ zs others p q t are apart. not_after a.ones b.ones others (λ h. let less : Less ≡ Greater = sym e ∙ h in absurd (cc)) (b.least zs others p q t are apart)))
          | Equal ↦ λ e. inr (xs, l, r, first_left xs l r a (λ zs others p q t are apart. not_after a.ones b.ones others (λ h. let less : Equal ≡ Greater = sym e ∙ h in absurd (cc)) (b.least zs others p q t are apart)))
          | Greater ↦ λ e. inr (ys, m, n, first_right ys m n b (λ zs others p q s are apart. not_after b.ones a.ones others (not_before a.ones b.ones e) (a.least zs others p q s are apart)))
        ] refl

  -- ---- all inputs

  -- lists of n elements behind these
  record Begins (p : List ℕ) (n : ℕ) (xs : List ℕ) : Type 0 where
    rest : List ℕ
    is : xs ≡ p ++ rest
    long : length rest ≡ n
    below : (x : ℕ) → Has rest x → x < 2 ^ c.k

  -- lists of n elements behind these and one below j
  record Next (p : List ℕ) (n j : ℕ) (xs : List ℕ) : Type 0 where
    x : ℕ
    rest : List ℕ
    is : xs ≡ p ++ (x ∷ rest)
    low : x < j
    long : length rest ≡ n
    below : (y : ℕ) → Has rest y → y < 2 ^ c.k

  module _ (p : List ℕ) (n j : ℕ) where
    behind : (rest : List ℕ) → (p ++ (j ∷ [])) ++ rest ≡ p ++ (j ∷ rest)
    behind rest = append_assoc p (j ∷ []) rest

    next_split : (xs : List ℕ) → Next p n (suc j) xs → Begins (p ++ (j ∷ [])) n xs ⊎ Next p n j xs
    next_split xs next =
        elim (nat_eq next.x j) as (λ b. nat_eq next.x j ≡ b → Begins (p ++ (j ∷ [])) n xs ⊎ Next p n j xs) [
          | true ↦ λ e. inl (record { rest = next.rest; is = next.is ∙ (ap (λ y. p ++ (y ∷ next.rest)) (eqb-true next.x j e) ∙ sym (behind next.rest)); long = next.long; below = next.below })
          | false ↦ λ e. inr (record {
            x = next.x;
            rest = next.rest;
            is = next.is;
            low = let other : next.x ≢ j = λ same. (let one : true ≡ false = sym (eq-eqb next.x j same) ∙ e in absurd (cc)) in omega (arith, next.low, other);
            long = next.long;
            below = next.below;
          })
        ] refl

    next_last : (xs : List ℕ) → Begins (p ++ (j ∷ [])) n xs → Next p n (suc j) xs
    next_last xs begins = record { x = j; rest = begins.rest; is = begins.is ∙ behind begins.rest; low = omega arith; long = begins.long; below = begins.below }

    next_less : (xs : List ℕ) → Next p n j xs → Next p n (suc j) xs
    next_less xs next = record { x = next.x; rest = next.rest; is = next.is; low = omega (arith, next.low); long = next.long; below = next.below }

  -- those behind one list, where each list that is longer by one was searched
  nexts : (p : List ℕ) (n : ℕ) → ((j : ℕ) → j < 2 ^ c.k → Searched (Begins (p ++ (j ∷ [])) n)) → (j : ℕ) → j ≤ 2 ^ c.k → Searched (Next p n j)
  nexts p n each zero low = inl (λ xs l r next apart. absurd (omega (arith, next.low)))
  nexts p n each (suc j) low = joined (Begins (p ++ (j ∷ [])) n) (Next p n j) (Next p n (suc j)) (next_split p n j) (next_last p n j) (next_less p n j) (each j (omega arith)) (nexts p n each j (omega arith))

  as_next : (p : List ℕ) (n : ℕ) (xs : List ℕ) → Begins p (suc n) xs → Next p n (2 ^ c.k) xs
  as_next p n xs begins = from begins.rest begins.is begins.long begins.below
    where
      from : (rest : List ℕ) → xs ≡ p ++ rest → length rest ≡ suc n → ((x : ℕ) → Has rest x → x < 2 ^ c.k) → Next p n (2 ^ c.k) xs
      from [] is long below = absurd (omega (arith, long))
      from (x ∷ rest) is long below = record { x = x; rest = rest; is = is; low = below x (0, refl); long = omega (arith, long); below = λ y has. below y (suc has.0, has.1) }

  as_begins : (p : List ℕ) (n : ℕ) (xs : List ℕ) → Next p n (2 ^ c.k) xs → Begins p (suc n) xs
  as_begins p n xs next = record { rest = next.x ∷ next.rest; is = next.is; long = omega (arith, next.long); below = all_below }
    where
      all_below : (y : ℕ) → Has (next.x ∷ next.rest) y → y < 2 ^ c.k
      all_below y (zero, got) = let same : next.x ≡ y = cc in omega (arith, next.low, same)
      all_below y (suc i, got) = next.below y (i, got)

  -- ---- two functions that have an element at each input

  module _ (well : IsWellFormed c) (one_f : IsFunction f) (one_g : IsFunction g) (at_f : (xs : List ℕ) → IsInput c xs → (e : ℕ) × f xs e) (at_g : (xs : List ℕ) → IsInput c xs → (e : ℕ) × g xs e) where
    module _ (xs : List ℕ) (input : IsInput c xs) where
      only : (ys : List ℕ) → Begins xs 0 ys → ys ≡ xs
      only ys begins = from begins.rest begins.is begins.long
        where
          from : (rest : List ℕ) → ys ≡ xs ++ rest → length rest ≡ 0 → ys ≡ xs
          from [] is long = is ∙ append-nil xs
          from (x ∷ rest) is long = absurd (omega (arith, long))

      it : Begins xs 0 xs
      it = record { rest = []; is = sym (append-nil xs); long = refl; below = λ x has. absurd (none_at x has) }

      first_here : (l r : ℕ) → f xs l → g xs r → l ≢ r → IsFirst (Begins xs 0) xs l r
      first_here l r first second apart = record {
        member = it;
        differ = record { first = first; second = second; apart = apart };
        ones = the_ones c well xs input;
        are = some_ones c well xs input;
        least = λ ys others m n is are differ h.
            let P : List ℕ → Type 0 = λ zs. AreOnes c zs others in
            let same : others ≡ the_ones c well xs input = one_list c xs others (the_ones c well xs input) (subst P (only ys is) are) (some_ones c well xs input) in
            let after : ones_cmp (the_ones c well xs input) (the_ones c well xs input) ≡ Greater = ap (λ zs. ones_cmp (the_ones c well xs input) zs) (sym same) ∙ h in
            not_before (the_ones c well xs input) (the_ones c well xs input) after after;
      }

      none_here : (l r : ℕ) → f xs l → g xs r → l ≡ r → (ys : List ℕ) (m n : ℕ) → Begins xs 0 ys → Differ f g ys m n → ⊥
      none_here l r first second equal ys m n is differ =
          let P : List ℕ → Type 0 = λ zs. f zs m in
          let Q : List ℕ → Type 0 = λ zs. g zs n in
          differ.apart (one_f xs m l (subst P (only ys is) differ.first) first ∙ (equal ∙ one_g xs r n second (subst Q (only ys is) differ.second)))

      single : Searched (Begins xs 0)
      single =
          let l = at_f xs input in
          let r = at_g xs input in
          elim (nat_eq l.0 r.0) as (λ b. nat_eq l.0 r.0 ≡ b → Searched (Begins xs 0)) [
            | true ↦ λ e. inl (none_here l.0 r.0 l.1 r.1 (eqb-true l.0 r.0 e))
            | false ↦ λ e. inr (xs, l.0, r.0, first_here l.0 r.0 l.1 r.1 (λ same. (let one : true ≡ false = sym (eq-eqb l.0 r.0 same) ∙ e in absurd (cc))))
          ] refl

    -- what is behind a list that begins an input
    searched : (n : ℕ) (p : List ℕ) → length p + n ≡ length c.words → ((x : ℕ) → Has p x → x < 2 ^ c.k) → Searched (Begins p n)
    searched zero p long below = single p (record { long = omega (arith, long); elements = below })
    searched (suc n) p long below =
        moved (Next p n (2 ^ c.k)) (Begins p (suc n)) (as_next p n) (as_begins p n)
        (nexts p n (λ j low. searched n (p ++ (j ∷ [])) (let more = length-append p (j ∷ []) in omega (arith, more, long)) (λ x has. elim (Has_cases p (j ∷ []) x has) [ inl front ↦ below x front | inr back ↦ omega (arith, low, one_of j x back) ])) (2 ^ c.k) (omega arith))

    begins : (xs : List ℕ) → IsInput c xs → Begins [] (length c.words) xs
    begins xs input = record { rest = xs; is = refl; long = input.long; below = input.elements }

    of_search : Searched (Begins [] (length c.words)) → (found : Option Difference) × IsComparison c f g found
    of_search (inl none) = (
      None,
      λ xs l r input first second.
          elim (nat_eq l r) as (λ b. nat_eq l r ≡ b → l ≡ r) [
            | true ↦ λ e. eqb-true l r e
            | false ↦ λ e. absurd (none xs l r (begins xs input) (record { first = first; second = second; apart = λ same. (let one : true ≡ false = sym (eq-eqb l r same) ∙ e in absurd (cc)) }))
          ] refl,
    )
    of_search (inr (xs, l, r, first)) = (
      Some (record { input = xs; left = l; right = r }),
      record {
        differ = first.differ;
        ones = first.ones;
        are = first.are;
        least = λ ys others m n are differ. first.least ys others m n (begins ys are.input) are differ;
      },
    )

    -- there is a comparison
    pub compared : (found : Option Difference) × IsComparison c f g found
    compared = of_search (searched (length c.words) [] (omega arith) (λ x has. absurd (none_at x has)))
