-- Monomials with a bit and without it, and that taking a bit out keeps the order of terms.
use Rattle.std.proofs.Common.{◌≡◌, ℕ, ◌<◌, Bool, true, false, cond, not, ◌||◌, List, [], ◌∷◌, nat_eq, nat_lt, ◌==◌, refl, sym, ◌∙◌, ap, subst, arith, inl, inr, Option, Some}
use Rattle.std.proofs.lemmas.Bool.{eqb-true, eq-eqb, ne_eqb, cases_order, lt-ltb, le-ltb, or_parts, eqb-false}
use Rattle.std.specs.declared.cmp.Ordering.{Ordering}
use Rattle.std.specs.declared.cmp.Ordering.TheVariants.{Less, Equal, Greater}
use Rattle.std.specs.Cmp.{nat_cmp_total, tied_itself}
use Rattle.std.specs.Ordering.{nat_cmp, ordering_then, ordering_reverse, eq_by_cmp, is_eq}
use Rattle.std.specs.List.{AllByRecursion, list_any, filter}
use Rattle.std.specs.List.Sorted.{IsStrictlySortedBy}
use Rattle.std.specs.Option.{unwrap_or}
use Rattle.std.specs.Map.{lookup}
use Rattle.std.proofs.Math.Bool.{or-true}
use Rattle.lists.specs.laws.OrderingLaws.{cmp_less}
use Rattle.poly_mixed.specs.Monomial.{Monomial, has_bit, ranks_cmp, text_cmp, text_cmp_total, exponents_cmp}
use Rattle.poly_mixed.specs.Polynomial.{Terms, coefficient, IsMap}
use Rattle.poly_mixed.specs.Product.{with_rank}
use Rattle.poly_mixed.specs.Cofactor.{with_bit, without_bit, cofactors, IsCofactor}
use Rattle.poly_mixed.proofs.MonomialLemmas.{text_cmp-same}
use Rattle.poly_mixed.proofs.RankLemmas.{Above, from_less, above_trans}

is_greater : (x y : ℕ) → y < x → nat_cmp x y ≡ Greater
is_greater x y h = nat_cmp_total.antisymm x y ∙ ap ordering_reverse (cmp_less y x h)

abbrev drops : ℕ → List ℕ → List ℕ
drops bit rs = filter (λ r. not (nat_eq r bit)) rs

abbrev holds : ℕ → List ℕ → Bool
holds bit rs = list_any (λ r. nat_eq r bit) rs

-- a list of ranks above the bit lacks it
above_lacks : (bit : ℕ) (rs : List ℕ) → Above bit rs → holds bit rs ≡ false
above_lacks bit [] up = refl
above_lacks bit (r ∷ rs) up = (λ i. ne_eqb r bit (λ e. let l = from_less bit r up.0 in omega arith) i || holds bit rs) ∙ above_lacks bit rs up.1

-- a list without the bit stays
lacks_stays : (bit : ℕ) (rs : List ℕ) → holds bit rs ≡ false → drops bit rs ≡ rs
lacks_stays bit [] h = refl
lacks_stays bit (r ∷ rs) h =
    let parts = or_parts (nat_eq r bit) (holds bit rs) h in
    (λ i. cond (not (parts.0 i)) (r ∷ drops bit rs) (drops bit rs)) ∙ ap (λ xs. r ∷ xs) (lacks_stays bit rs parts.1)

drops_lacks : (bit : ℕ) (rs : List ℕ) → holds bit (drops bit rs) ≡ false
drops_lacks bit [] = refl
drops_lacks bit (r ∷ rs) =
    elim (nat_eq r bit) as (λ b. nat_eq r bit ≡ b → holds bit (cond (not b) (r ∷ drops bit rs) (drops bit rs)) ≡ false) [
      | true ↦ λ e. drops_lacks bit rs
      | false ↦ λ e. (λ i. e i || holds bit (drops bit rs)) ∙ drops_lacks bit rs
    ] refl

-- ---- one bit more

with_rank_holds : (rs : List ℕ) (bit : ℕ) → holds bit (with_rank rs bit) ≡ true
with_rank_holds [] bit = ap (λ b. b || false) (eq-eqb bit bit refl)
with_rank_holds (x ∷ xs) bit =
    elim (nat_lt bit x) as (λ b. holds bit (cond b (bit ∷ x ∷ xs) (cond (bit == x) (x ∷ xs) (x ∷ with_rank xs bit))) ≡ true) [
      | true ↦ ap (λ b. b || holds bit (x ∷ xs)) (eq-eqb bit bit refl)
      | false ↦ elim (bit == x) as (λ b. (bit == x) ≡ b → holds bit (cond b (x ∷ xs) (x ∷ with_rank xs bit)) ≡ true) [
        | true ↦ λ e. ap (λ b. b || holds bit xs) (eq-eqb x bit (sym (eqb-true bit x e)))
        | false ↦ λ e. ap (λ b. nat_eq x bit || b) (with_rank_holds xs bit) ∙ or-true (nat_eq x bit)
      ] refl
    ]

drops_with_rank : (rs : List ℕ) (bit : ℕ) → holds bit rs ≡ false → drops bit (with_rank rs bit) ≡ rs
drops_with_rank [] bit h = ap (λ b. cond (not b) (bit ∷ []) []) (eq-eqb bit bit refl)
drops_with_rank (x ∷ xs) bit h =
    let parts = or_parts (nat_eq x bit) (holds bit xs) h in
    elim (nat_lt bit x) as (λ b. drops bit (cond b (bit ∷ x ∷ xs) (cond (bit == x) (x ∷ xs) (x ∷ with_rank xs bit))) ≡ x ∷ xs) [
      | true ↦ (λ i. cond (not (eq-eqb bit bit refl i)) (bit ∷ drops bit (x ∷ xs)) (drops bit (x ∷ xs))) ∙ lacks_stays bit (x ∷ xs) h
      | false ↦ elim (bit == x) as (λ b. drops bit (cond b (x ∷ xs) (x ∷ with_rank xs bit)) ≡ x ∷ xs) [
        | true ↦ lacks_stays bit (x ∷ xs) h
        | false ↦ (λ i. cond (not (parts.0 i)) (x ∷ drops bit (with_rank xs bit)) (drops bit (with_rank xs bit))) ∙ ap (λ ys. x ∷ ys) (drops_with_rank xs bit parts.1)
      ]
    ]

with_rank_first : (bit : ℕ) (rs : List ℕ) → Above bit rs → with_rank rs bit ≡ bit ∷ rs
with_rank_first bit [] up = refl
with_rank_first bit (r ∷ rs) up = λ i. cond (lt-ltb bit r (from_less bit r up.0) i) (bit ∷ r ∷ rs) (cond (bit == r) (r ∷ rs) (r ∷ with_rank rs bit))

with_rank_drops : (rs : List ℕ) (bit : ℕ) → IsStrictlySortedBy nat_cmp rs → holds bit rs ≡ true → with_rank (drops bit rs) bit ≡ rs
unfolding IsStrictlySortedBy
with_rank_drops [] bit s h = cc
with_rank_drops (x ∷ xs) bit s h =
    elim (nat_eq x bit) as (λ b. nat_eq x bit ≡ b → (b || holds bit xs) ≡ true → with_rank (cond (not b) (x ∷ drops bit xs) (drops bit xs)) bit ≡ x ∷ xs) [
      | true ↦ λ e _.
          let same : x ≡ bit = eqb-true x bit e in
          let up : Above bit xs = (let P : ℕ → Type 0 = λ n. Above n xs in subst P same s.0) in
          ap (λ ys. with_rank ys bit) (lacks_stays bit xs (above_lacks bit xs up)) ∙ with_rank_first bit xs up ∙ ap (λ n. n ∷ xs) (sym same)
      | false ↦ λ e k.
          let l : x < bit = from_less x bit (member x bit xs s.0 k) in
          (λ i. cond (le-ltb bit x (omega arith) i) (bit ∷ x ∷ drops bit xs) (cond (bit == x) (x ∷ drops bit xs) (x ∷ with_rank (drops bit xs) bit)))
          ∙ (λ i. cond (ne_eqb bit x (λ h. omega arith) i) (x ∷ drops bit xs) (x ∷ with_rank (drops bit xs) bit))
          ∙ ap (λ ys. x ∷ ys) (with_rank_drops xs bit s.1 k)
    ] refl h
  where
    member : (x bit : ℕ) (xs : List ℕ) → Above x xs → holds bit xs ≡ true → nat_cmp x bit ≡ Less
    member x bit [] up h = cc
    member x bit (y ∷ ys) up h =
        elim (nat_eq y bit) as (λ b. nat_eq y bit ≡ b → (b || holds bit ys) ≡ true → nat_cmp x bit ≡ Less) [
          | true ↦ λ e _. (let P : ℕ → Type 0 = λ n. nat_cmp x n ≡ Less in subst P (eqb-true y bit e) up.0)
          | false ↦ λ e k. member x bit ys up.1 k
        ] refl h

-- ---- the order stays

-- a rank below a whole list stands first
first_less : (x : ℕ) (xs ys : List ℕ) → Above x ys → ranks_cmp (x ∷ xs) ys ≡ Less
first_less x xs [] up = refl
first_less x xs (y ∷ ys) up = ap (λ r. ordering_then r (ranks_cmp xs ys)) up.0

drops_above : (x bit : ℕ) (rs : List ℕ) → Above x rs → Above x (drops bit rs)
drops_above x bit [] up = tt
drops_above x bit (r ∷ rs) up =
    elim (nat_eq r bit) as (λ b. Above x (cond (not b) (r ∷ drops bit rs) (drops bit rs))) [ true ↦ drops_above x bit rs up.1 | false ↦ (up.0, drops_above x bit rs up.1) ]

ranks_stay : (bit : ℕ) (xs ys : List ℕ) → IsStrictlySortedBy nat_cmp xs → IsStrictlySortedBy nat_cmp ys → holds bit xs ≡ true → holds bit ys ≡ true → ranks_cmp xs ys ≡ Less → ranks_cmp (drops bit xs) (drops bit ys) ≡ Less
unfolding IsStrictlySortedBy
ranks_stay bit [] ys s v h k l = cc
ranks_stay bit (x ∷ xs) [] s v h k l = cc
ranks_stay bit (x ∷ xs) (y ∷ ys) s v h k l =
    elim (cases_order x y) [
      | inl e ↦
          let tie : nat_cmp x y ≡ Equal = (let P : ℕ → Type 0 = λ n. nat_cmp x n ≡ Equal in subst P e (tied_itself nat_cmp_total x)) in
          let later : ranks_cmp xs ys ≡ Less = sym (ap (λ r. ordering_then r (ranks_cmp xs ys)) tie) ∙ l in
          elim (nat_eq x bit) as (λ b. nat_eq x bit ≡ b → (b || holds bit xs) ≡ true → ranks_cmp (cond (not b) (x ∷ drops bit xs) (drops bit xs)) (drops bit (y ∷ ys)) ≡ Less) [
            | true ↦ λ q _.
                let here : x ≡ bit = eqb-true x bit q in
                let ux : Above bit xs = (let P : ℕ → Type 0 = λ n. Above n xs in subst P here s.0) in
                let uy : Above bit ys = (let P : ℕ → Type 0 = λ n. Above n ys in subst P (sym e ∙ here) v.0) in
                let there : nat_eq y bit ≡ true = eq-eqb y bit (sym e ∙ here) in
                (λ i. ranks_cmp (lacks_stays bit xs (above_lacks bit xs ux) i) (cond (not (there i)) (y ∷ drops bit ys) (drops bit ys)))
                ∙ ap (ranks_cmp xs) (lacks_stays bit ys (above_lacks bit ys uy)) ∙ later
            | false ↦ λ q m.
                let there : nat_eq y bit ≡ false = ne_eqb y bit (λ w. eqb-false x bit q (e ∙ w)) in
                let ky : holds bit ys ≡ true = sym (ap (λ b. b || holds bit ys) there) ∙ k in
                (λ i. ranks_cmp (x ∷ drops bit xs) (cond (not (there i)) (y ∷ drops bit ys) (drops bit ys)))
                ∙ ap (λ r. ordering_then r (ranks_cmp (drops bit xs) (drops bit ys))) tie ∙ ranks_stay bit xs ys s.1 v.1 m ky later
          ] refl h
      | inr o ↦ elim o [
        | inl lt ↦
            let up : Above x ys = above_trans x y ys (cmp_less x y lt) v.0 in
            let here : nat_eq x bit ≡ false = ne_eqb x bit (λ e. absent x y ys bit lt up e k) in
            (λ i. ranks_cmp (cond (not (here i)) (x ∷ drops bit xs) (drops bit xs)) (drops bit (y ∷ ys)))
            ∙ first_less x (drops bit xs) (drops bit (y ∷ ys)) (drops_above x bit (y ∷ ys) (cmp_less x y lt, up))
        | inr gt ↦ absurd (never (ranks_cmp xs ys) (nat_cmp x y) (is_greater x y gt) l)
      ]
    ]
  where
    absent : (x y : ℕ) (ys : List ℕ) (bit : ℕ) → x < y → Above x ys → x ≡ bit → holds bit (y ∷ ys) ≡ true → ⊥
    absent x y ys bit lt up e k =
        let all : Above bit (y ∷ ys) = (let P : ℕ → Type 0 = λ n. Above n (y ∷ ys) in subst P e (cmp_less x y lt, up)) in
        let bad : true ≡ false = sym k ∙ above_lacks bit (y ∷ ys) all in cc

    never : (r o : Ordering) → o ≡ Greater → ordering_then o r ≡ Less → ⊥
    never r o e l = let bad : Greater ≡ Less = sym (ap (λ q. ordering_then q r) e) ∙ l in cc

-- the order of two monomials that have the bit is that of the two without it
pub order_stays : (bit : ℕ) (m n : Monomial) → IsStrictlySortedBy nat_cmp m.bits → IsStrictlySortedBy nat_cmp n.bits → has_bit bit m ≡ true → has_bit bit n ≡ true → text_cmp m n ≡ Less → text_cmp (without_bit bit m) (without_bit bit n) ≡ Less
order_stays bit m n s v h k l =
    elim (exponents_cmp m.exponents n.exponents) as (λ o. ordering_then o (ranks_cmp m.bits n.bits) ≡ Less → ordering_then o (ranks_cmp (drops bit m.bits) (drops bit n.bits)) ≡ Less) [
      | Less ↦ λ l. refl
      | Equal ↦ λ l. ranks_stay bit m.bits n.bits s v h k l
      | Greater ↦ λ l. cc
    ] l

-- ---- the terms with a bit, as a map

-- two tests agree where each holds only if the other does
same_test : (m n x y : Monomial) → (m ≡ n → x ≡ y) → (x ≡ y → m ≡ n) → eq_by_cmp text_cmp m n ≡ eq_by_cmp text_cmp x y
same_test m n x y there back =
    elim (text_cmp m n) as (λ r. text_cmp m n ≡ r → is_eq r ≡ is_eq (text_cmp x y)) [
      | Less ↦ λ e. sym (not_same m n x y (λ q. back q) (apart m n Less e (λ w. cc)))
      | Equal ↦ λ e. (let q = there (text_cmp-same m n e) in let P : Monomial → Type 0 = λ z. text_cmp x z ≡ Equal in sym (ap is_eq (subst P q (tied_itself text_cmp_total x))))
      | Greater ↦ λ e. sym (not_same m n x y (λ q. back q) (apart m n Greater e (λ w. cc)))
    ] refl
  where
    apart : (m n : Monomial) (o : Ordering) → text_cmp m n ≡ o → (o ≡ Equal → ⊥) → m ≡ n → ⊥
    apart m n o e ne q = ne (sym e ∙ (let P : Monomial → Type 0 = λ z. text_cmp m z ≡ Equal in subst P q (tied_itself text_cmp_total m)))

    not_same : (m n x y : Monomial) → (x ≡ y → m ≡ n) → (m ≡ n → ⊥) → is_eq (text_cmp x y) ≡ false
    not_same m n x y back ne =
        elim (text_cmp x y) as (λ r. text_cmp x y ≡ r → is_eq r ≡ false) [ Less ↦ λ e. refl | Equal ↦ λ e. absurd (ne (back (text_cmp-same x y e))) | Greater ↦ λ e. refl ] refl

-- without the bit and with it again
back_with : (bit : ℕ) (m : Monomial) → IsStrictlySortedBy nat_cmp m.bits → has_bit bit m ≡ true → with_bit bit (without_bit bit m) ≡ m
back_with bit m s h = λ i. record { exponents = m.exponents; bits = with_rank_drops m.bits bit s h i }

back_without : (bit : ℕ) (m : Monomial) → has_bit bit m ≡ false → without_bit bit (with_bit bit m) ≡ m
back_without bit m h = λ i. record { exponents = m.exponents; bits = drops_with_rank m.bits bit h i }

-- no term of the cofactor has the bit
none_with : (bit : ℕ) (m : Monomial) (ts : Terms) → has_bit bit m ≡ true → coefficient (cofactors bit ts) m ≡ 0
none_with bit m [] h = refl
none_with bit m (t ∷ ts) h =
    elim (has_bit bit t.0) as (λ v. unwrap_or (lookup (eq_by_cmp text_cmp m) (cond v ((without_bit bit t.0, t.1) ∷ cofactors bit ts) (cofactors bit ts))) 0 ≡ 0) [
      | true ↦
          elim (text_cmp m (without_bit bit t.0)) as (λ r. text_cmp m (without_bit bit t.0) ≡ r → unwrap_or (cond (is_eq r) (Some t.1) (lookup (eq_by_cmp text_cmp m) (cofactors bit ts))) 0 ≡ 0) [
            | Less ↦ λ e. none_with bit m ts h
            | Equal ↦ λ e. (let bad : true ≡ false = sym h ∙ ap (has_bit bit) (text_cmp-same m (without_bit bit t.0) e) ∙ drops_lacks bit t.0.bits in cc)
            | Greater ↦ λ e. none_with bit m ts h
          ] refl
      | false ↦ none_with bit m ts h
    ]

found_with : (bit : ℕ) (m : Monomial) (ts : Terms) → has_bit bit m ≡ false → AllByRecursion (λ u. IsStrictlySortedBy nat_cmp u.0.bits) ts → coefficient (cofactors bit ts) m ≡ coefficient ts (with_bit bit m)
found_with bit m [] h all = refl
found_with bit m (t ∷ ts) h all =
    elim (has_bit bit t.0) as (λ v. has_bit bit t.0 ≡ v → unwrap_or (lookup (eq_by_cmp text_cmp m) (cond v ((without_bit bit t.0, t.1) ∷ cofactors bit ts) (cofactors bit ts))) 0 ≡ unwrap_or (cond (eq_by_cmp text_cmp (with_bit bit m) t.0) (Some t.1) (lookup (eq_by_cmp text_cmp (with_bit bit m)) ts)) 0) [
      | true ↦ λ e.
          let same = same_test m (without_bit bit t.0) (with_bit bit m) t.0
          (λ q. ap (with_bit bit) q ∙ back_with bit t.0 all.0 e)
          (λ q. sym (back_without bit m h) ∙ ap (without_bit bit) q) in
          ap (λ b. unwrap_or (cond b (Some t.1) (lookup (eq_by_cmp text_cmp m) (cofactors bit ts))) 0) same
          ∙ either (eq_by_cmp text_cmp (with_bit bit m) t.0) t.1 (lookup (eq_by_cmp text_cmp m) (cofactors bit ts)) (lookup (eq_by_cmp text_cmp (with_bit bit m)) ts) (found_with bit m ts h all.1)
      | false ↦ λ e.
          found_with bit m ts h all.1
          ∙ ap (λ b. unwrap_or (cond b (Some t.1) (lookup (eq_by_cmp text_cmp (with_bit bit m)) ts)) 0) (sym (not_it bit m t.0 e))
    ] refl
  where
    either : (b : Bool) (c : ℕ) (x y : Option ℕ) → unwrap_or x 0 ≡ unwrap_or y 0 → unwrap_or (cond b (Some c) x) 0 ≡ unwrap_or (cond b (Some c) y) 0
    either true c x y h = refl
    either false c x y h = h

    not_it : (bit : ℕ) (m n : Monomial) → has_bit bit n ≡ false → eq_by_cmp text_cmp (with_bit bit m) n ≡ false
    not_it bit m n e =
        elim (text_cmp (with_bit bit m) n) as (λ r. text_cmp (with_bit bit m) n ≡ r → is_eq r ≡ false) [
          | Less ↦ λ q. refl
          | Equal ↦ λ q. (let bad : true ≡ false = sym (with_rank_holds m.bits bit) ∙ ap (has_bit bit) (text_cmp-same (with_bit bit m) n q) ∙ e in cc)
          | Greater ↦ λ q. refl
        ] refl

pub is_cofactor : (bit : ℕ) (ts : Terms) → IsMap ts → IsCofactor bit ts (cofactors bit ts)
is_cofactor bit ts map m =
    elim (has_bit bit m) as (λ v. has_bit bit m ≡ v → coefficient (cofactors bit ts) m ≡ cond v 0 (coefficient ts (with_bit bit m))) [
      | true ↦ λ e. none_with bit m ts e
      | false ↦ λ e. found_with bit m ts e map.rising
    ] refl
