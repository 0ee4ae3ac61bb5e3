-- A term taken out of a polynomial, for its cofactor.
use Rattle.std.proofs.Common.{◌≡◌, ℕ, ◌<◌, ◌≢◌, Bool, true, false, cond, not, [], ◌∷◌, length, Some, nat_eq, bit_xor, refl, sym, ◌∙◌, ap, subst, arith}
use lib.Bits.{xor_zero_r, xor_assoc}
use Rattle.std.specs.List.{AllByRecursion}
use Rattle.std.specs.List.Sorted.{IsStrictlySortedBy}
use Rattle.std.specs.Map.{lookup, remove_entry}
use Rattle.std.specs.Option.{unwrap_or}
use Rattle.std.specs.Ordering.{nat_cmp, eq_by_cmp}
use Rattle.lists.specs.laws.BoolLaws.{either}
use Rattle.lists.specs.laws.XorLaws.{xor_swap}
use Rattle.poly_mixed.specs.Cofactor.{LacksBit, lacking, cofactors, without_bit}
use Rattle.poly_mixed.specs.Monomial.{Monomial, has_bit, text_cmp, text_cmp_total}
use Rattle.poly_mixed.specs.Polynomial.{Terms, IsMap, coefficient}
use Rattle.poly_mixed.specs.Sum.{xor_sum, plus_term}
use Rattle.poly_mixed.specs.private.Indexed.{IsTaken}
use Rattle.poly_mixed.proofs.CofactorLemmas.{cofactors_map, none_of_absent, rising-filter}
use Rattle.poly_mixed.proofs.PlaceLemmas.{is_same, removed_map, fewer}
use Rattle.poly_mixed.proofs.SumLemmas.{found_is_sum, at}
use Rattle.poly_mixed.proofs.ValueLemmas.{map_plus, one_map, coefficient-plus, same_map}

one_of : (x y : ℕ) → Some x ≡ Some y → x ≡ y
one_of x y e = ap (λ o. unwrap_or o x) e

abbrev same : Monomial → Monomial → Bool
same m q = eq_by_cmp text_cmp m q

-- the terms that lack the bit stay
pub lacking_left : (bit : ℕ) (m : Monomial) (ts : Terms) → has_bit bit m ≡ true → lacking bit (remove_entry (same m) ts) ≡ lacking bit ts
lacking_left bit m [] has = refl
lacking_left bit m (t ∷ ts) has = either (same m t.0)
    (λ y.
    let P : Monomial → Type 0 = λ q. has_bit bit q ≡ true in
    ap (λ b. lacking bit (cond b ts (t ∷ remove_entry (same m) ts))) y ∙ sym (ap (λ b. cond (not b) (t ∷ lacking bit ts) (lacking bit ts)) (subst P (is_same m t.0 y) has)))
    (λ n.
    ap (λ b. lacking bit (cond b ts (t ∷ remove_entry (same m) ts))) n
    ∙ ap (λ us. cond (not (has_bit bit t.0)) (t ∷ us) us) (lacking_left bit m ts has))

-- the cofactor is what the term gives and the cofactor of the others
pub sum_left : (f : Monomial × ℕ → ℕ) (bit c : ℕ) (m : Monomial) (ts : Terms) → has_bit bit m ≡ true → lookup (same m) ts ≡ Some c
    → xor_sum f (cofactors bit ts) ≡ bit_xor (f (without_bit bit m, c)) (xor_sum f (cofactors bit (remove_entry (same m) ts)))
sum_left f bit c m [] has had = absurd (cc)
sum_left f bit c m (t ∷ ts) has had = either (same m t.0)
    (λ y.
    let e : m ≡ t.0 = is_same m t.0 y in
    let P : Monomial → Type 0 = λ q. has_bit bit q ≡ true in
    let v : t.1 ≡ c = one_of t.1 c (sym (ap (λ b. cond b (Some t.1) (lookup (same m) ts)) y) ∙ had) in
    ap (λ b. xor_sum f (cond b ((without_bit bit t.0, t.1) ∷ cofactors bit ts) (cofactors bit ts))) (subst P e has)
    ∙ (λ i. bit_xor (f (without_bit bit (sym e i), v i)) (xor_sum f (cofactors bit ts)))
    ∙ sym (ap (λ b. bit_xor (f (without_bit bit m, c)) (xor_sum f (cofactors bit (cond b ts (t ∷ remove_entry (same m) ts))))) y))
    (λ n.
    let rest = sum_left f bit c m ts has (sym (ap (λ b. cond b (Some t.1) (lookup (same m) ts)) n) ∙ had) in
    let u : ℕ = f (without_bit bit m, c) in
    let others : Terms = remove_entry (same m) ts in
    elim (has_bit bit t.0) as (λ b. xor_sum f (cond b ((without_bit bit t.0, t.1) ∷ cofactors bit ts) (cofactors bit ts)) ≡ bit_xor u (xor_sum f (cond b ((without_bit bit t.0, t.1) ∷ cofactors bit others) (cofactors bit others)))) [
      | true ↦ ap (bit_xor (f (without_bit bit t.0, t.1))) rest ∙ xor_swap (f (without_bit bit t.0, t.1)) u (xor_sum f (cofactors bit others))
      | false ↦ rest
    ]
    ∙ sym (ap (λ b. bit_xor u (xor_sum f (cofactors bit (cond b ts (t ∷ others))))) n))

-- a part of the cofactor of init, and that of the terms ts that are left
abbrev pub IsPart : ℕ → Terms → Terms → Terms → Type 0
IsPart bit part ts init = (q : Monomial) → bit_xor (coefficient part q) (coefficient (cofactors bit ts) q) ≡ coefficient (cofactors bit init) q

rises_in : (m : Monomial) (c : ℕ) (ts : Terms) → AllByRecursion (λ t. IsStrictlySortedBy nat_cmp t.0.bits) ts → lookup (same m) ts ≡ Some c → IsStrictlySortedBy nat_cmp m.bits
rises_in m c [] all h = absurd (cc)
rises_in m c (t ∷ ts) all h = either (same m t.0)
    (λ y. let P : Monomial → Type 0 = λ q. IsStrictlySortedBy nat_cmp q.bits in subst P (sym (is_same m t.0 y)) all.0)
    (λ n. rises_in m c ts all.1 (sym (ap (λ b. cond b (Some t.1) (lookup (same m) ts)) n) ∙ h))

nonzero_in : (m : Monomial) (c : ℕ) (ts : Terms) → AllByRecursion (λ t. t.1 ≢ 0) ts → lookup (same m) ts ≡ Some c → c ≢ 0
nonzero_in m c [] all h = absurd (cc)
nonzero_in m c (t ∷ ts) all h = either (same m t.0)
    (λ y. let P : ℕ → Type 0 = λ n. n ≢ 0 in subst P (one_of t.1 c (sym (ap (λ b. cond b (Some t.1) (lookup (same m) ts)) y) ∙ h)) all.0)
    (λ n. nonzero_in m c ts all.1 (sym (ap (λ b. cond b (Some t.1) (lookup (same m) ts)) n) ∙ h))

pub nonzero_taken : (ts us : Terms) (t : Monomial × ℕ) → IsMap ts → IsTaken ts t us → t.1 ≢ 0
nonzero_taken ts us t is taken = nonzero_in t.0 t.1 ts is.nonzero taken.had

pub map_taken : (ts us : Terms) (t : Monomial × ℕ) → IsMap ts → IsTaken ts t us → IsMap us
map_taken ts us t is taken = let P : Terms → Type 0 = IsMap in subst P (sym taken.left) (removed_map t.0 ts is)

pub fewer_taken : (ts us : Terms) (t : Monomial × ℕ) → IsTaken ts t us → length us < length ts
fewer_taken ts us t taken =
    let r = fewer text_cmp text_cmp_total (same t.0) ts t.1 taken.had in
    let e : length us ≡ length (remove_entry (same t.0) ts) = ap (λ (vs : Terms). length vs) taken.left in
    omega (arith, r, e)

-- one turn
pub part_turn : (bit : ℕ) (ts us part new init : Terms) (t : Monomial × ℕ) (m : Monomial) → IsMap ts → IsTaken ts t us → has_bit bit t.0 ≡ true → m ≡ without_bit bit t.0 → IsMap part → new ≡ plus_term text_cmp part (m, t.1) → IsPart bit part ts init
    → IsMap new × IsPart bit new us init
part_turn bit ts us part new init t m is taken has gives part_is sum inv =
    let P : Terms → Type 0 = IsMap in
    let u : Monomial × ℕ = (without_bit bit t.0, t.1) in
    let one : IsMap (u ∷ []) = one_map (without_bit bit t.0) t.1 (rising-filter (λ r. not (nat_eq r bit)) t.0.bits (rises_in t.0 t.1 ts is.rising taken.had)) (nonzero_taken ts us t is taken) in
    let now : new ≡ plus_term text_cmp part u = sum ∙ ap (λ (q : Monomial). plus_term text_cmp part (q, t.1)) gives in
    let left_is : IsMap us = map_taken ts us t is taken in (
      subst P (sym now) (map_plus part (u ∷ []) part_is one),
      λ q.
          let split : coefficient (cofactors bit ts) q ≡ bit_xor (coefficient (u ∷ []) q) (coefficient (cofactors bit us) q) =
          found_is_sum text_cmp text_cmp_total (cofactors bit ts) q (cofactors_map bit ts is).sorted
          ∙ sum_left (at text_cmp q) bit t.1 t.0 ts has taken.had
          ∙ ap (λ (vs : Terms). bit_xor (at text_cmp q u) (xor_sum (at text_cmp q) (cofactors bit vs))) (sym taken.left)
          ∙ (λ i. bit_xor ((sym (found_is_sum text_cmp text_cmp_total (u ∷ []) q one.sorted ∙ xor_zero_r (at text_cmp q u))) i) ((sym (found_is_sum text_cmp text_cmp_total (cofactors bit us) q (cofactors_map bit us left_is).sorted)) i)) in
          ap (λ (vs : Terms). bit_xor (coefficient vs q) (coefficient (cofactors bit us) q)) now
          ∙ ap (λ n. bit_xor n (coefficient (cofactors bit us) q)) (coefficient-plus part (u ∷ []) q part_is one)
          ∙ xor_assoc (coefficient part q) (coefficient (u ∷ []) q) (coefficient (cofactors bit us) q)
          ∙ ap (bit_xor (coefficient part q)) (sym split)
          ∙ inv q,
    )

-- where no term with the bit is left the part is the cofactor
pub part_whole : (bit : ℕ) (ts part init : Terms) → LacksBit bit ts → IsMap part → IsMap init → IsPart bit part ts init → part ≡ cofactors bit init
part_whole bit ts part init lacks part_is init_is inv =
    same_map part (cofactors bit init) part_is (cofactors_map bit init init_is) (λ q.
    sym (xor_zero_r (coefficient part q)) ∙ sym (ap (λ (vs : Terms). bit_xor (coefficient part q) (coefficient vs q)) (none_of_absent bit ts lacks)) ∙ inv q)
