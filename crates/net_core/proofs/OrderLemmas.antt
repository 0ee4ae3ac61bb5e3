-- Sorted keys give the order.
use Rattle.std.proofs.Common.{◌≡◌, ◌≢◌, ◌∙◌, ap, sym, refl, inl, inr, subst, ℕ, zero, suc, ◌<◌, ◌≤◌, ◌+◌, false, cond, List, [], ◌∷◌, ◌++◌, length, get_or, Some, map, arith}
use Rattle.std.specs.Prelude.{slice_get, sum_by, All, Contains, ◌==◌}
use Rattle.std.specs.Ordering.{ordering_then, is_lt, nat_cmp}
use Rattle.std.specs.List.Sorted.{IsPermutation, IsSorted}
use Rattle.std.proofs.lemmas.List.Sorted.{All-permutation, Contains-permutation, sum_by-IsPermutation}
use Rattle.std.proofs.lemmas.List.Sums.{sum_by-cons}
use Rattle.std.proofs.lemmas.List.{length-map}
use Rattle.std.proofs.lemmas.Bool.Decides.{nat_tests}
use Rattle.std.proofs.lemmas.Option.{slice_get_within, get_or_from_slice_get}
use Rattle.lists.specs.Lists.{times}
use Rattle.lists.specs.laws.HasLaws.{times_two, times_some, Has_map, All_has}
use Rattle.lists.specs.laws.NumberLaws.{nat_eq_or}
use Rattle.lists.specs.laws.ListLaws.{length-push}
use Rattle.lists.specs.laws.ReadLaws.{get_below, get_front, get_here, got_at, from_map}
use Rattle.lists.specs.laws.TestLaws.{one_here, none_here}
use Rattle.net_core.specs.GateValue.{GateValue}
use Rattle.net_core.specs.NetList.{NetList}
use Rattle.net_core.specs.Level.{Levels}
use Rattle.net_core.specs.Order.{rank_at, IsBefore, IsOrder, AreKeys}

abbrev second : ℕ × ℕ → ℕ
second k = k.1

key_cmp_lt : (m l q p : ℕ) → is_lt (ordering_then (nat_cmp m l) (nat_cmp q p)) ≡ false → p ≢ q → IsBefore l p m q
key_cmp_lt m l q p not other = grind (arith, nat_tests)

times_here : (n : ℕ) (keys : List (ℕ × ℕ)) → times n (map second keys) ≡ sum_by (λ k. cond (k.1 == n) 1 0) keys
times_here n [] = refl
times_here n (k ∷ ks) = omega (arith, times_here n ks, sum_by-cons (λ (k : ℕ × ℕ). cond (k.1 == n) 1 0) k ks)

times_one : (n : ℕ) (xs : List ℕ) → ((i j : ℕ) → slice_get xs i ≡ Some n → slice_get xs j ≡ Some n → i ≡ j) → times n xs ≤ 1
times_one n [] apart = omega arith
times_one n (x ∷ xs) apart =
    elim (nat_eq_or x n) [
      | inl same ↦ none_after same
      | inr other ↦ omega (arith, none_here n x other, times_one n xs (λ i j first second. let e : suc i ≡ suc j = apart (suc i) (suc j) first second in omega arith))
    ]
  where
    more : (n : ℕ) (x : ℕ) (xs : List ℕ) → x ≡ n → ((i j : ℕ) → slice_get (x ∷ xs) i ≡ Some n → slice_get (x ∷ xs) j ≡ Some n → i ≡ j) → 1 ≤ times n xs → ⊥
    more n x xs same apart some = let has = times_some n xs some in let e : 0 ≡ suc has.0 = apart 0 (suc has.0) (ap Some same) has.1 in omega arith

    few : (t : ℕ) → (1 ≤ t → ⊥) → t ≡ 0
    few t never = omega (arith, never)

    none_after : x ≡ n → times n (x ∷ xs) ≤ 1
    none_after same = omega (arith, one_here n x same, few (times n xs) (more n x xs same apart))

-- the first k gates have their keys
pub record HasKeys (net : NetList) (levels : Levels) (k : ℕ) (keys : List (ℕ × ℕ)) : Type 0 where
  pub long : length keys ≡ k
  pub each : (p : ℕ) (g : GateValue) → p < k → slice_get net.gates p ≡ Some g → slice_get keys p ≡ Some (rank_at levels g.out, p)

pub no_keys : (net : NetList) (levels : Levels) (keys : List (ℕ × ℕ)) → keys ≡ [] → HasKeys net levels 0 keys
no_keys net levels keys is = record { long = ap length is; each = λ p g less got. absurd (omega arith) }

-- one more gate has its key
pub one_key_more : (net : NetList) (levels : Levels) (k level : ℕ) (keys new : List (ℕ × ℕ)) (g : GateValue) → slice_get net.gates k ≡ Some g → level ≡ rank_at levels g.out → new ≡ keys ++ (level, k) ∷ [] → HasKeys net levels k keys → HasKeys net levels (k + 1) new
one_key_more net levels k level keys new g here is made has =
    let P : List (ℕ × ℕ) → Type 0 = HasKeys net levels (k + 1) in
    let last : slice_get (keys ++ (level, k) ∷ []) k ≡ Some (level, k) = ap (slice_get (keys ++ (level, k) ∷ [])) (sym has.long) ∙ get_here keys (level, k) [] in
    subst P (sym made) (record {
      long = length-push keys (level, k) ∙ ap (λ (n : ℕ). n + 1) has.long;
      each = λ p h less got. elim (nat_eq_or p k) [
        | inl same ↦
            let got' : slice_get net.gates k ≡ Some h = ap (slice_get net.gates) (sym same) ∙ got in
            let whole : g ≡ h = cc in
            let rank : level ≡ rank_at levels h.out = is ∙ ap (λ (x : GateValue). rank_at levels x.out) whole in
            subst (λ (q : ℕ). slice_get (keys ++ (level, k) ∷ []) q ≡ Some (rank_at levels h.out, q)) (sym same) (subst (λ (r : ℕ). slice_get (keys ++ (level, k) ∷ []) k ≡ Some (r, k)) rank last)
        | inr other ↦ get_front keys ((level, k) ∷ []) p (rank_at levels h.out, p) (has.each p h (omega arith) got)
      ];
    })

pub keys_all : (net : NetList) (levels : Levels) (k : ℕ) (keys : List (ℕ × ℕ)) → k ≡ length net.gates → HasKeys net levels k keys → AreKeys net levels keys
keys_all net levels k keys count has = record { long = has.long ∙ count; each = λ p g got. has.each p g (omega (arith, slice_get_within net.gates p g got, count)) got }

-- what a key says
abbrev IsKey : NetList → Levels → ℕ × ℕ → Type 0
IsKey net levels k = (g : GateValue) × (slice_get net.gates k.1 ≡ Some g) × (k.0 ≡ rank_at levels g.out)

all_keys : (net : NetList) (levels : Levels) (keys : List (ℕ × ℕ)) → AreKeys net levels keys → All (IsKey net levels) keys
all_keys net levels keys are = λ k d less.
    let gate = get_below net.gates k (omega (arith, are.long)) in
    let is : get_or keys k d ≡ (rank_at levels gate.0.out, k) = get_or_from_slice_get keys k (rank_at levels gate.0.out, k) d (are.each k gate.0 gate.1) in
    let P : ℕ × ℕ → Type 0 = IsKey net levels in
    subst P (sym is) (gate.0, gate.1, refl)

apart_keys : (net : NetList) (levels : Levels) (keys : List (ℕ × ℕ)) → AreKeys net levels keys → (n i j : ℕ) → slice_get (map second keys) i ≡ Some n → slice_get (map second keys) j ≡ Some n → i ≡ j
apart_keys net levels keys are n i j first other = own i first ∙ sym (own j other)
  where
    own : (i : ℕ) → slice_get (map second keys) i ≡ Some n → i ≡ n
    own i got =
        let key = from_map second keys i n got in
        let gate = get_below net.gates i (omega (arith, are.long, slice_get_within keys i key.0 key.1)) in
        let is : Some key.0 ≡ Some (rank_at levels gate.0.out, i) = sym key.1 ∙ are.each i gate.0 gate.1 in
        let same : key.0 ≡ (rank_at levels gate.0.out, i) = cc in
        ap second (sym same) ∙ key.2

moved : (a a' p p' b b' q q' : ℕ) → a ≡ a' → p ≡ p' → b ≡ b' → q ≡ q' → IsBefore a p b q → IsBefore a' p' b' q'
moved a a' p p' b b' q q' e f g h before = rw (← e, ← f, ← g, ← h) before

pub order_of_keys : (net : NetList) (levels : Levels) (keys sorted : List (ℕ × ℕ)) → AreKeys net levels keys → IsPermutation keys sorted → length sorted ≡ length keys → IsSorted (λ x y. ordering_then (nat_cmp x.0 y.0) (nat_cmp x.1 y.1)) sorted → (order : List ℕ) → order ≡ map second sorted → IsOrder net levels order
order_of_keys net levels keys sorted are perm long rises order is =
    let P : List ℕ → Type 0 = IsOrder net levels in
    subst P (sym is) (record {
      long = length-map sorted second ∙ long ∙ are.long;
      each = λ p g got.
          let there : Contains keys (rank_at levels g.out, p) = (p, slice_get_within keys p (rank_at levels g.out, p) (are.each p g got), get_or_from_slice_get keys p (rank_at levels g.out, p) (rank_at levels g.out, p) (are.each p g got)) in
          let after = Contains-permutation keys sorted (rank_at levels g.out, p) perm there in
          Has_map second sorted (rank_at levels g.out, p) (after.0, got_at sorted after.0 (rank_at levels g.out, p) (rank_at levels g.out, p) after.1 after.2);
      within = λ p has.
          let k = from_map second sorted has.0 p has.1 in
          let g = All_has (IsKey net levels) sorted k.0 (All-permutation (IsKey net levels) keys sorted perm (all_keys net levels keys are)) (has.0, k.1) in
          (g.0, sym (ap (λ x. slice_get net.gates x) k.2) ∙ g.1);
      rises = λ i p q first other.
          let k = from_map second sorted i p first in
          let m = from_map second sorted (i + 1) q other in
          let g = All_has (IsKey net levels) sorted k.0 (All-permutation (IsKey net levels) keys sorted perm (all_keys net levels keys are)) (i, k.1) in
          let h = All_has (IsKey net levels) sorted m.0 (All-permutation (IsKey net levels) keys sorted perm (all_keys net levels keys are)) (i + 1, m.1) in
          let less : i + 1 < length sorted = slice_get_within sorted (i + 1) m.0 m.1 in
          let low = rises i k.0 (omega arith) less in
          let low' : is_lt (ordering_then (nat_cmp m.0.0 k.0.0) (nat_cmp m.0.1 k.0.1)) ≡ false = rw (get_or_from_slice_get sorted i k.0 k.0 k.1, get_or_from_slice_get sorted (i + 1) m.0 k.0 m.1) at low in
          let other' : k.0.1 ≢ m.0.1 = λ same.
          let few : times q (map second keys) ≤ 1 = times_one q (map second keys) (apart_keys net levels keys are q) in
          let e : p ≡ q = sym k.2 ∙ same ∙ m.2 in
          let first' : slice_get (map second sorted) i ≡ Some q = first ∙ ap Some e in
          let two : 2 ≤ times q (map second sorted) = times_two q (map second sorted) i (i + 1) first' other (omega arith) in
          omega (arith, times_here q keys, times_here q sorted, sum_by-IsPermutation (λ (k : ℕ × ℕ). cond (k.1 == q) 1 0) keys sorted perm) in
          let before : IsBefore k.0.0 k.0.1 m.0.0 m.0.1 = key_cmp_lt m.0.0 k.0.0 m.0.1 k.0.1 low' other' in
          (g.0, h.0, sym (ap (λ x. slice_get net.gates x) k.2) ∙ g.1, sym (ap (λ x. slice_get net.gates x) m.2) ∙ h.1, moved k.0.0 (rank_at levels g.0.out) k.0.1 p m.0.0 (rank_at levels h.0.out) m.0.1 q g.2 k.2 h.2 m.2 before);
    })

-- a gate that stands before another in the order
pub before_all : (net : NetList) (levels : Levels) (order : List ℕ) → IsOrder net levels order → (d j q p : ℕ) (h g : GateValue) → slice_get order j ≡ Some q → slice_get order (j + suc d) ≡ Some p → slice_get net.gates q ≡ Some h → slice_get net.gates p ≡ Some g → IsBefore (rank_at levels h.out) q (rank_at levels g.out) p
before_all net levels order is zero j q p h g first last gate_h gate_g =
    let next : j + suc zero ≡ j + 1 = omega arith in
    let r = is.rises j q p first (rw next at last) in
    let at_h : Some r.0 ≡ Some h = sym r.2 ∙ gate_h in
    let at_g : Some r.1 ≡ Some g = sym r.3 ∙ gate_g in
    let h' : r.0 ≡ h = cc in
    let g' : r.1 ≡ g = cc in
    let before : IsBefore (rank_at levels r.0.out) q (rank_at levels r.1.out) p = r.4 in
    rw (h', g') at before
before_all net levels order is (suc d) j q p h g first last gate_h gate_g =
    let less : j + suc (suc d) < length order = slice_get_within order (j + suc (suc d)) p last in
    let mid = get_below order (j + suc d) (omega arith) in
    let next : j + suc (suc d) ≡ (j + suc d) + 1 = omega arith in
    let r = is.rises (j + suc d) mid.0 p mid.1 (rw next at last) in
    let at_g : Some r.1 ≡ Some g = sym r.3 ∙ gate_g in
    let g' : r.1 ≡ g = cc in
    let before : IsBefore (rank_at levels r.0.out) mid.0 (rank_at levels r.1.out) p = r.4 in
    let front = before_all net levels order is d j q mid.0 h r.0 first mid.1 gate_h r.2 in
    joined (rank_at levels h.out) (rank_at levels r.0.out) (rank_at levels g.out) q mid.0 p front (rw g' at before)
  where
    joined : (a b c q m p : ℕ) → IsBefore a q b m → IsBefore b m c p → IsBefore a q c p
    joined a b c q m p first second = grind arith
