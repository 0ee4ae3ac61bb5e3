-- Sorted levels and numbers give the order: the points are seen as gates without inputs, each of which drives the net of its number.
use Rattle.std.proofs.Common.{◌≡◌, ◌∙◌, ap, sym, refl, subst, ℕ, zero, suc, ◌+◌, List, [], ◌∷◌, length, map, Some, arith}
use Rattle.std.specs.Prelude.{slice_get, slice_index}
use Rattle.std.specs.List.Sorted.{IsPermutation, IsSorted}
use Rattle.std.specs.Ordering.{nat_cmp, ordering_then}
use Rattle.std.proofs.lemmas.Option.{get_or_from_slice_get, slice_get_within}
use Rattle.lists.specs.laws.ReadLaws.{get_below}
use Rattle.net_core.specs.GateValue.{GateValue}
use Rattle.net_core.specs.Level.{Levels}
use Rattle.net_core.specs.NetList.{NetList}
use Rattle.net_core.specs.Order.{rank_at, IsBefore, IsOrder, AreKeys as AreGateKeys}
use Rattle.net_core.proofs.OrderLemmas.{order_of_keys}
use Rattle.compose_polys.specs.LevelOrder.{IsOrderBy}
use Rattle.compose_polys.specs.private.Keys.{AreKeys}

abbrev gates_from : ℕ → List ℕ → List GateValue
gates_from n [] = []
gates_from n (l ∷ ls) = record { out = n; inputs = []; table = 0 } ∷ gates_from (suc n) ls

abbrev net_of : List ℕ → NetList
net_of levels = record { labels = []; inputs = []; outputs = []; gates = gates_from 0 levels; latches = [] }

abbrev known : List ℕ → Levels
known levels = map Some levels

gates_long : (n : ℕ) (ls : List ℕ) → length (gates_from n ls) ≡ length ls
gates_long n [] = refl
gates_long n (l ∷ ls) = ap suc (gates_long (suc n) ls)

gate_out : (n : ℕ) (ls : List ℕ) (p : ℕ) (g : GateValue) → slice_get (gates_from n ls) p ≡ Some g → g.out ≡ p + n
gate_out n [] p g got = absurd (cc)
gate_out n (l ∷ ls) zero g got = let same : record { out = n; inputs = []; table = 0 } ≡ g = cc in ap (λ (x : GateValue). x.out) (sym same) ∙ omega arith
gate_out n (l ∷ ls) (suc p) g got = gate_out (suc n) ls p g got ∙ omega arith

rank_is : (levels : List ℕ) (p : ℕ) → rank_at (known levels) p ≡ slice_index levels p
rank_is [] zero = refl
rank_is [] (suc p) = refl
rank_is (l ∷ levels) zero = refl
rank_is (l ∷ levels) (suc p) = rank_is levels p

gate_keys : (levels : List ℕ) (keys : List (ℕ × ℕ)) → AreKeys levels keys → AreGateKeys (net_of levels) (known levels) keys
gate_keys levels keys are = record {
  long = are.long ∙ sym (gates_long 0 levels);
  each = λ p g got.
      let out : g.out ≡ p = gate_out 0 levels p g got ∙ omega arith in
      let level = get_below levels p (omega (arith, slice_get_within (gates_from 0 levels) p g got, gates_long 0 levels)) in
      let read : level.0 ≡ rank_at (known levels) g.out = sym (get_or_from_slice_get levels p level.0 0 level.1) ∙ sym (rank_is levels p) ∙ ap (rank_at (known levels)) (sym out) in
      are.each p level.0 level.1 ∙ ap (λ l. Some (l, p)) read;
}

pub order_from_keys : (levels : List ℕ) (keys sorted : List (ℕ × ℕ)) → AreKeys levels keys → IsPermutation keys sorted → length sorted ≡ length keys → IsSorted (λ x y. ordering_then (nat_cmp x.0 y.0) (nat_cmp x.1 y.1)) sorted → (order : List ℕ) → order ≡ map (λ (k : ℕ × ℕ). k.1) sorted → IsOrderBy levels order
order_from_keys levels keys sorted are perm long rises order e = made
  where
    is : IsOrder (net_of levels) (known levels) order
    is = order_of_keys (net_of levels) (known levels) keys sorted (gate_keys levels keys are) perm long rises order e

    made : IsOrderBy levels order
    made = record {
      long = is.long ∙ gates_long 0 levels;
      each = λ a less.
          let gate = get_below (gates_from 0 levels) a (omega (arith, less, gates_long 0 levels)) in
          is.each a gate.0 gate.1;
      within = λ a has.
          let gate = is.within a has in
          omega (arith, slice_get_within (gates_from 0 levels) a gate.0 gate.1, gates_long 0 levels);
      rises = λ i a b first second.
          let r = is.rises i a b first second in
          let out_a : r.0.out ≡ a = gate_out 0 levels a r.0 r.2 ∙ omega arith in
          let out_b : r.1.out ≡ b = gate_out 0 levels b r.1 r.3 ∙ omega arith in
          let P : ℕ → ℕ → Type 0 = λ l m. IsBefore l a m b in
          let Q : ℕ → Type 0 = λ m. P (slice_index levels a) m in
          let R : ℕ → Type 0 = λ l. P l (rank_at (known levels) r.1.out) in
          subst Q (ap (rank_at (known levels)) out_b ∙ rank_is levels b) (subst R (ap (rank_at (known levels)) out_a ∙ rank_is levels a) r.4);
    }
