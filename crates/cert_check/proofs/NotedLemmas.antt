-- The gates that drive nets, noted from the last one to the first.
use Rattle.std.proofs.Common.{◌≡◌, ◌∙◌, ap, sym, subst, inl, inr, ℕ, ◌<◌, ◌≤◌, ◌+◌, ◌==◌, cond, List, ◌∷◌, length, drop, get_or, replicate, slice_get, slice_set, Option, Some, None, IfSome, option_map, length-set, get_or-set_same, get_or-set_other, eq-eqb, ne_eqb, arith}
use Rattle.std.specs.Slice.{IsItemAt}
use Rattle.std.proofs.lemmas.Option.{slice_get_past}
use denote.Ref.{Bor}
use Rattle.std.proofs.lemmas.List.{drop_all, drop_more, length-replicate, get_or-replicate}
use Rattle.lists.specs.Lists.{Has}
use Rattle.lists.specs.laws.NumberLaws.{nat_eq_or}
use Rattle.lists.specs.laws.ReadLaws.{got_read}
use Rattle.net_core.specs.GateValue.{GateValue}
use Rattle.net_core.specs.NetList.{NetList, nets}
use Rattle.net_core.specs.Sound.{IsSound}
use Rattle.net_core.proofs.DriverLemmas.{gate_inside}
use Rattle.cert_check.specs.private.Reading.{AreDriversFrom}

-- before a gate is noted
pub none_noted : (gates : List GateValue) (count i : ℕ) (drivers : List (Option ℕ)) → drivers ≡ replicate count None → length gates ≤ i → AreDriversFrom i (drop i gates) count drivers
none_noted gates count i drivers is past =
    let none : Option ℕ = None in
    let G : List GateValue → Type 0 = λ gs. AreDriversFrom i gs count (replicate count none) in
    let D : List (Option ℕ) → Type 0 = λ xs. AreDriversFrom i (drop i gates) count xs in
    subst D (sym is) (subst G (sym (drop_all i gates past)) (record { long = length-replicate count none; each = λ n less. get_or-replicate count n none none less }))

put_at : (drivers : List (Option ℕ)) (m n : ℕ) (v : Option ℕ) → m < length drivers → get_or (slice_set drivers m v) n None ≡ cond (m == n) v (get_or drivers n None)
put_at drivers m n v less = elim (nat_eq_or m n) [
  | inl same ↦
      ap (λ (k : ℕ). get_or (slice_set drivers m v) k None) (sym same)
      ∙ (get_or-set_same drivers m v None less
      ∙ sym (ap (λ b. cond b v (get_or drivers n None)) (eq-eqb m n same)))
  | inr other ↦ get_or-set_other drivers m n v None (λ e. other (sym e)) ∙ sym (ap (λ b. cond b v (get_or drivers n None)) (ne_eqb m n other))
]

-- a gate that is read drives a net that there is
pub read_inside : (net : NetList) (gates : List GateValue) (i : ℕ) (g : GateValue) → IsSound net → gates ≡ net.gates → i < length gates → g ≡ get_or gates i g → g.out < nets net
read_inside net gates i g sound same less is =
    let P : List GateValue → Type 0 = λ gs. slice_get gs i ≡ Some g in
    (gate_inside net g sound.inside (i, subst P same (got_read gates i g less is))).0

-- one more gate
pub gate_noted : (gates : List GateValue) (count i j : ℕ) (g : GateValue) (old new : List (Option ℕ)) → i ≡ j + 1 → j < length gates → g ≡ get_or gates j g → g.out < count → new ≡ slice_set old g.out (Some j) → AreDriversFrom i (drop i gates) count old → AreDriversFrom j (drop j gates) count new
gate_noted gates count i j g old new next less is inside set are =
    let P : ℕ → Type 0 = λ m. AreDriversFrom m (drop m gates) count old in
    let more : AreDriversFrom (j + 1) (drop (j + 1) gates) count old = subst P next are in
    let here : drop j gates ≡ g ∷ drop (j + 1) gates = drop_more gates j g less ∙ ap (λ (x : GateValue). x ∷ drop (j + 1) gates) (sym is) in
    let room : g.out < length old = omega (arith, inside, more.long) in
    let G : List GateValue → Type 0 = λ gs. AreDriversFrom j gs count new in
    let N : List (Option ℕ) → Type 0 = λ xs. AreDriversFrom j (g ∷ drop (j + 1) gates) count xs in
    subst G (sym here)
    (subst N (sym set)
    (record {
      long = length-set old g.out (Some j) ∙ more.long;
      each = λ n fits. put_at old g.out n (Some j) room ∙ ap (λ (o : Option ℕ). cond (g.out == n) (Some j) o) (more.each n fits);
    }))

-- what is looked up in a list
pub looked_up : (gates : List GateValue) (i : ℕ) (r : Option (Bor GateValue)) → IsItemAt gates i r → option_map (λ (g : Bor GateValue). g.now) r ≡ slice_get gates i
looked_up gates i None at = sym (slice_get_past gates i at.3)
looked_up gates i (Some g) at = sym (got_read gates i g.now at.3.0 at.1)

pub looked_among : (gates all : List GateValue) (i : ℕ) (r : Option (Bor GateValue)) → gates ≡ all → IsItemAt gates i r → IfSome r (λ g. Has all g.now)
looked_among gates all i None same at = tt
looked_among gates all i (Some g) same at = let P : List GateValue → Type 0 = λ gs. Has gs g.now in subst P same (i, got_read gates i g.now at.3.0 at.1)
