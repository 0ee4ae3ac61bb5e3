-- Each sound net list has an order of elimination, and only one.
use Rattle.std.proofs.Common.{◌≡◌, ◌∙◌, ap, sym, refl, subst, ℕ, ◌<◌, ◌+◌, List, length, Some, reverse}
use Rattle.std.specs.Prelude.{slice_get}
use Rattle.std.specs.Option.{option_map_or}
use Rattle.std.proofs.lemmas.List.{reverse-reverse, length-reverse}
use Rattle.std.proofs.lemmas.Option.{slice_get_within}
use Rattle.lists.specs.laws.HasLaws.{all_in}
use Rattle.lists.specs.laws.ReadLaws.{get_below}
use Rattle.net_core.specs.GateValue.{GateValue}
use Rattle.net_core.specs.NetList.{NetList}
use Rattle.net_core.specs.Sound.{IsSound}
use Rattle.net_core.specs.Level.{Levels}
use Rattle.net_core.specs.Order.{rank_at, IsBefore, IsOrder, IsLevelOrder, IsElimination}
use Rattle.net_core.proofs.ExistLemmas.{sound_levels}
use Rattle.net_core.proofs.LawLemmas.{order_only}
use Rattle.stage_model.proofs.SortLemmas.{sorted, sorted_is, next, Lower}

-- the output of the gate at a position
abbrev out_at : NetList → ℕ → ℕ
out_at net p = option_map_or (λ (g : GateValue). g.out) (slice_get net.gates p) 0

abbrev key_of : NetList → Levels → ℕ → ℕ
key_of net levels p = rank_at levels (out_at net p)

out_is : (net : NetList) (p : ℕ) (g : GateValue) → slice_get net.gates p ≡ Some g → out_at net p ≡ g.out
out_is net p g got = rw got refl

level_order : (net : NetList) (levels : Levels) → IsOrder net levels (sorted (key_of net levels) (length net.gates))
level_order net levels =
    let is = sorted_is (key_of net levels) (length net.gates) in
    let order = sorted (key_of net levels) (length net.gates) in
    record {
      long = is.long;
      each = λ p g got. is.whole p (slice_get_within net.gates p g got);
      within = λ p has. get_below net.gates p (all_in (λ x. x < length net.gates) order p is.inside has);
      rises = λ i p q first second.
          let g = get_below net.gates p (all_in (λ x. x < length net.gates) order p is.inside (i, first)) in
          let h = get_below net.gates q (all_in (λ x. x < length net.gates) order q is.inside (i + 1, second)) in
          (g.0, h.0, g.1, h.1, moved p q g.0 h.0 g.1 h.1 (next (key_of net levels) order i p q is.rises first second));
    }
  where
    moved : (p q : ℕ) (g h : GateValue) → slice_get net.gates p ≡ Some g → slice_get net.gates q ≡ Some h → Lower (key_of net levels) p q → IsBefore (rank_at levels g.out) p (rank_at levels h.out) q
    moved p q g h at_p at_q low =
        let P : ℕ → Type 0 = λ a. IsBefore (rank_at levels a) p (rank_at levels h.out) q in
        let Q : ℕ → Type 0 = λ b. IsBefore (rank_at levels (out_at net p)) p (rank_at levels b) q in
        subst P (out_is net p g at_p) (subst Q (out_is net q h at_q) low)

pub some_elimination : (net : NetList) → IsSound net → (order : List ℕ) × IsElimination net order
some_elimination net sound =
    let found = sound_levels net sound in
    let order = sorted (key_of net found.0) (length net.gates) in
    let P : List ℕ → Type 0 = IsLevelOrder net in
    (reverse order, subst P (sym (reverse-reverse order)) (found.0, found.1.0, level_order net found.0))

pub one_elimination : (net : NetList) → IsSound net → (order other : List ℕ) → IsElimination net order → IsElimination net other → order ≡ other
one_elimination net sound order other first second =
    sym (reverse-reverse order) ∙ (ap reverse (order_only net (reverse order) (reverse other) sound.one first second) ∙ reverse-reverse other)

pub elimination_long : (net : NetList) (order : List ℕ) → IsElimination net order → length order ≡ length net.gates
elimination_long net order is = sym (length-reverse order) ∙ is.2.long
