-- What unrolling keeps: the laws of the crate `unroll`.
use Rattle.std.proofs.Common.{◌≡◌, ◌↔◌, ◌≤◌, ◌^◌, ℕ, List, length, subst}
use Rattle.net_core.specs.NetList.{nets}
use Rattle.net_core.specs.Sound.{IsSound}
use Rattle.net_words.specs.Binding.{BoundNet}
use Rattle.net_words.specs.BoundTo.{IsBoundTo}
use Rattle.net_words.specs.OneCycle.{IsOneCycle}
use Rattle.gf_field.specs.Field.{HasNoZeroDivisors}
use Rattle.gf_field.specs.Ring.{IsRing}
use Rattle.circuit_model.specs.JobOfBinding.{job_with}
use Rattle.circuit_model.specs.OfBinding.{circuit_with, HaveBases}
use Rattle.circuit_model.specs.Out.{IsOut}
use Rattle.job_input.specs.CircuitOf.{all_cycles}
use Rattle.unroll.proofs.UnrolledLemmas.{unrolled_cycle, unrolled_sound, unrolled_output as output_of_unrolled}

-- within the limits
pub record IsSmall (netlist : BoundNet) (cycles : ℕ) : Type 0 where
  pub few : nets (all_cycles netlist cycles).net ≤ 2 ^ 20
  pub small : length (all_cycles netlist cycles).net.gates ≤ 2 ^ 20

-- the unrolled net list is sound, and its words are in one cycle
pub unrolled_one_cycle : (netlist : BoundNet) (cycles : ℕ) → IsSmall netlist cycles → IsSound netlist.net → IsBoundTo netlist.net netlist.binding → IsSound (all_cycles netlist cycles).net × IsOneCycle (all_cycles netlist cycles).net (all_cycles netlist cycles).binding
unfolding all_cycles
unrolled_one_cycle netlist cycles small sound bound = (unrolled_sound netlist.net netlist.binding cycles sound bound small.few small.small, unrolled_cycle netlist.net netlist.binding cycles sound bound)

-- its output is that of the job
pub unrolled_output : (k : ℕ) (product : ℕ → ℕ → ℕ) (netlist : BoundNet) (bases : List (List ℕ)) (cycles : ℕ) → netlist.binding.k ≡ k → IsRing k product → HasNoZeroDivisors k product → IsSmall netlist cycles → IsSound netlist.net → IsBoundTo netlist.net netlist.binding → HaveBases k netlist.binding.words bases
    → (xs : List ℕ) (e : ℕ) → IsOut (circuit_with k product (all_cycles netlist cycles) bases) xs e ↔ IsOut (job_with k product netlist bases cycles) xs e
unfolding all_cycles
unrolled_output k product netlist bases cycles bits ring field small sound bound have xs e =
    let P : ℕ → Type 0 = λ n. IsRing n product → HasNoZeroDivisors n product → HaveBases n netlist.binding.words bases → IsOut (circuit_with n product (all_cycles netlist cycles) bases) xs e ↔ IsOut (job_with n product netlist bases cycles) xs e in
    subst P bits (λ ring' field' have'. output_of_unrolled product netlist.net netlist.binding bases cycles xs e ring' field' sound bound have' small.few small.small) ring field have
