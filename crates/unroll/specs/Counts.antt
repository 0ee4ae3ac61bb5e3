-- How large an unrolled net list is, and its circuit. Source: this project's own.
use Rattle.std.specs.Prelude.{◌≡◌, ◌↔◌, ℕ, ◌≤◌, ◌+◌, ◌*◌, not, false, List, length, filter}
use Rattle.lists.specs.Limits.{most_nets}
use Rattle.net_core.specs.NetList.{NetList, nets}
use Rattle.net_words.specs.Binding.{Binding}
use Rattle.net_words.specs.Feeds.{is_fed}
use Rattle.net_words.specs.Roles.{same_role}
use Rattle.net_words.specs.declared.word.Role.TheVariants.{Fed}
use Rattle.circuit_model.specs.BasedNet.{BasedNet}
use Rattle.circuit_model.specs.Circuit.{Circuit}
use Rattle.circuit_model.specs.OfBinding.{circuit_with}
use Rattle.circuit_model.specs.Out.{IsOut}
use Rattle.unroll.specs.Gates.{is_held}
use Rattle.unroll.specs.Unrolled.{is_flat, unrolled}

-- there is something to unroll
abbrev pub IsToUnroll : NetList → Binding → Type 0
IsToUnroll net binding = is_flat net binding ≡ false

-- how many words are fed
abbrev pub fed_words : Binding → ℕ
fed_words binding = length (filter (λ word. same_role word.role Fed) binding.words)

-- The gates of the net list in c cycles after the first and in the first; one for each latch in no state word; one for each
-- latch and each primary input in the cycles after the first; and one for each fed net in the first.
abbrev pub gate_count : NetList → Binding → ℕ → ℕ
gate_count net binding c = (c + 1) * length net.gates + length (filter (λ latch. not (is_held binding latch)) net.latches) + c * (length net.inputs + length net.latches) + length (filter (is_fed binding.feeds) net.inputs)

-- neither nets nor gates are more than the limit
pub record IsSmall (net : NetList) : Type 0 where
  pub few_nets : nets net ≤ most_nets
  pub few_gates : length net.gates ≤ most_nets

-- the net list of all cycles of a net list in bases
abbrev pub unrolled_net : BasedNet → ℕ → NetList
unrolled_net based c = (unrolled based.netlist.net based.netlist.binding c).net

-- its circuit, in the same bases
abbrev pub unrolled_circuit : BasedNet → ℕ → Circuit
unrolled_circuit based c = circuit_with based.k based.product (unrolled based.netlist.net based.netlist.binding c) based.bases

-- two circuits have the same outputs at each input
abbrev pub HaveSameOutputs : Circuit → Circuit → Type 0
HaveSameOutputs circuit other = (xs : List ℕ) (e : ℕ) → IsOut circuit xs e ↔ IsOut other xs e
