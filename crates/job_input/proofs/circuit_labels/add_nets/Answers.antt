use Rattle.std.proofs.Common.{◌≡◌, ◌∙◌, ◌<◌, nat_lt, List, ℕ, ap, sym, subst, arith}
use Rattle.net_core.specs.NetList.{nets}
use Rattle.net_words.specs.Roles.{stands_in}
use Rattle.net_words.specs.Variables.{bits}
use Rattle.poly_mixed.specs.Labels.{Differs, Labelling}
use Rattle.job_input.proofs.CircuitLabelLemmas.{bit_by_rank, differs_others, labels_step}
use Rattle.job_input.proofs.circuit_labels.add_nets.Goals as goal

pub add_net-requires : goal.add_net-requires
add_net-requires c =
    let P : List ℕ → Type 0 = Differs c.loop-net.net in
    subst P (sym (ap (λ (l : Labelling). l.nets) c.loop-net.invariant)) (differs_others (bits c.args.circuit.now.binding.words) c.loop-net.net)

pub loop-net-preserved : goal.loop-net-preserved
loop-net-preserved c =
    let list = bits c.args.circuit.now.binding.words in
    let n = c.loop-net.net in
    let less : n < nets c.args.circuit.now.net = omega (arith, c.loop-net-test.true, c.requires.count) in
    let is_bit : nat_lt c.from.result c.args.first ≡ stands_in list n =
    (λ i. nat_lt (c.from.ensures i) (c.requires.first i)) ∙ bit_by_rank list (nets c.args.circuit.now.net) c.rank_of.result n (c.rank_of.ensures.ranked less) in
    labels_step c.args.labels.now c.loop-net.labels c.add_net.new.labels list n (nat_lt c.from.result c.args.first) is_bit c.loop-net.invariant c.in_ok-add_net.ensures
