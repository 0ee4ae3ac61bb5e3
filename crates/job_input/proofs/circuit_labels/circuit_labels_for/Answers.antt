use Rattle.std.proofs.Common.{◌≡◌, ◌∙◌, ◌+◌, ap, length, arith}
use Rattle.lists.specs.laws.HasLaws.{All_has}
use Rattle.net_core.specs.NetList.{NetList, nets}
use Rattle.net_words.specs.declared.bound.BoundWord.{BoundWord}
use Rattle.poly_mixed.specs.Labels.{Labelling, bit_count}
use Rattle.job_input.proofs.CircuitLabelLemmas.{counted}
use Rattle.job_input.proofs.circuit_labels.circuit_labels_for.Goals as goal

pub add_nets-requires-clause-count : goal.add_nets-requires-clause-count
add_nets-requires-clause-count c = c.nets-count.ensures.count ∙ ap (λ (n : NetList). nets n) c.net.ensures.net

pub add_nets-requires-clause-first : goal.add_nets-requires-clause-first
add_nets-requires-clause-first c =
    let bound = c.args.circuit.now.binding in
    let long = counted c.args.k bound.words c.args.words.now (λ word has. All_has (λ (u : BoundWord). length u.nets ≡ bound.k) bound.words word c.net.ensures.is_bound.flat.named has ∙ c.requires.bits) c.requires.roles in
    let ranks : c.ranks-first.result ≡ bit_count c.in_ok-labels.labels.words + length c.in_ok-labels.labels.nets = c.ranks-first.ensures in
    let words = ap (λ (l : Labelling). bit_count l.words) c.in_ok-labels.ensures in
    let none = ap (λ (l : Labelling). length l.nets) c.in_ok-labels.ensures in
    omega (arith, long, ranks, words, none)
