use Rattle.net_words.proofs.FlatLemmas.{HaveNetsTo}
use Rattle.net_words.proofs.combinational.have_nets.Given as goal

abbrev pub invariant-loop-w : goal.invariant-loop-w
invariant-loop-w l = HaveNetsTo l.binding.k l.binding.words l.w
