use Rattle.net_verilog.specs.Assigns.{Assigns}
use Rattle.net_verilog.proofs.ExistsLemmas.{assigns_leaves, some_assigns, some_several}
use Rattle.net_verilog.proofs.laws.some_assignment_or_fault.Goals as goal

pub returns : goal.returns
returns c = λ declared net tokens. some_several (Assigns declared) (assigns_leaves declared) (some_assigns declared) net tokens
