-- Gates that get their values one after another keep the bits of primary inputs and of latches.
use Rattle.std.proofs.Common.{◌∙◌, sym, Bool, List}
use Rattle.std.proofs.Math.ListN.{set}
use Rattle.lists.specs.Lists.{Has}
use Rattle.net_core.specs.GateValue.{GateValue}
use Rattle.net_core.specs.NetList.{NetList}
use Rattle.net_core.specs.Sound.{IsSound}
use Rattle.net_core.specs.Value.{HasSourceBits}
use Rattle.net_core.proofs.DriverLemmas.{source_no_gate}
use Rattle.net_core.proofs.EvalLemmas.{bit_set_other}

pub sources_step : (net : NetList) (before bits : List Bool) (v : Bool) (g : GateValue) → IsSound net → HasSourceBits net before bits → Has net.gates g → HasSourceBits net before (set bits g.out v)
sources_step net before bits v g sound has gate = λ n source. bit_set_other bits g.out v n (λ same. source_no_gate net n g sound.inside sound.one source gate (sym same)) ∙ has n source
