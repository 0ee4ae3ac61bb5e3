-- A gate's output and inputs exist.
use Rattle.std.proofs.Common.{◌≡◌, ℕ, ◌<◌, ◌≤◌, List, length, get_or, sym, ◌∙◌, ap}
use Rattle.std.specs.Prelude.{slice_get}
use Rattle.std.proofs.lemmas.Option.{slice_get-get_or}
use Rattle.lists.specs.Lists.{Has}
use Rattle.net_core.specs.GateValue.{GateValue}
use Rattle.net_core.specs.NetList.{NetList, nets}
use Rattle.net_core.specs.Sound.{IsSound}
use Rattle.net_core.proofs.DriverLemmas.{gate_inside}
use Rattle.net_core.proofs.SharedLemmas.{input_below}

pub out_below : (net : NetList) (g : GateValue) → IsSound net → Has net.gates g → g.out < nets net
out_below net g sound has = (gate_inside net g sound.inside has).0

pub few_inputs : (net : NetList) (g : GateValue) → IsSound net → Has net.gates g → length g.inputs ≤ 6
few_inputs net g sound has = (gate_inside net g sound.inside has).2

-- so does each input that is read
pub read_below : (net : NetList) (g : GateValue) (items : List ℕ) (i : ℕ) → IsSound net → Has net.gates g → items ≡ g.inputs → i < length items → get_or items i 0 < nets net
read_below net g items i sound has is less = input_below net g sound has (get_or items i 0) (i, ap (λ (xs : List ℕ). slice_get xs i) (sym is) ∙ slice_get-get_or items i 0 less)
