-- The labels of a circuit: its words, and then its other nets by rising rank. Source: this project's own.
use Rattle.std.specs.Prelude.{◌≡◌}
use Rattle.net_core.specs.NetList.{nets}
use Rattle.net_words.specs.Binding.{BoundNet}
use Rattle.net_words.specs.Variables.{bits, others}
use Rattle.poly_mixed.specs.Labels.{Labelling}
use Rattle.cert_check.specs.Labels.{NameWords}

-- the labels name the words of the circuit, and then its other nets
pub record NameVariables (netlist : BoundNet) (labels : Labelling) : Type 0 where
  pub words : NameWords netlist.binding labels
  pub nets : labels.nets ≡ others (nets netlist.net) (bits netlist.binding.words)
