-- Ports, one after another.
use Rattle.std.proofs.Common.{◌≡◌, ◌∙◌, ap, inl, inr, ℕ, suc, ◌+◌, ◌-◌, ◌<◌, List, Result, Ok, Err, arith}
use Rattle.outcome.specs.Steps.{on_value}
use Rattle.net_core.specs.NetList.{NetList}
use Rattle.net_core.specs.declared.fault.NetFault.{NetFault}
use Rattle.net_verilog.specs.Declarations.{bit_name}
use Rattle.net_verilog.specs.private.Gates.{IsRefused}
use Rattle.net_verilog.specs.declared.declared.Direction.{Direction}
use Rattle.net_verilog.specs.declared.fault.VerilogFault.{VerilogFault}
use Rattle.verilog_reader.specs.Declares.{bits_from, with_port_named, with_ports}

module _ (direction : Direction) (net : NetList) (name : List ℕ) (i end : ℕ) (less : i < end) where
  count : end - i ≡ suc (end - (i + 1))
  count = omega (arith, less)

  pub ports_step : (more : NetList) → with_port_named direction net (bit_name name i) ≡ Ok more → with_ports direction net (bits_from name i (end - i)) ≡ with_ports direction more (bits_from name (i + 1) (end - (i + 1)))
  ports_step more is =
      let next : 1 + i ≡ i + 1 = omega arith in
      ap (λ n. with_ports direction net (bits_from name i n)) count
      ∙ ap (on_value (λ m. with_ports direction m (bits_from name (1 + i) (end - (i + 1))))) is
      ∙ ap (λ j. with_ports direction more (bits_from name j (end - (i + 1)))) next

  ports_refuse : (refusal : NetFault) → with_port_named direction net (bit_name name i) ≡ Err refusal → with_ports direction net (bits_from name i (end - i)) ≡ Err refusal
  ports_refuse refusal is =
      ap (λ n. with_ports direction net (bits_from name i n)) count
      ∙ ap (on_value (λ m. with_ports direction m (bits_from name (1 + i) (end - (i + 1))))) is

  pub ports_fault : (whole : Result NetList NetFault) (fault : VerilogFault) → whole ≡ with_ports direction net (bits_from name i (end - i)) → IsRefused (with_port_named direction net (bit_name name i)) fault → IsRefused whole fault
  ports_fault whole fault same (inl memory) = inl memory
  ports_fault whole fault same (inr (refusal, is, alike)) = inr (refusal, same ∙ ports_refuse refusal is, alike)
