-- Modules that are read, or refused at one of their parts.
use Rattle.std.proofs.Common.{◌≡◌, inl, inr, sym, subst, ℕ, List, Ok, Err}
use Rattle.net_core.specs.NetList.{NetList, empty}
use Rattle.net_verilog.specs.Tokens.{TokenValue}
use Rattle.net_verilog.specs.Parts.{identifier, taken}
use Rattle.net_verilog.specs.Declarations.{undeclared}
use Rattle.net_verilog.specs.declared.sign.Sign.TheVariants as signs
use Rattle.net_verilog.specs.declared.fault.VerilogFault.{VerilogFault}
use Rattle.verilog_reader.specs.Items.{Items, State}
use Rattle.verilog_reader.specs.Modules.{Module, PortList, module_taken, nothing_more}

module _ (tokens begun : List TokenValue) (begins : module_taken tokens ≡ Ok begun) where
  module _ (name : (ℕ × List ℕ) × List TokenValue) (names : identifier begun ≡ Ok name) (state : State) (starts : state ≡ (undeclared, empty)) where
    pub ports_refused : (fault : VerilogFault) → PortList state name.1 (Err fault) → Module tokens (Err fault)
    ports_refused fault is = let P : State → Type 0 = λ s. PortList s name.1 (Err fault) in inr (begun, sym begins, inr (name, sym names, inl (subst P starts is)))

    module _ (ports : State × List TokenValue) (lists : PortList state name.1 (Ok ports)) where
      listed : PortList (undeclared, empty) name.1 (Ok ports)
      listed = let P : State → Type 0 = λ s. PortList s name.1 (Ok ports) in subst P starts lists

      pub sign_refused : (fault : VerilogFault) → taken signs.Semicolon ports.1 ≡ Err fault → Module tokens (Err fault)
      sign_refused fault is = inr (begun, sym begins, inr (name, sym names, inr (ports, listed, inl (sym is))))

      module _ (sign : ℕ × List TokenValue) (takes : taken signs.Semicolon ports.1 ≡ Ok sign) where
        pub items_refused : (fault : VerilogFault) → Items ports.0 sign.1 (Err fault) → Module tokens (Err fault)
        items_refused fault is = inr (begun, sym begins, inr (name, sym names, inr (ports, listed, inr (sign, sym takes, inl is))))

        module _ (items : State × List TokenValue) (reads : Items ports.0 sign.1 (Ok items)) where
          pub end_refused : (fault : VerilogFault) → nothing_more items.0.1 items.1 ≡ Err fault → Module tokens (Err fault)
          end_refused fault is = inr (begun, sym begins, inr (name, sym names, inr (ports, listed, inr (sign, sym takes, inr (items, reads, sym is)))))

          pub module_made : (net : NetList) → nothing_more items.0.1 items.1 ≡ Ok net → Module tokens (Ok net)
          module_made net is = (begun, sym begins, (name, sym names, (ports, listed, (sign, sym takes, (items, reads, sym is)))))
