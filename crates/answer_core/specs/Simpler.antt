-- The circuit of all cycles, or a simpler one of the same function where it is asked for. Source: this project's own.
use Rattle.std.specs.Prelude.{◌≡◌, ℕ, Bool, true, false, Option, Ok, Err}
use Rattle.outcome.specs.Outcome.{Outcome, ◌>>=◌}
use Rattle.job_io.specs.Shelf.{Files}
use Rattle.net_words.specs.Binding.{BoundNet}
use Rattle.net_signature.specs.Signature.{SignatureValue}
use Rattle.net_simplify.specs.Circuit.{IsSimplifiedCircuit}
use Rattle.job_words.specs.Operands.{Word}
use Rattle.job_words.specs.declared.fault.Fault.{Fault}
use Rattle.job_words.specs.declared.netlist_fault.NetlistFault.{NetlistFault}
use Rattle.job_input.specs.CircuitOf.{CircuitIn, CircuitOfText, UnrolledIn}
use Rattle.job_input.specs.NetlistOf.{NetlistText}

-- one circuit is the other, or where it is asked for the simplified one
abbrev pub IsSimpler : Bool → BoundNet → BoundNet → Type 0
IsSimpler true circuit simpler = IsSimplifiedCircuit circuit simpler
IsSimpler false circuit simpler = simpler ≡ circuit

-- this circuit, and no fault
abbrev pub SimplerOf : {F : Type 0} → Bool → BoundNet → Outcome F BoundNet
SimplerOf simple circuit (Ok simpler) = IsSimpler simple circuit simpler
SimplerOf simple circuit (Err fault) = ⊥

-- that of a netlist's cycles
abbrev pub SimplerUnrolledIn : Word → BoundNet → ℕ → Bool → Outcome Fault BoundNet
SimplerUnrolledIn file netlist cycles simple = do
  circuit ← UnrolledIn file netlist cycles
  SimplerOf simple circuit

-- that of a file
abbrev pub SimplerIn : Option Files → SignatureValue → Word → ℕ → Bool → Outcome Fault BoundNet
SimplerIn held signature file cycles simple = do
  circuit ← CircuitIn held signature file cycles
  SimplerOf simple circuit

-- and that of a netlist's text
abbrev pub SimplerOfText : SignatureValue → NetlistText → ℕ → Bool → Outcome NetlistFault BoundNet
SimplerOfText signature text cycles simple = do
  circuit ← CircuitOfText signature text cycles
  SimplerOf simple circuit
