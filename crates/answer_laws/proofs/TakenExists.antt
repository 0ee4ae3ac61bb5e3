-- The circuits of a netlist's file, with the texts that they are taken from.
use Rattle.std.proofs.Common.{◌≡◌, refl, ℕ, Bool, false, List, length, Option, Ok}
use Rattle.outcome.proofs.SomeLemmas.{some_bind}
use Rattle.job_io.specs.Shelf.{Files}
use Rattle.net_words.specs.Binding.{BoundNet}
use Rattle.job_words.specs.Operands.{Word}
use Rattle.job_input.specs.CircuitOf.{CircuitIn, UnrolledIn}
use Rattle.job_input.specs.NetlistOf.{by_ending, NetlistIn}
use Rattle.job_input.specs.SettingOf.{SettingOf}
use Rattle.job_input.specs.SettingValue.{SettingValue}
use Rattle.answer_core.specs.Printed.{IsTaken}
use Rattle.answer_core.specs.Simpler.{SimplerIn, SimplerOf, SimplerUnrolledIn}
use Rattle.answer_core.proofs.SimplerLemmas.{simpler_long}
use Rattle.answer_polynomials.proofs.EqualLemmas.{sound}
use Rattle.job_laws.specs.HasOutcome.{HasOutcome}
use Rattle.job_laws.proofs.CircuitExists.{some_circuit_in}
use Rattle.answer_laws.proofs.SomeCircuits.{simpler_of}

pub taken_bases : (setting : SettingValue) (circuit : BoundNet) → IsTaken setting circuit → length setting.bases ≡ length circuit.binding.words
taken_bases setting circuit taken = simpler_long setting circuit (sound setting circuit taken) taken.netlist taken.cycles taken.simple taken.is_circuit

module _ (held : Option Files) (bytes : List ℕ) (setting : SettingValue) (is_setting : SettingOf bytes (Ok setting)) (net : Word) (cycles : ℕ) where
  pub taken_from : (simple : Bool) (netlist : BoundNet) → NetlistIn held setting.signature net (Ok netlist) → (circuit : BoundNet) → SimplerUnrolledIn net netlist cycles simple (Ok circuit) → IsTaken setting circuit
  taken_from simple netlist netlist_in circuit of = record {
    signature = bytes;
    is_setting = is_setting;
    netlist = by_ending net netlist_in.0;
    cycles = cycles;
    simple = simple;
    is_circuit = (of.0, (netlist, netlist_in.2, of.1), of.2);
  }

  pub taken_whole : (netlist : BoundNet) → NetlistIn held setting.signature net (Ok netlist) → (circuit : BoundNet) → UnrolledIn net netlist cycles (Ok circuit) → IsTaken setting circuit
  taken_whole netlist netlist_in circuit of = taken_from false netlist netlist_in circuit (circuit, of, refl)

  pub some_simpler_in : (simple : Bool) → HasOutcome (SimplerIn held setting.signature net cycles simple)
  some_simpler_in simple =
      some_bind (CircuitIn held setting.signature net cycles) (SimplerOf simple) (some_circuit_in held setting.signature net cycles) (λ plain of. simpler_of held bytes setting is_setting net cycles of.0 of.1 simple plain of.2)

  pub taken_in : (simple : Bool) (circuit : BoundNet) → SimplerIn held setting.signature net cycles simple (Ok circuit) → IsTaken setting circuit
  taken_in simple circuit of = taken_from simple of.1.0 of.1.1 circuit (of.0, of.1.2, of.2)
