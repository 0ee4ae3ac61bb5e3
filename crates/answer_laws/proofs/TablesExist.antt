-- Some reply or some fault comes of `eval`, `table` and `lift`, over the setting of a text.
use Rattle.std.proofs.Common.{◌≡◌, ◌∙◌, refl, sym, ℕ, ◌+◌, ◌*◌, ◌<◌, ◌^◌, List, Option, Some, Ok, arith}
use Rattle.std.specs.Prelude.{slice_get}
use Rattle.std.proofs.lemmas.Option.{slice_get_within}
use Rattle.outcome.specs.Outcome.{Within}
use Rattle.outcome.proofs.SomeLemmas.{some_bind, some_within}
use Rattle.job_io.specs.Shelf.{Files}
use Rattle.net_words.specs.Binding.{BoundNet}
use Rattle.circuit_model.specs.Circuit.{IsInput}
use Rattle.circuit_model.proofs.OutLemmas.{some_out}
use Rattle.lift_table.specs.TableText.{table_text}
use Rattle.job_words.specs.Operands.{Word}
use Rattle.job_words.specs.declared.fault.Fault.TheVariants as faults
use Rattle.job_input.specs.CircuitOf.{CircuitIn, UnrolledIn}
use Rattle.job_input.specs.NetlistOf.{NetlistIn}
use Rattle.job_input.specs.SettingOf.{SettingOf}
use Rattle.job_input.specs.SettingValue.{SettingValue}
use Rattle.job_input.specs.TableIn.{TableIn}
use Rattle.job_input.proofs.SettingSoundLemmas.{setting_sound}
use Rattle.job_input.proofs.SignedLemmas.{setting_names}
use Rattle.answer_core.specs.Abstraction.{taken_circuit}
use Rattle.answer_core.specs.Printed.{IsTaken}
use Rattle.answer_core.specs.Reply.{prints}
use Rattle.answer_core.proofs.EqualLabelLemmas.{are_labels}
use Rattle.answer_polynomials.specs.Eval.{element_line, EvalAnswer, EvalAt, EvalOver, EvalReply}
use Rattle.answer_polynomials.specs.Values.{ValuesOf}
use Rattle.answer_polynomials.proofs.ElementLemmas.{values_fit}
use Rattle.answer_polynomials.proofs.EqualLemmas.{count, well}
use Rattle.answer_tables.specs.Lift.{table_words, LiftAnswer, LiftOver, LiftReply, SmallEnough}
use Rattle.answer_tables.specs.Table.{TableAnswer, TableOver, TableReply}
use Rattle.answer_tables.proofs.SomeTableLemmas.{some_polynomial, some_table}
use Rattle.reader_laws.proofs.NetlistExists.{some_netlist_in}
use Rattle.job_laws.specs.HasOutcome.{HasOutcome}
use Rattle.job_laws.proofs.CircuitExists.{some_circuit_in, some_unrolled}
use Rattle.job_laws.proofs.FileExists.{some_table_in}
use Rattle.answer_laws.proofs.TakenExists.{taken_whole}
use Rattle.answer_laws.proofs.ValuesExist.{some_size, some_values}

module _ (setting : SettingValue) (circuit : BoundNet) (taken : IsTaken setting circuit) where
  pub eval_reply : (values : List Word) (xs : List ℕ) → ValuesOf setting.k (table_words setting) values (Ok xs) → HasOutcome (EvalReply setting circuit xs)
  eval_reply values xs are =
      let fit = values_fit setting.k (table_words setting) values xs are in
      let input : IsInput (taken_circuit setting circuit) xs = record { long = fit.0 ∙ sym (count setting circuit taken); elements = fit.1 } in
      let found = some_out (taken_circuit setting circuit) xs (well setting circuit taken) input in
      (Ok (record { status = 0; text = element_line setting found.0 }), (found.0, found.1, refl))

  pub table_reply : HasOutcome (TableReply setting circuit)
  table_reply = let found = some_table (taken_circuit setting circuit) (well setting circuit taken) in (Ok (record { status = 0; text = table_text found.0 }), (found.0, found.1, refl))

module _ (held : Option Files) (bytes : List ℕ) (setting : SettingValue) (is_setting : SettingOf bytes (Ok setting)) where
  module _ (net : Word) (values : List Word) (cycles : ℕ) where
    eval_at : (netlist : BoundNet) → NetlistIn held setting.signature net (Ok netlist) → (xs : List ℕ) → ValuesOf setting.k (table_words setting) values (Ok xs) → HasOutcome (EvalAt setting net netlist xs cycles)
    eval_at netlist netlist_in xs are =
        some_bind (UnrolledIn net netlist cycles) (λ circuit. EvalReply setting circuit xs) (some_unrolled net netlist cycles)
        (λ circuit of. eval_reply setting circuit (taken_whole held bytes setting is_setting net cycles netlist netlist_in circuit of) values xs are)

    pub some_eval : HasOutcome (EvalAnswer held setting net values cycles)
    some_eval =
        some_bind (NetlistIn held setting.signature net) (λ netlist. EvalOver setting net netlist values cycles) (some_netlist_in held setting.signature net)
        (λ netlist netlist_in.
        some_bind (Within faults.Value (ValuesOf setting.k (table_words setting) values)) (λ xs. EvalAt setting net netlist xs cycles) (some_within faults.Value (ValuesOf setting.k (table_words setting) values) (some_values setting.k (table_words setting) values))
        (λ xs are. eval_at netlist netlist_in xs are))

  table_over : (net : Word) (cycles : ℕ) → HasOutcome (TableOver held setting net cycles)
  table_over net cycles =
      some_bind (CircuitIn held setting.signature net cycles) (TableReply setting) (some_circuit_in held setting.signature net cycles)
      (λ circuit of. table_reply setting circuit (taken_whole held bytes setting is_setting net cycles of.0 of.1 circuit of.2))

  pub some_table_answer : (net : Word) (cycles : ℕ) → HasOutcome (TableAnswer held setting net cycles)
  some_table_answer net cycles = some_bind (SmallEnough setting) (λ small. TableOver held setting net cycles) (some_size setting) (λ small is. table_over net cycles)

  pub lift_reply : (file : Word) (table : List ℕ) → TableIn held setting.k (2 ^ (setting.k * table_words setting)) file (Ok table) → HasOutcome (LiftReply setting table)
  lift_reply file table (text, read, is) =
      let sound = setting_sound bytes setting is_setting in
      let few = (are_labels setting.k setting.signature.words sound.words (setting_names bytes setting is_setting)).few in
      let long = is.long in
      let elements : (row e : ℕ) → slice_get table row ≡ Some e → e < 2 ^ setting.k = λ row e got. (let inside = slice_get_within table row e got in is.right.small (row + 1) e (omega (arith, inside, long)) (is.values row e got)) in
      let found = some_polynomial setting.k setting.product sound.ring sound.field (table_words setting) table few long elements in
      (Ok (prints setting found.0), (found.0, found.1, refl))

  pub some_lift : (file : Word) → HasOutcome (LiftAnswer held setting file)
  some_lift file =
      some_bind (SmallEnough setting) (λ small. LiftOver held setting file) (some_size setting)
      (λ small is. some_bind (TableIn held setting.k (2 ^ (setting.k * table_words setting)) file) (LiftReply setting) (some_table_in held setting.k (2 ^ (setting.k * table_words setting)) file) (lift_reply file))
