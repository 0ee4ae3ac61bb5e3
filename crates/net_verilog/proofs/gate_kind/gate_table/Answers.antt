use Rattle.net_verilog.proofs.GateTableLemmas.{few_rows}
use Rattle.net_verilog.specs.declared.gate_kind.GateKind.TheVariants as gates
use Rattle.net_verilog.proofs.gate_kind.gate_table.Goals as goal

pub returns-in-And-clause-few : goal.returns-in-And-clause-few
returns-in-And-clause-few c = few_rows gates.And c.args.inputs c.and_table.result c.and_table.ensures

pub returns-in-Or-clause-few : goal.returns-in-Or-clause-few
returns-in-Or-clause-few c = few_rows gates.Or c.args.inputs c.or_table.result c.or_table.ensures

pub returns-in-Xor-clause-few : goal.returns-in-Xor-clause-few
returns-in-Xor-clause-few c = few_rows gates.Xor c.args.inputs c.xor_table.result c.xor_table.ensures

pub returns-in-Nand-clause-few : goal.returns-in-Nand-clause-few
returns-in-Nand-clause-few c = few_rows gates.Nand c.args.inputs c.nand_table.result c.nand_table.ensures

pub returns-in-Nor-clause-few : goal.returns-in-Nor-clause-few
returns-in-Nor-clause-few c = few_rows gates.Nor c.args.inputs c.nor_table.result c.nor_table.ensures

pub returns-in-Xnor-clause-few : goal.returns-in-Xnor-clause-few
returns-in-Xnor-clause-few c = few_rows gates.Xnor c.args.inputs c.xnor_table.result c.xnor_table.ensures
