use Rattle.std.proofs.Common.{ap, arith, length}
use Rattle.unroll.proofs.CountLemmas.{gate_sum}
use Rattle.unroll.proofs.CodeLemmas.{gates_fit}
use Rattle.unroll.proofs.DrivenLemmas.{driven_long}
use Rattle.unroll.proofs.plan.Plan.gate_count.Goals as goal

pub overflow_mul-result-2 : goal.overflow_mul-result-2
overflow_mul-result-2 c = omega (arith, (gates_fit c.from-cycles.result (length c.gates.result.now) c.started_latches.result (length c.inputs.result.now) (length c.latches.result.now) 0 (omega (arith, c.from-cycles.ensures, c.args.self.now.short)) (omega (arith, ap length c.inputs.ensures.inputs, ap length c.latches.ensures.latches, ap length c.gates.ensures.gates, driven_long c.args.self.now.net c.args.self.now.sound, c.args.self.now.sound.inside.few_nets)) (omega (arith, c.started_latches.ensures.few, ap length c.latches.ensures.latches)) (omega arith)).0)

pub overflow_add-result-3 : goal.overflow_add-result-3
overflow_add-result-3 c = omega (arith, (gates_fit c.from-cycles.result (length c.gates.result.now) c.started_latches.result (length c.inputs.result.now) (length c.latches.result.now) 0 (omega (arith, c.from-cycles.ensures, c.args.self.now.short)) (omega (arith, ap length c.inputs.ensures.inputs, ap length c.latches.ensures.latches, ap length c.gates.ensures.gates, driven_long c.args.self.now.net c.args.self.now.sound, c.args.self.now.sound.inside.few_nets)) (omega (arith, c.started_latches.ensures.few, ap length c.latches.ensures.latches)) (omega arith)).1)

pub overflow_add-result-4 : goal.overflow_add-result-4
overflow_add-result-4 c = omega (arith, (gates_fit c.from-cycles.result (length c.gates.result.now) c.started_latches.result (length c.inputs.result.now) (length c.latches.result.now) c.fed_inputs.result (omega (arith, c.from-cycles.ensures, c.args.self.now.short)) (omega (arith, ap length c.inputs.ensures.inputs, ap length c.latches.ensures.latches, ap length c.gates.ensures.gates, driven_long c.args.self.now.net c.args.self.now.sound, c.args.self.now.sound.inside.few_nets)) (omega (arith, c.started_latches.ensures.few, ap length c.latches.ensures.latches)) (omega (arith, c.fed_inputs.ensures.few, ap length c.inputs.ensures.inputs))).2)

pub returns : goal.returns
returns c = gate_sum c.args.self.now.net c.args.self.now.binding c.args.self.now.cycles c.from-cycles.result (length c.gates.result.now) c.started_latches.result (length c.inputs.result.now) (length c.latches.result.now) c.fed_inputs.result c.from-cycles.ensures (ap length c.gates.ensures.gates) c.started_latches.ensures.count (ap length c.inputs.ensures.inputs) (ap length c.latches.ensures.latches) c.fed_inputs.ensures.count
