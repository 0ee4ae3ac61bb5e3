use Rattle.compose_blocks.proofs.PlanDetermined.{plan_determined}
use Rattle.compose_blocks.proofs.plan_laws.one_plan_or_refusal.Goals as goal

pub returns : goal.returns
returns c = plan_determined
