use Rattle.std.proofs.Common.{◌∙◌, ℕ, List, length, ap, arith}
use Rattle.std.proofs.lemmas.Result.{IfOk-weaker}
use Rattle.net_words.specs.declared.word.Role.TheVariants.{Input}
use Rattle.make_nets.specs.Ports.{role_nets}
use Rattle.mult_gen.proofs.PlanLemmas.{inputs_long, list_few}
use Rattle.mult_gen.proofs.nets.inputs.Goals as goal

pub role_nets-requires : goal.role_nets-requires
role_nets-requires c = omega (arith, list_few c.args._k c.args._count c.args.signature.now.words c.words.result.now c.words.ensures c.requires.small c.requires.few c.requires.words c.requires.wide)

pub returns : goal.returns
returns c = record {
  nets = IfOk-weaker c.role_nets.result _ _ (λ list is. is ∙ ap (role_nets Input 0) c.words.ensures) c.role_nets.ensures;
  long = IfOk-weaker c.role_nets.result _ _ (λ list is. ap (λ (v : List ℕ). length v) (is ∙ ap (role_nets Input 0) c.words.ensures) ∙ inputs_long c.args._count c.args._k c.args.signature.now.words c.requires.words c.requires.wide) c.role_nets.ensures;
}
