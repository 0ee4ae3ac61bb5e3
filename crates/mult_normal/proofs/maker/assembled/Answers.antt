use Rattle.std.proofs.Common.{◌∙◌, ap, sym, arith, length, []}
use Rattle.std.proofs.lemmas.Result.{IfOk-weaker}
use Rattle.gf_basis.specs.BasisParts.{elements_of}
use Rattle.mult_normal.specs.Coordinates.{counts_in}
use Rattle.mult_normal.proofs.PlanForLemmas.{made_at, plan_for_at}
use Rattle.mult_normal.proofs.WordLemmas.{count_low, first_long, names_few, outputs_long, second_long}
use Rattle.mult_normal.proofs.maker.assembled.Goals as goal

pub count_of-requires : goal.count_of-requires
count_of-requires g c = omega (arith, names_few (g.F.Ring.degree c.args.field.now) c.args.words.now c.requires.form c.requires.bits (g.met.F.Ring.laws c.args.field.now).small)

pub last_sum-requires-clause-a_long : goal.last_sum-requires-clause-a_long
last_sum-requires-clause-a_long g c = ap (λ xs. length xs) c.requires.a ∙ first_long (g.F.Ring.degree c.args.field.now) c.args.words.now c.requires.form c.requires.bits

pub last_sum-requires-clause-b_long : goal.last_sum-requires-clause-b_long
last_sum-requires-clause-b_long g c = ap (λ xs. length xs) c.requires.b ∙ second_long (g.F.Ring.degree c.args.field.now) c.args.words.now c.requires.form c.requires.bits

pub last_sum-requires-clause-room : goal.last_sum-requires-clause-room
last_sum-requires-clause-room g c = count_low (g.F.Ring.degree c.args.field.now) c.args.words.now c.requires.form c.requires.bits c.count_of.result (g.met.F.Ring.laws c.args.field.now).small c.count_of.ensures

pub latches-requires-clause-b_long : goal.latches-requires-clause-b_long
latches-requires-clause-b_long g c =
    ap (λ xs. length xs) c.requires.b ∙ (second_long (g.F.Ring.degree c.args.field.now) c.args.words.now c.requires.form c.requires.bits
    ∙ sym (ap (λ xs. length xs) c.requires.a ∙ first_long (g.F.Ring.degree c.args.field.now) c.args.words.now c.requires.form c.requires.bits))

pub latches-requires-clause-z_long : goal.latches-requires-clause-z_long
latches-requires-clause-z_long g c =
    ap (λ xs. length xs) c.requires.z ∙ (outputs_long (g.F.Ring.degree c.args.field.now) c.args.words.now c.requires.form c.requires.bits
    ∙ sym (ap (λ xs. length xs) c.requires.a ∙ first_long (g.F.Ring.degree c.args.field.now) c.args.words.now c.requires.form c.requires.bits))

pub make-requires-clause-fits : goal.make-requires-clause-fits
make-requires-clause-fits g c = (
  [],
  plan_for_at (g.F.Ring.degree c.args.field.now) (counts_in (g.F.Ring.degree c.args.field.now) (g.F.Ring.product c.args.field.now) (elements_of c.args.basis.now)) c.args.words.now c.requires.form c.requires.bits (g.met.F.Ring.laws c.args.field.now).small
      c.count_of.result c.in_ok-plan.last c.args.a.now c.args.b.now c.args.z.now c.in_ok-plan.plan c.deref.result.now
      c.count_of.ensures c.requires.a c.requires.b c.requires.z c.in_ok-plan.ensures.plan c.in_ok-plan.ensures.net (c.deref.ensures.value ∙ c.in_ok-list.ensures),
)

pub returns : goal.returns
returns g c =
    IfOk-weaker c.make.result _ _
    (λ net is. is
    ∙ made_at (g.F.Ring.degree c.args.field.now) (counts_in (g.F.Ring.degree c.args.field.now) (g.F.Ring.product c.args.field.now) (elements_of c.args.basis.now)) c.args.words.now c.requires.form c.requires.bits (g.met.F.Ring.laws c.args.field.now).small
    c.count_of.result c.in_ok-plan.last c.args.a.now c.args.b.now c.args.z.now c.in_ok-plan.plan c.deref.result.now
    c.count_of.ensures c.requires.a c.requires.b c.requires.z c.in_ok-plan.ensures.plan c.in_ok-plan.ensures.net (c.deref.ensures.value ∙ c.in_ok-list.ensures))
    c.make.ensures
