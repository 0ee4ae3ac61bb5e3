use Rattle.std.proofs.Common.{sym, subst, ℕ, List, Ok}
use Rattle.std.proofs.lemmas.Result.{IfErr-weaker, IfOk-weaker}
use Rattle.net_signature.specs.Signature.{SignatureValue}
use Rattle.net_blif.specs.Design.{ModelValue}
use Rattle.gf_basis.specs.declared.bases.Basis.{Basis}
use Rattle.block_compose.specs.Composed.{hierarchy_of, Composes, IsComposable, MayFault}
use Rattle.block_compose.specs.declared.fault.ComposeFault.{ComposeFault}
use Rattle.block_compose.specs.private.Planned.{ComposesPlanned}
use Rattle.block_compose.proofs.ComposeLemmas.{composed, plan_refused, planned_refused}
use Rattle.block_compose.proofs.composition.compose.Goals as goal

pub returns-in-Err-clause-refusal : goal.returns-in-Err-clause-refusal
returns-in-Err-clause-refusal g c =
    let k : ℕ = g.F.Ring.degree c.args.field.now in
    let mul : ℕ → ℕ → ℕ = g.F.Ring.product c.args.field.now in
    let design : List ModelValue = c.args.design.now in
    let signature : SignatureValue = c.args.signature.now in
    let bases : List (List Basis) = c.args.bases.now in
    let P : ComposeFault → Type 0 = MayFault (Composes k mul design signature bases c.args.bound) in
    subst P (sym c.of_plan.ensures) (plan_refused k mul design signature bases c.args.bound c.in-Err.fault c.in-Err.ensures.fault)

pub compose_planned-requires-clause-given : goal.compose_planned-requires-clause-given
compose_planned-requires-clause-given g c =
    let P : List (List Basis) → Type 0 = λ bases. IsComposable (g.F.Ring.degree c.args.field.now) (g.F.Ring.product c.args.field.now) c.args.design.now c.args.signature.now bases in
    subst P (sym c.lists.ensures) c.requires

pub compose_planned-requires-clause-right : goal.compose_planned-requires-clause-right
compose_planned-requires-clause-right g c = c.in-Ok.ensures.right

pub compose_planned-requires-clause-few : goal.compose_planned-requires-clause-few
compose_planned-requires-clause-few g c = c.in-Ok.ensures.few

pub compose_planned-requires-clause-planned : goal.compose_planned-requires-clause-planned
compose_planned-requires-clause-planned g c = c.in-Ok.ensures.planned

pub returns-clause-polynomial : goal.returns-clause-polynomial
returns-clause-polynomial g c =
    let k : ℕ = g.F.Ring.degree c.args.field.now in
    let mul : ℕ → ℕ → ℕ = g.F.Ring.product c.args.field.now in
    let design : List ModelValue = c.args.design.now in
    let signature : SignatureValue = c.args.signature.now in
    IfOk-weaker c.compose_planned.result _ _ (λ poly is.
    let P : List (List Basis) → Type 0 = λ bases. ComposesPlanned k mul (hierarchy_of design signature bases) c.args.bound (Ok poly.terms) in
    composed k mul design signature c.args.bases.now c.args.bound c.in-Ok.ensures.planned.uses c.in-Ok.ensures.planned.are poly.terms (subst P c.lists.ensures is)) c.compose_planned.ensures.poly

pub returns-clause-refusal : goal.returns-clause-refusal
returns-clause-refusal g c =
    let k : ℕ = g.F.Ring.degree c.args.field.now in
    let mul : ℕ → ℕ → ℕ = g.F.Ring.product c.args.field.now in
    let design : List ModelValue = c.args.design.now in
    let signature : SignatureValue = c.args.signature.now in
    IfErr-weaker c.compose_planned.result _ _ (λ fault may.
    let P : List (List Basis) → Type 0 = λ bases. MayFault (ComposesPlanned k mul (hierarchy_of design signature bases) c.args.bound) fault in
    planned_refused k mul design signature c.args.bases.now c.args.bound c.in-Ok.ensures.planned.uses c.in-Ok.ensures.planned.are fault (subst P c.lists.ensures may)) c.compose_planned.ensures.fault
