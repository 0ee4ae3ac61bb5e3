use Rattle.std.proofs.Common.{sym, subst}
use Rattle.std.specs.Prelude.{IsErrOf, OnOk}
use Rattle.mult_gen.specs.declared.fault.MakeFault.TheVariants as faults
use Rattle.job_words.specs.declared.kind.Kind.{Kind}
use Rattle.answer_makers.specs.private.Making.{HasRingForm}
use Rattle.answer_makers.proofs.make.over_ring.Goals as goal

pub returns-in-Mastrovito-clause-form : goal.returns-in-Mastrovito-clause-form
returns-in-Mastrovito-clause-form c = let P : Kind → Type 0 = λ kind. OnOk c.mastrovito.result (HasRingForm kind c.args.signature.now) in subst P (sym c.in-Mastrovito.is) c.mastrovito.ensures.form

pub returns-in-Mastrovito-clause-unfit : goal.returns-in-Mastrovito-clause-unfit
returns-in-Mastrovito-clause-unfit c = let P : Kind → Type 0 = λ kind. IsErrOf c.mastrovito.result faults.Unfit → HasRingForm kind c.args.signature.now → ⊥ in subst P (sym c.in-Mastrovito.is) c.mastrovito.ensures.unfit

pub returns-in-Montgomery-clause-form : goal.returns-in-Montgomery-clause-form
returns-in-Montgomery-clause-form c = let P : Kind → Type 0 = λ kind. OnOk c.montgomery.result (HasRingForm kind c.args.signature.now) in subst P (sym c.in-Montgomery.is) c.montgomery.ensures.form

pub returns-in-Montgomery-clause-unfit : goal.returns-in-Montgomery-clause-unfit
returns-in-Montgomery-clause-unfit c = let P : Kind → Type 0 = λ kind. IsErrOf c.montgomery.result faults.Unfit → HasRingForm kind c.args.signature.now → ⊥ in subst P (sym c.in-Montgomery.is) c.montgomery.ensures.unfit

pub returns-in-Squarer-clause-form : goal.returns-in-Squarer-clause-form
returns-in-Squarer-clause-form c = let P : Kind → Type 0 = λ kind. OnOk c.squarer.result (HasRingForm kind c.args.signature.now) in subst P (sym c.in-Squarer.is) c.squarer.ensures.form

pub returns-in-Squarer-clause-unfit : goal.returns-in-Squarer-clause-unfit
returns-in-Squarer-clause-unfit c = let P : Kind → Type 0 = λ kind. IsErrOf c.squarer.result faults.Unfit → HasRingForm kind c.args.signature.now → ⊥ in subst P (sym c.in-Squarer.is) c.squarer.ensures.unfit
