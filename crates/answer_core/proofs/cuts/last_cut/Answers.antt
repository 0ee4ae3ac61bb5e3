use Rattle.std.proofs.Common.{refl, subst, List, ℕ, length, map}
use Rattle.std.specs.Prelude.{IfErr, IfOk, OnOk}
use Rattle.std.proofs.lemmas.Result.{IfOk-weaker}
use Rattle.gf_basis.specs.BasisParts.{elements_of}
use Rattle.gf_basis.specs.declared.bases.Basis.{Basis}
use Rattle.circuit_model.specs.Bases.{circuit_in}
use Rattle.circuit_model.specs.OfBinding.{output_basis}
use Rattle.circuit_model.specs.WellFormed.{IsWellFormed}
use Rattle.stage_model.specs.Listing.{AreAllWithin, IsRefusal}
use Rattle.stage_model.specs.Mix.{IsMix}
use Rattle.stage_model.specs.OutputInBits.{IsOutputInBits}
use Rattle.stage_model.specs.Stage.{IsOfStage}
use Rattle.rato_reduce.specs.Recorded.{IsRecorded}
use Rattle.abstraction.specs.Stages.{cut_stages, IsLastCut}
use Rattle.answer_core.proofs.BoundBasesLemmas.{bases_are}
use Rattle.answer_core.proofs.NamedLemmas.{named}
use Rattle.answer_core.proofs.StageLemmas.{IsJob}
use Rattle.answer_core.proofs.WordNamesLemmas.{cut_words_named}
use Rattle.answer_core.proofs.cuts.last_cut.Goals as goal

pub bits_poly-requires : goal.bits_poly-requires
bits_poly-requires g c = record {
  bits = c.requires.taken.bits;
  bases = bases_are (g.F.Ring.degree c.args.field.now) (g.F.Ring.product c.args.field.now) c.args.setting.now c.requires.ready c.args.circuit.now c.requires.taken c.as_slice-bases.result.now c.as_slice-bases.ensures.value;
}

pub returns : goal.returns
returns g c =
    let k : ℕ = g.F.Ring.degree c.args.field.now in
    let mul : ℕ → ℕ → ℕ = g.F.Ring.product c.args.field.now in
    let circuit = c.args.circuit.now in
    let setting = c.args.setting.now in
    let bases = setting.bases.items in
    let found = c.bits_poly.result in
    let same = c.as_slice-bases.ensures.value in
    let job : IsJob k mul circuit bases = record { ring = g.met.F.Ring.laws c.args.field.now; nozero = g.met.F.Field.no_zero_divisors c.args.field.now; sound = c.bits_poly.ensures.sound; bound = c.bits_poly.ensures.is_bound; flat = c.bits_poly.ensures.is_bound.flat.latches; same = c.requires.taken.bits; over = c.requires.ready.over; long = c.requires.taken.long } in
    let W : List Basis → Type 0 = λ bs. IsWellFormed (circuit_in k mul circuit bs) in
    let L : List Basis → Type 0 = λ bs. IfOk found (λ poly. IsLastCut k mul circuit (map elements_of bs) poly.terms) in
    let O : List Basis → Type 0 = λ bs. IfOk found (λ poly. IsOutputInBits (circuit_in k mul circuit bs) poly.terms) in
    let M : List Basis → Type 0 = λ bs. IfOk found (λ poly. IsOfStage k mul (IsMix (circuit_in k mul circuit bs) 0) poly.terms) in
    let N : List Basis → Type 0 = λ bs. OnOk found (AreAllWithin k mul (cut_stages circuit (map elements_of bs)) c.args.bound) in
    let R : List Basis → Type 0 = λ bs. OnOk found (IsRecorded k mul circuit (output_basis circuit.binding.words (map elements_of bs)) (length circuit.net.gates) (g.T.Steps.steps c.args.steps.now) (g.T.Steps.steps c.bits_poly.new.steps)) in
    let F : List Basis → Type 0 = λ bs. IfErr found (λ fault. IsRefusal k mul (cut_stages circuit (map elements_of bs)) c.args.bound fault) in
    let last : L bases = subst L same c.bits_poly.ensures.last in
    record {
      sound = c.bits_poly.ensures.sound;
      is_bound = c.bits_poly.ensures.is_bound;
      well = subst W same c.bits_poly.ensures.well;
      last = last;
      named = IfOk-weaker found _ _ (λ poly is. named k mul circuit bases setting.signature.words (output_basis circuit.binding.words (map elements_of bases)) poly.terms job.ring job.nozero job.sound job.bound job.flat job.same job.over job.long c.requires.taken.roles refl is) last;
      words_named = IfOk-weaker found _ _ (λ poly is. cut_words_named k mul circuit bases job setting.signature.words poly.terms is) last;
      output = subst O same c.bits_poly.ensures.output;
      mix = subst M same c.bits_poly.ensures.mix;
      few = c.bits_poly.ensures.few;
      within = subst N same c.bits_poly.ensures.within;
      steps = subst R same c.bits_poly.ensures.steps;
      fault = subst F same c.bits_poly.ensures.fault;
    }
