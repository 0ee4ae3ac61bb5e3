use Rattle.std.proofs.Common.{sym, subst, List, ℕ, length}
use Rattle.std.specs.Prelude.{IfErr, IfOk, OnOk}
use Rattle.std.proofs.lemmas.Result.{IfOk-weaker}
use Rattle.gf_basis.specs.declared.bases.Basis.{Basis}
use Rattle.circuit_model.specs.Bases.{circuit_in}
use Rattle.stage_model.specs.Listing.{AreAllWithin, IsRefusal}
use Rattle.stage_model.specs.Mix.{IsMix}
use Rattle.stage_model.specs.Stage.{IsOfStage}
use Rattle.stage_model.specs.WordListing.{word_listing}
use Rattle.word_subst.specs.Recorded.{IsRecorded}
use Rattle.answer_core.proofs.BoundBasesLemmas.{bases_are}
use Rattle.answer_core.proofs.StageLemmas.{IsJob, terms_named}
use Rattle.answer_core.proofs.WordNamesLemmas.{mix_words_named}
use Rattle.answer_core.proofs.words.in_words.Goals as goal

pub words_poly-requires : goal.words_poly-requires
words_poly-requires g c =
    let degree : ℕ = g.F.Ring.degree c.args.field.now in
    let mul : ℕ → ℕ → ℕ = g.F.Ring.product c.args.field.now in
    let same = c.as_slice-bases.ensures.value in
    let P : List Basis → Type 0 = λ bases. IsOfStage degree mul (IsMix (circuit_in degree mul c.args.circuit.now bases) 0) c.args.bits.items in
    record {
      k = c.requires.taken.bits;
      bases = bases_are degree mul c.args.setting.now c.requires.ready c.args.circuit.now c.requires.taken c.as_slice-bases.result.now same;
      bits = subst P (sym same) c.requires.bits;
      few = c.requires.few;
    }

pub returns : goal.returns
returns g c =
    let degree : ℕ = g.F.Ring.degree c.args.field.now in
    let mul : ℕ → ℕ → ℕ = g.F.Ring.product c.args.field.now in
    let circuit = c.args.circuit.now in
    let setting = c.args.setting.now in
    let bases = setting.bases.items in
    let found = c.words_poly.result in
    let same = c.as_slice-bases.ensures.value in
    let job : IsJob degree mul circuit bases = record { ring = g.met.F.Ring.laws c.args.field.now; nozero = g.met.F.Field.no_zero_divisors c.args.field.now; sound = c.requires.sound; bound = c.requires.is_bound; flat = c.requires.is_bound.flat.latches; same = c.requires.taken.bits; over = c.requires.ready.over; long = c.requires.taken.long } in
    let M : List Basis → Type 0 = λ bs. IfOk found (λ poly. IsOfStage degree mul (IsMix (circuit_in degree mul circuit bs) (length (circuit_in degree mul circuit bs).words)) poly.terms) in
    let W : List Basis → Type 0 = λ bs. OnOk found (AreAllWithin degree mul (word_listing (circuit_in degree mul circuit bs)) c.args.bound) in
    let R : List Basis → Type 0 = λ bs. OnOk found (IsRecorded (circuit_in degree mul circuit bs) (g.T.Steps.steps c.args.steps.now) (g.T.Steps.steps c.words_poly.new.steps)) in
    let F : List Basis → Type 0 = λ bs. IfErr found (λ fault. IsRefusal degree mul (word_listing (circuit_in degree mul circuit bs)) c.args.bound fault) in
    let words : M bases = subst M same c.words_poly.ensures.words in
    record {
      words = words;
      named = IfOk-weaker found _ _ (λ poly is. terms_named degree mul circuit bases job setting.signature.words poly.terms is) words;
      words_named = IfOk-weaker found _ _ (λ poly is. mix_words_named degree mul circuit bases job setting.signature.words poly.terms c.requires.taken.roles is) words;
      within = subst W same c.words_poly.ensures.within;
      steps = subst R same c.words_poly.ensures.steps;
      fault = subst F same c.words_poly.ensures.fault;
    }
