use Rattle.std.proofs.Common.{◌≤◌, ℕ, List, map, length, arith}
use Rattle.net_words.specs.Binding.{BoundNet}
use Rattle.gf_basis.specs.BasisParts.{elements_of}
use Rattle.gf_basis.specs.declared.bases.Basis.{Basis}
use Rattle.circuit_model.specs.Bases.{circuit_in}
use Rattle.stage_model.specs.WordListing.{word_listing}
use Rattle.stage_model.proofs.ListingLemmas.{both_within}
use Rattle.abstraction.specs.Stages.{cut_stages}
use Rattle.abstraction.proofs.StageLemmas.{cut_refused, word_refused}
use Rattle.abstraction.proofs.poly.circuit_poly.Goals as goal

pub words_poly-requires-clause-few : goal.words_poly-requires-clause-few
words_poly-requires-clause-few g c =
    let small : length c.in-Ok.bits.items ≤ c.args.bound = c.in-Ok.ensures.few in
    omega (arith, small, c.ranges.bound.fits)

pub returns-in-Err-clause-fault : goal.returns-in-Err-clause-fault
returns-in-Err-clause-fault g c =
    let k : ℕ = g.F.Ring.degree c.args.field.now in
    let mul : ℕ → ℕ → ℕ = g.F.Ring.product c.args.field.now in
    let circuit : BoundNet = c.args.circuit.now in
    let bases : List Basis = c.args.bases.now in
    cut_refused k mul circuit bases c.args.bound c.in-Err.fault c.in-Err.ensures.fault

pub returns-in-Err-words_poly-clause-fault : goal.returns-in-Err-words_poly-clause-fault
returns-in-Err-words_poly-clause-fault g c =
    let k : ℕ = g.F.Ring.degree c.args.field.now in
    let mul : ℕ → ℕ → ℕ = g.F.Ring.product c.args.field.now in
    let circuit : BoundNet = c.args.circuit.now in
    let bases : List Basis = c.args.bases.now in
    word_refused k mul circuit bases c.args.bound c.in-Err-words_poly.fault c.in-Ok.ensures.within c.in-Err-words_poly.ensures.fault

pub returns-in-Ok-words_poly-clause-within : goal.returns-in-Ok-words_poly-clause-within
returns-in-Ok-words_poly-clause-within g c =
    let k : ℕ = g.F.Ring.degree c.args.field.now in
    let mul : ℕ → ℕ → ℕ = g.F.Ring.product c.args.field.now in
    let circuit : BoundNet = c.args.circuit.now in
    let bases : List Basis = c.args.bases.now in
    both_within k mul (cut_stages circuit (map elements_of bases)) (word_listing (circuit_in k mul circuit bases)) c.args.bound c.in-Ok.ensures.within c.in-Ok-words_poly.ensures.within
