use Rattle.std.proofs.Common.{◌∙◌, ◌<◌, sym, subst, ℕ, length, Option, None, arith}
use Rattle.std.specs.Prelude.{slice_index_or}
use Rattle.std.proofs.lemmas.Option.{slice_get-get_or, slice_get_within}
use Rattle.gf_basis.specs.BasisParts.{elements_of}
use Rattle.compose_wiring.proofs.LinkedLemmas.{left_after, search_at, search_end, search_found, search_on, IsSearch}
use Rattle.compose_wiring.proofs.candidates.find.Goals as goal

pub loop-at-init : goal.loop-at-init
loop-at-init c = record { start = 0; at_is = c.requires.first; before = λ q d less got on. absurd (omega (arith, less)) }

pub candidate_at-candidate-requires : goal.candidate_at-candidate-requires
candidate_at-candidate-requires c =
    let P : Option ℕ → Type 0 = λ o. IsSearch c.args.list.now c.args.nets.now (elements_of c.args.basis.now) o in
    let found = search_at c.args.list.now c.args.nets.now (elements_of c.args.basis.now) c.in-Some.place (subst P c.in-Some.is c.loop-at.invariant) in
    slice_get_within c.args.list.now c.in-Some.place found.0 found.1

pub returns-then-is_on-clause-some : goal.returns-then-is_on-clause-some
returns-then-is_on-clause-some c =
    let P : Option ℕ → Type 0 = λ o. IsSearch c.args.list.now c.args.nets.now (elements_of c.args.basis.now) o in
    search_found c.args.list.now c.args.nets.now (elements_of c.args.basis.now) c.in-Some.place c.candidate_at-candidate.result.now c.feed.result (subst P c.in-Some.is c.loop-at.invariant) c.candidate_at-candidate.ensures c.feed.ensures (sym c.is_on.ensures ∙ c.if-is_on.true)

pub bounds-next-place : goal.bounds-next-place
bounds-next-place c = omega (arith, c.requires.leads.long, slice_get_within c.args.list.now c.in-Some.place c.candidate_at-candidate.result.now c.candidate_at-candidate.ensures)

pub loop-at-smaller : goal.loop-at-smaller
loop-at-smaller c =
    let P : Option ℕ → Type 0 = λ o. IsSearch c.args.list.now c.args.nets.now (elements_of c.args.basis.now) o in
    let less : c.in-Some.place < length c.args.next.now = omega (arith, c.requires.leads.long, slice_get_within c.args.list.now c.in-Some.place c.candidate_at-candidate.result.now c.candidate_at-candidate.ensures) in
    let at : Option ℕ = slice_index_or c.args.next.now c.in-Some.place None in
    let Q : Option ℕ → Type 0 = λ o. left_after (length c.args.list.now) at < left_after (length c.args.list.now) o in
    subst Q (sym c.in-Some.is) ((search_on c.args.list.now c.args.nets.now (elements_of c.args.basis.now) c.args.next.now c.in-Some.place c.candidate_at-candidate.result.now at c.requires.leads (subst P c.in-Some.is c.loop-at.invariant) c.candidate_at-candidate.ensures (sym c.is_on.ensures ∙ c.if-is_on.false) (slice_get-get_or c.args.next.now c.in-Some.place None less)).1)

pub loop-at-preserved : goal.loop-at-preserved
loop-at-preserved c =
    let P : Option ℕ → Type 0 = λ o. IsSearch c.args.list.now c.args.nets.now (elements_of c.args.basis.now) o in
    let less : c.in-Some.place < length c.args.next.now = omega (arith, c.requires.leads.long, slice_get_within c.args.list.now c.in-Some.place c.candidate_at-candidate.result.now c.candidate_at-candidate.ensures) in
    let at : Option ℕ = slice_index_or c.args.next.now c.in-Some.place None in
    (search_on c.args.list.now c.args.nets.now (elements_of c.args.basis.now) c.args.next.now c.in-Some.place c.candidate_at-candidate.result.now at c.requires.leads (subst P c.in-Some.is c.loop-at.invariant) c.candidate_at-candidate.ensures (sym c.is_on.ensures ∙ c.if-is_on.false) (slice_get-get_or c.args.next.now c.in-Some.place None less)).0

pub returns-clause-none : goal.returns-clause-none
returns-clause-none c =
    let P : Option ℕ → Type 0 = λ o. IsSearch c.args.list.now c.args.nets.now (elements_of c.args.basis.now) o in
    search_end c.args.list.now c.args.nets.now (elements_of c.args.basis.now) (subst P c.in_default.is c.loop-at.invariant)
