use Rattle.std.proofs.Common.{◌<◌, ℕ, List, length, get_or, map, arith}
use Rattle.std.proofs.lemmas.Option.{slice_get-get_or, slice_get_within}
use Rattle.gf_basis.specs.declared.bases.Basis.{Basis}
use Rattle.block_compose.proofs.BlockLemmas.{done_more, first_over, no_polys}
use Rattle.block_compose.proofs.blocks.block_polys.Goals as goal

pub loop-i-init : goal.loop-i-init
loop-i-init g c =
    let k : ℕ = g.F.Ring.degree c.args.field.now in
    let mul : ℕ → ℕ → ℕ = g.F.Ring.product c.args.field.now in
    let bases : List (List Basis) = map (λ list. list.items) c.args.bases.now in
    record {
      are = no_polys k mul c.args.blocks.now c.args.circuits.now bases c.args.bound c.in-Ok.none.items c.in-Ok.ensures;
      done = λ j number less got. absurd (omega (arith, less));
    }

pub add_poly-requires-clause-kept : goal.add_poly-requires-clause-kept
add_poly-requires-clause-kept g c = c.requires c.loop-i.i (get_or c.args.numbers.now c.loop-i.i 0) (slice_get-get_or c.args.numbers.now c.loop-i.i 0 c.loop-i-test.true)

pub returns-in-Err-clause-fault : goal.returns-in-Err-clause-fault
returns-in-Err-clause-fault g c =
    let k : ℕ = g.F.Ring.degree c.args.field.now in
    let mul : ℕ → ℕ → ℕ = g.F.Ring.product c.args.field.now in
    let bases : List (List Basis) = map (λ list. list.items) c.args.bases.now in
    let number : ℕ = get_or c.args.numbers.now c.loop-i.i 0 in
    first_over k mul c.args.blocks.now c.args.circuits.now bases c.args.bound c.args.numbers.now c.loop-i.i number c.loop-i.polys.items c.in-Err.fault (slice_get-get_or c.args.numbers.now c.loop-i.i 0 c.loop-i-test.true) c.loop-i.invariant.are c.loop-i.invariant.done c.in-Err.ensures.new c.in-Err.ensures.fault

pub loop-i-preserved : goal.loop-i-preserved
loop-i-preserved g c =
    record {
      are = c.in-Ok-add_poly.ensures.polys;
      done = done_more c.args.numbers.now c.loop-i.i (get_or c.args.numbers.now c.loop-i.i 0) c.loop-i.polys.items c.add_poly.new.polys.items (slice_get-get_or c.args.numbers.now c.loop-i.i 0 c.loop-i-test.true) c.in-Ok-add_poly.ensures.keeps c.loop-i.invariant.done c.in-Ok-add_poly.ensures.has;
    }

pub returns-clause-all : goal.returns-clause-all
returns-clause-all g c = λ i number got.
    let less : i < length c.args.numbers.now = slice_get_within c.args.numbers.now i number got in
    c.loop-i.invariant.done i number (omega (arith, less)) got
