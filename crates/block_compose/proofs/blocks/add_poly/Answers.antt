use Rattle.std.proofs.Common.{◌∙◌, sym, subst, ℕ, List, map, Option, arith}
use Rattle.std.proofs.lemmas.Option.{slice_get_within}
use Rattle.gf_basis.specs.declared.bases.Basis.{Basis}
use Rattle.poly_mixed.specs.Polynomial.{Polynomial}
use Rattle.compose_blocks.proofs.ListLemmas.{none_at, some_read}
use Rattle.block_compose.specs.private.Blocks.{ArePolys, HasPoly, KeepsPolys}
use Rattle.block_compose.proofs.BlockLemmas.{has_more, keeps_more, poly_more}
use Rattle.block_compose.proofs.blocks.add_poly.Goals as goal

pub index-requires : goal.index-requires
index-requires g c =
    let kept = c.requires.kept.2 in
    omega (arith, c.requires.polys.long, slice_get_within c.args.blocks.now c.args.number kept.block kept.found)

pub block_poly-requires : goal.block_poly-requires
block_poly-requires g c = record { kept = c.requires.kept }

pub put_poly-requires : goal.put_poly-requires
put_poly-requires g c =
    let kept = c.requires.kept.2 in
    omega (arith, c.requires.polys.long, slice_get_within c.args.blocks.now c.args.number kept.block kept.found)

pub returns-then-is_some-clause-polys : goal.returns-then-is_some-clause-polys
returns-then-is_some-clause-polys g c = c.requires.polys

pub returns-then-is_some-clause-keeps : goal.returns-then-is_some-clause-keeps
returns-then-is_some-clause-keeps g c = λ number poly got. got

pub returns-in-Err-clause-fault : goal.returns-in-Err-clause-fault
returns-in-Err-clause-fault g c = c.in-Err.ensures.fault

pub returns-then-is_some-clause-has : goal.returns-then-is_some-clause-has
returns-then-is_some-clause-has g c =
    let kept = c.requires.kept.2 in
    let less = slice_get_within c.args.blocks.now c.args.number kept.block kept.found in
    some_read c.args.polys.now.items c.args.number c.index.result.now (omega (arith, c.requires.polys.long, less)) c.index.ensures (sym c.is_some.ensures ∙ c.if-is_some.true)

pub returns-in-Err-clause-new : goal.returns-in-Err-clause-new
returns-in-Err-clause-new g c =
    let kept = c.requires.kept.2 in
    let less = slice_get_within c.args.blocks.now c.args.number kept.block kept.found in
    none_at c.args.polys.now.items c.args.number c.index.result.now (omega (arith, c.requires.polys.long, less)) c.index.ensures (sym c.is_some.ensures ∙ c.if-is_some.false)

pub returns-clause-polys : goal.returns-clause-polys
returns-clause-polys g c =
    let k : ℕ = g.F.Ring.degree c.args.field.now in
    let mul : ℕ → ℕ → ℕ = g.F.Ring.product c.args.field.now in
    let bases : List (List Basis) = map (λ list. list.items) c.args.bases.now in
    let P : List (Option Polynomial) → Type 0 = ArePolys k mul c.args.blocks.now c.args.circuits.now bases c.args.bound in
    subst P (sym c.put_poly.ensures) (poly_more k mul c.args.blocks.now c.args.circuits.now bases c.args.bound c.args.polys.now.items c.args.number c.in-Ok.poly c.requires.polys c.in-Ok.ensures.poly)

pub returns-clause-keeps : goal.returns-clause-keeps
returns-clause-keeps g c =
    let kept = c.requires.kept.2 in
    let less = slice_get_within c.args.blocks.now c.args.number kept.block kept.found in
    let none = none_at c.args.polys.now.items c.args.number c.index.result.now (omega (arith, c.requires.polys.long, less)) c.index.ensures (sym c.is_some.ensures ∙ c.if-is_some.false) in
    let P : List (Option Polynomial) → Type 0 = KeepsPolys c.args.polys.now.items in
    subst P (sym c.put_poly.ensures) (keeps_more c.args.polys.now.items c.args.number c.in-Ok.poly none)

pub returns-clause-has : goal.returns-clause-has
returns-clause-has g c =
    let kept = c.requires.kept.2 in
    let less = slice_get_within c.args.blocks.now c.args.number kept.block kept.found in
    let none = none_at c.args.polys.now.items c.args.number c.index.result.now (omega (arith, c.requires.polys.long, less)) c.index.ensures (sym c.is_some.ensures ∙ c.if-is_some.false) in
    let P : List (Option Polynomial) → Type 0 = λ polys. HasPoly polys c.args.number in
    subst P (sym c.put_poly.ensures) (has_more c.args.polys.now.items c.args.number c.in-Ok.poly none)
