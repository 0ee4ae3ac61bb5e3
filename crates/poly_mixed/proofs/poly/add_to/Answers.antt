use Rattle.std.proofs.Common.{◌≡◌, Some, bit_xor, refl, sym, ◌∙◌, subst, arith}
use Rattle.std.specs.Map.{lookup}
use Rattle.std.specs.Ordering.{eq_by_cmp}
use Rattle.poly_mixed.specs.Monomial.{Monomial, text_cmp}
use Rattle.poly_mixed.specs.declared.place.Place.{Place}
use Rattle.poly_mixed.proofs.AddedLemmas.{added_new, added_old, added_gone, new_indexed, old_indexed, gone_indexed}
use Rattle.poly_mixed.specs.private.Indexed.{Changes}
use Rattle.poly_mixed.proofs.MonomialLemmas.{text_cmp-same}
use Rattle.poly_mixed.proofs.poly.add_to.Goals as goal

pub returns-in_ok-slot-in-Vacant-clause-added : goal.returns-in_ok-slot-in-Vacant-clause-added
returns-in_ok-slot-in-Vacant-clause-added c =
    let found = c.in_ok-entry.ensures.found in
    let absent = rw (c.in-Vacant.is) at found in
    let place : Place = record { coefficient = c.args.c; slot = c.in_ok-slot-in-Vacant.slot } in
    let writes = c.in_ok-entry.ensures.update.1 place in
    added_new c.args.map.now.entries _ c.args.index.now c.args.mono c.args.c c.requires.indexed place refl absent (grind (arith, writes))

pub returns-in_ok-slot-in-Vacant-clause-indexed : goal.returns-in_ok-slot-in-Vacant-clause-indexed
returns-in_ok-slot-in-Vacant-clause-indexed c =
    let found = c.in_ok-entry.ensures.found in
    let absent = rw (c.in-Vacant.is) at found in
    let place : Place = record { coefficient = c.args.c; slot = c.in_ok-slot-in-Vacant.slot } in
    let writes = c.in_ok-entry.ensures.update.1 place in
    let near = c.in_ok-entry.ensures.same_key in
    let equal = rw (c.in-Vacant.is) at near in
    let whose : c.key.result.now ≡ c.args.mono = c.key.ensures ∙ sym (text_cmp-same c.args.mono _ equal) in
    let P : Monomial → Type 0 = λ m. Changes c.args.index.now c.put.new.self c.in_ok-slot-in-Vacant.slot (Some m) in
    new_indexed c.args.map.now.entries _ c.args.index.now c.args.mono c.args.c c.requires.indexed c.put.new.self place c.requires.nonzero c.requires.rising refl absent c.in_ok-slot-in-Vacant.ensures.empty (subst P whose c.in_ok-slot-in-Vacant.ensures.holds) (grind (arith, writes))

pub returns-then-sum-eq0-clause-added : goal.returns-then-sum-eq0-clause-added
returns-then-sum-eq0-clause-added c =
    let had : lookup (eq_by_cmp text_cmp c.args.mono) c.args.map.now.entries ≡ Some c.get-place.result.now = grind arith in
    let removes = c.in_ok-entry.ensures.removal.1 in
    added_gone c.args.map.now.entries _ c.args.index.now c.args.mono c.args.c c.requires.indexed c.get-place.result.now had c.if-sum-eq0.true (grind (arith, removes))

pub returns-then-sum-eq0-clause-indexed : goal.returns-then-sum-eq0-clause-indexed
returns-then-sum-eq0-clause-indexed c =
    let had : lookup (eq_by_cmp text_cmp c.args.mono) c.args.map.now.entries ≡ Some c.get-place.result.now = grind arith in
    let removes = c.in_ok-entry.ensures.removal.1 in
    gone_indexed c.args.map.now.entries _ c.args.index.now c.args.mono c.args.c c.requires.indexed c.take.new.self c.get-place.result.now had c.take.ensures.left (grind (arith, removes))

pub returns-else-sum-eq0-clause-added : goal.returns-else-sum-eq0-clause-added
returns-else-sum-eq0-clause-added c =
    let had : lookup (eq_by_cmp text_cmp c.args.mono) c.args.map.now.entries ≡ Some c.get-place.result.now = grind arith in
    let place : Place = record { coefficient = bit_xor c.get-place.result.now.coefficient c.args.c; slot = c.get-place.result.now.slot } in
    let writes = c.in_ok-entry.ensures.update.1 place in
    added_old c.args.map.now.entries _ c.args.index.now c.args.mono c.args.c c.requires.indexed place c.get-place.result.now had c.if-sum-eq0.false refl (grind (arith, writes))

pub returns-else-sum-eq0-clause-indexed : goal.returns-else-sum-eq0-clause-indexed
returns-else-sum-eq0-clause-indexed c =
    let had : lookup (eq_by_cmp text_cmp c.args.mono) c.args.map.now.entries ≡ Some c.get-place.result.now = grind arith in
    let place : Place = record { coefficient = bit_xor c.get-place.result.now.coefficient c.args.c; slot = c.get-place.result.now.slot } in
    let writes = c.in_ok-entry.ensures.update.1 place in
    old_indexed c.args.map.now.entries _ c.args.index.now c.args.mono c.args.c c.requires.indexed place c.get-place.result.now c.requires.nonzero c.requires.rising had c.if-sum-eq0.false refl refl (grind (arith, writes))
