use Rattle.std.proofs.Common.{◌≡◌, Some, bit_xor, arith}
use Rattle.std.specs.Map.{lookup}
use Rattle.std.specs.Ordering.{eq_by_cmp}
use Rattle.poly_mixed.specs.Monomial.{text_cmp}
use Rattle.cert_check.proofs.TermMapLemmas.{added_new, added_old, added_gone, sum_map}
use Rattle.cert_check.proofs.term_map.add_to.Goals as goal

pub returns-in-Vacant-clause-added : goal.returns-in-Vacant-clause-added
returns-in-Vacant-clause-added c =
    let found = c.in_ok-entry.ensures.found in
    let absent = rw (c.in-Vacant.is) at found in
    let writes = c.in_ok-entry.ensures.update.1 c.args.c in
    added_new c.args.map.now.entries _ c.args.mono c.args.c c.requires.is_map absent (grind (arith, writes))

pub returns-in-Vacant-clause-is_map : goal.returns-in-Vacant-clause-is_map
returns-in-Vacant-clause-is_map c =
    let found = c.in_ok-entry.ensures.found in
    let absent = rw (c.in-Vacant.is) at found in
    let writes = c.in_ok-entry.ensures.update.1 c.args.c in
    sum_map c.args.map.now.entries _ c.args.mono c.args.c c.requires.is_map c.requires.nonzero c.requires.rising (added_new c.args.map.now.entries _ c.args.mono c.args.c c.requires.is_map absent (grind (arith, writes)))

pub returns-then-sum-eq0-clause-added : goal.returns-then-sum-eq0-clause-added
returns-then-sum-eq0-clause-added c =
    let had : lookup (eq_by_cmp text_cmp c.args.mono) c.args.map.now.entries ≡ Some c.get-before.result.now = grind arith in
    let removes = c.in_ok-entry.ensures.removal.1 in
    added_gone c.args.map.now.entries _ c.args.mono c.args.c c.requires.is_map c.get-before.result.now had c.if-sum-eq0.true (grind (arith, removes))

pub returns-then-sum-eq0-clause-is_map : goal.returns-then-sum-eq0-clause-is_map
returns-then-sum-eq0-clause-is_map c =
    let had : lookup (eq_by_cmp text_cmp c.args.mono) c.args.map.now.entries ≡ Some c.get-before.result.now = grind arith in
    let removes = c.in_ok-entry.ensures.removal.1 in
    sum_map c.args.map.now.entries _ c.args.mono c.args.c c.requires.is_map c.requires.nonzero c.requires.rising (added_gone c.args.map.now.entries _ c.args.mono c.args.c c.requires.is_map c.get-before.result.now had c.if-sum-eq0.true (grind (arith, removes)))

pub returns-else-sum-eq0-clause-added : goal.returns-else-sum-eq0-clause-added
returns-else-sum-eq0-clause-added c =
    let had : lookup (eq_by_cmp text_cmp c.args.mono) c.args.map.now.entries ≡ Some c.get-before.result.now = grind arith in
    let writes = c.in_ok-entry.ensures.update.1 (bit_xor c.get-before.result.now c.args.c) in
    added_old c.args.map.now.entries _ c.args.mono c.args.c c.requires.is_map c.get-before.result.now had c.if-sum-eq0.false (grind (arith, writes))

pub returns-else-sum-eq0-clause-is_map : goal.returns-else-sum-eq0-clause-is_map
returns-else-sum-eq0-clause-is_map c =
    let had : lookup (eq_by_cmp text_cmp c.args.mono) c.args.map.now.entries ≡ Some c.get-before.result.now = grind arith in
    let writes = c.in_ok-entry.ensures.update.1 (bit_xor c.get-before.result.now c.args.c) in
    sum_map c.args.map.now.entries _ c.args.mono c.args.c c.requires.is_map c.requires.nonzero c.requires.rising (added_old c.args.map.now.entries _ c.args.mono c.args.c c.requires.is_map c.get-before.result.now had c.if-sum-eq0.false (grind (arith, writes)))
