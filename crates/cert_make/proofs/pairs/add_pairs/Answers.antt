use Rattle.std.proofs.Common.{◌∙◌, ap, refl, sym, subst, ℕ, List, length, arith}
use Rattle.std.proofs.lemmas.List.{length-map}
use Rattle.poly_mixed.specs.Labels.{Labelling}
use Rattle.poly_mixed.specs.Polynomial.{Terms}
use Rattle.poly_mixed.specs.Steps.{Step}
use Rattle.cert_make.specs.private.Kept.{pair_of, pairs_of}
use Rattle.cert_make.specs.private.Keys.{KeyParts, key_by}
use Rattle.cert_make.specs.private.TextSharing.{IsSharingOf}
use Rattle.cert_make.proofs.CopyLemmas.{key_at}
use Rattle.cert_make.proofs.SharingLemmas.{written_pair}
use Rattle.cert_make.proofs.WrittenLemmas.{entry_has, shares_at, shares_next, whole_end, whole_next}
use Rattle.cert_make.proofs.pairs.add_pairs.Goals as goal

pub bounds-keys-i : goal.bounds-keys-i
bounds-keys-i c = omega (arith, c.loop-i-test.true, ap (λ (ks : List KeyParts). length ks) (c.as_slice-keys.ensures.value ∙ c.in_ok-list.ensures), length-map (pairs_of c.args.entries.now) (λ (s : Step). key_by c.args.labels.now s.1), length-map c.args.entries.now pair_of)

pub loop-i-init : goal.loop-i-init
loop-i-init c = record {
  whole = refl;
  known = λ k all. record { writable = all; written = tt; marks = c.in_ok-marks.ensures c.args.labels.now (pairs_of c.args.entries.now) (c.as_slice-keys.ensures.value ∙ c.in_ok-list.ensures); count = refl };
  room = omega arith;
}

pub returns : goal.returns
returns c = whole_end c.add_end.result c.args.labels.now c.args.entries.now c.loop-i.i c.args.out.now.items c.loop-i.out.items c.add_end.new.out.items (omega (arith, c.loop-i-test.false)) c.loop-i.invariant.whole c.add_end.ensures

pub add_entry-requires-clause-writable : goal.add_entry-requires-clause-writable
add_entry-requires-clause-writable c =
    let has = entry_has c.args.entries.now c.loop-i.i c.index-entries-i.result c.loop-i-test.true c.index-entries-i.is in
    (c.requires.0, written_pair c.args.labels.now c.requires.0 (pairs_of c.args.entries.now) (pair_of c.index-entries-i.result) c.requires.1 has)

pub loop-i-preserved : goal.loop-i-preserved
loop-i-preserved c =
    let labels : Labelling = c.args.labels.now in
    let es = c.args.entries.now in
    let i : ℕ = c.loop-i.i in
    let e = c.index-entries-i.result in
    let pairs : List Step = pairs_of es in
    let has = entry_has es i e c.loop-i-test.true c.index-entries-i.is in
    let known = c.loop-i.invariant.known in
    let adds = c.in_ok-add_entry.ensures.lines c.requires.0 pairs (shares_at pairs i) (known c.requires.0 c.requires.1) has in
    let room = c.in_ok-add_entry.ensures.room in
    record {
      whole = whole_next labels es i e c.loop-i.out.items c.add_entry.new.out.items _ c.loop-i-test.true c.index-entries-i.is c.loop-i.invariant.whole adds;
      known = λ k all. (let S : List Terms → Type 0 = λ sh. IsSharingOf labels k pairs sh c.add_entry.new.sharing in
          subst S (sym (shares_next es i e c.loop-i-test.true c.index-entries-i.is)) (c.in_ok-add_entry.ensures.sharing k pairs (shares_at pairs i) (known k all) has));
      room = omega (arith, room, c.loop-i.invariant.room);
    }

pub add_entry-requires-clause-known : goal.add_entry-requires-clause-known
add_entry-requires-clause-known c =
    key_at c.args.labels.now c.args.entries.now c.as_slice-keys.result.now c.loop-i.i c.index-entries-i.result c.index-keys-i.result (c.as_slice-keys.ensures.value ∙ c.in_ok-list.ensures) c.loop-i-test.true c.index-entries-i.is c.index-keys-i.is
