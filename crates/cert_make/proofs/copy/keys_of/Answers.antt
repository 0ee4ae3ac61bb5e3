use Rattle.std.proofs.Common.{arith}
use Rattle.poly_mixed.specs.Labels.{Labelling}
use Rattle.cert_make.specs.private.Kept.{pair_of, pairs_of}
use Rattle.cert_make.proofs.CopyLemmas.{keys_more, keys_all}
use Rattle.cert_make.proofs.SharingLemmas.{written_pair}
use Rattle.cert_make.proofs.WrittenLemmas.{entry_has}
use Rattle.cert_make.proofs.copy.keys_of.Goals as goal

pub key_of_entry-requires-clause-terms : goal.key_of_entry-requires-clause-terms
key_of_entry-requires-clause-terms c =
    let has = entry_has c.args.entries.now c.loop-entry.entry-index c.entry-item.result c.loop-entry-test.true c.entry-item.is in
    let written = written_pair c.args.labels.now c.requires.0 (pairs_of c.args.entries.now) (pair_of c.entry-item.result) c.requires.1 has in
    written.1.reduced.is_map

pub key_of_entry-requires-clause-named : goal.key_of_entry-requires-clause-named
key_of_entry-requires-clause-named c =
    let has = entry_has c.args.entries.now c.loop-entry.entry-index c.entry-item.result c.loop-entry-test.true c.entry-item.is in
    let written = written_pair c.args.labels.now c.requires.0 (pairs_of c.args.entries.now) (pair_of c.entry-item.result) c.requires.1 has in
    written.1.ranks

pub key_of_entry-requires-clause-words_named : goal.key_of_entry-requires-clause-words_named
key_of_entry-requires-clause-words_named c =
    let has = entry_has c.args.entries.now c.loop-entry.entry-index c.entry-item.result c.loop-entry-test.true c.entry-item.is in
    let written = written_pair c.args.labels.now c.requires.0 (pairs_of c.args.entries.now) (pair_of c.entry-item.result) c.requires.1 has in
    written.1.words

pub loop-entry-preserved : goal.loop-entry-preserved
loop-entry-preserved c =
    let labels : Labelling = c.args.labels.now in
    keys_more labels c.args.entries.now c.loop-entry.entry-index c.entry-item.result c.loop-entry.list.items c.push.new.self.items c.in_ok-key.key c.loop-entry-test.true c.entry-item.is c.loop-entry.invariant c.in_ok-key.ensures c.in_ok-push.ensures.items

pub returns : goal.returns
returns c = keys_all c.args.labels.now c.args.entries.now c.loop-entry.entry-index c.loop-entry.list.items (omega (arith, c.loop-entry-test.false)) c.loop-entry.invariant
