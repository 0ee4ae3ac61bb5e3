use Rattle.std.proofs.Common.{◌≡◌, ◌∙◌, ◌++◌, ◌∷◌, ◌≤◌, ap, sym, subst, ℕ, List, []}
use Rattle.poly_mixed.specs.Labels.{Labelling, bit_count}
use Rattle.poly_mixed.specs.Steps.{Step}
use Rattle.cert_make.specs.CertText.{generator_text as text_of_generator, line_of, multiplier_text, let_lines, text_of_lines, lines_at}
use Rattle.cert_make.specs.Sharing.{shares_with}
use Rattle.cert_make.specs.declared.sharing.Sharing.{Sharing}
use Rattle.cert_make.specs.private.Keys.{KeyParts, key_by, key_text}
use Rattle.cert_make.specs.private.Kept.{pair_of}
use Rattle.cert_make.specs.private.TextSharing.{IsSharingOf, mark_at, named_by, lets_by, written_by, count_by, mark_by}
use Rattle.cert_make.proofs.KeyLemmas.{key_low, key_tells}
use Rattle.cert_make.proofs.SharingLemmas.{pair_lets, pair_written, pair_sharing}
use Rattle.cert_make.proofs.WrittenLemmas.{on_ok, on_ok_any, lines_then}
use Rattle.cert_make.proofs.pairs.add_entry.Goals as goal

pub number_for-requires-clause-place : goal.number_for-requires-clause-place
number_for-requires-clause-place c =
    let P : KeyParts → Type 0 = λ key. key.place ≤ bit_count c.args.labels.now.words in
    subst P (sym c.requires.known) (key_low c.args.labels.now (pair_of c.args.entry.now).1)

pub add_pair-requires-clause-place : goal.add_pair-requires-clause-place
add_pair-requires-clause-place c =
    let P : KeyParts → Type 0 = λ key. key.place ≤ bit_count c.args.labels.now.words in
    subst P (sym c.requires.known) (key_low c.args.labels.now (pair_of c.args.entry.now).1)

pub returns-clause-lines : goal.returns-clause-lines
returns-clause-lines c = λ k pairs shares is has.
    let labels : Labelling = c.args.labels.now in
    let before : Sharing = c.args.sharing.now in
    let s : Step = pair_of c.args.entry.now in
    let key : KeyParts = c.args.key.now in
    let known : key ≡ key_by labels s.1 = c.requires.known in
    let told = ap (key_text labels) known ∙ key_tells labels s.1 c.requires.writable.1.1.reduced.is_map in
    let generator : List ℕ = text_of_generator labels s.0 in
    let written : List ℕ = multiplier_text labels pairs (shares_with pairs shares s.1) s.1 in
    let lets : lets_by (mark_at before.marks key) before.count (key_text labels key) ≡ let_lines labels pairs shares s.1 = (λ i. lets_by (mark_at before.marks (known i)) before.count (told i)) ∙ pair_lets labels k pairs shares before is s has in
    let stands : named_by c.in_ok-number.number (key_text labels key) ≡ written = c.in_ok-number.ensures.written ∙ (λ i. written_by (mark_at before.marks (known i)) before.count (told i)) ∙ pair_written labels k pairs shares before is s has in
    on_ok c.add_pair.result (c.add_pair.new.out.items ≡ c.number_for.new.out.items ++ text_of_lines (line_of generator (named_by c.in_ok-number.number (key_text labels key)) ∷ [])) (c.add_pair.new.out.items ≡ c.args.out.now.items ++ text_of_lines (lines_at labels pairs shares s))
    (λ adds. lines_then c.args.out.now.items c.number_for.new.out.items c.add_pair.new.out.items (lets_by (mark_at before.marks key) before.count (key_text labels key)) (line_of generator (named_by c.in_ok-number.number (key_text labels key))) (let_lines labels pairs shares s.1) (line_of generator written) lets (ap (line_of generator) stands) c.in_ok-number.ensures.lines adds)
    c.add_pair.ensures

pub returns-clause-sharing : goal.returns-clause-sharing
returns-clause-sharing c = λ k pairs shares is has.
    let labels : Labelling = c.args.labels.now in
    let before : Sharing = c.args.sharing.now in
    let s : Step = pair_of c.args.entry.now in
    let known : c.args.key.now ≡ key_by labels s.1 = c.requires.known in
    let after : Sharing = c.number_for.new.self in
    let C : KeyParts → Type 0 = λ t. after.count ≡ count_by (mark_at before.marks t) before.count in
    let M : KeyParts → Type 0 = λ t. (q : KeyParts) → mark_at after.marks q ≡ mark_by (mark_at before.marks t) before.count t q (mark_at before.marks q) in
    on_ok_any c.add_pair.result (IsSharingOf labels k pairs (shares_with pairs shares s.1) after)
    (pair_sharing labels k pairs shares before is s has after (subst C known c.in_ok-number.ensures.count) (subst M known c.in_ok-number.ensures.marks))
