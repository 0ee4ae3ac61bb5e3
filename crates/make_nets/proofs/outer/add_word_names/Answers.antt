use Rattle.std.proofs.Common.{◌≡◌, ◌∙◌, ◌++◌, ◌+◌, List, ℕ, true, arith, ap, sym, subst, length, take, drop}
use Rattle.make_nets.specs.MakerNames.{AreMade}
use Rattle.make_nets.specs.Ports.{word_names}
use Rattle.make_nets.proofs.LabelLemmas.{append_long}
use Rattle.make_nets.proofs.FrontLemmas.{words_split, words_take, words_long}
use Rattle.make_nets.proofs.OuterLemmas.{refuse_all, made_with}
use Rattle.make_nets.proofs.outer.add_word_names.Goals as goal

pub add_names-requires-clause-room : goal.add_names-requires-clause-room
add_names-requires-clause-room c = omega (arith, c.requires.room, c.loop-word.invariant.1, words_long c.args.words.now c.loop-word.word-index c.word-item.result c.as_slice.result.now c.loop-word-test.true c.word-item.is c.as_slice.ensures)

pub returns-then-not-branch : goal.returns-then-not-branch
returns-then-not-branch c = refuse_all (word_names (take c.loop-word.word-index c.args.words.now) ++ c.as_slice.result.now) (word_names (drop (c.loop-word.word-index + 1) c.args.words.now)) (word_names c.args.words.now)
    c.add_names.new.maker c.in_ok-add_names.field-0
    (c.in_ok-add_names.ensures (word_names (take c.loop-word.word-index c.args.words.now)) c.loop-word.invariant.0) c.if-not-branch.true
    (words_split c.args.words.now c.loop-word.word-index c.word-item.result c.as_slice.result.now c.loop-word-test.true c.word-item.is c.as_slice.ensures)

pub overflow_cast-count : goal.overflow_cast-count
overflow_cast-count c = omega (arith, c.requires.room, words_long c.args.words.now c.loop-word.word-index c.word-item.result c.as_slice-in-loop-word.result.now c.loop-word-test.true c.word-item.is c.as_slice-in-loop-word.ensures)

pub overflow_add-count : goal.overflow_add-count
overflow_add-count c = omega (arith, c.requires.room, c.loop-word.invariant.1, words_long c.args.words.now c.loop-word.word-index c.word-item.result c.as_slice-in-loop-word.result.now c.loop-word-test.true c.word-item.is c.as_slice-in-loop-word.ensures)

pub loop-word-preserved : goal.loop-word-preserved
loop-word-preserved c =
    let more : word_names (take (c.loop-word.word-index + 1) c.args.words.now) ≡ word_names (take c.loop-word.word-index c.args.words.now) ++ c.as_slice.result.now = words_take c.args.words.now c.loop-word.word-index c.word-item.result c.as_slice.result.now c.loop-word-test.true c.word-item.is c.as_slice.ensures in
    let P : List (List ℕ) → Type 0 = λ names. AreMade names c.add_names.new.maker true in (
      subst P (sym more) (made_with (word_names (take c.loop-word.word-index c.args.words.now) ++ c.as_slice.result.now) c.add_names.new.maker c.in_ok-add_names.field-0 (c.in_ok-add_names.ensures (word_names (take c.loop-word.word-index c.args.words.now)) c.loop-word.invariant.0) c.if-not-branch.false),
      omega (arith, c.loop-word.invariant.1, ap (λ (zs : List (List ℕ)). length zs) more, append_long (word_names (take c.loop-word.word-index c.args.words.now)) c.as_slice.result.now, ap (λ (zs : List (List ℕ)). length zs) (c.as_slice.ensures ∙ sym c.as_slice-in-loop-word.ensures)),
    )
