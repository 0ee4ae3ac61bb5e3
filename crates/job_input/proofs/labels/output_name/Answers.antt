use Rattle.std.proofs.Common.{◌∙◌, sym, subst, List, ℕ, arith}
use Rattle.text_core.specs.Names.{IsName}
use Rattle.lists.specs.laws.ReadLaws.{got_read}
use Rattle.job_input.proofs.OutputNameLemmas.{named_here, none_left, passed}
use Rattle.job_input.proofs.labels.output_name.Goals as goal

pub returns-in-Output : goal.returns-in-Output
returns-in-Output c =
    let words = c.args.words.now in
    let i = c.loop-word.word-index in
    let word = c.word-item.result in
    let at = got_read words i word c.loop-word-test.true c.word-item.is in
    let P : List ℕ → Type 0 = λ name. IsName name in
    record {
      name = c.as_str.ensures ∙ (sym (named_here words i word at c.in-Output.is) ∙ c.loop-word.invariant.name);
      is_name = subst P (sym c.as_str.ensures) (c.requires.names.names word (i, at));
    }

pub loop-word-preserved : goal.loop-word-preserved
loop-word-preserved c =
    let words = c.args.words.now in
    let i = c.loop-word.word-index in
    let word = c.word-item.result in
    let behind = passed words i word (got_read words i word c.loop-word-test.true c.word-item.is) c.in_default.not-Output in
    record { name = behind.name ∙ c.loop-word.invariant.name; one = behind.count ∙ c.loop-word.invariant.one }

pub unreachable-requires : goal.unreachable-requires
unreachable-requires c =
    let none = none_left c.args.words.now c.loop-word.word-index c.loop-word-test.false in
    omega (arith, none, c.loop-word.invariant.one)
