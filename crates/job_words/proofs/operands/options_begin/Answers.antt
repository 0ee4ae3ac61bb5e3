use Rattle.std.proofs.Common.{◌≡◌, ◌∙◌, ap, sym, true, false, get_or, string_bytes, arith}
use Rattle.job_words.specs.Operands.{Word}
use Rattle.job_words.specs.private.OptionPlace.{begins_options}
use Rattle.job_words.proofs.ValueLemmas.{begins_at, begins_nowhere, one_more}
use Rattle.job_words.proofs.operands.options_begin.Goals as goal

pub returns-then-begins_options-clause-before : goal.returns-then-begins_options-clause-before
returns-then-begins_options-clause-before c =
    let words = c.args.words.now in
    let item = c.index-words-i.result in
    let here : begins_options (string_bytes (get_or words c.loop-i.i item)) ≡ true =
    ap (λ w. begins_options (string_bytes w)) (sym c.index-words-i.is) ∙ (ap (λ (w : Word). begins_options w) (sym c.as_str.ensures.value) ∙ (sym c.begins_options.ensures ∙ c.if-begins_options.true)) in
    (begins_at string_bytes words c.loop-i.i item (omega arith) c.loop-i.invariant here).0

pub returns-then-begins_options-clause-behind : goal.returns-then-begins_options-clause-behind
returns-then-begins_options-clause-behind c =
    let words = c.args.words.now in
    let item = c.index-words-i.result in
    let here : begins_options (string_bytes (get_or words c.loop-i.i item)) ≡ true =
    ap (λ w. begins_options (string_bytes w)) (sym c.index-words-i.is) ∙ (ap (λ (w : Word). begins_options w) (sym c.as_str.ensures.value) ∙ (sym c.begins_options.ensures ∙ c.if-begins_options.true)) in
    (begins_at string_bytes words c.loop-i.i item (omega arith) c.loop-i.invariant here).1

pub loop-i-preserved : goal.loop-i-preserved
loop-i-preserved c =
    let words = c.args.words.now in
    let item = c.index-words-i.result in
    let here : begins_options (string_bytes (get_or words c.loop-i.i item)) ≡ false =
    ap (λ w. begins_options (string_bytes w)) (sym c.index-words-i.is) ∙ (ap (λ (w : Word). begins_options w) (sym c.as_str.ensures.value) ∙ (sym c.begins_options.ensures ∙ c.if-begins_options.false)) in
    one_more string_bytes words c.loop-i.i item (omega arith) c.loop-i.invariant here

pub returns-clause-before : goal.returns-clause-before
returns-clause-before c = (begins_nowhere string_bytes c.args.words.now c.loop-i.i (omega arith) c.loop-i.invariant).0

pub returns-clause-behind : goal.returns-clause-behind
returns-clause-behind c = (begins_nowhere string_bytes c.args.words.now c.loop-i.i (omega arith) c.loop-i.invariant).1
