use Rattle.std.proofs.Common.{◌≡◌, ◌++◌, List, ℕ, [], take, take_all, ap, subst, ◌∙◌, sym}
use Rattle.lists.specs.laws.ReadLaws.{got_read}
use Rattle.poly_mixed.specs.Labels.{Labelling}
use Rattle.job_input.specs.Labelling.{output_name, word_label, word_labels, IsNewLabel}
use Rattle.job_input.proofs.LabelLemmas.{label_more, new_label}
use Rattle.job_input.proofs.labels.labels_for.Goals as goal

pub output_name-requires : goal.output_name-requires
output_name-requires c = record { words = (c.args.k, c.requires.words); names = c.requires.names }

pub new-requires : goal.new-requires
new-requires c = record { name = c.output_name.ensures.is_name }

pub loop-word-init : goal.loop-word-init
loop-word-init c = c.in_ok-labels.ensures ∙ ap (λ (name : List ℕ). record { output = name; words = []; nets = [] }) c.output_name.ensures.name

pub add_label-requires : goal.add_label-requires
add_label-requires c =
    let words = c.args.words.now in
    let i = c.loop-word.word-index in
    let word = c.word-item.result in
    let at = got_read words i word c.loop-word-test.true c.word-item.is in
    let before : c.loop-word.labels.words ≡ word_labels c.args.k (take i words) = ap (λ (l : Labelling). l.words) c.loop-word.invariant in
    let P : List (List ℕ × ℕ) → Type 0 = λ ls. IsNewLabel word.role word.name ls in
    record {
      name = c.requires.names.names word (i, at);
      bits = (c.requires.words.some, c.requires.words.most);
      first = ap (λ (l : Labelling). l.nets) c.loop-word.invariant;
      new = subst P (sym before) (new_label c.args.k words i word c.requires.names c.requires.words.others at);
    }

pub loop-word-preserved : goal.loop-word-preserved
loop-word-preserved c =
    let words = c.args.words.now in
    let i = c.loop-word.word-index in
    let word = c.word-item.result in
    let at = got_read words i word c.loop-word-test.true c.word-item.is in
    c.in_ok-add_label.ensures
    ∙ (ap (λ (l : Labelling). record { output = l.output; words = l.words ++ word_label word.role word.name c.args.k; nets = [] }) c.loop-word.invariant
    ∙ ap (λ ls. record { output = output_name words; words = ls; nets = [] }) (sym (label_more c.args.k words i word at)))

pub returns : goal.returns
returns c =
    let words = c.args.words.now in
    c.loop-word.invariant ∙ ap (λ us. record { output = output_name words; words = word_labels c.args.k us; nets = [] }) (take_all c.loop-word.word-index words c.loop-word-test.false)
