use Rattle.std.proofs.Common.{◌∙◌, subst, List, Result, Ok, Err}
use Rattle.std.specs.Prelude.{OnOk}
use Rattle.net_words.specs.declared.word.Role.TheVariants.{Input}
use Rattle.net_words.specs.declared.word.WordText.{WordText}
use Rattle.make_nets.specs.Form.{HasWords}
use Rattle.mult_gen.proofs.FormLemmas.{names_few, wide_of}
use Rattle.mult_gen.proofs.form.ports.Goals as goal

pub outer_nets-requires : goal.outer_nets-requires
outer_nets-requires c = names_few c.args.signature.now.words c.words-2.result.now c.feeds.result.now c.args._k c.args.count c.words-2.ensures (c.feeds.ensures ∙ (c.is_plain.ensures.0 c.if-not-is_plain.false).1) (let P : List WordText → Type 0 = λ ws. HasWords Input c.args.count ws in subst P c.words.ensures (c.has_words.ensures.0 c.if-not-has_words.false)) (wide_of c.args._k c.args.count c.args.signature.now.words (let P : List WordText → Type 0 = λ ws. HasWords Input c.args.count ws in subst P c.words.ensures (c.has_words.ensures.0 c.if-not-has_words.false)) c.requires.wide) c.requires.small c.requires.few

held : {T E P : Type 0} (r : Result T E) → P → OnOk r P
held (Ok x) p = p
held (Err e) p = tt

pub returns-clause-wide : goal.returns-clause-wide
returns-clause-wide c = held c.or_unfit.result (wide_of c.args._k c.args.count c.args.signature.now.words (let P : List WordText → Type 0 = λ ws. HasWords Input c.args.count ws in subst P c.words.ensures (c.has_words.ensures.0 c.if-not-has_words.false)) c.requires.wide)
