use Rattle.std.proofs.Common.{◌≡◌, ◌∙◌, ap, sym, subst, inr, true, false, Option, Some}
use Rattle.std.specs.Prelude.{slice_get, IfNone}
use Rattle.net_words.specs.Roles.{same_role}
use Rattle.net_words.specs.declared.word.Role.TheVariants.{Output}
use Rattle.compose_model.specs.NamedWord.{NamedWord}
use Rattle.compose_model.specs.declared.feeder.Feeder.{Feeder}
use Rattle.compose_wiring.specs.private.Plain.{IsFoundFor}
use Rattle.compose_wiring.proofs.WordsLemmas.{output_is}
use Rattle.net_words.proofs.SharedLemmas.{not_role}
use Rattle.compose_wiring.proofs.row.add_word.Goals as goal

pub is_good_output-requires-clause-output : goal.is_good_output-requires-clause-output
is_good_output-requires-clause-output c = λ at got.
    let here : slice_get c.args.placed.now.words c.args.word ≡ Some c.word.result.now = c.word.ensures in
    let same : c.word.result.now ≡ at = cc in
    let role : same_role at.role Output ≡ true = ap (λ (w : NamedWord). same_role w.role Output) (sym same) ∙ sym c.is_output.ensures ∙ c.if-is_output.true in
    output_is c.args.placed.now.words c.args.word at c.requires.sized.1.output got role

pub returns-in-None : goal.returns-in-None
returns-in-None c = λ at got.
    let here : slice_get c.args.placed.now.words c.args.word ≡ Some c.word.result.now = c.word.ensures in
    let same : c.word.result.now ≡ at = cc in
    let role : same_role at.role Output ≡ false = ap (λ (w : NamedWord). same_role w.role Output) (sym same) ∙ sym c.is_output.ensures ∙ c.if-is_output.false in
    let P : Option Feeder → Type 0 = λ o. IfNone o ((w : NamedWord) (feed : Feeder) → slice_get c.args.placed.now.words c.args.word ≡ Some w → IsFoundFor c.args.candidates.now c.args.placed.now w feed → ⊥) in
    let none = subst P c.in-None.is c.in_ok-feed.ensures.none in
    inr (not_role at.role role, λ feed found. none at feed got found)
