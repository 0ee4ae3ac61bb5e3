use Rattle.std.proofs.Common.{◌≡◌, ◌∙◌, sym, true, ◌==◌, length, rules}
use Rattle.std.proofs.lemmas.Bool.{eqb-true}
use Rattle.std.proofs.lemmas.List.{nil_from_length}
use Rattle.stage_model.specs.WordStage.{is_of_word}
use Rattle.word_subst.proofs.FirstBitLemmas.{none_passes}
use Rattle.word_subst.proofs.whole.are_others.Goals as goal

pub returns : goal.returns
returns c = λ holds.
    let empty : (length c.in_ok-own.own.items == 0) ≡ true = search rules in
    none_passes (is_of_word c.args.k c.args.word) c.args.ranks.now (sym c.in_ok-own.ensures ∙ nil_from_length c.in_ok-own.own.items (eqb-true (length c.in_ok-own.own.items) 0 empty))
