use Rattle.std.proofs.Common.{◌≡◌, [], ◌∷◌, get_or, sym, ◌∙◌, ap, arith}
use Rattle.std.proofs.lemmas.Bool.{eqb-true}
use Rattle.rato_reduce.proofs.ShortListLemmas.{one_item}
use Rattle.rato_reduce.proofs.ranks.Ranks.is_only.Goals as goal

pub returns-then-ranks-eq1 : goal.returns-then-ranks-eq1
returns-then-ranks-eq1 c same =
    let ranks = c.as_slice-ranks.result.now in
    let one : ranks ≡ get_or ranks 0 0 ∷ [] = one_item ranks (omega arith) in
    sym (c.as_slice-ranks.ensures ∙ c.self.view_is) ∙ one ∙ ap (λ r. r ∷ []) (eqb-true (get_or ranks 0 0) c.args.rank same)
