-- What a recorder tells.
use Rattle.std.proofs.Common.{◌≡◌, List, [], ◌++◌, Option, None, Some, sym, ap, subst, ◌∙◌, append-nil}
use Rattle.std.proofs.lemmas.List.{append_assoc}
use Rattle.poly_mixed.specs.Steps.{Step, Tells}

pub tells_none : (old : Option (List Step)) → Tells old old []
tells_none None = tt
tells_none (Some xs) = ap Some (sym (append-nil xs))

pub tells_more : (old mid new : Option (List Step)) (s t : List Step) → Tells old mid s → Tells mid new t → Tells old new (s ++ t)
tells_more None mid new s t p q = tt
tells_more (Some xs) mid new s t p q =
    let P : Option (List Step) → Type 0 = λ o. Tells o new t in
    let r : new ≡ Some ((xs ++ s) ++ t) = subst P p q in
    r ∙ ap Some (append_assoc xs s t)
