use Rattle.std.proofs.Common.{◌∙◌, ap, refl, List, [], ◌∷◌, ◌++◌, length, arith}
use Rattle.std.proofs.lemmas.List.{length_push, map-append}
use Rattle.poly_mixed.specs.Polynomial.{Polynomial, Terms}
use Rattle.cert_check.specs.private.Kept.{terms_of}
use Rattle.cert_check.proofs.checking.Checking.share.Goals as goal

pub returns-clause-shared : goal.returns-clause-shared
returns-clause-shared c =
    let old : List Polynomial = c.args.self.now.shared.items in
    let list : Polynomial = c.in_ok-list.list in
    record {
      claim = refl;
      shared = ap terms_of c.in_ok-push.ensures.items ∙ (map-append (λ (q : Polynomial). q.terms) old (list ∷ []) ∙ ap (λ (t : Terms). terms_of old ++ t ∷ []) c.in_ok-list.ensures);
      few = omega (arith, ap (λ (xs : List Polynomial). length xs) c.in_ok-push.ensures.items, length_push old list);
      sum = refl;
      last = refl;
    }
