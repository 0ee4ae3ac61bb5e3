use Rattle.std.proofs.Common.{◌<◌, ◌+◌, ◌^◌, sym, subst, ℕ, length, map, arith}
use Rattle.std.proofs.lemmas.List.{length-map}
use Rattle.poly_mixed.specs.Polynomial.{Polynomial}
use Rattle.cert_check.specs.Certificate.{Certificate}
use Rattle.cert_check.specs.private.Kept.{terms_of, step_in, IsNumbered}
use Rattle.cert_check.proofs.KeptLemmas.{entries_more}
use Rattle.cert_check.proofs.cert_pairs.CertPairs.add_pair.Goals as goal

pub invariant_of-self-2 : goal.invariant_of-self-2
invariant_of-self-2 c =
    let own = c.self.inside in
    let F : Certificate → Type 0 = λ s. length s.pairs + 1 < 2 ^ 32 in
    let few : length (map (step_in (terms_of own.shared.items)) own.entries.items) + 1 < 2 ^ 32 = subst F (sym c.self.view_is) c.requires.few in
    let N : Certificate → Type 0 = λ s. IsNumbered (length s.shared) c.args.multiplier in
    let C : ℕ → Type 0 = λ n. IsNumbered n c.args.multiplier in
    let one = subst C (length-map own.shared.items (λ (p : Polynomial). p.terms)) (subst N (sym c.self.view_is) c.requires.multiplier) in
    entries_more (length own.shared.items) own.entries.items c.push.new.self.items _ c.in_ok-push.ensures.items (omega (arith, few, length-map own.entries.items (step_in (terms_of own.shared.items)))) one c.self.invariant
