use Rattle.std.proofs.Common.{◌≡◌, ◌∙◌, ◌<◌, ◌≤◌, ap, sym, subst, ℕ, List, length, OnOk, arith}
use Rattle.std.specs.Prelude.{IfErr}
use Rattle.std.proofs.lemmas.List.{length-map}
use Rattle.std.proofs.lemmas.Result.{on_ok_weaker}
use Rattle.poly_mixed.specs.Polynomial.{Polynomial, Terms, IsReduced}
use Rattle.cert_check.specs.Certificate.{with_pair}
use Rattle.cert_check.specs.declared.fault.CertFault.TheVariants.{TooManyTerms}
use Rattle.cert_check.specs.private.Held.{dual_of, whole, IsSettled}
use Rattle.cert_check.specs.private.Kept.{terms_of, IsKept, IsNumbered}
use Rattle.cert_check.specs.private.Reading.{multiplier_in, IsMultiplier}
use Rattle.cert_check.proofs.CheckLemmas.{pair_asks, pair_kept, multiplier_reduced, numbered}
use Rattle.cert_check.proofs.checking.Checking.add_pair.Goals as goal

pub add_multiplier-requires-clause-number : goal.add_multiplier-requires-clause-number
add_multiplier-requires-clause-number g c =
    let P : List Polynomial → Type 0 = λ xs. IsNumbered (length xs) c.args.multiplier.now in
    subst P (sym c.as_slice.ensures.value) (numbered (g.F.Ring.degree c.args.field.now) (length c.args.self.now.shared.items) c.args.multiplier.now c.requires.multiplier)

pub add_multiplier-requires-clause-multiplier : goal.add_multiplier-requires-clause-multiplier
add_multiplier-requires-clause-multiplier g c =
    let k = g.F.Ring.degree c.args.field.now in
    let shared = c.args.self.now.shared.items in
    let m = c.args.multiplier.now in
    let count : length shared ≡ length (terms_of shared) = sym (length-map shared (λ (p : Polynomial). p.terms)) in
    let Q : ℕ → Type 0 = λ n. IsMultiplier k n m in
    let P : List Polynomial → Type 0 = λ xs. IsReduced k (multiplier_in (terms_of xs) m) in
    subst P (sym c.as_slice.ensures.value) (multiplier_reduced k (terms_of shared) m c.requires.kept.1.reduced (subst Q count c.requires.multiplier))

pub check_sum-requires : goal.check_sum-requires
check_sum-requires g c = let P : ℕ → Type 0 = λ n. IsSettled n c.args.bound c.settle.new.self in subst P (sym c.k.ensures) c.in_ok-settle.ensures.settled

pub returns-clause-few : goal.returns-clause-few
returns-clause-few g c = on_ok_weaker c.check_sum.result (λ w. omega arith) (c.check_sum.ensures.within (g.F.Ring.product c.args.field.now) (dual_of c.args.circuit.now c.args.bases.now))

pub returns-clause-held : goal.returns-clause-held
returns-clause-held g c = on_ok_weaker c.check_sum.result (λ w. c.in_ok-settle.ensures.held) (c.check_sum.ensures.within (g.F.Ring.product c.args.field.now) (dual_of c.args.circuit.now c.args.bases.now))

pub returns-clause-last : goal.returns-clause-last
returns-clause-last g c = on_ok_weaker c.check_sum.result (λ w. c.in_ok-add_multiplier.ensures.last) (c.check_sum.ensures.within (g.F.Ring.product c.args.field.now) (dual_of c.args.circuit.now c.args.bases.now))

pub returns-clause-asks : goal.returns-clause-asks
returns-clause-asks g c d kept =
    let k : ℕ = g.F.Ring.degree c.args.field.now in
    let shared = c.args.self.now.shared.items in
    let m = c.args.multiplier.now in
    let most : ℕ = c.args.bound in
    let n : ℕ = c.args.number in
    let mul : ℕ → ℕ → ℕ = g.F.Ring.product c.args.field.now in
    let dual : ℕ → ℕ → ℕ = dual_of c.args.circuit.now c.args.bases.now in
    let new : Terms = whole k mul dual c.add_multiplier.new.sum in
    let terms : multiplier_in (terms_of c.as_slice.result.now) m ≡ multiplier_in (terms_of shared) m = ap (λ (xs : List Polynomial). multiplier_in (terms_of xs) m) c.as_slice.ensures.value in
    let same : whole c.k.result mul dual c.settle.new.self ≡ new = ap (λ j. whole j mul dual c.settle.new.self) c.k.ensures ∙ c.in_ok-settle.ensures.same in
    let W : Terms → Type 0 = λ ts. OnOk c.check_sum.result (length ts ≤ most) in
    let O : Terms → Type 0 = λ ts. IfErr c.check_sum.result (λ fault. (fault ≡ TooManyTerms n (length ts)) × (most < length ts)) in
    pair_asks k mul c.args.circuit.now c.args.bases.now n most d c.args.generator m (multiplier_in (terms_of c.as_slice.result.now) m) c.args.self.now.claim.terms (terms_of shared) (whole k mul dual c.args.self.now.sum) new c.check_sum.result kept terms
    c.in_ok-add_multiplier.ensures.reduced c.in_ok-add_multiplier.ensures.values (subst W same (c.check_sum.ensures.within mul dual)) (subst O same (c.check_sum.ensures.over mul dual))

pub returns-clause-kept : goal.returns-clause-kept
returns-clause-kept g c d kept =
    let k : ℕ = g.F.Ring.degree c.args.field.now in
    let shared = c.args.self.now.shared.items in
    let m = c.args.multiplier.now in
    let most : ℕ = c.args.bound in
    let mul : ℕ → ℕ → ℕ = g.F.Ring.product c.args.field.now in
    let dual : ℕ → ℕ → ℕ = dual_of c.args.circuit.now c.args.bases.now in
    let new : Terms = whole k mul dual c.add_multiplier.new.sum in
    let terms : multiplier_in (terms_of c.as_slice.result.now) m ≡ multiplier_in (terms_of shared) m = ap (λ (xs : List Polynomial). multiplier_in (terms_of xs) m) c.as_slice.ensures.value in
    let same : whole c.k.result mul dual c.settle.new.self ≡ new = ap (λ j. whole j mul dual c.settle.new.self) c.k.ensures ∙ c.in_ok-settle.ensures.same in
    let W : Terms → Type 0 = λ ts. OnOk c.check_sum.result (length ts ≤ most) in
    let K : Terms → Type 0 = λ ts. OnOk c.check_sum.result (IsKept k mul c.args.circuit.now c.args.bases.now most (with_pair d c.args.generator (multiplier_in d.shared m)) c.args.self.now.claim.terms (terms_of shared) ts) in
    subst K (sym c.in_ok-settle.ensures.same)
    (pair_kept k mul c.args.circuit.now c.args.bases.now most d c.args.generator m (multiplier_in (terms_of c.as_slice.result.now) m) c.args.self.now.claim.terms (terms_of shared) (whole k mul dual c.args.self.now.sum) new c.check_sum.result kept terms
    c.in_ok-add_multiplier.ensures.reduced c.in_ok-add_multiplier.ensures.values (subst W same (c.check_sum.ensures.within mul dual)))
