-- The marks of multipliers as one more is seen.
use Rattle.std.proofs.Common.{◌≡◌, ◌∙◌, ap, sym, refl, true, false, cond, Option, Some}
use Rattle.cert_make.specs.declared.marks.Mark.{Mark}
use Rattle.cert_make.specs.declared.marks.Mark.TheVariants.{Often}
use Rattle.cert_make.specs.private.Keys.{KeyParts, is_key}
use Rattle.cert_make.specs.private.TextSharing.{seen_again}
use Rattle.cert_make.proofs.KeyLemmas.{key_is}

-- a multiplier that was seen often stays so
pub often_stays : (t q : KeyParts) (old : KeyParts → Option Mark) (known : Option Mark) → known ≡ old t → known ≡ Some Often → old q ≡ cond (is_key t q) (Some (seen_again (old q))) (old q)
often_stays t q old known at often =
    (elim (is_key t q) as (λ b. is_key t q ≡ b → old q ≡ cond b (Some (seen_again (old q))) (old q)) [
      | true ↦ λ e. let is : old q ≡ Some Often = ap old (key_is t q e) ∙ (sym at ∙ often) in is ∙ sym (ap (λ (o : Option Mark). Some (seen_again o)) is)
      | false ↦ λ e. refl
    ]) refl

-- a multiplier that is seen once more
pub seen_more : (u t q : KeyParts) (old : KeyParts → Option Mark) (new known : Option Mark) (m : Mark) → u ≡ t → known ≡ old t → m ≡ seen_again known → new ≡ cond (is_key u q) (Some m) (old q) → new ≡ cond (is_key t q) (Some (seen_again (old q))) (old q)
seen_more u t q old new known m same at is by =
    by
    ∙ (ap (λ (x : KeyParts). cond (is_key x q) (Some m) (old q)) same
    ∙ (elim (is_key t q) as (λ b. is_key t q ≡ b → cond b (Some m) (old q) ≡ cond b (Some (seen_again (old q))) (old q)) [
      | true ↦ λ e. ap (λ (o : Mark). Some o) (is ∙ ap seen_again (at ∙ ap old (sym (key_is t q e))))
      | false ↦ λ e. refl
    ]) refl)
