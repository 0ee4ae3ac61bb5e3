use Rattle.std.proofs.Common.{refl, [], subst, List, ℕ, ◌∙◌, All, sym}
use Rattle.net_signature.specs.Statement.{IsNetToken}
use Rattle.net_words.proofs.ZipLemmas.{all-at, all-grow, map-grow}
use Rattle.net_signature.proofs.word_line.net_names.Goals as goal

pub returns-in_default : goal.returns-in_default
returns-in_default c = (
  refl,
  λ names both.
      let P : List (List ℕ) → Type 0 = λ list. All IsNetToken list in
      c.in_default.ensures.none (all-at IsNetToken (λ t. t.now) c.args.tokens.now c.loop-token.token-index (record { ref_ptr = (0, 0); now = [] }) (subst P both.0 both.1) c.loop-token-test.true),
)

pub loop-token-preserved : goal.loop-token-preserved
loop-token-preserved c =
    let P : List ℕ → Type 0 = λ name. IsNetToken name in
    let same = c.in_ok-new.ensures ∙ c.in-Some.ensures.found.0 in (
      map-grow (λ t. t.now) c.args.tokens.now c.loop-token.token-index (record { ref_ptr = (0, 0); now = [] }) c.loop-token.names.items c.push.new.self.items c.in_ok-new.field-0 c.loop-token-test.true c.loop-token.invariant.0 same c.in_ok-push.ensures.items,
      all-grow IsNetToken c.loop-token.names.items c.push.new.self.items c.in_ok-new.field-0 c.loop-token.invariant.1 (subst P (sym same) c.in-Some.ensures.found.1) c.in_ok-push.ensures.items,
    )
