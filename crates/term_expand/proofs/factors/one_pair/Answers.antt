use Rattle.std.proofs.Common.{◌≡◌, ◌≢◌, ◌∙◌, ◌<◌, ◌^◌, ℕ, List, length}
use Rattle.lists.specs.laws.ReadLaws.{all_at}
use Rattle.term_expand.proofs.LeftLemmas.{pair_begins, pair_is_none}
use Rattle.term_expand.proofs.factors.one_pair.Goals as goal

pub returns-then-exponent-eq0-clause-rest : goal.returns-then-exponent-eq0-clause-rest
returns-then-exponent-eq0-clause-rest g c =
    let ps : List (ℕ × ℕ) = c.args.term.now.1 in
    let w : ℕ = c.pair_at-word.result.0 in
    let e : ℕ = c.pair_at-word.result.1 in
    c.requires.rest ∙ pair_is_none w e c.args.pair ps c.pair_at-word.ensures c.if-exponent-eq0.true

pub first_power-requires-clause-word : goal.first_power-requires-clause-word
first_power-requires-clause-word g c =
    let ps : List (ℕ × ℕ) = c.args.term.now.1 in
    let P : ℕ × ℕ → Type 0 = λ p. (p.1 < 2 ^ 64) × (p.1 ≢ 0 → p.0 < length c.args.feeds.now) in
    (all_at P ps c.args.pair (c.pair_at-word.result.0, c.pair_at-word.result.1) c.requires.term.powers c.pair_at-word.ensures).1 c.if-exponent-eq0.false

pub loop-j-init : goal.loop-j-init
loop-j-init g c =
    let ps : List (ℕ × ℕ) = c.args.term.now.1 in
    let w : ℕ = c.pair_at-word.result.0 in
    let e : ℕ = c.pair_at-word.result.1 in
    record { rest = c.requires.rest ∙ pair_begins w e c.args.pair ps c.pair_at-word.ensures; power = λ some. c.in_ok-power.ensures; reached = c.requires.reached }
