use Rattle.std.proofs.Common.{◌≡◌, ◌∙◌, ap, sym, ◌≤◌, ◌-◌, length, take, drop, List, ℕ, arith}
use Rattle.std.proofs.lemmas.Bool.{false≢true}
use Rattle.net_flat.proofs.EndLemmas.{same_by_ends}
use Rattle.net_flat.proofs.equal_names.are_same_short.Goals as goal

pub returns-then-begin_same : goal.returns-then-begin_same
returns-then-begin_same c =
    let few : length c.args.name.now - 4 ≤ 4 = omega (arith, c.requires.eight) in
    let front : take 4 c.args.name.now ≡ take 4 c.args.other.now = c.begin_same.ensures.0 c.if-begin_same.true in (
      λ same. same_by_ends 4 (length c.args.name.now - 4) c.args.name.now c.args.other.now few front (c.end_same.ensures.0 same ∙ ap (λ n. drop (n - 4) c.args.other.now) (sym c.requires.long)),
      λ same. c.end_same.ensures.1 (ap (λ (name : List ℕ). drop (length name - 4) name) same),
    )

pub returns-else-begin_same : goal.returns-else-begin_same
returns-else-begin_same c = (
  λ same. absurd (false≢true same),
  λ same. sym c.if-begin_same.false ∙ c.begin_same.ensures.1 (ap (λ (name : List ℕ). take 4 name) same),
)
