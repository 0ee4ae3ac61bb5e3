use Rattle.std.proofs.Common.{◌≡◌, ◌∙◌, ap, subst, List, ℕ, not}
use Rattle.std.specs.Prelude.{string_bytes}
use Rattle.std.specs.List.{list_any}
use Rattle.std.specs.Str.{bytes_eq}
use Rattle.net_aiger.proofs.NameLemmas.{added_same}
use Rattle.net_aiger.proofs.checks.NameSet.add.Goals as goal

pub returns-clause-added : goal.returns-clause-added
returns-clause-added c =
    let key : string_bytes c.in_ok-text.text ≡ c.args.name.now = c.in_ok-text.ensures.ok ∙ c.as_str.ensures in
    let P : List (List ℕ) → Type 0 = λ names. c.in_ok-added.added ≡ not (list_any (bytes_eq c.args.name.now) names) in
    subst P c.self.view_is (c.in_ok-added.ensures.added ∙ ap not (added_same c.self.inside.names.keys c.in_ok-text.text c.args.name.now key))
