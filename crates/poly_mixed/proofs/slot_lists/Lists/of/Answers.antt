use Rattle.std.proofs.Common.{◌≡◌, ℕ, List, Some, None, sym, ◌∙◌, ap, subst}
use Rattle.std.specs.Map.{lookup}
use Rattle.std.specs.Option.{option_copied}
use Rattle.std.specs.Ordering.{nat_cmp, eq_by_cmp}
use Rattle.poly_mixed.specs.private.Listed.{list_at, AreRising}
use Rattle.poly_mixed.proofs.ListsAtLemmas.{at_is, items_or}
use Rattle.poly_mixed.proofs.slot_lists.Lists.of.Goals as goal

pub returns-in-Some-clause-rising : goal.returns-in-Some-clause-rising
returns-in-Some-clause-rising c = let P : List (ℕ × List ℕ) → Type 0 = AreRising in subst P c.self.view_is c.self.invariant c.args.bit

pub returns-in-None-clause-rising : goal.returns-in-None-clause-rising
returns-in-None-clause-rising c = let P : List (ℕ × List ℕ) → Type 0 = AreRising in subst P c.self.view_is c.self.invariant c.args.bit

pub returns-in-Some-clause-value : goal.returns-in-Some-clause-value
returns-in-Some-clause-value c =
    let had : lookup (eq_by_cmp nat_cmp c.args.bit) c.self.inside.lists.entries ≡ Some c.in-Some.list.now = sym c.get.ensures.value ∙ ap option_copied c.in-Some.is in
    c.as_slice.ensures.value ∙ sym (at_is (λ v. v.items) c.self.inside.lists.entries c.args.bit ∙ ap (items_or (λ v. v.items)) had) ∙ ap (λ (ls : List (ℕ × List ℕ)). list_at ls c.args.bit) c.self.view_is

pub returns-in-None-clause-value : goal.returns-in-None-clause-value
returns-in-None-clause-value c =
    let had : lookup (eq_by_cmp nat_cmp c.args.bit) c.self.inside.lists.entries ≡ None = sym c.get.ensures.value ∙ ap option_copied c.in-None.is in
    sym (at_is (λ v. v.items) c.self.inside.lists.entries c.args.bit ∙ ap (items_or (λ v. v.items)) had) ∙ ap (λ (ls : List (ℕ × List ℕ)). list_at ls c.args.bit) c.self.view_is
