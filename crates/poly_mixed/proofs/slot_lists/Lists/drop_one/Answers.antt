use Rattle.std.proofs.Common.{◌≡◌, ℕ, List, Option, IsSome, Vec, Global, BTreeMap, refl, sym, ◌∙◌, ap, subst, not, nat_eq}
use Rattle.std.specs.List.Sorted.{IsStrictlySortedBy}
use Rattle.std.specs.Ordering.{nat_cmp}
use Rattle.poly_mixed.specs.private.Listed.{list_at, changed, without_slot}
use Rattle.poly_mixed.proofs.CofactorLemmas.{rising-filter}
use Rattle.poly_mixed.proofs.ListsAtLemmas.{at_is, items_or, lists_of, after_write, after_none, stays_rising}
use Rattle.poly_mixed.proofs.slot_lists.Lists.drop_one.Goals as goal

there : (c : goal.In-Some) → list_at (lists_of (λ v. v.items) c.self.inside.lists.entries) c.args.bit ≡ c.in-Some.list.now.items
there c = at_is (λ v. v.items) c.self.inside.lists.entries c.args.bit ∙ ap (items_or (λ v. v.items)) (sym c.in-Some.ensures.value)

written : (c : goal.After-self-in-Some-1) → (b : ℕ) → list_at (lists_of (λ v. v.items) (c.get_mut.follows.lender c.drop_slot.new.list).entries) b ≡ changed (without_slot c.args.slot) c.args.bit (list_at (lists_of (λ v. v.items) c.self.inside.lists.entries)) b
written c =
    let w = (c.get_mut.follows.holds c.drop_slot.new.list).3 (let P : Option (Vec ℕ Global) → Type 0 = λ o. IsSome o in subst P c.in-Some.ensures.value refl) in
    after_write (λ v. v.items) (without_slot c.args.slot) c.args.bit c.self.inside.lists.entries (c.get_mut.follows.lender c.drop_slot.new.list).entries c.in-Some.list.now.items c.drop_slot.new.list
    (at_is (λ v. v.items) c.self.inside.lists.entries c.args.bit ∙ ap (items_or (λ v. v.items)) (sym c.in-Some.ensures.value)) c.drop_slot.ensures w.0

pub drop_slot-requires : goal.drop_slot-requires
drop_slot-requires c =
    let P : List ℕ → Type 0 = IsStrictlySortedBy nat_cmp in
    subst P (there c) (c.self.invariant c.args.bit)

pub invariant_of-self-2 : goal.invariant_of-self-2
invariant_of-self-2 c = stays_rising (without_slot c.args.slot) c.args.bit (lists_of (λ v. v.items) c.self.inside.lists.entries) (lists_of (λ v. v.items) (c.get_mut.follows.lender c.drop_slot.new.list).entries) (λ xs s. rising-filter (λ x. not (nat_eq x c.args.slot)) xs s) c.self.invariant (written c)

pub returns : goal.returns
returns c b = written c b ∙ ap (λ (ls : List (ℕ × List ℕ)). changed (without_slot c.args.slot) c.args.bit (list_at ls) b) c.self.view_is

pub returns-in-None : goal.returns-in-None
returns-in-None c b =
    ap (λ (m : BTreeMap ℕ (Vec ℕ Global)). list_at (lists_of (λ v. v.items) m.entries) b) c.get_mut.follows.holds-at-none
    ∙ after_none (λ v. v.items) (without_slot c.args.slot) c.args.bit c.self.inside.lists.entries (sym c.in-None.ensures.value) refl b
    ∙ ap (λ (ls : List (ℕ × List ℕ)). changed (without_slot c.args.slot) c.args.bit (list_at ls) b) c.self.view_is
