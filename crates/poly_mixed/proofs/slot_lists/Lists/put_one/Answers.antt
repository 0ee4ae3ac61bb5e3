use Rattle.std.proofs.Common.{◌≡◌, ℕ, List, Option, IsSome, Vec, Global, BTreeMap, refl, sym, ◌∙◌, ap, subst}
use Rattle.std.specs.List.Sorted.{IsStrictlySortedBy}
use Rattle.std.specs.Ordering.{nat_cmp}
use Rattle.std.proofs.lemmas.Result.{on_ok_weaker}
use Rattle.poly_mixed.specs.private.Listed.{list_at, changed}
use Rattle.poly_mixed.specs.Product.{with_rank}
use Rattle.poly_mixed.proofs.ListsAtLemmas.{at_is, items_or, lists_of, after_write, stays_rising}
use Rattle.poly_mixed.proofs.slot_lists.Lists.put_one.Goals as goal

there : (c : goal.In-Some) → list_at (lists_of (λ v. v.items) c.self.inside.lists.entries) c.args.bit ≡ c.in-Some.list.now.items
there c = at_is (λ v. v.items) c.self.inside.lists.entries c.args.bit ∙ ap (items_or (λ v. v.items)) (sym c.in-Some.ensures.value)

pub put_slot-requires : goal.put_slot-requires
put_slot-requires c =
    let P : List ℕ → Type 0 = IsStrictlySortedBy nat_cmp in
    subst P (there c) (c.self.invariant c.args.bit)

pub invariant_of-self : goal.invariant_of-self
invariant_of-self c =
    let w = (c.get_mut.follows.holds c.put_slot.new.list).3 (let P : Option (Vec ℕ Global) → Type 0 = λ o. IsSome o in subst P c.in-Some.ensures.value refl) in
    let entries = (c.get_mut.follows.lender c.put_slot.new.list).entries in
    stays_rising (λ _. c.put_slot.new.list.items) c.args.bit (lists_of (λ v. v.items) c.self.inside.lists.entries) (lists_of (λ v. v.items) entries) (λ _ _. c.put_slot.ensures.rising) c.self.invariant
    (after_write (λ v. v.items) (λ _. c.put_slot.new.list.items) c.args.bit c.self.inside.lists.entries entries (list_at (lists_of (λ v. v.items) c.self.inside.lists.entries) c.args.bit) c.put_slot.new.list refl refl w.0)

pub returns-in-Some : goal.returns-in-Some
returns-in-Some c = on_ok_weaker c.put_slot.result (λ e b.
    let w = (c.get_mut.follows.holds c.put_slot.new.list).3 (let P : Option (Vec ℕ Global) → Type 0 = λ o. IsSome o in subst P c.in-Some.ensures.value refl) in
    after_write (λ v. v.items) (λ xs. with_rank xs c.args.slot) c.args.bit c.self.inside.lists.entries (c.get_mut.follows.lender c.put_slot.new.list).entries c.in-Some.list.now.items c.put_slot.new.list
    (at_is (λ v. v.items) c.self.inside.lists.entries c.args.bit ∙ ap (items_or (λ v. v.items)) (sym c.in-Some.ensures.value)) e w.0 b
    ∙ ap (λ (ls : List (ℕ × List ℕ)). changed (λ xs. with_rank xs c.args.slot) c.args.bit (list_at ls) b) c.self.view_is) c.put_slot.ensures.with

pub start-requires : goal.start-requires
start-requires c =
    ap (λ (m : BTreeMap ℕ (Vec ℕ Global)). list_at (lists_of (λ v. v.items) m.entries) c.args.bit) c.get_mut.follows.holds-at-none
    ∙ at_is (λ v. v.items) c.self.inside.lists.entries c.args.bit ∙ ap (items_or (λ v. v.items)) (sym c.in-None.ensures.value)
