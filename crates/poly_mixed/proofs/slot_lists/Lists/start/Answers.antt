use Rattle.std.proofs.Common.{◌≡◌, ℕ, List, [], ◌∷◌, ◌++◌, sym, ◌∙◌, ap, subst}
use Rattle.poly_mixed.specs.private.Listed.{list_at, AreRising, changed}
use Rattle.poly_mixed.specs.Product.{with_rank}
use Rattle.poly_mixed.proofs.ProductLemmas.{rising-with_rank}
use Rattle.poly_mixed.proofs.ListsAtLemmas.{after_write, stays_rising, lists_of}
use Rattle.poly_mixed.proofs.slot_lists.Lists.start.Goals as goal

written : (c : goal.Joined-branch-3) → (b : ℕ) → list_at (lists_of (λ v. v.items) c.insert.new.self.entries) b ≡ changed (λ xs. with_rank xs c.args.slot) c.args.bit (list_at (lists_of (λ v. v.items) c.self.inside.lists.entries)) b
written c = after_write (λ v. v.items) (λ xs. with_rank xs c.args.slot) c.args.bit c.self.inside.lists.entries c.insert.new.self.entries [] c.push.new.self (ap (λ (ls : List (ℕ × List ℕ)). list_at ls c.args.bit) c.self.view_is ∙ c.requires) (c.in_ok-push.ensures.items ∙ ap (λ (xs : List ℕ). xs ++ c.args.slot ∷ []) c.new-list.ensures.items) c.in_ok-insert.ensures.updates.0

pub invariant_of-self : goal.invariant_of-self
invariant_of-self c = let P : List (ℕ × List ℕ) → Type 0 = AreRising in subst P (ap (lists_of (λ v. v.items)) (sym c.in_err-insert.ensures.err)) c.self.invariant

pub invariant_of-self-2 : goal.invariant_of-self-2
invariant_of-self-2 c = stays_rising (λ xs. with_rank xs c.args.slot) c.args.bit (lists_of (λ v. v.items) c.self.inside.lists.entries) (lists_of (λ v. v.items) c.insert.new.self.entries) (λ xs s. rising-with_rank xs c.args.slot s) c.self.invariant (written c)

pub returns : goal.returns
returns c b = written c b ∙ ap (λ (ls : List (ℕ × List ℕ)). changed (λ xs. with_rank xs c.args.slot) c.args.bit (list_at ls) b) c.self.view_is
