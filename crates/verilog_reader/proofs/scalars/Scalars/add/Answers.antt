use Rattle.std.proofs.Common.{◌∙◌, ap, List, ℕ, [], ◌∷◌, ◌++◌}
use Rattle.verilog_reader.specs.private.Listed.{put_list}
use Rattle.verilog_reader.proofs.ScalarLemmas.{all_kept, one_added}
use Rattle.verilog_reader.proofs.scalars.Scalars.add.Goals as goal

pub returns-clause-kept : goal.returns-clause-kept
returns-clause-kept c =
    all_kept c.args.self.now c.args.name.now c.args.index c.swap-2.new.self c.swap-3.new.self c.push.new.self.items (c.in_ok-list.ensures.with ∙ ap (λ (xs : List ℕ). put_list c.args.name.now xs c.args.self.now) c.new.ensures.items)
    (c.in_ok-push.ensures.items ∙ ap (λ (xs : List ℕ). xs ++ c.args.index ∷ []) c.in_ok-list.ensures.before) c.in_ok-swap.ensures.with

pub returns-clause-added : goal.returns-clause-added
returns-clause-added c =
    one_added c.args.self.now c.args.name.now c.args.index c.swap-2.new.self c.swap-3.new.self c.push.new.self.items (c.in_ok-list.ensures.with ∙ ap (λ (xs : List ℕ). put_list c.args.name.now xs c.args.self.now) c.new.ensures.items)
    (c.in_ok-push.ensures.items ∙ ap (λ (xs : List ℕ). xs ++ c.args.index ∷ []) c.in_ok-list.ensures.before) c.in_ok-swap.ensures.with
