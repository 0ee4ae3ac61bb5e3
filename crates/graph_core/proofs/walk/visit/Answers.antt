use Rattle.std.proofs.Common.{inl, arith}
use Rattle.std.proofs.lemmas.Option.{slice_get_within}
use Rattle.graph_core.specs.declared.walk.Mark.TheVariants.{Unseen, Open}
use Rattle.graph_core.proofs.WalkLemmas.{begun, starts_alone, met_set, met_here, reached_set, visit_done}
use Rattle.graph_core.proofs.walk.visit.Goals as goal

pub edges-requires : goal.edges-requires
edges-requires c = omega (arith, slice_get_within c.args.marks.now.items c.args.root Unseen c.requires.root, c.requires.walk.long)

pub leave-requires : goal.leave-requires
leave-requires c = slice_get_within c.args.marks.now.items c.args.root Unseen c.requires.root

pub returns-then-are_done-clause-visit : goal.returns-then-are_done-clause-visit
returns-then-are_done-clause-visit c = rw (c.in_ok-leave.ensures.marks, c.in_ok-leave.ensures.order) (visit_done c.args.graph.now c.args.marks.now.items c.args.stack.now.items c.args.order.now.items c.args.root c.requires.walk c.requires.stack c.requires.root (rw (← c.edges.ensures.edges, ← c.deref.ensures.value) (c.are_done.ensures c.if-are_done.true)))

pub loop-frame-init : goal.loop-frame-init
loop-frame-init c =
    rw (c.in_ok-begin.ensures.stack, c.in_ok-begin.ensures.marks) (record {
      walk = begun c.args.graph.now c.args.marks.now.items c.args.order.now.items c.args.root c.requires.walk c.requires.root;
      starts = starts_alone c.args.root;
      met = met_set c.args.marks.now.items c.args.root Unseen (Open 0) c.requires.root (λ e. cc);
      root = met_here c.args.marks.now.items c.args.root Unseen (Open 0) c.requires.root (λ e. cc);
      only = λ roots has reached. reached_set c.args.graph.now roots c.args.marks.now.items c.args.root (Open 0) (inl has) reached;
    })

pub loop-frame-preserved : goal.loop-frame-preserved
loop-frame-preserved c =
    let step = c.in_ok-step.ensures.step in
    record {
      walk = step.walk;
      starts = step.first c.args.root (rw c.in-Some.ensures.items at c.loop-frame.invariant.starts);
      met = λ point met. step.met point (c.loop-frame.invariant.met point met);
      root = step.met c.args.root c.loop-frame.invariant.root;
      only = λ roots has reached. step.only roots (c.loop-frame.invariant.only roots has reached);
    }
