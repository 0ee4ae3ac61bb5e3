use Rattle.std.proofs.Common.{◌++◌, List, ℕ, refl, ap, arith, length}
use Rattle.make_nets.specs.Ports.{role_nets}
use Rattle.make_nets.proofs.PortLemmas.{count_room, count_step, role_done, role_step}
use Rattle.make_nets.proofs.ports.role_nets.Goals as goal

pub loop-word-init : goal.loop-word-init
loop-word-init c = (omega arith, ap (λ v. v ++ role_nets c.args.role 0 c.args.words.now) c.new-list.ensures.items)

pub push_nets-requires : goal.push_nets-requires
push_nets-requires c = omega (arith, count_room c.args.words.now c.loop-word.word-index c.word-item.result c.loop-word.count (length c.word-item.result.nets) c.loop-word-test.true c.word-item.is refl c.loop-word.invariant.0, c.requires)

pub overflow_cast-count : goal.overflow_cast-count
overflow_cast-count c = omega (arith, count_room c.args.words.now c.loop-word.word-index c.word-item.result c.loop-word.count (length c.as_slice.result.now) c.loop-word-test.true c.word-item.is (ap (λ (zs : List (List ℕ)). length zs) c.as_slice.ensures) c.loop-word.invariant.0, c.requires)

pub overflow_add-count : goal.overflow_add-count
overflow_add-count c = omega (arith, count_room c.args.words.now c.loop-word.word-index c.word-item.result c.loop-word.count (length c.as_slice.result.now) c.loop-word-test.true c.word-item.is (ap (λ (zs : List (List ℕ)). length zs) c.as_slice.ensures) c.loop-word.invariant.0, c.requires)

pub loop-word-preserved : goal.loop-word-preserved
loop-word-preserved c = (
  count_step c.args.words.now c.loop-word.word-index c.word-item.result c.loop-word.count (length c.as_slice.result.now) c.loop-word-test.true c.word-item.is (ap (λ (zs : List (List ℕ)). length zs) c.as_slice.ensures) c.loop-word.invariant.0,
  role_step c.args.words.now c.loop-word.word-index c.word-item.result c.loop-word.count (length c.as_slice.result.now) c.loop-word-test.true c.word-item.is (ap (λ (zs : List (List ℕ)). length zs) c.as_slice.ensures) c.args.role c.loop-word.list.items c.push_nets.new.list.items c.loop-word.invariant.1 c.in_ok-push_nets.ensures,
)

pub returns : goal.returns
returns c = role_done c.args.words.now c.loop-word.word-index c.loop-word.count c.loop-word-test.false c.args.role c.loop-word.list.items c.loop-word.invariant.1
