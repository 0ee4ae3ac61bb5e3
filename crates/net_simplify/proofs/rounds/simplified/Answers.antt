use Rattle.std.proofs.Common.{sym, subst, ℕ, List}
use Rattle.std.proofs.lemmas.Result.{IfOk-weaker}
use Rattle.net_core.specs.Order.{IsLevelOrder}
use Rattle.net_simplify.proofs.MadeLemmas.{round_inside, round_is}
use Rattle.net_simplify.proofs.rounds.simplified.Goals as goal

pub use_marks-requires : goal.use_marks-requires
use_marks-requires c = record { order = let P : List ℕ → Type 0 = IsLevelOrder c.args.net.now in subst P (sym c.deref.ensures.value) c.in_ok-order.ensures; ends = c.requires.ends }

pub know-requires : goal.know-requires
know-requires c = let P : List ℕ → Type 0 = IsLevelOrder c.args.net.now in subst P (sym c.deref-2.ensures.value) c.in_ok-order.ensures

pub rebuilt-requires : goal.rebuilt-requires
rebuilt-requires c = record { gates = round_inside c.args.net.now c.args.ends.now c.in_ok-order.order.items c.deref.result.now c.deref-2.result.now c.in_ok-marks.marks.items c.deref-3.result.now c.deref-4.result.now c.in_ok-known.known c.in_ok-known.ensures.sound c.requires.flat c.in_ok-order.ensures c.deref.ensures.value c.deref-2.ensures.value c.deref-3.ensures.value c.deref-4.ensures.value c.in_ok-marks.ensures.marks c.in_ok-known.ensures.forms; flat = c.requires.flat }

pub returns : goal.returns
returns c = IfOk-weaker c.rebuilt.result _ _ (λ simple made. round_is c.args.net.now simple c.args.ends.now c.in_ok-order.order.items c.deref.result.now c.deref-2.result.now c.in_ok-marks.marks.items c.deref-3.result.now c.deref-4.result.now c.in_ok-known.known c.in_ok-known.ensures.sound c.requires.flat c.in_ok-order.ensures c.deref.ensures.value c.deref-2.ensures.value c.deref-3.ensures.value c.deref-4.ensures.value c.in_ok-marks.ensures.marks c.in_ok-known.ensures.forms made) c.rebuilt.ensures
