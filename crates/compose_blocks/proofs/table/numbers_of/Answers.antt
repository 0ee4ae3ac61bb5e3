use Rattle.std.proofs.Common.{◌≡◌, refl, subst, ℕ, List, cond, Some}
use Rattle.std.specs.Prelude.{is_some, slice_get}
use Rattle.std.specs.Str.{bytes_eq}
use Rattle.std.specs.HashMap.{get_by_text}
use Rattle.lists.specs.laws.ReadLaws.{got_read}
use Rattle.net_signature.specs.Body.{BlockValue}
use Rattle.compose_blocks.proofs.BlockLemmas.{block_numbered}
use Rattle.compose_blocks.proofs.table.numbers_of.Goals as goal

pub loop-i-preserved : goal.loop-i-preserved
loop-i-preserved c = λ q.
    let blocks : List BlockValue = c.args.blocks.now in
    let block : BlockValue = c.index-blocks-i.result in
    let at : slice_get blocks c.loop-i.i ≡ Some block = got_read blocks c.loop-i.i block c.loop-i-test.true c.index-blocks-i.is in
    let before : List ℕ → _ = get_by_text c.loop-i.numbers in
    let after : List ℕ → _ = get_by_text c.in_ok-numbers.numbers in
    let P : List ℕ → Type 0 = λ name. after q ≡ cond (is_some (before name)) (before q) (cond (bytes_eq name q) (Some c.loop-i.i) (before q)) in
    block_numbered blocks c.loop-i.i block q c.loop-i.i before after at refl c.loop-i.invariant (subst P c.model.ensures (c.in_ok-numbers.ensures q))
