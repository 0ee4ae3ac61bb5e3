use Rattle.std.proofs.Common.{◌≡◌, [], ◌∷◌, List, ℕ, length, map, drop, Result}
use Rattle.net_words.specs.declared.word.WordText.{WordText}
use Rattle.gf_basis.specs.BasisParts.{elements_of}
use Rattle.job_words.specs.declared.signature_fault.SignatureFault.{SignatureFault}
use Rattle.answer_composition.specs.Compose.{WithBlocks}
use Rattle.answer_composition.proofs.BlockBaseLemmas.{AreListsTo}
use Rattle.answer_composition.proofs.block_bases.with_blocks.Given as goal

-- what may come of the rest may come of the whole, and the first blocks have their lists
abbrev pub invariant-loop-block : goal.invariant-loop-block
invariant-loop-block g l =
    ((outcome : Result (List (List (List ℕ))) SignatureFault) → WithBlocks (g.F.Ring.degree l.field) (g.F.Ring.product l.field) (map (map elements_of) l.bases) (drop l.block-index l.blocks) outcome → WithBlocks (g.F.Ring.degree l.field) (g.F.Ring.product l.field) (map elements_of l.fn.top.items ∷ []) l.blocks outcome)
    × ((words : List WordText) → length l.fn.top.items ≡ length words → AreListsTo (g.F.Ring.degree l.field) (g.F.Ring.product l.field) words l.blocks l.block-index l.bases)
