use Rattle.compose_blocks.proofs.uses.found_by.Given as goal
use Rattle.compose_blocks.proofs.Walked.{IsWalked}

-- the lines so far are walked
abbrev pub invariant-loop-place : goal.invariant-loop-place
invariant-loop-place l = IsWalked l.design l.blocks l.items l.place l.list.items
