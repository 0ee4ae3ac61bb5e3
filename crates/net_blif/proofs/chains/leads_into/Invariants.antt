use Rattle.std.proofs.Common.{◌≡◌, false, drop}
use Rattle.std.specs.Prelude.{slice_index_or}
use Rattle.std.specs.List.{list_any}
use Rattle.net_blif.proofs.chains.leads_into.Given as goal

-- no point so far is marked
abbrev pub invariant-loop-point : goal.invariant-loop-point
invariant-loop-point l = list_any (λ b. slice_index_or l.marks b false) l.edges ≡ list_any (λ b. slice_index_or l.marks b false) (drop l.point-index l.edges)
