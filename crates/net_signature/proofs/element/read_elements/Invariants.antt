use Rattle.std.proofs.Common.{map, take}
use Rattle.std.specs.List.{AllZip}
use Rattle.net_signature.specs.Statement.{SaysElement}
use Rattle.net_signature.proofs.element.read_elements.Given as goal

abbrev pub invariant-loop-token : goal.invariant-loop-token
invariant-loop-token l = AllZip SaysElement (map (λ t. t.now) (take l.token-index l.tokens)) l.elements.items
