use Rattle.std.proofs.Common.{List, ℕ, take, sym, ◌∙◌, ap, arith}
use Rattle.std.proofs.lemmas.List.{length-take-le, take_all}
use Rattle.text_core.proofs.scan.front_name.Goals as goal

pub slice_bounds-result-end : goal.slice_bounds-result-end
slice_bounds-result-end c = sym (length-take-le 255 c.front-front.result.now (omega arith))

pub returns-else-front-gt255-clause-value : goal.returns-else-front-gt255-clause-value
returns-else-front-gt255-clause-value c = sym (take_all 255 c.front-front.result.now (omega arith)) ∙ ap (λ (bs : List ℕ). take 255 bs) c.front-front.ensures.value

pub returns-then-front-gt255-clause-within : goal.returns-then-front-gt255-clause-within
returns-then-front-gt255-clause-within c = let long = length-take-le 255 c.front-front.result.now (omega arith) in let within = c.front-front.ensures.within in omega arith
