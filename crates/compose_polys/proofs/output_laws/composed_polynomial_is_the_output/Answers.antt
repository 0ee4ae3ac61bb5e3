use Rattle.compose_polys.proofs.ComposedLemmas.{composed_output}
use Rattle.compose_polys.proofs.output_laws.composed_polynomial_is_the_output.Goals as goal

pub returns : goal.returns
returns c = λ top flat feed ts given is.
    let built = given.top_is.built in
    composed_output top.k top.product top.hierarchy top.rows is.polys flat feed ts built.fed.over.ring built.fed.over.no_zero_divisors built.fed.over.given built.fed.feeds built.blocks given.top_is.acyclic is.are given.flattened.circuit given.flattened.output is.is
