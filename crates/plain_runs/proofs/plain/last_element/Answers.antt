use Rattle.lists.specs.laws.OptionLaws.{if_some}
use Rattle.circuit_model.specs.Word.{HasElement}
use Rattle.circuit_model.specs.Out.{IsOut}
use Rattle.circuit_model.specs.Flat.{word_of}
use Rattle.plain_runs.specs.JobOfParts.{job_of_parts}
use Rattle.plain_runs.proofs.JobRunLemmas.{reached_out}
use Rattle.plain_runs.proofs.plain.last_element.Goals as goal

pub returns-clause-output : goal.returns-clause-output
returns-clause-output g c =
    let k = g.F.Ring.degree c.args.field.now in
    let product = g.F.Ring.product c.args.field.now in
    if_some c.element.result (λ e. HasElement c.args.bits.now (word_of c.args.output.now) e) (λ e. IsOut (job_of_parts k product c.args._net.now c.args._words.now c.args.output.now c.args._feeds.now c.args._cycles) c.args._xs.now e)
    (λ e ends. reached_out k product c.args._net.now c.args._words.now c.args.output.now c.args._feeds.now c.args._xs.now c.args._cycles c.args.bits.now e c.requires.reached ends) c.element.ensures.element

pub returns-clause-some : goal.returns-clause-some
returns-clause-some g c = λ job. c.element.ensures.some job.output.nets
