use Rattle.std.proofs.Common.{map, string_bytes}
use Rattle.job_io.specs.Counts.{Rose}
use Rattle.gf_abs.proofs.CompleteLemmas.{answer_written, answered}
use Rattle.gf_abs.proofs.RunLemmas.{abstract_written, accepted_written, bits_written, certificate_written, composed_written, difference_written, element_written, images_written, lift_written, made_written, proof_written, rejected_written, same_written, table_written, terms_left_written, trial_written, upgrade_written}
use Rattle.gf_abs.proofs.program.run.Goals as goal

pub returns-clause-answered : goal.returns-clause-answered
returns-clause-answered g c =
    answer_written (map string_bytes c.args.words.now) (g.S.Shelf.held c.args.shelf.now) (Rose (g.S.Shelf.misses c.args.shelf.now) (g.S.Shelf.misses c.write_answer.new.shelf)) c.write_answer.result (g.K.Sink.written c.args.sink.now) (g.K.Sink.written c.write_answer.new.sink)
    (Rose (g.S.Shelf.faults c.args.shelf.now) (g.S.Shelf.faults c.write_answer.new.shelf)) (Rose (g.K.Sink.faults c.args.sink.now) (g.K.Sink.faults c.write_answer.new.sink)) c.write_answer.ensures.answers c.write_answer.ensures.failed

pub returns-clause-complete : goal.returns-clause-complete
returns-clause-complete g c =
    answered (map string_bytes c.args.words.now) (g.S.Shelf.held c.args.shelf.now) (Rose (g.S.Shelf.misses c.args.shelf.now) (g.S.Shelf.misses c.write_answer.new.shelf)) c.write_answer.result (g.K.Sink.written c.args.sink.now) (g.K.Sink.written c.write_answer.new.sink)
    (Rose (g.S.Shelf.faults c.args.shelf.now) (g.S.Shelf.faults c.write_answer.new.shelf)) (Rose (g.K.Sink.faults c.args.sink.now) (g.K.Sink.faults c.write_answer.new.sink)) c.write_answer.ensures.answers c.write_answer.ensures.failed

pub returns-clause-abstract_prints : goal.returns-clause-abstract_prints
returns-clause-abstract_prints g c = abstract_written (map string_bytes c.args.words.now) (g.S.Shelf.held c.args.shelf.now) (Rose (g.S.Shelf.misses c.args.shelf.now) (g.S.Shelf.misses c.write_answer.new.shelf)) c.write_answer.result (g.K.Sink.written c.args.sink.now) (g.K.Sink.written c.write_answer.new.sink) c.write_answer.ensures.answers

pub returns-clause-bits_prints : goal.returns-clause-bits_prints
returns-clause-bits_prints g c = bits_written (map string_bytes c.args.words.now) (g.S.Shelf.held c.args.shelf.now) (Rose (g.S.Shelf.misses c.args.shelf.now) (g.S.Shelf.misses c.write_answer.new.shelf)) c.write_answer.result (g.K.Sink.written c.args.sink.now) (g.K.Sink.written c.write_answer.new.sink) c.write_answer.ensures.answers

pub returns-clause-check_accepts : goal.returns-clause-check_accepts
returns-clause-check_accepts g c = accepted_written (map string_bytes c.args.words.now) (g.S.Shelf.held c.args.shelf.now) (Rose (g.S.Shelf.misses c.args.shelf.now) (g.S.Shelf.misses c.write_answer.new.shelf)) c.write_answer.result (g.K.Sink.written c.args.sink.now) (g.K.Sink.written c.write_answer.new.sink) c.write_answer.ensures.answers

pub returns-clause-check_rejects : goal.returns-clause-check_rejects
returns-clause-check_rejects g c = rejected_written (map string_bytes c.args.words.now) (g.S.Shelf.held c.args.shelf.now) (Rose (g.S.Shelf.misses c.args.shelf.now) (g.S.Shelf.misses c.write_answer.new.shelf)) c.write_answer.result (g.K.Sink.written c.args.sink.now) (g.K.Sink.written c.write_answer.new.sink) c.write_answer.ensures.answers

pub returns-clause-same_agrees : goal.returns-clause-same_agrees
returns-clause-same_agrees g c = same_written (map string_bytes c.args.words.now) (g.S.Shelf.held c.args.shelf.now) (Rose (g.S.Shelf.misses c.args.shelf.now) (g.S.Shelf.misses c.write_answer.new.shelf)) c.write_answer.result (g.K.Sink.written c.args.sink.now) (g.K.Sink.written c.write_answer.new.sink) c.write_answer.ensures.answers

pub returns-clause-same_differs : goal.returns-clause-same_differs
returns-clause-same_differs g c = difference_written (map string_bytes c.args.words.now) (g.S.Shelf.held c.args.shelf.now) (Rose (g.S.Shelf.misses c.args.shelf.now) (g.S.Shelf.misses c.write_answer.new.shelf)) c.write_answer.result (g.K.Sink.written c.args.sink.now) (g.K.Sink.written c.write_answer.new.sink) c.write_answer.ensures.answers

pub returns-clause-verify_proves : goal.returns-clause-verify_proves
returns-clause-verify_proves g c = proof_written (map string_bytes c.args.words.now) (g.S.Shelf.held c.args.shelf.now) (Rose (g.S.Shelf.misses c.args.shelf.now) (g.S.Shelf.misses c.write_answer.new.shelf)) c.write_answer.result (g.K.Sink.written c.args.sink.now) (g.K.Sink.written c.write_answer.new.sink) c.write_answer.ensures.answers

pub returns-clause-verify_leaves_terms : goal.returns-clause-verify_leaves_terms
returns-clause-verify_leaves_terms g c = terms_left_written (map string_bytes c.args.words.now) (g.S.Shelf.held c.args.shelf.now) (Rose (g.S.Shelf.misses c.args.shelf.now) (g.S.Shelf.misses c.write_answer.new.shelf)) c.write_answer.result (g.K.Sink.written c.args.sink.now) (g.K.Sink.written c.write_answer.new.sink) c.write_answer.ensures.answers

pub returns-clause-eval_prints : goal.returns-clause-eval_prints
returns-clause-eval_prints g c = element_written (map string_bytes c.args.words.now) (g.S.Shelf.held c.args.shelf.now) (Rose (g.S.Shelf.misses c.args.shelf.now) (g.S.Shelf.misses c.write_answer.new.shelf)) c.write_answer.result (g.K.Sink.written c.args.sink.now) (g.K.Sink.written c.write_answer.new.sink) c.write_answer.ensures.answers

pub returns-clause-table_prints : goal.returns-clause-table_prints
returns-clause-table_prints g c = table_written (map string_bytes c.args.words.now) (g.S.Shelf.held c.args.shelf.now) (Rose (g.S.Shelf.misses c.args.shelf.now) (g.S.Shelf.misses c.write_answer.new.shelf)) c.write_answer.result (g.K.Sink.written c.args.sink.now) (g.K.Sink.written c.write_answer.new.sink) c.write_answer.ensures.answers

pub returns-clause-lift_prints : goal.returns-clause-lift_prints
returns-clause-lift_prints g c = lift_written (map string_bytes c.args.words.now) (g.S.Shelf.held c.args.shelf.now) (Rose (g.S.Shelf.misses c.args.shelf.now) (g.S.Shelf.misses c.write_answer.new.shelf)) c.write_answer.result (g.K.Sink.written c.args.sink.now) (g.K.Sink.written c.write_answer.new.sink) c.write_answer.ensures.answers

pub returns-clause-iso_prints : goal.returns-clause-iso_prints
returns-clause-iso_prints g c = images_written (map string_bytes c.args.words.now) (g.S.Shelf.held c.args.shelf.now) (Rose (g.S.Shelf.misses c.args.shelf.now) (g.S.Shelf.misses c.write_answer.new.shelf)) c.write_answer.result (g.K.Sink.written c.args.sink.now) (g.K.Sink.written c.write_answer.new.sink) c.write_answer.ensures.answers

pub returns-clause-certify_prints : goal.returns-clause-certify_prints
returns-clause-certify_prints g c = certificate_written (map string_bytes c.args.words.now) (g.S.Shelf.held c.args.shelf.now) (Rose (g.S.Shelf.misses c.args.shelf.now) (g.S.Shelf.misses c.write_answer.new.shelf)) c.write_answer.result (g.K.Sink.written c.args.sink.now) (g.K.Sink.written c.write_answer.new.sink) c.write_answer.ensures.answers

pub returns-clause-upgrade_prints : goal.returns-clause-upgrade_prints
returns-clause-upgrade_prints g c = upgrade_written (map string_bytes c.args.words.now) (g.S.Shelf.held c.args.shelf.now) (Rose (g.S.Shelf.misses c.args.shelf.now) (g.S.Shelf.misses c.write_answer.new.shelf)) c.write_answer.result (g.K.Sink.written c.args.sink.now) (g.K.Sink.written c.write_answer.new.sink) c.write_answer.ensures.answers

pub returns-clause-compose_prints : goal.returns-clause-compose_prints
returns-clause-compose_prints g c = composed_written (map string_bytes c.args.words.now) (g.S.Shelf.held c.args.shelf.now) (Rose (g.S.Shelf.misses c.args.shelf.now) (g.S.Shelf.misses c.write_answer.new.shelf)) c.write_answer.result (g.K.Sink.written c.args.sink.now) (g.K.Sink.written c.write_answer.new.sink) c.write_answer.ensures.answers

pub returns-clause-make_prints : goal.returns-clause-make_prints
returns-clause-make_prints g c = made_written (map string_bytes c.args.words.now) (g.S.Shelf.held c.args.shelf.now) (Rose (g.S.Shelf.misses c.args.shelf.now) (g.S.Shelf.misses c.write_answer.new.shelf)) c.write_answer.result (g.K.Sink.written c.args.sink.now) (g.K.Sink.written c.write_answer.new.sink) c.write_answer.ensures.answers

pub returns-clause-trial_prints : goal.returns-clause-trial_prints
returns-clause-trial_prints g c = trial_written (map string_bytes c.args.words.now) (g.S.Shelf.held c.args.shelf.now) (Rose (g.S.Shelf.misses c.args.shelf.now) (g.S.Shelf.misses c.write_answer.new.shelf)) c.write_answer.result (g.K.Sink.written c.args.sink.now) (g.K.Sink.written c.write_answer.new.sink) c.write_answer.ensures.answers
