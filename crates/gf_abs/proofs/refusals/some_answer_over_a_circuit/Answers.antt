use Rattle.gf_abs.proofs.RepliesExist.{abstract_replies, bits_replies, eval_replies, lift_replies, same_replies, table_replies}
use Rattle.gf_abs.proofs.refusals.some_answer_over_a_circuit.Goals as goal

pub returns-clause-in_bits : goal.returns-clause-in_bits
returns-clause-in_bits c = bits_replies

pub returns-clause-in_words : goal.returns-clause-in_words
returns-clause-in_words c = abstract_replies

pub returns-clause-in_values : goal.returns-clause-in_values
returns-clause-in_values c = eval_replies

pub returns-clause-of_two : goal.returns-clause-of_two
returns-clause-of_two c = same_replies

pub returns-clause-of_table : goal.returns-clause-of_table
returns-clause-of_table c = table_replies

pub returns-clause-of_lift : goal.returns-clause-of_lift
returns-clause-of_lift c = lift_replies
