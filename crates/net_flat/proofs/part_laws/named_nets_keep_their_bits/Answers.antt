use Rattle.net_flat.proofs.PartLemmas.{named_bit, named_number}
use Rattle.net_flat.proofs.part_laws.named_nets_keep_their_bits.Goals as goal

pub returns-clause-part : goal.returns-clause-part
returns-clause-part c = λ whole alone i pairs bits part is n name found. named_bit whole alone i n pairs bits part name is found

pub returns-clause-whole : goal.returns-clause-whole
returns-clause-whole c = λ whole n name found. named_number whole n name found
