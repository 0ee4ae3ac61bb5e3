use Rattle.std.proofs.Common.{◌^◌, length}
use Rattle.net_blif.specs.Cover.{is_one}
use Rattle.net_blif.proofs.TableLemmas.{bits_same, bits_small}
use Rattle.net_blif.proofs.laws.table_by_bits.Goals as goal

pub returns-clause-bits : goal.returns-clause-bits
returns-clause-bits c = λ cover index less. bits_same (is_one cover) (2 ^ length cover.inputs) index less

pub returns-clause-no_more : goal.returns-clause-no_more
returns-clause-no_more c = λ cover. bits_small (is_one cover) (2 ^ length cover.inputs)
