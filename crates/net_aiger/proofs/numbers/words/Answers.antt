use Rattle.std.proofs.Common.{rules}
use Rattle.std.proofs.lemmas.Iterator.Consumers.{map_from_collect, YieldsList-from_filter}
use Rattle.std.proofs.lemmas.Iterator.Splits.{YieldsList-from_slice_split}
use Rattle.net_aiger.specs.Numbers.{is_space}
use Rattle.net_aiger.proofs.numbers.words.Goals as goal

pub returns : goal.returns
returns c =
    map_from_collect _ c.collect.ensures.ran (YieldsList-from_filter _ _ (YieldsList-from_slice_split _ is_space c.args.line.now (search rules) (search rules) (search rules) (λ x b q k. search rules)) c.filter.ensures.closure (λ x b q k. search rules))
