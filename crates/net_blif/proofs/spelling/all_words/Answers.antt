use Rattle.std.proofs.Common.{rules, ◌≡◌, List, subst}
use Rattle.std.specs.Prelude.{IfOk}
use Rattle.std.proofs.lemmas.List.{map-id}
use Rattle.std.proofs.lemmas.Iterator.{items_from_collect, YieldsList-from_map}
use Rattle.std.proofs.lemmas.Iterator.Consumers.{YieldsList-from_filter}
use Rattle.std.proofs.lemmas.Iterator.Splits.{YieldsList-from_slice_split}
use Rattle.text_core.specs.Lines.{is_blank, tokens_of}
use Rattle.net_blif.specs.Statement.{Token}
use Rattle.net_blif.proofs.spelling.all_words.Goals as goal

pub returns : goal.returns
returns c =
    let P : List Token → Type 0 = λ all. IfOk c.collect.result (λ words. words.items ≡ all) in
    subst P (map-id (tokens_of c.args.line.now)) (items_from_collect _ c.collect.ensures.ran (YieldsList-from_map _ (λ token. token) (YieldsList-from_filter _ _ (YieldsList-from_slice_split _ is_blank c.args.line.now (search rules) (search rules) (search rules) (λ x b q k. search rules)) c.filter.ensures.closure (λ x b q k. search rules)) c.map.ensures.closure (λ x r q k. search rules)))
