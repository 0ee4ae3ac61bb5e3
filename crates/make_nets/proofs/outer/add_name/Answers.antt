use Rattle.std.proofs.Common.{◌≡◌, ◌∙◌, ap, true, arith}
use Rattle.lists.specs.laws.ListLaws.{length_map as map_long}
use Rattle.net_core.specs.NetList.{nets}
use Rattle.make_nets.specs.MadeNet.{named}
use Rattle.make_nets.proofs.OuterLemmas.{is_net_name, named_once, names_last, same_count}
use Rattle.make_nets.proofs.outer.add_name.Goals as goal

pub returns-then-not-is_maker_name : goal.returns-then-not-is_maker_name
returns-then-not-is_maker_name c = λ names was are.
    let good : c.is_maker_name.result ≡ true = c.is_maker_name.ensures.1 (names_last names c.args.name.now are).0 in
    absurd (cc)

pub named-requires : goal.named-requires
named-requires c = record {
  name = is_net_name c.args.name.now (c.is_maker_name.ensures.0 c.if-not-is_maker_name.false);
  room = omega (arith, ap nets c.requires.before.1.0, map_long named c.requires.before.0, c.requires.before.2, c.requires.room);
}

pub returns : goal.returns
returns c = λ names was. named_once names c.args.maker.now c.named.new.maker c.args.name.now c.args.count c.in_ok-number.number was
    (same_count names c.requires.before.0 c.args.maker.now was.0 c.requires.before.1.0 ∙ c.requires.before.2)
    (c.is_maker_name.ensures.0 c.if-not-is_maker_name.false) c.in_ok-number.ensures.made c.in_ok-number.ensures.number
