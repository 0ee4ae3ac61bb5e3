use Rattle.lists.specs.laws.ReadLaws.{got_read}
use Rattle.cert_check.proofs.waiting.is_at.Goals as goal

pub returns-in-Some : goal.returns-in-Some
returns-in-Some c e = record {
  term = c.in-Some.summand.now;
  got = got_read c.args.list.now c.args.index c.in-Some.summand.now c.in-Some.ensures.lookup.3.0 c.in-Some.ensures.lookup.1;
  is = c.is_of.ensures e;
}
