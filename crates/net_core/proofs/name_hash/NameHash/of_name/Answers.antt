use Rattle.std.proofs.Common.{length}
use Rattle.std.proofs.lemmas.Bool.{le-leb, lt-leb}
use Rattle.net_core.proofs.name_hash.NameHash.of_name.Goals as goal

pub returns-then-name-le-SHORT : goal.returns-then-name-le-SHORT
returns-then-name-le-SHORT c = rw (le-leb (length c.args.name.now) 15 c.if-name-le-SHORT.true, c.upper_half.ensures, c.text_number.ensures, c.as_bytes.ensures.value)

pub returns-else-name-le-SHORT : goal.returns-else-name-le-SHORT
returns-else-name-le-SHORT c = rw (lt-leb (length c.args.name.now) 15 c.if-name-le-SHORT.false, c.of_name.ensures)
