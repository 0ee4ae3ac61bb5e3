use Rattle.std.proofs.Common.{rules, ◌≡◌, ◌++◌, subst, sym}
use Rattle.std.specs.Fmt.{decimal}
use Rattle.net_core.specs.Inside.{IsNetName}
use Rattle.net_aiger.specs.Reading.{Name}
use Rattle.net_aiger.proofs.NameLemmas.{default_fits}
use Rattle.net_aiger.proofs.reader.numbered.Goals as goal

pub returns-clause-fits : goal.returns-clause-fits
returns-clause-fits c =
    let same : c.in_ok-name.name ≡ c.args.letter.now ++ decimal c.args.number = search rules in
    let P : Name → Type 0 = IsNetName in
    subst P (sym same) (default_fits c.args.letter.now c.args.number c.requires c.ranges.number.fits)
