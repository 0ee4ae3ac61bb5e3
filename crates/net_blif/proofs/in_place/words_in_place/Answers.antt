use Rattle.std.proofs.Common.{rules}
use Rattle.net_blif.specs.private.FirstLine.{StandsAlone}
use Rattle.net_blif.proofs.NamesLemmas.{names_alone}
use Rattle.net_blif.proofs.in_place.words_in_place.Goals as goal

pub returns-clause-line : goal.returns-clause-line
returns-clause-line c =
    let rest = c.behind_names-is_cover.result.1.now in
    let alone : StandsAlone rest c.line_in_place.new.words.items c.in-Some.after.now = search rules in
    names_alone c.args.text.now rest c.line_in_place.new.words.items c.in-Some.after.now c.behind_names-is_cover.result.0 c.behind_names-is_cover.ensures.names c.behind_names-is_cover.ensures.other alone
