use Rattle.std.proofs.Common.{rules, ◌≡◌, true, codes, take, drop}
use Rattle.std.specs.Str.{bytes_eq}
use Rattle.net_blif.proofs.NamesLemmas.{names_cut}
use Rattle.net_blif.proofs.in_place.behind_names.Goals as goal

pub returns-in-Some-clause-names : goal.returns-in-Some-clause-names
returns-in-Some-clause-names c =
    let is : bytes_eq (take 7 c.args.text.now) (codes ".names ") ≡ true = search rules in
    let behind : c.in-Some.rest.now ≡ drop 7 c.args.text.now = search rules in
    λ _. names_cut c.args.text.now c.in-Some.rest.now is behind
