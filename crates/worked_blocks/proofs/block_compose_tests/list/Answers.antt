use Rattle.std.proofs.Common.{◌∙◌, sym, map}
use Rattle.std.proofs.lemmas.List.{length-map}
use Rattle.gf_basis.specs.BasisParts.{elements_of}
use Rattle.job_input.proofs.SettingWordLemmas.{bases_long}
use Rattle.worked_blocks.proofs.block_compose_tests.list.Goals as goal

pub returns-clause-long : goal.returns-clause-long
returns-clause-long g c = sym (length-map c.in-Ok.bases.items elements_of) ∙ bases_long (g.F.Ring.degree c.args.field.now) (g.F.Ring.product c.args.field.now) c.args.words.now (map elements_of c.in-Ok.bases.items) c.in-Ok.ensures.gives
