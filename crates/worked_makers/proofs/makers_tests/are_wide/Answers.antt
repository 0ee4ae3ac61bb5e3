use Rattle.lists.specs.laws.HasLaws.{All_has}
use Rattle.worked_makers.specs.Wide.{IsWide}
use Rattle.worked_makers.proofs.makers_tests.are_wide.Goals as goal

pub returns : goal.returns
returns c = λ yes word has. All_has (IsWide c.args.k) c.args.words.now word (c.all_wide-wide.ensures yes) has
