use Rattle.std.proofs.Common.{◌≤◌, length, subst}
use Rattle.cert_check.specs.private.Waiting.{Gathered, most_of}
use Rattle.cert_check.proofs.WaitingLemmas.{not_more}
use Rattle.cert_check.proofs.term_sum.TermSum.has_at_most.Goals as goal

pub returns-then-waiting-most-clause-few : goal.returns-then-waiting-most-clause-few
returns-then-waiting-most-clause-few c = let P : Gathered → Type 0 = λ g. length g.terms ≤ most_of g in subst P c.self.view_is (not_more c.self.inside.map.terms c.self.inside.waiting)

pub returns-else-waiting-most-clause-few : goal.returns-else-waiting-most-clause-few
returns-else-waiting-most-clause-few c = let P : Gathered → Type 0 = λ g. length g.terms ≤ most_of g in subst P c.self.view_is (not_more c.self.inside.map.terms c.self.inside.waiting)
