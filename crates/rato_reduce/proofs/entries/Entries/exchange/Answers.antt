use Rattle.std.proofs.Common.{subst}
use Rattle.std.specs.Prelude.{IfSome, IfNone, ◌≡◌}
use Rattle.rato_reduce.specs.private.EntryList.{EntryList, only_or, IsExchanged}
use Rattle.rato_reduce.proofs.LineLemmas.{exchanged, not_exchanged, still_only}
use Rattle.rato_reduce.proofs.entries.Entries.exchange.Goals as goal

pub invariant_of-self : goal.invariant_of-self
invariant_of-self c = still_only c.args.places.now c.args.rank c.args.by c.self.inside.map.entries c.self.inside.one c.exchange_in.new.one c.exchange_in.result c.exchange_in.ensures.some c.exchange_in.ensures.none c.self.invariant

pub returns-clause-some : goal.returns-clause-some
returns-clause-some c =
    let P : EntryList → Type 0 = λ old. IfSome c.exchange_in.result (λ v. IsExchanged c.args.places.now c.args.rank c.args.by v old.entries (only_or c.exchange_in.new.one c.self.inside.map.entries)) in
    subst P c.self.view_is (exchanged c.args.places.now c.args.rank c.args.by c.self.inside.map.entries c.self.inside.one c.exchange_in.new.one c.exchange_in.result c.exchange_in.ensures.some)

pub returns-clause-none : goal.returns-clause-none
returns-clause-none c =
    let P : EntryList → Type 0 = λ old. IfNone c.exchange_in.result (only_or c.exchange_in.new.one c.self.inside.map.entries ≡ old.entries) in
    subst P c.self.view_is (not_exchanged c.args.places.now c.args.rank c.args.by c.self.inside.map.entries c.self.inside.one c.exchange_in.new.one c.exchange_in.result c.exchange_in.ensures.none)
