use Rattle.std.proofs.Common.{◌≡◌, subst}
use Rattle.cert_check.specs.Certificate.{Certificate, with_shared}
use Rattle.cert_check.specs.private.Kept.{certificate_of}
use Rattle.cert_check.proofs.KeptLemmas.{entries_stay, share_added}
use Rattle.cert_check.proofs.cert_pairs.CertPairs.share.Goals as goal

pub invariant_of-self-2 : goal.invariant_of-self-2
invariant_of-self-2 c = entries_stay c.self.inside.shared.items c.push.new.self.items c.args.poly c.self.inside.entries.items c.in_ok-push.ensures.items c.self.invariant

pub returns : goal.returns
returns c =
    let own = c.self.inside in
    let P : Certificate → Type 0 = λ s. certificate_of own.claim c.push.new.self.items own.entries.items ≡ with_shared s c.args.poly.terms in
    subst P c.self.view_is (share_added own.claim own.shared.items c.push.new.self.items c.args.poly own.entries.items c.in_ok-push.ensures.items c.self.invariant)
