-- Lemmas that several crates above cite.
use Rattle.std.proofs.Common.{◌≡◌, ◌≢◌, ap, true, false, refl, ℕ, List, []}
use Rattle.net_words.specs.Feeds.{AreFeeds}
use Rattle.net_words.specs.Roles.{same_role}
use Rattle.net_words.specs.declared.word.Role.{Role}
use Rattle.net_words.specs.declared.word.Role.TheVariants.{Output, Input, State, Fed}

pub not_role : (r : Role) → same_role r Output ≡ false → r ≢ Output
not_role r e is = let same : same_role r Output ≡ true = ap (λ q. same_role q Output) is in absurd (cc)

pub is_role : (r : Role) → same_role r Output ≡ true → r ≡ Output
is_role Input e = absurd (cc)
is_role State e = absurd (cc)
is_role Fed e = absurd (cc)
is_role Output e = refl

pub same_self : (role : Role) → same_role role role ≡ true
same_self Input = refl
same_self State = refl
same_self Fed = refl
same_self Output = refl

pub no_feeds : (k : ℕ) (roles : List Role) → AreFeeds k roles []
no_feeds k roles = record { sources = λ feed has. let got = has.1 in absurd (cc); apart = λ i j f g at_i at_j same_net same_cycle. absurd (cc) }
