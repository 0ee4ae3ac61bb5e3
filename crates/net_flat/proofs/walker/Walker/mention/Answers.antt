use Rattle.std.proofs.Common.{◌≡◌, subst, sym, ℕ, Bool, cond, List, Ok}
use Rattle.std.proofs.lemmas.Result.{on_ok_weaker}
use Rattle.net_flat.specs.private.KnownNumbers.{known_in}
use Rattle.std.specs.Prelude.{string_bytes, OnOk}
use Rattle.net_flat.specs.Steps.{Mention}
use Rattle.net_flat.specs.private.LocalWalk.{local_step, state_with, AreInside, InTop, Inside}
use Rattle.net_flat.proofs.StateLemmas.{mention_inside, top_inside}
use Rattle.net_flat.proofs.walker.Walker.mention.Goals as goal

pub returns-then-self-clause-inside : goal.returns-then-self-clause-inside
returns-then-self-clause-inside c =
    let P : Bool → Type 0 = λ b. AreInside (state_with c.mention.new.self c.args.self.now.instances (cond b InTop (Inside (string_bytes c.args.self.now.scope.prefix) (known_in c.args.self.now.scope.numbers)))) in
    on_ok_weaker c.mention.result (λ made. subst P (sym c.if-self.true) (top_inside c.mention.new.self c.args.self.now.instances)) (c.mention.ensures.made 0)

pub returns-else-self-clause-inside : goal.returns-else-self-clause-inside
returns-else-self-clause-inside c =
    let old = c.args.self.now in
    let P : Bool → Type 0 = λ b. AreInside (state_with old.maker old.instances (cond b InTop (Inside (string_bytes old.scope.prefix) (known_in old.scope.numbers)))) in
    let Q : Bool → Type 0 = λ b. AreInside (state_with c.mention_inside.new.maker old.instances (cond b InTop (Inside (string_bytes c.mention_inside.new.prefix) (known_in c.mention_inside.new.numbers)))) in
    let R : List ℕ → Type 0 = λ p. AreInside (state_with c.mention_inside.new.maker old.instances (Inside p (known_in c.mention_inside.new.numbers))) in
    on_ok_weaker c.mention_inside.result (λ made. subst Q (sym c.if-self.false) (subst R (sym c.mention_inside.ensures.prefix) (mention_inside (state_with old.maker old.instances (Inside (string_bytes old.scope.prefix) (known_in old.scope.numbers))) (state_with c.mention_inside.new.maker old.instances (Inside (string_bytes old.scope.prefix) (known_in c.mention_inside.new.numbers))) c.args.name.now (subst P c.if-self.false c.requires.inside) made))) (c.mention_inside.ensures.made old.instances)

pub returns-else-self-clause-made : goal.returns-else-self-clause-made
returns-else-self-clause-made c =
    let old = c.args.self.now in
    let P : Bool → Type 0 = λ b. OnOk c.mention_inside.result (local_step (state_with old.maker old.instances (cond b InTop (Inside (string_bytes old.scope.prefix) (known_in old.scope.numbers)))) (Mention c.args.name.now) ≡ Ok (state_with c.mention_inside.new.maker old.instances (cond b InTop (Inside (string_bytes c.mention_inside.new.prefix) (known_in c.mention_inside.new.numbers))))) in
    let Q : List ℕ → Type 0 = λ p. OnOk c.mention_inside.result (local_step (state_with old.maker old.instances (Inside (string_bytes old.scope.prefix) (known_in old.scope.numbers))) (Mention c.args.name.now) ≡ Ok (state_with c.mention_inside.new.maker old.instances (Inside p (known_in c.mention_inside.new.numbers)))) in
    subst P (sym c.if-self.false) (subst Q (sym c.mention_inside.ensures.prefix) (c.mention_inside.ensures.made old.instances))
