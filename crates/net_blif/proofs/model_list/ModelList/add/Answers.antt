use Rattle.std.proofs.Common.{rules, ◌≡◌, ◌∙◌, ap, sym, subst, ◌-◌, ◌<◌, ◌^◌, ◌++◌, ◌∷◌, [], ℕ, List, length, cond, Some}
use Rattle.std.specs.Prelude.{is_some}
use Rattle.std.specs.Str.{bytes_eq}
use Rattle.std.specs.HashMap.{get_by_text}
use Rattle.net_blif.specs.Design.{ModelValue, model_from}
use Rattle.net_blif.proofs.DesignLemmas.{numbered}
use Rattle.net_blif.proofs.model_list.ModelList.add.Goals as goal

pub invariant_of-self-in_err-add_number : goal.invariant_of-self-in_err-add_number
invariant_of-self-in_err-add_number c =
    let P : List ModelValue → Type 0 = λ ms. ((q : List ℕ) → get_by_text c.add_number.new.numbers q ≡ model_from 0 ms q) × (length ms < 2 ^ 32) in
    subst P (sym c.reserve.ensures.items) ((λ q. c.in_err-add_number.ensures.unchanged q ∙ c.self.invariant.0 q), c.self.invariant.1)

pub invariant_of-self-2 : goal.invariant_of-self-2
invariant_of-self-2 c =
    let place : c.in-Ok.number - 1 ≡ length c.self.inside.models.items = search rules in
    let pushed : c.push_reserved.new.self.items ≡ c.self.inside.models.items ++ c.args.model ∷ [] = c.push_reserved.ensures.items ∙ ap (λ (ms : List ModelValue). ms ++ c.args.model ∷ []) c.reserve.ensures.items in
    ((λ q. numbered c.self.inside.models.items c.push_reserved.new.self.items c.args.model q (c.in-Ok.number - 1) (get_by_text c.self.inside.numbers) (get_by_text c.add_number.new.numbers) place pushed c.self.invariant.0 (step q)), search rules)
  where
    step : (q : List ℕ) → get_by_text c.add_number.new.numbers q ≡ cond (is_some (get_by_text c.self.inside.numbers c.args.model.name)) (get_by_text c.self.inside.numbers q) (cond (bytes_eq c.args.model.name q) (Some (c.in-Ok.number - 1)) (get_by_text c.self.inside.numbers q))
    step q = let named : c.name.result.now ≡ c.args.model.name = c.name.ensures in rw (← named) (c.in_ok-add_number.ensures.made q)
