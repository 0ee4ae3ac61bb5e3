-- What the maker answers, as steps.
use Rattle.std.proofs.Common.{◌≡◌, ◌∙◌, ap, refl, subst, ℕ, ◌^◌, Bool, true, false, not, ◌&&◌, cond, List, Option, None, Some, Result, Ok, Err}
use Rattle.std.specs.Prelude.{is_some, nat_le, unwrap_or}
use Rattle.std.proofs.lemmas.Bool.{leb-true}
use Rattle.net_core.specs.NetList.{NetList, nets, number_of, with_name}
use Rattle.net_core.specs.Inside.{IsFull}
use Rattle.net_core.specs.declared.fault.NetFault.{NetFault}
use Rattle.net_core.specs.declared.fault.NetFault.TheVariants as faults
use Rattle.net_verilog.specs.Made.{mentioned}

pub mention_made : (net new : NetList) (name : List ℕ) (n : ℕ) → new ≡ with_name net name → number_of new name ≡ Some n → (number_of net name ≡ None → IsFull net → ⊥) → mentioned net name ≡ Ok (new, n)
mention_made net new name n made found room = by (number_of net name) (nat_le (2 ^ 20) (nets net)) refl refl
  where
    same : ◌≡◌ {A = Result (NetList × ℕ) NetFault} (Ok (with_name net name, unwrap_or (number_of (with_name net name) name) 0)) (Ok (new, n))
    same = let P : NetList → Type 0 = λ m. ◌≡◌ {A = Result (NetList × ℕ) NetFault} (Ok (m, unwrap_or (number_of m name) 0)) (Ok (new, n)) in subst P made (ap (λ (o : Option ℕ). Ok (new, unwrap_or o 0)) found)

    closed : (b : Bool) → b ≡ false → ◌≡◌ {A = Result (NetList × ℕ) NetFault} (Ok (with_name net name, unwrap_or (number_of (with_name net name) name) 0)) (Ok (new, n)) → cond {A = Result (NetList × ℕ) NetFault} b (Err faults.TooManyNets) (Ok (with_name net name, unwrap_or (number_of (with_name net name) name) 0)) ≡ Ok (new, n)
    closed false e h = h
    closed true e h = absurd (cc)

    by : (o : Option ℕ) (b : Bool) → number_of net name ≡ o → nat_le (2 ^ 20) (nets net) ≡ b → mentioned net name ≡ Ok (new, n)
    by (Some k) b e f = closed (not (is_some (number_of net name)) && nat_le (2 ^ 20) (nets net)) (ap (λ (o : Option ℕ). not (is_some o) && nat_le (2 ^ 20) (nets net)) e) same
    by None true e f = absurd (room e (leb-true (2 ^ 20) (nets net) f))
    by None false e f = closed (not (is_some (number_of net name)) && nat_le (2 ^ 20) (nets net)) (ap (λ (o : Option ℕ). not (is_some o) && nat_le (2 ^ 20) (nets net)) e ∙ f) same
