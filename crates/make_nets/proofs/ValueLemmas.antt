-- The bits of nets that gates of a plan drive.
use Rattle.std.proofs.Common.{◌≡◌, ◌∙◌, ap, sym, refl, ℕ, zero, suc, ◌<◌, ◌+◌, ◌*◌, Bool, true, false, cond, List, [], ◌∷◌, ◌++◌, length, Option, None, unwrap_or, arith}
use Rattle.std.specs.Prelude.{bit_xor, ◌==◌}
use Rattle.std.specs.Int.{bit_at}
use Rattle.std.specs.Int.Bits.{xor_assoc, xor_zero_r}
use Rattle.std.proofs.Math.Nat.{mul-zero, mul-one}
use Rattle.lists.specs.laws.HasLaws.{Has_left, Has_right}
use Rattle.gf_field.specs.Polynomial.{sum_of_first}
use Rattle.net_core.specs.GateValue.{GateValue}
use Rattle.net_core.specs.Value.{bit_of, IsRight}
use Rattle.make_nets.specs.Plan.{Plan, driven_by, with_gate, with_zero, with_buffer, with_and, with_xor, with_links, with_chain, chain_net, gathered, where_so}
use Rattle.make_nets.specs.PlanValue.{Agrees, bit_at_net, parity}

-- the gate that was added last
abbrev last : Option ℕ → List ℕ → ℕ → Plan → GateValue
last target inputs table plan = record { out = driven_by target plan; inputs = inputs; table = table }

-- what agrees with a gate more agrees with the gates before
pub agrees_before : (bits : List Bool) (target : Option ℕ) (inputs : List ℕ) (table : ℕ) (plan : Plan) → Agrees bits (with_gate target inputs table plan) → Agrees bits plan
agrees_before bits target inputs table plan agrees g has = agrees g (Has_left plan.gates (last target inputs table plan ∷ []) g has)

-- and with this gate
pub agrees_last : (bits : List Bool) (target : Option ℕ) (inputs : List ℕ) (table : ℕ) (plan : Plan) → Agrees bits (with_gate target inputs table plan) → IsRight bits (last target inputs table plan)
agrees_last bits target inputs table plan agrees = agrees (last target inputs table plan) (Has_right plan.gates (last target inputs table plan ∷ []) (last target inputs table plan) (0, refl))

pub and_bits : (x y z : Bool) → z ≡ (bit_at 8 (cond x 1 0 + 2 * (cond y 1 0 + 2 * 0)) == 1) → ◌≡◌ {A = ℕ} (cond z 1 0) (cond x 1 0 * cond y 1 0)
and_bits true true z is = rw is refl
and_bits true false z is = rw is refl
and_bits false true z is = rw is refl
and_bits false false z is = rw is refl

xor_bits : (x y z : Bool) → z ≡ (bit_at 6 (cond x 1 0 + 2 * (cond y 1 0 + 2 * 0)) == 1) → ◌≡◌ {A = ℕ} (cond z 1 0) (bit_xor (cond x 1 0) (cond y 1 0))
xor_bits true true z is = rw is refl
xor_bits true false z is = rw is refl
xor_bits false true z is = rw is refl
xor_bits false false z is = rw is refl

buffer_bits : (x z : Bool) → z ≡ (bit_at 2 (cond x 1 0 + 2 * 0) == 1) → ◌≡◌ {A = ℕ} (cond z 1 0) (cond x 1 0)
buffer_bits true z is = rw is refl
buffer_bits false z is = rw is refl

zero_bits : (z : Bool) → z ≡ (bit_at 0 0 == 1) → ◌≡◌ {A = ℕ} (cond z 1 0) 0
zero_bits z is = rw is refl

pub and_value : (bits : List Bool) (target : Option ℕ) (a b : ℕ) (plan : Plan) → Agrees bits (with_and target a b plan) → bit_at_net bits (driven_by target plan) ≡ bit_at_net bits a * bit_at_net bits b
and_value bits target a b plan agrees = and_bits (bit_of bits a) (bit_of bits b) (bit_of bits (driven_by target plan)) (agrees_last bits target (a ∷ b ∷ []) 8 plan agrees)

pub xor_value : (bits : List Bool) (target : Option ℕ) (a b : ℕ) (plan : Plan) → Agrees bits (with_xor target a b plan) → bit_at_net bits (driven_by target plan) ≡ bit_xor (bit_at_net bits a) (bit_at_net bits b)
xor_value bits target a b plan agrees = xor_bits (bit_of bits a) (bit_of bits b) (bit_of bits (driven_by target plan)) (agrees_last bits target (a ∷ b ∷ []) 6 plan agrees)

pub buffer_value : (bits : List Bool) (target : Option ℕ) (a : ℕ) (plan : Plan) → Agrees bits (with_buffer target a plan) → bit_at_net bits (driven_by target plan) ≡ bit_at_net bits a
buffer_value bits target a plan agrees = buffer_bits (bit_of bits a) (bit_of bits (driven_by target plan)) (agrees_last bits target (a ∷ []) 2 plan agrees)

pub zero_value : (bits : List Bool) (target : Option ℕ) (plan : Plan) → Agrees bits (with_zero target plan) → bit_at_net bits (driven_by target plan) ≡ 0
zero_value bits target plan agrees = zero_bits (bit_of bits (driven_by target plan)) (agrees_last bits target [] 0 plan agrees)

-- what agrees with the gates of a chain agrees with those before
links_before : (bits : List Bool) (target : Option ℕ) (a b : ℕ) (rest : List ℕ) (plan : Plan) → Agrees bits (with_links target a b rest plan) → Agrees bits plan
links_before bits target a b [] plan agrees = agrees_before bits target (a ∷ b ∷ []) 6 plan agrees
links_before bits target a b (c ∷ rest) plan agrees = agrees_before bits None (a ∷ b ∷ []) 6 plan (links_before bits target plan.next c rest (with_xor None a b plan) agrees)

pub chain_before : (bits : List Bool) (target : Option ℕ) (list : List ℕ) (plan : Plan) → Agrees bits (with_chain target list plan) → Agrees bits plan
chain_before bits target [] plan agrees = agrees_before bits target [] 0 plan agrees
chain_before bits target (a ∷ []) plan agrees = agrees_before bits target (a ∷ []) 2 plan agrees
chain_before bits target (a ∷ b ∷ rest) plan agrees = links_before bits target a b rest plan agrees

later : (target : Option ℕ) (n m : ℕ) → n ≡ m → unwrap_or target n ≡ unwrap_or target m
later target n m same = ap (unwrap_or target) same

links_value : (bits : List Bool) (target : Option ℕ) (a b : ℕ) (rest : List ℕ) (plan : Plan) → Agrees bits (with_links target a b rest plan) → bit_at_net bits (unwrap_or target (plan.next + length rest)) ≡ bit_xor (bit_at_net bits a) (bit_xor (bit_at_net bits b) (parity bits rest))
links_value bits target a b [] plan agrees =
    let own : unwrap_or target (plan.next + 0) ≡ driven_by target plan = later target (plan.next + 0) plan.next (omega arith) in
    ap (bit_at_net bits) own ∙ (xor_value bits target a b plan agrees ∙ ap (bit_xor (bit_at_net bits a)) (sym (xor_zero_r (bit_at_net bits b))))
links_value bits target a b (c ∷ rest) plan agrees =
    let own : unwrap_or target (plan.next + suc (length rest)) ≡ unwrap_or target (suc plan.next + length rest) = later target (plan.next + suc (length rest)) (suc plan.next + length rest) (omega arith) in
    let more = links_value bits target plan.next c rest (with_xor None a b plan) agrees in
    let here = xor_value bits None a b plan (links_before bits target plan.next c rest (with_xor None a b plan) agrees) in
    ap (bit_at_net bits) own ∙ (more ∙ (ap (λ x. bit_xor x (bit_xor (bit_at_net bits c) (parity bits rest))) here ∙ xor_assoc (bit_at_net bits a) (bit_at_net bits b) (bit_xor (bit_at_net bits c) (parity bits rest))))

-- the net of a chain has the exclusive or of its list
pub chain_value : (bits : List Bool) (target : Option ℕ) (list : List ℕ) (plan : Plan) → Agrees bits (with_chain target list plan) → bit_at_net bits (chain_net target list plan) ≡ parity bits list
chain_value bits target [] plan agrees = ap (bit_at_net bits) (later target (plan.next + 0) plan.next (omega arith)) ∙ zero_value bits target plan agrees
chain_value bits target (a ∷ []) plan agrees = ap (bit_at_net bits) (later target (plan.next + 0) plan.next (omega arith)) ∙ (buffer_value bits target a plan agrees ∙ sym (xor_zero_r (bit_at_net bits a)))
chain_value bits target (a ∷ b ∷ rest) plan agrees = links_value bits target a b rest plan agrees

pub parity_append : (bits : List Bool) (xs ys : List ℕ) → parity bits (xs ++ ys) ≡ bit_xor (parity bits xs) (parity bits ys)
parity_append bits [] ys = refl
parity_append bits (x ∷ xs) ys = ap (bit_xor (bit_at_net bits x)) (parity_append bits xs ys) ∙ sym (xor_assoc (bit_at_net bits x) (parity bits xs) (parity bits ys))

-- the exclusive or of lists one after the other is a sum
pub gathered_parity : (bits : List Bool) (f : ℕ → List ℕ) (n : ℕ) → parity bits (gathered n f) ≡ sum_of_first n (λ i. parity bits (f i))
gathered_parity bits f zero = refl
gathered_parity bits f (suc n) = parity_append bits (gathered n f) (f n) ∙ ap (λ x. bit_xor x (parity bits (f n))) (gathered_parity bits f n)

-- a net that is chosen by a bit
pub where_parity : (bits : List Bool) (choice n : ℕ) → choice < 2 → parity bits (where_so (choice == 1) n) ≡ bit_at_net bits n * choice
where_parity bits zero n low = sym (mul-zero (bit_at_net bits n))
where_parity bits (suc zero) n low = xor_zero_r (bit_at_net bits n) ∙ sym (mul-one (bit_at_net bits n))
where_parity bits (suc (suc c)) n low = absurd (omega arith)
