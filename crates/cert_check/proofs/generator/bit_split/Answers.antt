use Rattle.std.proofs.Common.{◌∙◌, ◌+◌, ◌*◌, ◌≤◌, ap, Some, ℕ, bit_xor, arith}
use Rattle.std.proofs.lemmas.Nat.{mul-le}
use Rattle.cert_check.specs.Running.{bit_value}
use Rattle.cert_check.specs.private.Held.{dual_of, form_value}
use Rattle.cert_check.proofs.generator.bit_split.Goals as goal

pub overflow_mul-k : goal.overflow_mul-k
overflow_mul-k g c =
    let small = (g.met.F.Ring.laws c.args.field.now).small in
    let low : c.k.result ≤ 64 = omega (arith, small, c.k.ensures) in
    let most : c.k.result * c.args.word ≤ 64 * 8 = mul-le c.k.result c.args.word 64 8 low (omega (arith, c.requires.word)) in
    omega (arith, most)

pub overflow_add-k : goal.overflow_add-k
overflow_add-k g c =
    let small = (g.met.F.Ring.laws c.args.field.now).small in
    let low : c.k.result ≤ 64 = omega (arith, small, c.k.ensures) in
    let most : c.k.result * c.args.word ≤ 64 * 8 = mul-le c.k.result c.args.word 64 8 low (omega (arith, c.requires.word)) in
    omega (arith, most, c.requires.place, small)

pub returns : goal.returns
returns g c =
    let k : ℕ = g.F.Ring.degree c.args.field.now in
    let mul : ℕ → ℕ → ℕ = g.F.Ring.product c.args.field.now in
    record {
      terms = c.in_ok-near.ensures.terms;
      is_form = record { word = c.requires.word; known = c.requires.known; place = c.requires.place };
      values = λ p at. ap (λ v. bit_xor v (form_value k mul (dual_of c.args._circuit.now c.args._bases.now) p (Some (record { word = c.args.word; place = c.args.place })))) (c.in_ok-near.ensures.values p at ∙ ap (λ (n : ℕ). bit_value (p.is_one (n * c.args.word + c.args.place))) c.k.ensures);
    }
