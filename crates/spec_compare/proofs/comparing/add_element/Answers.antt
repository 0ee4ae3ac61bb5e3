use Rattle.std.proofs.Common.{◌≡◌, ◌≤◌, length, arith}
use Rattle.gf_basis.specs.BasisParts.{elements_of}
use Rattle.spec_compare.proofs.StepLemmas.{room, room_product}
use Rattle.spec_compare.proofs.comparing.add_element.Goals as goal

pub overflow_cast-len : goal.overflow_cast-len
overflow_cast-len g c =
    let is : c.len.result ≡ length c.args.list.now.items = omega (arith, c.len.ensures, c.args.list.now.ok) in
    omega (arith, room c.args.role (elements_of c.args.basis.now) (length c.args.list.now.items) c.in-Input.is c.requires.few, is)

pub overflow_mul-k : goal.overflow_mul-k
overflow_mul-k g c =
    let is : c.len.result ≡ length c.args.list.now.items = omega (arith, c.len.ensures, c.args.list.now.ok) in
    let few : c.len.result ≤ 7 = omega (arith, room c.args.role (elements_of c.args.basis.now) (length c.args.list.now.items) c.in-Input.is c.requires.few, is) in
    let small : c.k-k.result ≤ 64 = omega (arith, c.k-k.ensures, (g.met.F.Ring.laws c.args.field.now).small) in
    omega (arith, room_product c.k-k.result c.len.result small few)

pub number-bits-requires : goal.number-bits-requires
number-bits-requires g c =
    let is : c.len.result ≡ length c.args.list.now.items = omega (arith, c.len.ensures, c.args.list.now.ok) in
    let few : c.len.result ≤ 7 = omega (arith, room c.args.role (elements_of c.args.basis.now) (length c.args.list.now.items) c.in-Input.is c.requires.few, is) in
    let small : c.k-k.result ≤ 64 = omega (arith, c.k-k.ensures, (g.met.F.Ring.laws c.args.field.now).small) in
    record { few = small; small = room_product c.k-k.result c.len.result small few }
