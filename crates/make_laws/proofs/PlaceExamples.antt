-- Small worked examples of the definitions of specs/, which the check computes.
use Rattle.std.specs.Prelude.{◌≡◌, refl, [], ◌∷◌, true, false}
use Rattle.make_laws.specs.Held.{bit_at_place, net_at}
use Rattle.make_laws.specs.NormalNets.{place_before}
use Rattle.make_laws.specs.DigitNets.{unit_basis}

-- the word on the nets 4 and 1 has net 4 at place 0
first_net : net_at (4 ∷ 1 ∷ []) 0 ≡ 4
first_net = refl

-- and at place 1 the bit of net 1
second_bit : bit_at_place (false ∷ true ∷ false ∷ false ∷ false ∷ []) (4 ∷ 1 ∷ []) 1 ≡ true
second_bit = refl

-- of three places in a ring, place 2 comes before place 0, and place 0 before place 1
before_first : place_before 3 0 ≡ 2
before_first = refl

before_second : place_before 3 1 ≡ 0
before_second = refl

-- the powers of x below the degree
units : unit_basis 3 ≡ 1 ∷ 2 ∷ 4 ∷ []
units = refl
