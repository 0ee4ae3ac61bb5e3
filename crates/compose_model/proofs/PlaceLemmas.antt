-- The bits of names of the top, and of formals in an instance.
use Rattle.std.proofs.Common.{◌≡◌, ◌∙◌, ap, sym, refl, ℕ, ◌+◌, ◌*◌, Bool, if◌then◌else◌, List, [], ◌∷◌, map, Option, None, Some}
use Rattle.std.specs.Option.{option_and_then, option_map}
use Rattle.net_core.specs.Value.{bit_of, index_of}
use Rattle.net_blif.specs.Statement.{Token}
use Rattle.net_blif.specs.Top.{actual_in, connections_in}
use Rattle.net_blif.specs.declared.item.Item.{Item}
use Rattle.net_flat.specs.Paths.{top, At}
use Rattle.net_flat.specs.Flat.{net_list, number, Flat}
use Rattle.net_flat.specs.Part.{IsPart}
use Rattle.net_flat.proofs.PartLemmas.{connected_net, named_bit, named_number}
use Rattle.compose_model.specs.Hierarchy.{actuals_of}
use Rattle.compose_model.proofs.NamesLemmas.{HaveNumbers}

-- the numbers of names of the top in the whole
abbrev pub numbers_in : Flat → List Token → List ℕ
numbers_in whole names = map (λ name. number whole (At [] name)) names

one_more : (bits part : List Bool) (m n : ℕ) (ms ns : List ℕ) → bit_of part m ≡ bit_of bits n → index_of part ms ≡ index_of bits ns → index_of part (m ∷ ms) ≡ index_of bits (n ∷ ns)
one_more bits part m n ms ns here rest = λ i. (if here i then 1 else 0) + 2 * rest i

-- nets of the top by their names
pub named_index : (whole : Flat) (bits : List Bool) (names : List Token) (ns : List ℕ) → HaveNumbers (net_list whole) names ns → index_of bits ns ≡ index_of bits (numbers_in whole names)
named_index whole bits [] [] are = refl
named_index whole bits [] (n ∷ ns) are = absurd are
named_index whole bits (name ∷ names) [] are = absurd are
named_index whole bits (name ∷ names) (n ∷ ns) are =
    one_more bits bits n (number whole (At [] name)) ns (numbers_in whole names) (ap (bit_of bits) (sym (named_number whole n name are.0))) (named_index whole bits names ns are.1)

both : (item : Item) (formals : List Token) (found : Option Token) (rest : Option (List Token)) (actuals : List Token) → option_and_then (λ (actual : Token). option_map (λ (more : List Token). actual ∷ more) rest) found ≡ Some actuals
    → (actual : Token) × (more : List Token) × (found ≡ Some actual) × (rest ≡ Some more) × (actuals ≡ actual ∷ more)
both item formals None rest actuals e = absurd (cc)
both item formals (Some actual) None actuals e = absurd (cc)
both item formals (Some actual) (Some more) actuals e = let same : actual ∷ more ≡ actuals = cc in (actual, more, refl, refl, sym same)

-- formals of an instance by what is connected to them
pub connected_index : (whole alone : Flat) (bits part : List Bool) (item : Item) (i : ℕ) (formals actuals : List Token) (ns : List ℕ) → IsPart whole alone i (connections_in item) bits part → HaveNumbers (net_list alone) formals ns → actuals_of item formals ≡ Some actuals
    → index_of part ns ≡ index_of bits (numbers_in whole actuals)
connected_index whole alone bits part item i [] actuals [] is are e = let same : [] ≡ actuals = cc in ap (λ names. index_of bits (numbers_in whole names)) same
connected_index whole alone bits part item i [] actuals (n ∷ ns) is are e = absurd are
connected_index whole alone bits part item i (formal ∷ formals) actuals [] is are e = absurd are
connected_index whole alone bits part item i (formal ∷ formals) actuals (n ∷ ns) is are e =
    let found = both item formals (actual_in item formal) (actuals_of item formals) actuals e in
    let actual : Token = found.0 in
    let more : List Token = found.1 in
    let path = connected_net i (At (i ∷ []) formal) formal actual (connections_in item) found.2 in
    let here : bit_of part n ≡ bit_of bits (number whole (At [] actual)) = named_bit whole alone i n (connections_in item) bits part formal is are.0 ∙ ap (λ p. bit_of bits (number whole p)) path in
    one_more bits part n (number whole (At [] actual)) ns (numbers_in whole more) here (connected_index whole alone bits part item i formals more ns is are.1 found.3)
    ∙ ap (λ names. index_of bits (numbers_in whole names)) (sym found.4)
