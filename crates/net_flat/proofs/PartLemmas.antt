-- Bits that are consistent with the whole, restricted to an instance.
use Rattle.std.proofs.Common.{◌≡◌, ◌∙◌, ap, sym, refl, subst, ℕ, ◌+◌, ◌*◌, Bool, true, false, cond, ◌==◌, List, [], ◌∷◌, ◌++◌, map, Option, None, Some, Ok, arith}
use Rattle.std.specs.Prelude.{is_some, unwrap_or, slice_get}
use Rattle.std.specs.Int.{bit_at}
use Rattle.std.specs.Option.{option_map, option_map_or}
use Rattle.std.specs.Str.{bytes_eq}
use Rattle.std.proofs.lemmas.List.{length-map}
use Rattle.std.proofs.lemmas.Option.{slice_get-map}
use Rattle.lists.specs.Lists.{Has}
use Rattle.net_core.specs.GateValue.{GateValue}
use Rattle.net_core.specs.NetList.{number_of}
use Rattle.net_core.specs.Value.{bit_of, index_of, IsConsistent, IsRight}
use Rattle.net_blif.specs.Statement.{Token}
use Rattle.net_blif.specs.Connection.{actual_of, formal_of}
use Rattle.net_blif.specs.Design.{ModelValue, items_of, model_named}
use Rattle.net_blif.specs.Chains.{AreWithinDepth}
use Rattle.net_blif.specs.Instances.{first_found, or_else}
use Rattle.net_blif.specs.Top.{actual_at, connections_in, instances_of, model_in}
use Rattle.net_blif.specs.declared.item.Item.{Item}
use Rattle.net_flat.specs.Paths.{connected, inner, label_of, path_among, path_in, top, At, Path}
use Rattle.net_flat.specs.Steps.{Step}
use Rattle.net_flat.specs.Walk.{lines_in, walk_of, walk_within}
use Rattle.net_flat.specs.Flat.{gate_on, net_list, nothing, number, walked, was_mentioned, Flat}
use Rattle.net_flat.proofs.PathLemmas.{place_named, Each}
use Rattle.net_flat.proofs.TiedLemmas.{place, IsMentioned}
use Rattle.net_flat.specs.Part.{path_in_whole, IsPart}
use Rattle.net_flat.proofs.LiftLemmas.{lifted, start_aligned, walk_lifted, walk_some}
use Rattle.net_flat.proofs.DepthLemmas.{shallow_instance}
use Rattle.net_flat.proofs.InWalkLemmas.{body_stands, StandIn}
use Rattle.net_flat.proofs.GrownLemmas.{between, place_path, walk_grown}
use Rattle.net_flat.proofs.NamedLemmas.{walk_named}
use Rattle.net_flat.proofs.SideLemmas.{later_beside, nothing_beside, walks_beside, AreBeside}

is_mentioned : (flat : Flat) (path : Path) → was_mentioned flat path ≡ true → IsMentioned flat path
is_mentioned flat path e = by (place flat path) refl e
  where
    by : (o : Option ℕ) → place flat path ≡ o → is_some o ≡ true → IsMentioned flat path
    by (Some k) at e = (k, at)
    by None at e = absurd (cc)

module _ (whole alone : Flat) (i : ℕ) (cs : List Token) (are : AreBeside i cs alone whole) (bits : List Bool) (consistent : IsConsistent (net_list whole) bits) where
  abbrev at : Path → Path
  at = path_in_whole i cs

  abbrev bit_there : Path → Bool
  bit_there path = bit_of bits (number whole (at path))

  abbrev pub part : List Bool
  part = map bit_there alone.paths

  part_bit : (path : Path) → IsMentioned alone path → bit_of part (number alone path) ≡ bit_there path
  part_bit path (k, found) =
      let there = place_path 0 alone.paths path k found in
      let same : number alone path ≡ there.0 = omega (arith, ap (λ (o : Option ℕ). unwrap_or o 0) found, there.1) in
      ap (bit_of part) same ∙ ap (λ (o : Option Bool). unwrap_or o false) (slice_get-map bit_there alone.paths there.0 ∙ ap (option_map bit_there) there.2)

  index_same : (paths : List Path) → Each (IsMentioned alone) paths → index_of part (map (number alone) paths) ≡ index_of bits (map (number whole) (map at paths))
  index_same [] each = refl
  index_same (path ∷ paths) each = λ j. cond (part_bit path each.0 j) 1 0 + 2 * index_same paths each.1 j

  right : (g : GateValue) → Has alone.gates g → IsRight part g
  right g has =
      let both = are.gates g has in
      let P : GateValue → Type 0 = IsRight part in
      subst P (sym both.is)
      (part_bit both.out both.out_is
      ∙ (consistent.gates (gate_on whole (map at both.inputs) (at both.out) both.table) both.there
      ∙ ap (λ n. bit_at both.table n == 1) (sym (index_same both.inputs both.inputs_are))))

  pub part_is : IsPart whole alone i cs bits part
  part_is = record { long = length-map alone.paths bit_there; same = λ path e. part_bit path (is_mentioned alone path e) }

  pub part_consistent : IsConsistent (net_list alone) part
  part_consistent = record { long = length-map alone.paths bit_there ∙ sym (length-map alone.paths label_of); gates = right }

module _ (design : List ModelValue) (i model : ℕ) (item : Item) (whole alone : Flat) (deep : AreWithinDepth design (Ok tt)) (all : walked nothing (walk_of design 0) ≡ Ok whole) (got : slice_get (instances_of design) i ≡ Some item) (named : model_named design (model_in item) ≡ Some model) (one : walked nothing (walk_of design model) ≡ Ok alone) where
  abbrev cs : List Token
  cs = connections_in item

  abbrev body : List (Step Path)
  body = option_map_or (walk_within 63 design (inner top (1 + i) cs)) (model_named design (model_in item)) []

  body_lifted : body ≡ lifted (1 + i) cs (walk_of design model)
  body_lifted =
      ap (λ (o : Option ℕ). option_map_or (walk_within 63 design (inner top (1 + i) cs)) o []) named
      ∙ (walk_lifted (1 + i) cs 63 design top (inner top (1 + i) cs) model (start_aligned (1 + i) cs)
      ∙ ap (lifted (1 + i) cs) (sym (shallow_instance design i model item deep got named top)))

  stands : StandIn body (lines_in (walk_within 63 design) design top 1 (items_of design 0))
  stands = body_stands (walk_within 63 design) design top (items_of design 0) 1 i item got

  pub instance_beside : AreBeside (i + 1) cs alone whole
  instance_beside =
      let whole_walk : walked nothing (stands.before ++ (body ++ stands.after)) ≡ Ok whole = ap (walked nothing) (sym (walk_some 63 design top 0 ∙ stands.is)) ∙ all in
      let first = between nothing whole stands.before (body ++ stands.after) whole_walk in
      let second = between first.0 whole body stands.after first.2 in
      let there : walked first.0 (lifted (1 + i) cs (walk_of design model)) ≡ Ok second.0 = ap (walked first.0) (sym body_lifted) ∙ second.1 in
      let known = (λ (path : Path) (has : Has [] path). absurd (none path has.0 has.1)) in
      let beside : AreBeside (1 + i) cs alone second.0 = walks_beside (1 + i) cs (walk_of design model) [] nothing first.0 alone second.0 (walk_named 64 design top model) known (nothing_beside (1 + i) cs first.0) one there in
      let P : ℕ → Type 0 = λ n. AreBeside n cs alone whole in
      let same : 1 + i ≡ i + 1 = omega arith in
      subst P same (later_beside (1 + i) cs alone second.0 whole beside (walk_grown second.0 whole stands.after second.2))
    where
      none : (path : Path) (k : ℕ) → slice_get [] k ≡ Some path → ⊥
      none path k e = cc

  pub instance_part : (bits : List Bool) → IsConsistent (net_list whole) bits → (part : List Bool) × IsPart whole alone (i + 1) cs bits part × IsConsistent (net_list alone) part
  instance_part bits consistent = (part whole alone (i + 1) cs instance_beside bits consistent, part_is whole alone (i + 1) cs instance_beside bits consistent, part_consistent whole alone (i + 1) cs instance_beside bits consistent)

-- ---- nets by name

place_of_name : (flat : Flat) (n : ℕ) (name : Token) → number_of (net_list flat) name ≡ Some n → place flat (At [] name) ≡ Some n
place_of_name flat n name found = sym (place_named 0 flat.paths name) ∙ found

pub named_number : (flat : Flat) (n : ℕ) (name : Token) → number_of (net_list flat) name ≡ Some n → number flat (At [] name) ≡ n
named_number flat n name found = ap (λ (o : Option ℕ). unwrap_or o 0) (place_of_name flat n name found)

pub named_bit : (whole alone : Flat) (i n : ℕ) (made : List Token) (bits part : List Bool) (name : Token) → IsPart whole alone i made bits part → number_of (net_list alone) name ≡ Some n → bit_of part n ≡ bit_of bits (number whole (path_in (inner top i made) name))
named_bit whole alone i n made bits part name is found =
    ap (bit_of part) (sym (named_number alone n name found)) ∙ is.same (At [] name) (ap is_some (place_of_name alone n name found))

pub connected_net : (i : ℕ) (own : Path) (formal actual : Token) (cs : List Token) → first_found (actual_at formal) cs ≡ Some actual → path_among (map (connected top) cs) own formal ≡ At [] actual
connected_net i own formal actual [] found = absurd (cc)
connected_net i own formal actual (c ∷ cs) found = by (connected_net i own formal actual cs) (bytes_eq (formal_of c) formal) found
  where
    by : (first_found (actual_at formal) cs ≡ Some actual → path_among (map (connected top) cs) own formal ≡ At [] actual) → (b : Bool) → or_else (cond b (Some (actual_of c)) None) (first_found (actual_at formal) cs) ≡ Some actual → cond b (At [] (actual_of c)) (path_among (map (connected top) cs) own formal) ≡ At [] actual
    by later true e = let same : actual_of c ≡ actual = cc in ap (At []) same
    by later false e = later e
