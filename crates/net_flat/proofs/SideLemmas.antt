-- Two walks side by side: a model by itself, and the same model in an instance of the whole.
use Rattle.std.proofs.Common.{◌≡◌, ◌⊎◌, ◌∙◌, inl, inr, ap, sym, refl, subst, ℕ, zero, suc, List, [], ◌∷◌, map, Option, None, Some, Ok}
use Rattle.std.specs.Prelude.{unwrap_or, slice_get}
use Rattle.lists.specs.Lists.{Has}
use Rattle.lists.specs.laws.HasLaws.{Has_cases, Has_right}
use Rattle.net_core.specs.GateValue.{GateValue}
use Rattle.net_blif.specs.Statement.{Token}
use Rattle.net_flat.specs.Paths.{Path}
use Rattle.net_flat.specs.Steps.{Step, Mention, Input, Output, Gate, Latch, Enter}
use Rattle.net_flat.specs.Flat.{after_step, gate_on, nothing, number, place_from, walked, Flat}
use Rattle.net_flat.proofs.PathLemmas.{each_weaker, Each}
use Rattle.net_flat.proofs.TiedLemmas.{IsMentioned}
use Rattle.net_flat.specs.Part.{path_in_whole}
use Rattle.net_flat.proofs.LiftLemmas.{lifted}
use Rattle.net_flat.proofs.GrownLemmas.{HasGrown, after_first, enter_made, gate_made, grown_same, latch_made, mention_cases, mention_gates, mentioned_step, same_of, step_grown}
use Rattle.net_flat.proofs.NamedLemmas.{AreNamed}

-- ---- side by side

number_kept : (old new : Flat) → HasGrown old new → (path : Path) → IsMentioned old path → number old path ≡ number new path
number_kept old new grown path (k, at) = ap (λ (o : Option ℕ). unwrap_or o 0) at ∙ sym (ap (λ (o : Option ℕ). unwrap_or o 0) (grown.places path k at))

numbers_kept : (old new : Flat) → HasGrown old new → (paths : List Path) → Each (IsMentioned old) paths → map (number old) paths ≡ map (number new) paths
numbers_kept old new grown [] each = refl
numbers_kept old new grown (path ∷ paths) each = λ j. number_kept old new grown path each.0 j ∷ numbers_kept old new grown paths each.1 j

pub gate_kept : (old new : Flat) → HasGrown old new → (inputs : List Path) (out : Path) (table : ℕ) → Each (IsMentioned old) inputs → IsMentioned old out → gate_on old inputs out table ≡ gate_on new inputs out table
gate_kept old new grown inputs out table each is = λ j. record { out = number_kept old new grown out is j; inputs = numbers_kept old new grown inputs each j; table = table }

mentioned_kept : (old new : Flat) → HasGrown old new → (path : Path) → IsMentioned old path → IsMentioned new path
mentioned_kept old new grown path (k, at) = (k, grown.places path k at)

module _ (i : ℕ) (cs : List Token) where
  abbrev at : Path → Path
  at = path_in_whole i cs

  -- a gate of both
  pub record IsOfBoth (alone whole : Flat) (g : GateValue) : Type 0 where
    pub inputs : List Path
    pub out : Path
    pub table : ℕ
    pub is : g ≡ gate_on alone inputs out table
    pub inputs_are : Each (IsMentioned alone) inputs
    pub out_is : IsMentioned alone out
    pub there : Has whole.gates (gate_on whole (map (path_in_whole i cs) inputs) (path_in_whole i cs out) table)

  -- each net and each gate of the model by itself is one of the whole
  pub record AreBeside (alone whole : Flat) : Type 0 where
    pub nets : (path : Path) → IsMentioned alone path → IsMentioned whole (path_in_whole i cs path)
    pub gates : (g : GateValue) → Has alone.gates g → IsOfBoth alone whole g

  each_there : (alone whole : Flat) → ((path : Path) → IsMentioned alone path → IsMentioned whole (at path)) → (paths : List Path) → Each (IsMentioned alone) paths → Each (IsMentioned whole) (map at paths)
  each_there alone whole nets [] each = tt
  each_there alone whole nets (path ∷ paths) each = (nets path each.0, each_there alone whole nets paths each.1)

  both_kept : (alone whole more further : Flat) → HasGrown alone more → HasGrown whole further → ((path : Path) → IsMentioned alone path → IsMentioned whole (at path)) → (g : GateValue) → IsOfBoth alone whole g → IsOfBoth more further g
  both_kept alone whole more further grown also nets g both =
      let P : GateValue → Type 0 = Has further.gates in
      record {
        inputs = both.inputs;
        out = both.out;
        table = both.table;
        is = both.is ∙ gate_kept alone more grown both.inputs both.out both.table both.inputs_are both.out_is;
        inputs_are = each_weaker (IsMentioned alone) (IsMentioned more) both.inputs (mentioned_kept alone more grown) both.inputs_are;
        out_is = mentioned_kept alone more grown both.out both.out_is;
        there = subst P (gate_kept whole further also (map at both.inputs) (at both.out) both.table (each_there alone whole nets both.inputs both.inputs_are) (nets both.out both.out_is)) (also.gates (gate_on whole (map at both.inputs) (at both.out) both.table) both.there);
      }

  -- what has grown, where each new net and each new gate is one of both
  beside_grown : (alone whole more further : Flat) → AreBeside alone whole → HasGrown alone more → HasGrown whole further → ((path : Path) → IsMentioned more path → IsMentioned alone path ⊎ IsMentioned further (at path)) → ((g : GateValue) → Has more.gates g → Has alone.gates g ⊎ IsOfBoth more further g) → AreBeside more further
  beside_grown alone whole more further are grown also new made = record { nets = nets; gates = gates }
    where
      nets : (path : Path) → IsMentioned more path → IsMentioned further (at path)
      nets path is = elim (new path is) [ inl old ↦ mentioned_kept whole further also (at path) (are.nets path old) | inr it ↦ it ]

      gates : (g : GateValue) → Has more.gates g → IsOfBoth more further g
      gates g has = elim (made g has) [ inl old ↦ both_kept alone whole more further grown also are.nets g (are.gates g old) | inr it ↦ it ]

  module _ (alone whole : Flat) (are : AreBeside alone whole) where
    mention_beside : (more further : Flat) (path : Path) → after_step alone (Mention path) ≡ Ok more → after_step whole (Mention (at path)) ≡ Ok further → AreBeside more further
    mention_beside more further path one two =
        beside_grown alone whole more further are (step_grown alone more (Mention path) one) (step_grown whole further (Mention (at path)) two)
        (λ other is. elim (mention_cases alone more path other one is) [ inl old ↦ inl old | inr same ↦ (let P : Path → Type 0 = λ q. IsMentioned further (at q) in inr (subst P (sym same) (mentioned_step whole further (at path) two))) ])
        (λ g has. let P : List GateValue → Type 0 = λ gs. Has gs g in inl (subst P (mention_gates alone more path one) has))

    gate_beside : (more further : Flat) (inputs : List Path) (out : Path) (table : ℕ) → Each (IsMentioned alone) inputs → IsMentioned alone out → after_step alone (Gate inputs out table) ≡ Ok more → after_step whole (Gate (map at inputs) (at out) table) ≡ Ok further → AreBeside more further
    gate_beside more further inputs out table each is one two =
        beside_grown alone whole more further are grown also (λ path found. inl (old path found)) made
      where
        grown : HasGrown alone more
        grown = step_grown alone more (Gate inputs out table) one

        also : HasGrown whole further
        also = step_grown whole further (Gate (map at inputs) (at out) table) two

        old : (path : Path) → IsMentioned more path → IsMentioned alone path
        old path found = let P : Flat → Type 0 = λ f. IsMentioned f path in subst P (sym (gate_made alone more inputs out table one)) found

        placed : Has further.gates (gate_on whole (map at inputs) (at out) table)
        placed =
            let P : Flat → Type 0 = λ f. Has f.gates (gate_on whole (map at inputs) (at out) table) in
            subst P (gate_made whole further (map at inputs) (at out) table two) (Has_right whole.gates (gate_on whole (map at inputs) (at out) table ∷ []) (gate_on whole (map at inputs) (at out) table) (zero, refl))

        last : (g : GateValue) (k : ℕ) → slice_get (gate_on alone inputs out table ∷ []) k ≡ Some g → g ≡ gate_on alone inputs out table
        last g zero e = cc
        last g (suc k) e = absurd (cc)

        of_both : (g : GateValue) → g ≡ gate_on alone inputs out table → IsOfBoth more further g
        of_both g same =
            let P : GateValue → Type 0 = Has further.gates in
            record {
              inputs = inputs;
              out = out;
              table = table;
              is = same ∙ gate_kept alone more grown inputs out table each is;
              inputs_are = each_weaker (IsMentioned alone) (IsMentioned more) inputs (mentioned_kept alone more grown) each;
              out_is = mentioned_kept alone more grown out is;
              there = subst P (gate_kept whole further also (map at inputs) (at out) table (each_there alone whole are.nets inputs each) (are.nets out is)) placed;
            }

        made : (g : GateValue) → Has more.gates g → Has alone.gates g ⊎ IsOfBoth more further g
        made g has =
            let P : Flat → Type 0 = λ f. Has f.gates g in
            elim (Has_cases alone.gates (gate_on alone inputs out table ∷ []) g (subst P (sym (gate_made alone more inputs out table one)) has)) [ inl old ↦ inl old | inr new ↦ inr (of_both g (last g new.0 new.1)) ]

    -- a step that adds neither a net nor a gate
    plain_beside : (more further : Flat) → HasGrown alone more → HasGrown whole further → more.paths ≡ alone.paths → more.gates ≡ alone.gates → AreBeside more further
    plain_beside more further grown also paths gates =
        beside_grown alone whole more further are grown also
        (λ path is. let P : List Path → Type 0 = λ ps. (k : ℕ) × (place_from 0 ps path ≡ Some k) in inl (subst P paths is))
        (λ g has. let P : List GateValue → Type 0 = λ gs. Has gs g in inl (subst P gates has))

  abbrev Known : Flat → List Path → Type 0
  Known flat seen = (path : Path) → Has seen path → IsMentioned flat path

  known_each : (flat : Flat) (seen : List Path) → Known flat seen → (paths : List Path) → Each (Has seen) paths → Each (IsMentioned flat) paths
  known_each flat seen known paths each = each_weaker (Has seen) (IsMentioned flat) paths known each

  known_kept : (old new : Flat) (seen : List Path) → HasGrown old new → Known old seen → Known new seen
  known_kept old new seen grown known path has = mentioned_kept old new grown path (known path has)

  known_more : (old new : Flat) (seen : List Path) (path : Path) → HasGrown old new → Known old seen → IsMentioned new path → Known new (path ∷ seen)
  known_more old new seen path grown known is other (zero, e) = let same : path ≡ other = cc in let P : Path → Type 0 = IsMentioned new in subst P same is
  known_more old new seen path grown known is other (suc k, e) = mentioned_kept old new grown other (known other (k, e))

  -- the walk over a model by itself, and in the instance
  pub walks_beside : (steps : List (Step Path)) (seen : List Path) (alone whole last end : Flat) → AreNamed seen steps → Known alone seen → AreBeside alone whole → walked alone steps ≡ Ok last → walked whole (lifted i cs steps) ≡ Ok end → AreBeside last end
  walks_beside [] seen alone whole last end named known are one two =
      let first : alone ≡ last = cc in
      let second : whole ≡ end = cc in
      let P : Flat → Type 0 = λ f. AreBeside f end in
      let Q : Flat → Type 0 = λ f. AreBeside alone f in
      subst P first (subst Q second are)
  walks_beside (Mention path ∷ steps) seen alone whole last end named known are one two =
      let a = after_first alone last (Mention path) steps one in
      let w = after_first whole end (Mention (at path)) (lifted i cs steps) two in
      walks_beside steps (path ∷ seen) a.0 w.0 last end named (known_more alone a.0 seen path (step_grown alone a.0 (Mention path) a.1) known (mentioned_step alone a.0 path a.1)) (mention_beside alone whole are a.0 w.0 path a.1 w.1) a.2 w.2
  walks_beside (Input path ∷ steps) seen alone whole last end named known are one two =
      let a = after_first alone last (Input path) steps one in
      let grown = step_grown alone a.0 (Input path) a.1 in
      walks_beside steps seen a.0 whole last end named (known_kept alone a.0 seen grown known) (plain_beside alone whole are a.0 whole grown (grown_same whole) (same_of (λ f. f.paths) _ a.0 a.1) (same_of (λ f. f.gates) _ a.0 a.1)) a.2 two
  walks_beside (Output path ∷ steps) seen alone whole last end named known are one two =
      let a = after_first alone last (Output path) steps one in
      let grown = step_grown alone a.0 (Output path) a.1 in
      walks_beside steps seen a.0 whole last end named (known_kept alone a.0 seen grown known) (plain_beside alone whole are a.0 whole grown (grown_same whole) (same_of (λ f. f.paths) _ a.0 a.1) (same_of (λ f. f.gates) _ a.0 a.1)) a.2 two
  walks_beside (Gate inputs out table ∷ steps) seen alone whole last end named known are one two =
      let a = after_first alone last (Gate inputs out table) steps one in
      let w = after_first whole end (Gate (map at inputs) (at out) table) (lifted i cs steps) two in
      walks_beside steps seen a.0 w.0 last end named.2 (known_kept alone a.0 seen (step_grown alone a.0 (Gate inputs out table) a.1) known) (gate_beside alone whole are a.0 w.0 inputs out table (known_each alone seen known inputs named.0) (known out named.1) a.1 w.1) a.2 w.2
  walks_beside (Latch next out start ∷ steps) seen alone whole last end named known are one two =
      let a = after_first alone last (Latch next out start) steps one in
      let w = after_first whole end (Latch (at next) (at out) start) (lifted i cs steps) two in
      let grown = step_grown alone a.0 (Latch next out start) a.1 in
      walks_beside steps seen a.0 w.0 last end named (known_kept alone a.0 seen grown known) (plain_beside alone whole are a.0 w.0 grown (step_grown whole w.0 (Latch (at next) (at out) start) w.1) (ap (λ (f : Flat). f.paths) (sym (latch_made alone a.0 next out start a.1))) (ap (λ (f : Flat). f.gates) (sym (latch_made alone a.0 next out start a.1)))) a.2 w.2
  walks_beside (Enter ∷ steps) seen alone whole last end named known are one two =
      let a = after_first alone last Enter steps one in
      let w = after_first whole end Enter (lifted i cs steps) two in
      let grown = step_grown alone a.0 Enter a.1 in
      walks_beside steps seen a.0 w.0 last end named (known_kept alone a.0 seen grown known) (plain_beside alone whole are a.0 w.0 grown (step_grown whole w.0 Enter w.1) (ap (λ (f : Flat). f.paths) (sym (enter_made alone a.0 a.1))) (ap (λ (f : Flat). f.gates) (sym (enter_made alone a.0 a.1)))) a.2 w.2

  -- nothing is beside anything
  pub nothing_beside : (whole : Flat) → AreBeside nothing whole
  nothing_beside whole = record { nets = λ path is. absurd (none path is.0 is.1); gates = λ g has. absurd (no_gate g has.0 has.1) }
    where
      none : (path : Path) (k : ℕ) → ◌≡◌ {A = Option ℕ} None (Some k) → ⊥
      none path k e = cc

      no_gate : (g : GateValue) (k : ℕ) → slice_get [] k ≡ Some g → ⊥
      no_gate g k e = cc

  -- and what goes on
  pub later_beside : (alone whole end : Flat) → AreBeside alone whole → HasGrown whole end → AreBeside alone end
  later_beside alone whole end are grown = beside_grown alone whole alone end are (grown_same alone) grown (λ path is. inl is) (λ g has. inl has)
