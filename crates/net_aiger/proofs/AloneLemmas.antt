-- A port whose name no other has need not be compared.
use Rattle.std.proofs.Common.{◌≡◌, ◌∙◌, ap, sym, refl, subst, ℕ, ◌<◌, ◌≤◌, ◌+◌, ◌^◌, ◌||◌, ◌⊎◌, Bool, true, false, cond, List, [], ◌∷◌, ◌++◌, length, get_or, drop, inl, inr, Result, Err, arith, length-drop}
use Rattle.std.specs.Prelude.{is_some}
use Rattle.std.specs.List.{list_any}
use Rattle.std.specs.Str.{bytes_eq}
use Rattle.std.proofs.lemmas.List.{at_drop_more}
use Rattle.std.proofs.lemmas.List.Folds.{list_any-append}
use Rattle.lists.specs.laws.TestLaws.{other_bytes}
use Rattle.net_aiger.specs.Checks.{apart, own}
use Rattle.net_aiger.specs.Reading.{Name, Reading, port_name}
use Rattle.net_aiger.specs.declared.fault.AigerFault.{AigerFault}
use Rattle.net_aiger.specs.declared.fault.AigerFault.TheVariants.{NameTwice, OutOfMemory}
use Rattle.net_aiger.specs.private.Shared.{HasNoneAlone, IsAlone}

-- ---- names among which later ports find the same

abbrev AreAlike : Reading → ℕ → List Name → List Name → Type 0
AreAlike reading port fewer more = (later : ℕ) → port ≤ later → later < 2 ^ 64 → list_any (bytes_eq (port_name reading later)) fewer ≡ list_any (bytes_eq (port_name reading later)) more

alike_more : (reading : Reading) (port : ℕ) (fewer more : List Name) (name : Name) → AreAlike reading port fewer more → AreAlike reading (port + 1) (fewer ++ name ∷ []) (more ++ name ∷ [])
alike_more reading port fewer more name alike later past small =
    list_any-append (bytes_eq (port_name reading later)) fewer (name ∷ [])
    ∙ (ap (λ (b : Bool). b || list_any (bytes_eq (port_name reading later)) (name ∷ [])) (alike later (omega (arith, past)) small)
    ∙ sym (list_any-append (bytes_eq (port_name reading later)) more (name ∷ [])))

apart_alike : (reading : Reading) (port : ℕ) (fewer more : List Name) (ports : List ℕ) → port + length ports < 2 ^ 64 → AreAlike reading port fewer more → apart reading port fewer ports ≡ apart reading port more ports
apart_alike reading port fewer more [] few alike = refl
apart_alike reading port fewer more (literal ∷ ports) few alike =
    let same : list_any (bytes_eq (port_name reading port)) fewer ≡ list_any (bytes_eq (port_name reading port)) more = alike port (omega arith) (omega (arith, few)) in
    let passed : apart reading (port + 1) fewer ports ≡ apart reading (port + 1) more ports = apart_alike reading (port + 1) fewer more ports (omega (arith, few)) (λ later past small. alike later (omega (arith, past)) small) in
    let named : apart reading (port + 1) (fewer ++ port_name reading port ∷ []) ports ≡ apart reading (port + 1) (more ++ port_name reading port ∷ []) ports = apart_alike reading (port + 1) (fewer ++ port_name reading port ∷ []) (more ++ port_name reading port ∷ []) ports (omega (arith, few)) (alike_more reading port fewer more (port_name reading port) alike) in
    λ i. cond (is_some (own reading port literal)) (passed i) (cond (same i) (Err (NameTwice (port + 2))) (named i))

-- ---- a port that is passed over

pub skipped : (reading : Reading) (port literal : ℕ) (names : List Name) (ports : List ℕ) → port + length (literal ∷ ports) < 2 ^ 64 → IsAlone reading port → HasNoneAlone reading port names → apart reading port names (literal ∷ ports) ≡ apart reading (port + 1) names ports
skipped reading port literal names ports few alone none = by (is_some (own reading port literal)) (list_any (bytes_eq (port_name reading port)) names) (none port (omega arith) (omega (arith, few)) alone)
  where
    other : (later : ℕ) → port + 1 ≤ later → later < 2 ^ 64 → bytes_eq (port_name reading later) (port_name reading port) ≡ false
    other later past small = other_bytes (port_name reading later) (port_name reading port) (λ same. let equal = alone later small same in omega (arith, equal, past))

    alike : AreAlike reading (port + 1) (names ++ port_name reading port ∷ []) names
    alike later past small =
        list_any-append (bytes_eq (port_name reading later)) names (port_name reading port ∷ [])
        ∙ (ap (λ (b : Bool). list_any (bytes_eq (port_name reading later)) names || (b || false)) (other later past small)
        ∙ (elim (list_any (bytes_eq (port_name reading later)) names) as (λ b. (b || false) ≡ b) [ true ↦ refl | false ↦ refl ]))

    by : (a b : Bool) → b ≡ false → ◌≡◌ {A = Result (Unit {0}) AigerFault} (cond a (apart reading (port + 1) names ports) (cond b (Err (NameTwice (port + 2))) (apart reading (port + 1) (names ++ port_name reading port ∷ []) ports))) (apart reading (port + 1) names ports)
    by true b new = refl
    by false true new = absurd (cc)
    by false false new = apart_alike reading (port + 1) (names ++ port_name reading port ∷ []) names ports (omega (arith, few)) alike

-- ---- names that later ports find

pub later_alone : (reading : Reading) (port : ℕ) (names : List Name) → HasNoneAlone reading port names → HasNoneAlone reading (port + 1) names
later_alone reading port names none later past small alone = none later (omega (arith, past)) small alone

pub grown_alone : (reading : Reading) (port : ℕ) (old new : List Name) → port < 2 ^ 64 → HasNoneAlone reading port old → ((new ≡ old) ⊎ (new ≡ old ++ port_name reading port ∷ [])) → HasNoneAlone reading (port + 1) new
grown_alone reading port old new fits none (inl same) later past small alone =
    let P : List Name → Type 0 = λ names. list_any (bytes_eq (port_name reading later)) names ≡ false in
    subst P (sym same) (none later (omega (arith, past)) small alone)
grown_alone reading port old new fits none (inr more) later past small alone =
    let P : List Name → Type 0 = λ names. list_any (bytes_eq (port_name reading later)) names ≡ false in
    let other : bytes_eq (port_name reading later) (port_name reading port) ≡ false = other_bytes (port_name reading later) (port_name reading port) (λ same. let equal = alone port fits (sym same) in omega (arith, equal, past)) in
    subst P (sym more) (
    list_any-append (bytes_eq (port_name reading later)) old (port_name reading port ∷ [])
    ∙ (ap (λ (b : Bool). b || list_any (bytes_eq (port_name reading later)) (port_name reading port ∷ [])) (none later (omega (arith, past)) small alone)
    ∙ ap (λ (b : Bool). b || false) other)
    )

-- ---- a port of a list

pub passed_over : (reading : Reading) (port : ℕ) (names : List Name) (ports : List ℕ) → port < length ports → length ports < 2 ^ 63 → IsAlone reading port → HasNoneAlone reading port names → apart reading port names (drop port ports) ≡ apart reading (port + 1) names (drop (port + 1) ports)
passed_over reading port names ports within few alone none =
    at_drop_more (apart reading port names) ports port 0 within
    ∙ skipped reading port (get_or ports port 0) names (drop (port + 1) ports) (omega (arith, within, few, length-drop (port + 1) ports)) alone none

pub looked_at : (reading : Reading) (port : ℕ) (old new : List Name) (ports : List ℕ) → port < length ports → ((rest : List ℕ) → apart reading port old (get_or ports port 0 ∷ rest) ≡ apart reading (port + 1) new rest) → apart reading port old (drop port ports) ≡ apart reading (port + 1) new (drop (port + 1) ports)
looked_at reading port old new ports within made = at_drop_more (apart reading port old) ports port 0 within ∙ made (drop (port + 1) ports)

pub port_refused : (reading : Reading) (port : ℕ) (names : List Name) (ports : List ℕ) (e : AigerFault) → port < length ports → ((e ≡ OutOfMemory) ⊎ ((rest : List ℕ) → apart reading port names (get_or ports port 0 ∷ rest) ≡ Err e)) → (e ≡ OutOfMemory) ⊎ (apart reading port names (drop port ports) ≡ Err e)
port_refused reading port names ports e within (inl memory) = inl memory
port_refused reading port names ports e within (inr fault) = inr (at_drop_more (apart reading port names) ports port 0 within ∙ fault (drop (port + 1) ports))

pub later_refused : (one other : Result (Unit {0}) AigerFault) (e : AigerFault) → one ≡ other → ((e ≡ OutOfMemory) ⊎ (other ≡ Err e)) → (e ≡ OutOfMemory) ⊎ (one ≡ Err e)
later_refused one other e same (inl memory) = inl memory
later_refused one other e same (inr fault) = inr (same ∙ fault)
