-- Names that are new.
use Rattle.std.proofs.Common.{◌≡◌, ◌∙◌, ap, sym, refl, subst, ℕ, zero, suc, ◌<◌, ◌≤◌, ◌+◌, ◌-◌, ◌||◌, Bool, true, false, cond, List, [], ◌∷◌, ◌++◌, length, get_or, drop, None, Some, Result, Ok, Err, arith, drop-cons, add-one}
use Rattle.std.specs.Prelude.{nat_le, nat_lt}
use Rattle.std.specs.Fmt.{decimal}
use Rattle.std.specs.List.{list_any}
use Rattle.std.specs.Str.{bytes_eq}
use Rattle.std.proofs.lemmas.Bool.{leb-true, lt-ltb, le-ltb, ltb-true, ltb-false}
use Rattle.std.proofs.lemmas.List.Folds.{list_any-append}
use Rattle.lists.specs.laws.BoolLaws.{first_true}
use Rattle.net_core.specs.NetList.{LabelValue, NetList, empty, number_from, number_of, with_label}
use Rattle.net_core.specs.declared.fault.NetFault.{NetFault}
use Rattle.net_core.proofs.NameLemmas.{number_not}
use Rattle.net_aiger.specs.Checks.{apart, own}
use Rattle.net_aiger.specs.private.Run.{is_complete}
use Rattle.net_aiger.specs.Nets.{labelled, variable_made}
use Rattle.net_aiger.specs.Reading.{Name, Reading, driven, port_name, ports_of}
use Rattle.net_aiger.specs.Steps.{◌>>=◌}
use Rattle.net_aiger.specs.declared.fault.AigerFault.{AigerFault}
use Rattle.net_aiger.specs.declared.fault.AigerFault.TheVariants.{NameTwice}
use Rattle.net_aiger.specs.private.Making.{Awaits, AwaitsPort, HasOnly}
use Rattle.net_aiger.proofs.PortOrder.{next_port}
use Rattle.net_aiger.proofs.MakeLemmas.{labelled_is}

not_first : (a b : Bool) → (a || b) ≡ false → a ≡ false
not_first true b e = absurd (cc)
not_first false b e = refl

not_second : (a b : Bool) → (a || b) ≡ false → b ≡ false
not_second true b e = absurd (cc)
not_second false b e = e

-- ---- names of nets

only_named : (before : List Name) (net : NetList) (name : Name) → HasOnly before net → HasOnly (before ++ name ∷ []) (with_label net name true)
only_named before net name only = λ q none.
    let parts : (list_any (bytes_eq q) before || list_any (bytes_eq q) (name ∷ [])) ≡ false = sym (list_any-append (bytes_eq q) before (name ∷ [])) ∙ none in
    let here : bytes_eq q name ≡ false = not_first (bytes_eq q name) false (not_second (list_any (bytes_eq q) before) _ parts) in
    number_not 0 net.labels (record { text = name; named = true }) q here ∙ only q (not_first _ _ parts)

pub only_fresh : (before : List Name) (net : NetList) (text : Name) → HasOnly before net → HasOnly before (with_label net text false)
only_fresh before net text only = λ q none. number_not 0 net.labels (record { text = text; named = false }) q refl ∙ only q none

only_longer : (before : List Name) (net : NetList) (name : Name) → HasOnly before net → HasOnly (before ++ name ∷ []) net
only_longer before net name only = λ q none. only q (not_first _ _ (sym (list_any-append (bytes_eq q) before (name ∷ [])) ∙ none))

pub only_same : (before : List Name) (net more : NetList) → more.labels ≡ net.labels → HasOnly before net → HasOnly before more
only_same before net more same only = λ q none. ap (λ (labels : List LabelValue). number_from 0 labels q) same ∙ only q none

-- ---- ports whose names are apart

module _ (reading : Reading) (port literal : ℕ) (rest : List ℕ) (before : List Name) (is : apart reading port before (literal ∷ rest) ≡ Ok tt) where
  apart_own : (n : ℕ) → own reading port literal ≡ Some n → apart reading (port + 1) before rest ≡ Ok tt
  apart_own n own_is = rw own_is at is

  apart_step : own reading port literal ≡ None → (list_any (bytes_eq (port_name reading port)) before ≡ false) × (apart reading (port + 1) (before ++ port_name reading port ∷ []) rest ≡ Ok tt)
  apart_step own_is = by (list_any (bytes_eq (port_name reading port)) before) refl (rw own_is at is)
    where
      by : (b : Bool) → list_any (bytes_eq (port_name reading port)) before ≡ b → ◌≡◌ {A = Result (Unit {0}) AigerFault} (cond b (Err (NameTwice (port + 2))) (apart reading (port + 1) (before ++ port_name reading port ∷ []) rest)) (Ok tt) → (list_any (bytes_eq (port_name reading port)) before ≡ false) × (apart reading (port + 1) (before ++ port_name reading port ∷ []) rest ≡ Ok tt)
      by true e f = absurd (cc)
      by false e f = (e, f)

module _ (reading : Reading) (port literal : ℕ) (rest : List ℕ) (net : NetList) (awaits : Awaits reading port (literal ∷ rest) net) where
  -- a port that is no other one has a new name
  pub name_is_new : own reading port literal ≡ None → number_of net (port_name reading port) ≡ None
  name_is_new own_is = awaits.only (port_name reading port) (apart_step reading port literal rest awaits.before awaits.apart_from own_is).0

  -- its net was made
  pub awaits_named : (more : NetList) → own reading port literal ≡ None → more.labels ≡ net.labels ++ record { text = port_name reading port; named = true } ∷ [] → Awaits reading (port + 1) rest more
  awaits_named more own_is made =
      record {
        before = awaits.before ++ port_name reading port ∷ [];
        apart_from = (apart_step reading port literal rest awaits.before awaits.apart_from own_is).1;
        only = only_same (awaits.before ++ port_name reading port ∷ []) (with_label net (port_name reading port) true) more made (only_named awaits.before net (port_name reading port) awaits.only);
      }

  -- it is passed over
  awaits_passed : own reading port literal ≡ None → Awaits reading (port + 1) rest net
  awaits_passed own_is =
      record {
        before = awaits.before ++ port_name reading port ∷ [];
        apart_from = (apart_step reading port literal rest awaits.before awaits.apart_from own_is).1;
        only = only_longer awaits.before net (port_name reading port) awaits.only;
      }

  -- it is an input or a latch
  pub awaits_own : (n : ℕ) (more : NetList) → own reading port literal ≡ Some n → more.labels ≡ net.labels → Awaits reading (port + 1) rest more
  awaits_own n more own_is same =
      record {
        before = awaits.before;
        apart_from = apart_own reading port literal rest awaits.before awaits.apart_from n own_is;
        only = only_same awaits.before net more same awaits.only;
      }

-- ---- inputs and latches

none_own : (reading : Reading) (port literal : ℕ) → port < driven reading.header → own reading port literal ≡ None
none_own reading port literal less = rw (lt-ltb port (driven reading.header) less) refl

-- where all lines were read, there are all ports
pub ports_long : (reading : Reading) → is_complete reading ≡ true → ports_of reading.header ≤ length reading.ports
ports_long reading complete = leb-true (ports_of reading.header) (length reading.ports) (first_true (nat_le (ports_of reading.header) (length reading.ports)) _ complete)

port_rest : (reading : Reading) (port : ℕ) → port < length reading.ports → drop port reading.ports ≡ get_or reading.ports port 0 ∷ drop (port + 1) reading.ports
port_rest reading port less = rw add-one (drop-cons reading.ports port 0 less)

module _ (reading : Reading) (complete : is_complete reading ≡ true) (net : NetList) where
  port_awaits : (port : ℕ) → port < driven reading.header → AwaitsPort reading port net → Awaits reading port (get_or reading.ports port 0 ∷ drop (port + 1) reading.ports) net
  port_awaits port less awaits =
      let long = ports_long reading complete in
      let P : List ℕ → Type 0 = λ xs. Awaits reading port xs net in
      subst P (port_rest reading port (omega (arith, less, long))) awaits

  pub port_is_new : (n : ℕ) → AwaitsPort reading (next_port reading n) net → n < driven reading.header → number_of net (port_name reading n) ≡ None
  port_is_new n awaits less =
      let here : AwaitsPort reading n net = rw (lt-ltb n (driven reading.header) less) at awaits in
      name_is_new reading n (get_or reading.ports n 0) (drop (n + 1) reading.ports) net (port_awaits n less here) (none_own reading n (get_or reading.ports n 0) less)

  all_awaited : (gap port : ℕ) → port + gap ≡ driven reading.header → AwaitsPort reading port net → AwaitsPort reading (driven reading.header) net
  all_awaited zero port is awaits = let same : port ≡ driven reading.header = omega (arith, is) in let P : ℕ → Type 0 = λ p. AwaitsPort reading p net in subst P same awaits
  all_awaited (suc gap) port is awaits =
      let less : port < driven reading.header = omega (arith, is) in
      all_awaited gap (port + 1) (omega (arith, is)) (awaits_passed reading port (get_or reading.ports port 0) (drop (port + 1) reading.ports) net (port_awaits port less awaits) (none_own reading port (get_or reading.ports port 0) less))

  -- all nets of variables were made, of which there may be fewer than inputs and latches
  pub outputs_awaited : (n : ℕ) → AwaitsPort reading (next_port reading n) net → AwaitsPort reading (driven reading.header) net
  outputs_awaited n awaits = by (nat_lt n (driven reading.header)) refl awaits
    where
      by : (b : Bool) → nat_lt n (driven reading.header) ≡ b → AwaitsPort reading (cond b n (driven reading.header)) net → AwaitsPort reading (driven reading.header) net
      by true e here = let less = ltb-true n (driven reading.header) e in all_awaited (driven reading.header - n) n (omega (arith, less)) here
      by false e here = here

  -- the labels of one more net of a variable
  variable_labels : (n literal : ℕ) (more : NetList) → variable_made reading n literal net ≡ Ok more → more.labels ≡ cond (nat_lt n (driven reading.header)) (net.labels ++ record { text = port_name reading n; named = true } ∷ []) (net.labels ++ record { text = decimal literal; named = false } ∷ [])
  variable_labels n literal more made = by (nat_lt n reading.header.inputs) refl (nat_lt n (driven reading.header)) refl made
    where
      input : (r : Result NetList NetFault) → labelled (port_name reading n) true net ≡ r → (r >>= (λ m. Ok (record m { inputs = m.inputs ++ n ∷ [] }))) ≡ Ok more → more.labels ≡ net.labels ++ record { text = port_name reading n; named = true } ∷ []
      input (Ok m) e f = let same : record m { inputs = m.inputs ++ n ∷ [] } ≡ more = cc in ap (λ (x : NetList). x.labels) (sym same) ∙ ap (λ (x : NetList). x.labels) (labelled_is (port_name reading n) true net m e)
      input (Err fault) e f = absurd (cc)

      by : (a : Bool) → nat_lt n reading.header.inputs ≡ a → (b : Bool) → nat_lt n (driven reading.header) ≡ b
          → cond a (labelled (port_name reading n) true net >>= (λ m. Ok (record m { inputs = m.inputs ++ n ∷ [] }))) (cond b (labelled (port_name reading n) true net) (labelled (decimal literal) false net)) ≡ Ok more
          → more.labels ≡ cond b (net.labels ++ record { text = port_name reading n; named = true } ∷ []) (net.labels ++ record { text = decimal literal; named = false } ∷ [])
      by true e true f is = input (labelled (port_name reading n) true net) refl is
      by true e false f is = let less = ltb-true n reading.header.inputs e in let more_than = ltb-false n (driven reading.header) f in absurd (omega (arith, less, more_than))
      by false e true f is = ap (λ (x : NetList). x.labels) (labelled_is (port_name reading n) true net more is)
      by false e false f is = ap (λ (x : NetList). x.labels) (labelled_is (decimal literal) false net more is)

  -- one more net of a variable was made
  pub awaits_variable : (n literal : ℕ) (more : NetList) → variable_made reading n literal net ≡ Ok more → AwaitsPort reading (next_port reading n) net → AwaitsPort reading (next_port reading (n + 1)) more
  awaits_variable n literal more made awaits = by (nat_lt n (driven reading.header)) refl (variable_labels n literal more made) awaits
    where
      P : ℕ → Type 0
      P p = AwaitsPort reading p more

      by : (b : Bool) → nat_lt n (driven reading.header) ≡ b → more.labels ≡ cond b (net.labels ++ record { text = port_name reading n; named = true } ∷ []) (net.labels ++ record { text = decimal literal; named = false } ∷ [])
          → AwaitsPort reading (cond b n (driven reading.header)) net → AwaitsPort reading (next_port reading (n + 1)) more
      by true e labels here =
          let less = ltb-true n (driven reading.header) e in
          let next : AwaitsPort reading (n + 1) more = awaits_named reading n (get_or reading.ports n 0) (drop (n + 1) reading.ports) net (port_awaits n less here) more (none_own reading n (get_or reading.ports n 0) less) labels in
          at_next (nat_lt (n + 1) (driven reading.header)) refl next
        where
          at_next : (b : Bool) → nat_lt (n + 1) (driven reading.header) ≡ b → P (n + 1) → P (cond b (n + 1) (driven reading.header))
          at_next true f next = next
          at_next false f next = let past = ltb-false (n + 1) (driven reading.header) f in let less = ltb-true n (driven reading.header) e in let same : n + 1 ≡ driven reading.header = omega (arith, past, less) in subst P same next
      by false e labels here =
          let past = ltb-false n (driven reading.header) e in
          let same : more.labels ≡ (with_label net (decimal literal) false).labels = labels in
          rw (le-ltb (n + 1) (driven reading.header) (omega (arith, past)))
          (record { before = here.before; apart_from = here.apart_from; only = only_same here.before (with_label net (decimal literal) false) more same (only_fresh here.before net (decimal literal) here.only) })

-- nothing was made
pub awaits_start : (reading : Reading) → apart reading 0 [] reading.ports ≡ Ok tt → AwaitsPort reading (next_port reading 0) empty
awaits_start reading is = by (nat_lt 0 (driven reading.header)) refl
  where
    start : AwaitsPort reading 0 empty
    start = record { before = []; apart_from = is; only = λ q none. refl }

    by : (b : Bool) → nat_lt 0 (driven reading.header) ≡ b → AwaitsPort reading (cond b 0 (driven reading.header)) empty
    by true e = start
    by false e = let past = ltb-false 0 (driven reading.header) e in let same : 0 ≡ driven reading.header = omega (arith, past) in let P : ℕ → Type 0 = λ p. AwaitsPort reading p empty in subst P same start
