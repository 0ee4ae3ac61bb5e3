-- Declared names that make no nets of one name, and the indexes that are listed for them.
use Rattle.std.proofs.Common.{◌≡◌, ◌∙◌, ap, sym, refl, subst, ℕ, Bool, true, false, List, Option, None, Some}
use Rattle.std.specs.Prelude.{if◌then◌else◌}
use Rattle.std.specs.Option.{option_map}
use Rattle.std.specs.Str.{bytes_eq}
use Rattle.std.specs.Cmp.Lexicographic.{bytes_decides}
use Rattle.lists.specs.Lists.{Has}
use Rattle.net_verilog.specs.Declarations.{Declarations, IsNetOf, Range, bit_name, declared_as, put, range_of}
use Rattle.net_verilog.specs.declared.declared.Declared.{Declared}
use Rattle.net_verilog.proofs.TableLemmas.{put_at}
use Rattle.verilog_reader.specs.Declares.{Meets}
use Rattle.verilog_reader.specs.private.Listed.{AreApart, AreListed, IsKept, IsListed, Lists, list_at}

module _ (name : List ℕ) (d : Declared) (declared : Declarations) where
  -- the range of a name after a declaration
  range_put : (q : List ℕ) → range_of (put name d declared) q ≡ option_map (λ (x : Declared). x.range) (if bytes_eq q name then Some d else declared_as declared q)
  range_put q = ap (option_map (λ (x : Declared). x.range)) (put_at name q d declared)

  range_there : range_of (put name d declared) name ≡ Some d.range
  range_there = by (bytes_eq name name) refl (range_put name)
    where
      by : (b : Bool) → bytes_eq name name ≡ b → range_of (put name d declared) name ≡ option_map (λ (x : Declared). x.range) (if b then Some d else declared_as declared name) → range_of (put name d declared) name ≡ Some d.range
      by true is same = same
      by false is same =
          let bad : true ≡ false = sym ((bytes_decides name name).1 refl) ∙ is in
          absurd (cc)

  range_elsewhere : (q : List ℕ) → (q ≡ name → ⊥) → range_of (put name d declared) q ≡ range_of declared q
  range_elsewhere q apart = by (bytes_eq q name) refl (range_put q)
    where
      by : (b : Bool) → bytes_eq q name ≡ b → range_of (put name d declared) q ≡ option_map (λ (x : Declared). x.range) (if b then Some d else declared_as declared q) → range_of (put name d declared) q ≡ range_of declared q
      by true is same = absurd (apart ((bytes_decides q name).0 is))
      by false is same = same

  -- the name that is declared meets no other one
  here_apart : (Meets declared d.range name → ⊥) → (range : Range) → d.range ≡ range → Meets (put name d declared) range name → ⊥
  here_apart none range is (other, there, net, at, apart, theirs, ours) =
      let P : Range → Type 0 = λ r. IsNetOf name r net in
      none (other, there, net, sym (range_elsewhere other apart) ∙ at, apart, theirs, subst P (sym is) ours)

  -- another one meets neither it nor a third
  there_apart : (Meets declared d.range name → ⊥) → AreApart declared → (q : List ℕ) (range : Range) → (q ≡ name → ⊥) → range_of declared q ≡ Some range → Meets (put name d declared) range q → ⊥
  there_apart none others q range away is (other, there, net, at, apart, theirs, ours) = by (bytes_eq other name) refl
    where
      by : (b : Bool) → bytes_eq other name ≡ b → ⊥
      by true same =
          let P : Range → Type 0 = λ r. IsNetOf name r net in
          let Q : List ℕ → Type 0 = λ p. IsNetOf p there net in
          let e : other ≡ name = (bytes_decides other name).0 same in
          let ranges : ◌≡◌ {A = Option Range} (Some there) (Some d.range) = sym at ∙ ap (range_of (put name d declared)) e ∙ range_there in
          let one : there ≡ d.range = cc in
          none (q, range, net, is, away, ours, subst P one (subst Q e theirs))
      by false differs =
          let differ : other ≡ name → ⊥ = λ e. (let bad : true ≡ false = sym ((bytes_decides other name).1 e) ∙ differs in absurd (cc)) in
          others q range is (other, there, net, sym (range_elsewhere other differ) ∙ at, apart, theirs, ours)

  pub apart_put : (Meets declared d.range name → ⊥) → AreApart declared → AreApart (put name d declared)
  apart_put none others q range is = by (bytes_eq q name) refl
    where
      by : (b : Bool) → bytes_eq q name ≡ b → Meets (put name d declared) range q → ⊥
      by true same =
          let e : q ≡ name = (bytes_decides q name).0 same in
          let ranges : ◌≡◌ {A = Option Range} (Some d.range) (Some range) = sym range_there ∙ ap (range_of (put name d declared)) (sym e) ∙ is in
          let one : d.range ≡ range = cc in
          let P : List ℕ → Type 0 = λ p. Meets (put name d declared) range p → ⊥ in
          subst P (sym e) (here_apart none range one)
      by false differs =
          let differ : q ≡ name → ⊥ = λ e. (let bad : true ≡ false = sym ((bytes_decides q name).1 e) ∙ differs in absurd (cc)) in
          there_apart none others q range differ (sym (range_elsewhere q differ) ∙ is)

  pub listed_put : (before after : Lists) → IsKept before after → (d.range ≡ None → IsListed after name) → AreListed declared before → AreListed (put name d declared) after
  listed_put before after kept listed all q i few is = by (bytes_eq (bit_name q i) name) refl
    where
      by : (b : Bool) → bytes_eq (bit_name q i) name ≡ b → Has (list_at after q) i
      by true same =
          let e : bit_name q i ≡ name = (bytes_decides (bit_name q i) name).0 same in
          let ranges : ◌≡◌ {A = Option Range} (Some d.range) (Some None) = sym range_there ∙ ap (range_of (put name d declared)) (sym e) ∙ is in
          let one : d.range ≡ None = cc in
          listed one q i few (sym e)
      by false differs =
          let differ : bit_name q i ≡ name → ⊥ = λ e. (let bad : true ≡ false = sym ((bytes_decides (bit_name q i) name).1 e) ∙ differs in absurd (cc)) in
          kept q i (all q i few (sym (range_elsewhere (bit_name q i) differ) ∙ is))
