-- The sources of fed nets.
use Rattle.std.proofs.Common.{◌≡◌, ◌∙◌, ap, sym, refl, subst, ℕ, suc, ◌&&◌, Bool, true, false, List, [], ◌∷◌, Some, cond}
use Rattle.std.specs.Prelude.{slice_get, ◌==◌}
use Rattle.std.specs.Int.{bit_at}
use Rattle.std.proofs.lemmas.Bool.{eqb-true}
use Rattle.lists.specs.Lists.{Has}
use Rattle.lists.specs.laws.ReadLaws.{from_map}
use Rattle.gf_basis.specs.Basis.{AreBits}
use Rattle.circuit_model.specs.Word.{Word}
use Rattle.circuit_model.specs.declared.circuit_feed.CircuitFeed.{CircuitFeed}
use Rattle.circuit_model.specs.declared.circuit_feed.FeedSource.{FeedSource}
use Rattle.circuit_model.specs.declared.circuit_feed.FeedSource.TheVariants.{Constant, Bit}
use Rattle.circuit_model.specs.Feeds.{fed_nets, source_at}
use Rattle.circuit_model.specs.Circuit.{Circuit, IsInput, IsFed, IsInNoWord}
use Rattle.circuit_model.specs.Job.{IsJob, IsSource}
use Rattle.circuit_model.specs.Run.{HasSource}
use Rattle.circuit_model.proofs.SourceLemmas.{element_at}

-- a property of the constant 0 and of the feeds' sources holds of each source that is found
source_has : (P : FeedSource → Type 0) (fs : List CircuitFeed) (n t : ℕ) → P (Constant false) → ((f : CircuitFeed) → Has fs f → P f.source) → P (source_at fs n t)
source_has P [] n t none each = none
source_has P (f ∷ fs) n t none each = by (f.net == n && f.cycle == t) (source_has P fs n t none (λ g has. each g (suc has.0, has.1)))
  where
    by : (b : Bool) → P (source_at fs n t) → P (cond b f.source (source_at fs n t))
    by true rest = each f (0, refl)
    by false rest = rest

pub source_none : (fs : List CircuitFeed) (n t : ℕ) → (Has (fed_nets fs) n → ⊥) → source_at fs n t ≡ Constant false
source_none [] n t none = refl
source_none (f ∷ fs) n t none = by (f.net == n) refl (f.cycle == t) (source_none fs n t (λ has. none (suc has.0, has.1)))
  where
    by : (b : Bool) → (f.net == n) ≡ b → (d : Bool) → source_at fs n t ≡ Constant false → cond (b && d) f.source (source_at fs n t) ≡ Constant false
    by true same d rest = let is : f.net ≡ n = eqb-true f.net n same in absurd (none (0, ap Some is))
    by false same d rest = rest

pub source_fits : (c : Circuit) → IsJob c → (n t : ℕ) → IsSource c.k c.words (source_at c.feeds n t)
source_fits c well n t = source_has (IsSource c.k c.words) c.feeds n t tt (λ f has. (well.feeds f has).source)

module _ (c : Circuit) (well : IsJob c) (xs : List ℕ) (input : IsInput c xs) where
  -- the word of a source's bit, its element and the element's bits
  pub source_bits : (i place : ℕ) → IsSource c.k c.words (Bit i place) → (w : Word) × (x d : ℕ) × (slice_get c.words i ≡ Some w) × (slice_get xs i ≡ Some x) × AreBits w.basis x d
  source_bits i place is =
      let w = is.1 in
      let x = element_at c xs input i w.0 w.1 in
      let only = (well.words w.0 (i, w.1)).basis.sums x.0 (input.elements x.0 (i, x.1)) in
      (w.0, x.0, only.choice, w.1, x.1, only.chosen)

  one_source : (s : FeedSource) (a b : Bool) → IsSource c.k c.words s → HasSource c.words xs s a → HasSource c.words xs s b → a ≡ b
  one_source (Constant constant) a b is x y = x ∙ sym y
  one_source (Bit i place) a b is x y =
      let at = source_bits i place is in
      x at.0 at.1 at.2 at.3 at.4 at.5 ∙ sym (y at.0 at.1 at.2 at.3 at.4 at.5)

  -- the source of a net in a cycle has one bit
  pub same_source : (n t : ℕ) (a b : Bool) → HasSource c.words xs (source_at c.feeds n t) a → HasSource c.words xs (source_at c.feeds n t) b → a ≡ b
  same_source n t a b = one_source (source_at c.feeds n t) a b (source_fits c well n t)

  -- a bit for a source
  pub some_source : (s : FeedSource) → IsSource c.k c.words s → (b : Bool) × HasSource c.words xs s b
  some_source (Constant constant) is = (constant, refl)
  some_source (Bit i place) is =
      let at = source_bits i place is in
      (bit_at at.2 place == 1, λ w x d got value chosen. ap (λ e. bit_at e place == 1) (one at w x d got value chosen))
    where
      one : (at : (w : Word) × (x d : ℕ) × (slice_get c.words i ≡ Some w) × (slice_get xs i ≡ Some x) × AreBits w.basis x d) (w : Word) (x d : ℕ) → slice_get c.words i ≡ Some w → slice_get xs i ≡ Some x → AreBits w.basis x d → at.2 ≡ d
      one at w x d got value chosen =
          let same : at.0 ≡ w = let a = at.3 in cc in
          let equal : at.1 ≡ x = let a = at.4 in cc in
          let only = (well.words w (i, got)).basis.sums x (input.elements x (i, value)) in
          let P : Word → Type 0 = λ v. AreBits v.basis at.1 at.2 in
          let Q : ℕ → Type 0 = λ y. AreBits w.basis y at.2 in
          let moved : AreBits w.basis x at.2 = subst Q equal (subst P same at.5) in
          only.only at.2 moved ∙ sym (only.only d chosen)

pub source_of_fed : (c : Circuit) → IsJob c → (n : ℕ) → IsFed c n → Has c.net.inputs n × IsInNoWord c n
source_of_fed c well n fed =
    let found = from_map (λ (f : CircuitFeed). f.net) c.feeds fed.0 n fed.1 in
    let is = well.feeds found.0 (fed.0, found.1) in
    let P : ℕ → Type 0 = λ m. Has c.net.inputs m × IsInNoWord c m in
    subst P found.2 (is.input, is.unnamed)
