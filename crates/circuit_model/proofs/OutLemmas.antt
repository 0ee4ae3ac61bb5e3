-- A job has one output at each input, whatever bits the inputs have that are in no word and not fed.
use Rattle.std.proofs.Common.{◌≡◌, ◌∙◌, sym, refl, subst, inl, inr, ℕ, ◌<◌, ◌^◌, ◌↔◌, Bool, List, [], ◌∷◌, ◌++◌, length, Some, arith}
use Rattle.std.specs.Prelude.{slice_get}
use Rattle.lists.specs.laws.ReadLaws.{get_below}
use Rattle.net_core.specs.Value.{index_of}
use Rattle.net_core.proofs.EvalLemmas.{index_agree}
use Rattle.net_words.specs.Reach.{Draws, Reaches}
use Rattle.irreducible.specs.Span.{combination}
use Rattle.irreducible.specs.laws.SpanLaws.{combination_below}
use Rattle.gf_field.specs.Element.{AreElements}
use Rattle.circuit_model.specs.Word.{HasElement}
use Rattle.circuit_model.specs.Circuit.{Circuit, IsInput}
use Rattle.circuit_model.specs.WellFormed.{IsWellFormed}
use Rattle.circuit_model.specs.Job.{IsJob}
use Rattle.circuit_model.specs.Run.{IsOpenRun}
use Rattle.circuit_model.specs.Out.{Ends, IsOut}
use Rattle.circuit_model.proofs.WordLemmas.{same_element, moved, index_small}
use Rattle.circuit_model.proofs.AgreeLemmas.{agree}
use Rattle.circuit_model.proofs.JobLemmas.{well_formed_is_job}
use Rattle.circuit_model.proofs.SomeRunLemmas.{some_run}
use Rattle.net_core.proofs.ExistLemmas.{chain_more}

inside : (basis : List ℕ) (k : ℕ) → AreElements k basis → (d : ℕ) → combination basis d < 2 ^ k
inside basis k below d = combination_below basis k d (λ i less. below i less)

pub job_some_out : (c : Circuit) (xs : List ℕ) → IsJob c → IsInput c xs → (e : ℕ) × IsOut c xs e × (e < 2 ^ c.k)
job_some_out c xs well input =
    let found = some_run c xs well input in
    let last = get_below found.0 c.cycles (omega (arith, found.1.open_run.long)) in
    let long : length c.output.basis ≡ length c.output.nets = well.output.basis.size ∙ sym well.output.nets in
    let short : index_of last.0 c.output.nets < 2 ^ length c.output.basis = rw long (index_small last.0 c.output.nets) in (
      combination c.output.basis (index_of last.0 c.output.nets),
      record { run = found.0; is_run = found.1; ends = record { last = last.0; at = last.1; element = record { long = long; sum = record { short = short; is = refl } } } },
      inside c.output.basis c.k well.output.basis.inside (index_of last.0 c.output.nets),
    )

module _ (c : Circuit) (xs : List ℕ) (well : IsJob c) where
  -- the nets that reach the output word
  Cone : ℕ → Type 0
  Cone n = Reaches c.net n c.output.nets

  drawn : (a b : ℕ) → Draws c.net a b → Cone a → Cone b
  unfolding Cone
  drawn a b draws (inl ends) = inr (a, [], ends, draws)
  drawn a b draws (inr found) = inr (found.0, found.1 ++ a ∷ [], found.2, chain_more (Draws c.net) found.0 found.1 a b found.3 draws)

  -- two open runs end with one element
  pub same_end : (run other : List (List Bool)) (e : ℕ) → IsOpenRun c xs run → IsOpenRun c xs other → Ends c run e → Ends c other e
  unfolding Cone
  same_end run other e r o ends =
      let last = get_below other c.cycles (omega (arith, o.long)) in
      let index : index_of last.0 c.output.nets ≡ index_of ends.last c.output.nets = index_agree last.0 ends.last c.output.nets (λ k n got.
      agree c well xs r.input Cone drawn run other r o (λ t u v at_u at_v m free in_cone. absurd (well.covered m free in_cone))
      c.cycles ends.last last.0 ends.at last.1 n (well.output_nets n (k, got)) (inl (k, got))) in
      record { last = last.0; at = last.1; element = moved ends.last last.0 c.output e (sym index) ends.element }

pub job_one_out : (c : Circuit) (xs : List ℕ) (e other : ℕ) → IsJob c → IsOut c xs e → IsOut c xs other → e ≡ other
job_one_out c xs e other well a b =
    let there = same_end c xs well b.run a.run other b.is_run.open_run a.is_run.open_run b.ends in
    let last : there.last ≡ a.ends.last = same a.run there.last a.ends.last there.at a.ends.at in
    let Q : List Bool → Type 0 = λ v. HasElement v c.output other in
    same_element a.ends.last c.output e other a.ends.element (subst Q last there.element)
  where
    same : (run : List (List Bool)) (u v : List Bool) → slice_get run c.cycles ≡ Some u → slice_get run c.cycles ≡ Some v → u ≡ v
    same run u v at_u at_v = cc

pub job_open_out : (c : Circuit) (xs : List ℕ) (run : List (List Bool)) (e : ℕ) → IsJob c → IsOpenRun c xs run → Ends c run e ↔ IsOut c xs e
job_open_out c xs run e well is = (
  (λ ends.
      let found = some_run c xs well is.input in
      record { run = found.0; is_run = found.1; ends = same_end c xs well run found.0 e is found.1.open_run ends }),
  λ out. same_end c xs well out.run run e out.is_run.open_run is out.ends,
)

-- the same of well-formed circuits, to which nothing is fed
pub some_out : (c : Circuit) (xs : List ℕ) → IsWellFormed c → IsInput c xs → (e : ℕ) × IsOut c xs e × (e < 2 ^ c.k)
some_out c xs well input = job_some_out c xs (well_formed_is_job c well) input

pub one_out : (c : Circuit) (xs : List ℕ) (e other : ℕ) → IsWellFormed c → IsOut c xs e → IsOut c xs other → e ≡ other
one_out c xs e other well a b = job_one_out c xs e other (well_formed_is_job c well) a b

pub open_out : (c : Circuit) (xs : List ℕ) (run : List (List Bool)) (e : ℕ) → IsWellFormed c → IsOpenRun c xs run → Ends c run e ↔ IsOut c xs e
open_out c xs run e well is = job_open_out c xs run e (well_formed_is_job c well) is
