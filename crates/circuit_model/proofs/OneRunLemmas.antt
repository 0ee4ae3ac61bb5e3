-- A circuit has one run at an input at most.
use Rattle.std.proofs.Common.{◌≡◌, ◌∙◌, sym, refl, ℕ, suc, Bool, List, [], ◌∷◌, length, Some, arith}
use Rattle.std.specs.Prelude.{slice_get}
use Rattle.net_core.proofs.EvalLemmas.{same_lists}
use Rattle.circuit_model.specs.Circuit.{Circuit}
use Rattle.circuit_model.specs.Job.{IsJob}
use Rattle.circuit_model.specs.Run.{IsRun}
use Rattle.circuit_model.proofs.AgreeLemmas.{agree}

same_runs : (us vs : List (List Bool)) → length us ≡ length vs → ((t : ℕ) (u v : List Bool) → slice_get us t ≡ Some u → slice_get vs t ≡ Some v → u ≡ v) → us ≡ vs
same_runs [] [] long same = refl
same_runs [] (v ∷ vs) long same = absurd (omega arith)
same_runs (u ∷ us) [] long same = absurd (omega arith)
same_runs (u ∷ us) (v ∷ vs) long same =
    let head : u ≡ v = same 0 u v refl refl in
    let tail : us ≡ vs = same_runs us vs (omega arith) (λ t p q. same (suc t) p q) in
    rw (head, tail) refl

pub one_run : (c : Circuit) (xs : List ℕ) (run other : List (List Bool)) → IsJob c → IsRun c xs run → IsRun c xs other → run ≡ other
one_run c xs run other well r o = same_runs run other (r.open_run.long ∙ sym o.open_run.long) (λ t u v at_u at_v. same_lists u v (long t u v at_u at_v) (λ n less.
    sym (agree c well xs r.open_run.input (λ m. Unit {0}) (λ a b draws any. tt) run other r.open_run o.open_run
    (λ s p q at_p at_q m free any. o.zeros s q at_q m free ∙ sym (r.zeros s p at_p m free))
    t u v at_u at_v n (omega (arith, (r.open_run.each t u at_u).consistent.long)) tt)))
  where
    long : (t : ℕ) (u v : List Bool) → slice_get run t ≡ Some u → slice_get other t ≡ Some v → length u ≡ length v
    long t u v at_u at_v = (r.open_run.each t u at_u).consistent.long ∙ sym (o.open_run.each t v at_v).consistent.long
