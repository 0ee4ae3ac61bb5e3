-- One step of a job after another.
use Rattle.std.proofs.Common.{inl, inr, Result, Ok, Err}
use Rattle.outcome.specs.Outcome.{Outcome, ◌>>=◌}
use Rattle.job_words.specs.Stop.{GivesBy}
use Rattle.job_words.specs.declared.fault.Fault.{Fault}
use Rattle.job_words.specs.declared.stop.Stop.{Stop}
use Rattle.job_words.specs.declared.stop.Stop.TheVariants.{Refused, Outside, OutOfMemory}

-- what comes of the second step, after a value of the first, comes of both
pub after : {X A B : Type 0} (view : X → B) (result : Result X Stop) (first : Outcome Fault A) (second : A → Outcome Fault B) (a : A) (missed failed missed' failed' : Type 0) → first (Ok a) → (missed' → missed) → (failed' → failed) → GivesBy view result (second a) missed' failed' → GivesBy view result (first >>= second) missed failed
after view (Ok x) first second a missed failed missed' failed' one miss fail gives = (a, one, gives)
after view (Err (Refused fault)) first second a missed failed missed' failed' one miss fail gives = (inr (a, one, gives.0), λ is. miss (gives.1 is))
after view (Err Outside) first second a missed failed missed' failed' one miss fail gives = fail gives
after view (Err OutOfMemory) first second a missed failed missed' failed' one miss fail gives = tt

-- where the first step stops, both do
pub stops : {X Y A B : Type 0} (view : X → A) (view' : Y → B) (stop : Stop) (first : Outcome Fault A) (second : A → Outcome Fault B) (missed failed missed' failed' : Type 0) → (missed' → missed) → (failed' → failed) → GivesBy view (Err stop) first missed' failed' → GivesBy view' (Err stop) (first >>= second) missed failed
stops view view' (Refused fault) first second missed failed missed' failed' miss fail gives = (inl gives.0, λ is. miss (gives.1 is))
stops view view' Outside first second missed failed missed' failed' miss fail gives = fail gives
stops view view' OutOfMemory first second missed failed missed' failed' miss fail gives = tt

-- a stop of one step is one of another, where a fault of the step is one of the other
pub gives_fault : {X Y A B : Type 0} (view : X → A) (view' : Y → B) (stop : Stop) (step : Outcome Fault A) (whole : Outcome Fault B) → ((fault : Fault) → step (Err fault) → whole (Err fault)) → GivesBy view (Err stop) step ⊥ ⊥ → GivesBy view' (Err stop) whole ⊥ ⊥
gives_fault view view' (Refused fault) step whole through gives = (through fault gives.0, gives.1)
gives_fault view view' Outside step whole through gives = gives
gives_fault view view' OutOfMemory step whole through gives = tt
