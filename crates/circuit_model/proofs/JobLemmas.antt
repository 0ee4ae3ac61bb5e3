-- A well-formed circuit is a job to which nothing is fed, and whose words all stand on nets.
use Rattle.std.proofs.Common.{◌≡◌, ◌≢◌, ◌∙◌, sym, refl, subst, ℕ, ◌↔◌, Bool, List, [], arith}
use Rattle.lists.specs.Lists.{Has}
use Rattle.lists.specs.laws.HasLaws.{none_at as none_of}
use Rattle.lists.specs.laws.ReadLaws.{get_below}
use Rattle.net_words.specs.BoundTo.{StandsOn}
use Rattle.net_words.specs.declared.word.Role.{Role}
use Rattle.net_words.specs.declared.word.Role.TheVariants.{Input, State, Fed, Output}
use Rattle.circuit_model.specs.declared.circuit_feed.CircuitFeed.{CircuitFeed}
use Rattle.circuit_model.specs.Feeds.{fed_nets}
use Rattle.circuit_model.specs.Word.{Word, HasElement}
use Rattle.circuit_model.specs.Circuit.{Circuit}
use Rattle.circuit_model.specs.WellFormed.{IsWellFormed}
use Rattle.circuit_model.specs.Job.{IsJob, net_count}
use Rattle.circuit_model.specs.Run.{HaveElements, IsAnyWord, IsClockCycle, IsFirst}

-- a word that is not fed has a net for each bit
counted : (k : ℕ) (r : Role) → r ≢ Fed → net_count k r ≡ k
counted k Input other = refl
counted k State other = refl
counted k Fed other = absurd (other refl)
counted k Output other = refl

pub no_fed_word : (c : Circuit) → IsWellFormed c → (w : Word) → Has c.words w → w.role ≢ Fed
no_fed_word c well w has is =
    let n = get_below w.nets 0 (omega (arith, (well.words w has).nets, well.ring.some)) in
    let P : Role → Type 0 = λ r. StandsOn c.net r n.0 in
    let stands : StandsOn c.net Fed n.0 = subst P is (well.places w n.0 has (0, n.1)) in
    stands

pub well_formed_is_job : (c : Circuit) → IsWellFormed c → IsJob c
well_formed_is_job c well = record {
  ring = well.ring;
  no_zero_divisors = well.no_zero_divisors;
  sound = well.sound;
  few = well.few;
  words = λ w has. record { nets = (well.words w has).nets ∙ sym (counted c.k w.role (no_fed_word c well w has)); basis = (well.words w has).basis };
  inner = well.inner;
  once = well.once;
  places = well.places;
  output = well.output;
  output_role = well.output_role;
  output_nets = well.output_nets;
  feeds = λ feed has. let P : List CircuitFeed → Type 0 = λ fs. Has fs feed in absurd (none_of feed (subst P well.unfed has));
  starts = well.starts;
  covered = λ n free. well.covered n free.input free.unnamed;
}

well_of : (c : Circuit) → IsJob c → c.feeds ≡ [] → ((w : Word) → Has c.words w → w.role ≢ Fed) → IsWellFormed c
well_of c job unfed standing = record {
  ring = job.ring;
  no_zero_divisors = job.no_zero_divisors;
  sound = job.sound;
  unfed = unfed;
  few = job.few;
  words = λ w has. record { nets = (job.words w has).nets ∙ counted c.k w.role (standing w has); basis = (job.words w has).basis };
  inner = job.inner;
  once = job.once;
  places = job.places;
  output = job.output;
  output_role = job.output_role;
  output_nets = job.output_nets;
  starts = job.starts;
  covered = λ n has none. job.covered n (record { input = has; unnamed = none; unfed = λ fed. let P : List CircuitFeed → Type 0 = λ fs. Has (fed_nets fs) n in none_of n (subst P unfed fed) });
}

pub well_formed_job : (c : Circuit) → IsWellFormed c ↔ (IsJob c × (c.feeds ≡ []) × ((w : Word) → Has c.words w → w.role ≢ Fed))
well_formed_job c = ((λ well. (well_formed_is_job c well, well.unfed, no_fed_word c well)), λ is. well_of c is.0 is.1 is.2)

-- in the first cycle each word of a well-formed circuit has its element
pub first_elements : (c : Circuit) (xs : List ℕ) (bits : List Bool) → IsWellFormed c → IsClockCycle c xs 0 bits → IsFirst c xs bits → HaveElements c IsAnyWord xs bits
first_elements c xs bits well cycle first i w x got at any = by w.role refl
  where
    by : (r : Role) → w.role ≡ r → HasElement bits w x
    by Input is = cycle.inputs i w x got at is
    by State is = first.states i w x got at is
    by Fed is = absurd (no_fed_word c well w (i, got) is)
    by Output is = absurd (well.inner w (i, got) is)
