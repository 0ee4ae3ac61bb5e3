-- What a circuit of one cycle computes, in however many cycles.
use Rattle.std.proofs.Common.{◌≡◌, ◌≢◌, ◌∙◌, ap, sym, refl, subst, ℕ, zero, suc, Bool, List, [], ◌∷◌, ◌++◌, length, map, Some, arith}
use Rattle.std.specs.Prelude.{slice_get}
use Rattle.lists.specs.Lists.{Has}
use Rattle.lists.specs.laws.HasLaws.{All_has}
use Rattle.net_core.specs.LatchValue.{LatchValue}
use Rattle.net_core.specs.NetList.{NetList}
use Rattle.net_core.specs.Sound.{IsSound}
use Rattle.net_words.specs.Binding.{Binding}
use Rattle.net_words.specs.BoundTo.{IsBoundTo}
use Rattle.net_words.specs.OneCycle.{IsFlat}
use Rattle.net_words.specs.declared.bound.BoundWord.{BoundWord}
use Rattle.net_words.specs.declared.word.Role.{Role}
use Rattle.net_words.specs.declared.word.Role.TheVariants.{Input, State, Fed, Output}
use Rattle.net_words.proofs.FlatLemmas.{flat_bound}
use Rattle.gf_field.specs.Field.{HasNoZeroDivisors}
use Rattle.gf_field.specs.Ring.{IsRing}
use Rattle.circuit_model.specs.Circuit.{Circuit, IsInput}
use Rattle.circuit_model.specs.Job.{IsJob}
use Rattle.circuit_model.specs.JobOfBinding.{job_word_with, job_words_of}
use Rattle.circuit_model.specs.OfBinding.{circuit_with, HaveBases, word_with, words_of}
use Rattle.circuit_model.specs.Out.{IsOut}
use Rattle.circuit_model.specs.Run.{HaveElements, IsClockCycle, IsFirst, IsOpenRun}
use Rattle.circuit_model.specs.WellFormed.{IsWellFormed}
use Rattle.circuit_model.specs.Word.{HasElement, Word}
use Rattle.circuit_model.proofs.BoundLemmas.{bound_well}
use Rattle.circuit_model.proofs.JobBoundLemmas.{job_well}
use Rattle.circuit_model.proofs.OutLemmas.{job_some_out, one_out, open_out}
use Rattle.unroll.proofs.FromRunLemmas.{job_of}
use Rattle.unroll.proofs.WordLemmas.{stood}

-- a word of the circuit and the word of the job at the same place
pub record IsFlatWord (words : List BoundWord) (bases : List (List ℕ)) (i : ℕ) (w : Word) : Type 0 where
  pub word : BoundWord
  pub basis : List ℕ
  pub got : Has words word
  pub job : slice_get (job_words_of words bases) i ≡ Some (record { role = word.role; nets = word.nets; basis = basis })
  pub is : w ≡ record { role = Input; nets = word.nets; basis = basis }
  pub inner : word.role ≢ Output

flat_word : (words : List BoundWord) (bases : List (List ℕ)) (i : ℕ) (w : Word) → slice_get (words_of words bases) i ≡ Some w → IsFlatWord words bases i w
flat_word [] bases i w got = absurd (cc)
flat_word (word ∷ words) [] i w got = absurd (cc)
flat_word (word ∷ words) (basis ∷ bases) i w got = by (λ j found. flat_word words bases j w found) word.role refl i got
  where
    further : (j m : ℕ) → IsFlatWord words bases j w → ((u : Word) → slice_get (job_words_of words bases) j ≡ Some u → slice_get (job_words_of (word ∷ words) (basis ∷ bases)) m ≡ Some u) → IsFlatWord (word ∷ words) (basis ∷ bases) m w
    further j m from at = record { word = from.word; basis = from.basis; got = (suc from.got.0, from.got.1); job = at (record { role = from.word.role; nets = from.word.nets; basis = from.basis }) from.job; is = from.is; inner = from.inner }

    own : (r : Role) → word.role ≡ r → r ≢ Output → slice_get (job_word_with r word.nets basis ++ job_words_of words bases) 0 ≡ Some (record { role = r; nets = word.nets; basis = basis }) → w ≡ record { role = Input; nets = word.nets; basis = basis } → IsFlatWord (word ∷ words) (basis ∷ bases) 0 w
    own r is other first same =
        let Q : Role → Type 0 = λ q. slice_get (job_word_with q word.nets basis ++ job_words_of words bases) 0 ≡ Some (record { role = q; nets = word.nets; basis = basis }) in
        record { word = word; basis = basis; got = (0, refl); job = subst Q (sym is) first; is = same; inner = λ out. other (sym is ∙ out) }

    more : (r : Role) → word.role ≡ r → (j m : ℕ) → ((u : Word) → slice_get (job_words_of words bases) j ≡ Some u → slice_get (job_word_with r word.nets basis ++ job_words_of words bases) m ≡ Some u) → (u : Word) → slice_get (job_words_of words bases) j ≡ Some u → slice_get (job_words_of (word ∷ words) (basis ∷ bases)) m ≡ Some u
    more r is j m at u found = let P : Role → Type 0 = λ q. slice_get (job_word_with q word.nets basis ++ job_words_of words bases) m ≡ Some u in subst P (sym is) (at u found)

    by : ((j : ℕ) → slice_get (words_of words bases) j ≡ Some w → IsFlatWord words bases j w) → (r : Role) → word.role ≡ r → (i : ℕ) → slice_get (word_with r word.nets basis ++ words_of words bases) i ≡ Some w → IsFlatWord (word ∷ words) (basis ∷ bases) i w
    by each Input is zero got = own Input is (λ e. absurd (cc)) refl (cc)
    by each Input is (suc j) got = further j (suc j) (each j got) (more Input is j (suc j) (λ u found. found))
    by each State is zero got = own State is (λ e. absurd (cc)) refl (cc)
    by each State is (suc j) got = further j (suc j) (each j got) (more State is j (suc j) (λ u found. found))
    by each Fed is zero got = own Fed is (λ e. absurd (cc)) refl (cc)
    by each Fed is (suc j) got = further j (suc j) (each j got) (more Fed is j (suc j) (λ u found. found))
    by each Output is j got = further j j (each j got) (more Output is j j (λ u found. found))

same_count : (words : List BoundWord) (bases : List (List ℕ)) → length (words_of words bases) ≡ length (job_words_of words bases)
same_count [] bases = refl
same_count (word ∷ words) [] = refl
same_count (word ∷ words) (basis ∷ bases) = by word.role (same_count words bases)
  where
    by : (r : Role) → length (words_of words bases) ≡ length (job_words_of words bases) → length (word_with r word.nets basis ++ words_of words bases) ≡ length (job_word_with r word.nets basis ++ job_words_of words bases)
    by Input rest = ap suc rest
    by State rest = ap suc rest
    by Fed rest = ap suc rest
    by Output rest = rest

module _ (product : ℕ → ℕ → ℕ) (net : NetList) (b : Binding) (bases : List (List ℕ)) (c : ℕ) (ring : IsRing b.k product) (no_zero_divisors : HasNoZeroDivisors b.k product) (sound : IsSound net) (bound : IsBoundTo net b) (based : HaveBases b.k b.words bases) (flat : IsFlat net b) where
  abbrev pub one : Circuit
  one = circuit_with b.k product (record { net = net; binding = b }) bases

  well : IsWellFormed one
  well = bound_well b.k product (record { net = net; binding = b }) bases (flat_bound net b bound flat) refl based ring no_zero_divisors sound

  is_job : IsJob (job_of product net b bases c)
  is_job = job_well b.k product (record { net = net; binding = b }) bases c bound refl based sound ring no_zero_divisors

  some_net : (ns : List ℕ) → length ns ≡ b.k → (n : ℕ) × Has ns n
  some_net [] long = absurd (omega (arith, long, bound.parts.some))
  some_net (n ∷ ns) long = (n, (0, refl))

  no_latch : (l : LatchValue) → Has net.latches l → ⊥
  no_latch l has = let P : List LatchValue → Type 0 = λ ls. Has ls l in let got = (subst P flat.latches has).1 in absurd (cc)

  -- each word beside the output word is an input word
  input_word : (word : BoundWord) → Has b.words word → word.role ≢ Output → word.role ≡ Input
  input_word word has inner = by word.role refl inner
    where
      n : (n : ℕ) × Has word.nets n
      n = some_net word.nets (All_has (λ (u : BoundWord). length u.nets ≡ b.k) b.words word flat.named has)

      by : (r : Role) → word.role ≡ r → r ≢ Output → r ≡ Input
      by Input is inner = refl
      by State is inner =
          let stands = stood net b word n.0 State bound has n.1 is in
          let P : List LatchValue → Type 0 = λ ls. Has (map (λ (l : LatchValue). l.out) ls) n.0 in
          let got = (subst P flat.latches stands).1 in absurd (cc)
      by Fed is inner = absurd (stood net b word n.0 Fed bound has n.1 is)
      by Output is inner = absurd (inner refl)

  pub flat_forth : (xs : List ℕ) (e : ℕ) → IsOut (job_of product net b bases c) xs e → IsOut one xs e
  flat_forth xs e out = (open_out one xs (out.ends.last ∷ []) e well run).0 (record { last = out.ends.last; at = refl; element = out.ends.element })
    where
      words : (P : Word → Type 0) → HaveElements one P xs out.ends.last
      words P i w x got value is =
          let from = flat_word b.words bases i w got in
          let role : from.word.role ≡ Input = input_word from.word from.got from.inner in
          let Q : Word → Type 0 = λ u. HasElement out.ends.last u x in
          let R : Role → Type 0 = λ r. HasElement out.ends.last (record { role = r; nets = from.word.nets; basis = from.basis }) x in
          let here : R from.word.role = (out.is_run.open_run.each c out.ends.last out.ends.at).inputs i (record { role = from.word.role; nets = from.word.nets; basis = from.basis }) x from.job value role in
          subst Q (sym from.is) (subst R role here)

      cycle : (t : ℕ) (bits : List Bool) → slice_get (out.ends.last ∷ []) t ≡ Some bits → IsClockCycle one xs t bits
      cycle zero bits got =
          let same : out.ends.last ≡ bits = cc in
          let P : List Bool → Type 0 = λ v. IsClockCycle one xs 0 v in
          subst P same (record {
            consistent = (out.is_run.open_run.each c out.ends.last out.ends.at).consistent;
            inputs = words (λ w. w.role ≡ Input);
            feeds = λ n fed. let got = fed.1 in absurd (cc);
          })
      cycle (suc t) bits got = absurd (cc)

      first : (bits : List Bool) → slice_get (out.ends.last ∷ []) 0 ≡ Some bits → IsFirst one xs bits
      first bits got =
          let same : out.ends.last ≡ bits = cc in
          let P : List Bool → Type 0 = λ v. IsFirst one xs v in
          subst P same (record { states = words (λ w. w.role ≡ State); latches = λ l has free. absurd (no_latch l has) })

      run : IsOpenRun one xs (out.ends.last ∷ [])
      run = record {
        input = record { long = out.is_run.open_run.input.long ∙ sym (same_count b.words bases); elements = out.is_run.open_run.input.elements };
        long = refl;
        each = cycle;
        first = first;
        next = λ t before bits got later l has. absurd (no_latch l has);
      }

  pub flat_back : (xs : List ℕ) (e : ℕ) → IsOut one xs e → IsOut (job_of product net b bases c) xs e
  flat_back xs e out =
      let input : IsInput (job_of product net b bases c) xs = record { long = out.is_run.open_run.input.long ∙ same_count b.words bases; elements = out.is_run.open_run.input.elements } in
      let found = job_some_out (job_of product net b bases c) xs is_job input in
      let same : found.0 ≡ e = one_out one xs found.0 e well (flat_forth xs found.0 found.1) out in
      let Q : ℕ → Type 0 = λ x. IsOut (job_of product net b bases c) xs x in
      subst Q same found.1
