-- What the answers of `table` and `lift` say, out of what comes of their steps.
use Rattle.std.proofs.Common.{◌≡◌, ◌∙◌, ap, sym, subst, ℕ, ◌*◌, ◌^◌, List, length, Some, Ok}
use Rattle.std.specs.Str.Lines.{lines}
use Rattle.lists.specs.laws.OptionLaws.{same_ok}
use Rattle.job_io.specs.Shelf.{Files}
use Rattle.net_words.specs.Binding.{BoundNet}
use Rattle.poly_mixed.specs.Polynomial.{Terms}
use Rattle.circuit_model.specs.Circuit.{Circuit}
use Rattle.lift_table.specs.CircuitTable.{IsTableOf}
use Rattle.lift_table.specs.Table.{IsTableValue}
use Rattle.lift_table.specs.TablePolynomial.{IsPolynomialOfTable}
use Rattle.lift_table.specs.TableText.{TableOutcome, table_text}
use Rattle.lift_table.proofs.OneOutcomeLemmas.{determined}
use Rattle.lift_table.proofs.PolynomialLemmas.{output_at}
use Rattle.lift_table.proofs.TableLemmas.{table_elements}
use Rattle.job_words.specs.Command.{Lift, Table, Job, Over}
use Rattle.job_words.specs.Operands.{Word}
use Rattle.job_words.proofs.OneCommandLemmas.{one_job}
use Rattle.job_input.specs.File.{Read}
use Rattle.job_input.specs.JobOf.{job_of}
use Rattle.job_input.specs.NetlistOf.{by_ending}
use Rattle.job_input.specs.SettingOf.{SettingOf}
use Rattle.job_input.specs.SettingValue.{SettingValue}
use Rattle.job_input.proofs.SettingDetermined.{setting_determined}
use Rattle.gf_abs.specs.Answer.{JobAnswer}
use Rattle.gf_abs.specs.Headline.{AnswersAbstract}
use Rattle.answer_core.specs.Printed.{AreHeld, HasOutput}
use Rattle.answer_core.specs.Reply.{Reply, polynomial_line}
use Rattle.gf_abs.specs.TableHeadline.{AnswersLift, AnswersTable, IsHeldSetting, PrintsHeldLift, PrintsHeldTable, PrintsLifted}
use Rattle.answer_core.specs.Abstraction.{taken_circuit}
use Rattle.answer_tables.specs.Lift.{table_words}
use Rattle.gf_abs.proofs.AnswerDetermined.{read_determined}
use Rattle.answer_polynomials.proofs.EqualLemmas.{count, one_polynomial, well}
use Rattle.gf_abs.proofs.HeadlineLemmas.{IsUnrolled, Printed, held_job, one_held, one_setting, printed_of, unrolled}
use Rattle.answer_core.proofs.JobLemmas.{input_from, long, output_from, output_to}
use Rattle.answer_tables.proofs.ReadBackLemmas.{read_back}

-- ---- what `table` prints

-- the table of the circuit of all cycles behind a job
record HeldTable (files : Files) (signature net : Word) (cycles : ℕ) (reply : Reply) : Type 0 where
  pub setting : SettingValue
  pub job : Circuit
  pub held : AreHeld files signature net cycles setting job
  pub circuit : BoundNet
  pub behind : IsUnrolled setting circuit job
  pub table : List ℕ
  pub outputs : IsTableOf (taken_circuit setting circuit) table
  pub status : reply.status ≡ 0
  pub text : reply.text ≡ table_text table

job_tables : (files : Files) (signature net : Word) (cycles : ℕ) (reply : Reply) → JobAnswer (Some files) (Over signature (Table net cycles)) (Ok reply) → HeldTable files signature net cycles reply
job_tables files signature net cycles reply (signed, (text, read, is), (setting, are, (small, fits, (circuit, (netlist, (bytes, read', taken), of), (table, outputs, same))))) =
    record {
      setting = setting;
      job = job_of setting netlist cycles;
      held = held_job files signature net cycles setting netlist text bytes read read' (signed, is, are) taken;
      circuit = circuit;
      behind = unrolled text (by_ending net bytes) cycles setting netlist circuit (signed, is, are) taken of;
      table = table;
      outputs = outputs;
      status = ap (λ (r : Reply). r.status) same;
      text = ap (λ (r : Reply). r.text) same;
    }

module _ (files : Files) (words : List Word) (signature net : Word) (cycles : ℕ) (reply : Reply) (is : AnswersTable files words signature net cycles reply) where
  held_table : HeldTable files signature net cycles reply
  held_table =
      let P : Job → Type 0 = λ job. JobAnswer (Some files) job (Ok reply) in
      let answer = is.answer in
      job_tables files signature net cycles reply (subst P (one_job words answer.0 (Over signature (Table net cycles)) answer.1 is.spelled) answer.2)

-- a circuit's table is that of a job that is one with it
moved_table : (setting : SettingValue) (circuit : BoundNet) (job : Circuit) → IsUnrolled setting circuit job → (table : List ℕ) → IsTableOf (taken_circuit setting circuit) table → IsTableOf job table
moved_table setting circuit job behind table is =
    let c : Circuit = taken_circuit setting circuit in
    let one = behind.one in
    let same_k : c.k ≡ job.k = one.alike.k in
    record {
      long = is.long ∙ (λ i. 2 ^ (same_k i * long setting c job one i));
      values = λ xs e input got.
          let P : ℕ → Type 0 = λ k. IsTableValue k table xs e in
          (one.output xs e).0 (is.values xs e (input_from setting c job one xs input) (subst P (sym same_k) got));
    }

pub table_prints : (files : Files) (words : List Word) (signature net : Word) (cycles : ℕ) (reply : Reply) → AnswersTable files words signature net cycles reply → PrintsHeldTable files signature net cycles reply
table_prints files words signature net cycles reply is =
    let found = held_table files words signature net cycles reply is in
    record {
      setting = found.setting;
      job = found.job;
      held = found.held;
      printed = record { table = found.table; outputs = moved_table found.setting found.circuit found.job found.behind found.table found.outputs; status = found.status; text = found.text };
    }

-- ---- what `lift` prints

job_lifts : (files : Files) (signature file : Word) (reply : Reply) → JobAnswer (Some files) (Over signature (Lift file)) (Ok reply) → PrintsHeldLift files signature file reply
job_lifts files signature file reply (signed, (text, read, is), (setting, are, (small, fits, (table, (bytes, read', taken), (ts, of, same))))) =
    record {
      setting = setting;
      held = record { bytes = text; read = read; is_setting = (signed, is, are) };
      printed = record { bytes = bytes; read = read'; table = table; is_table = taken; polynomial = ts; of_table = of; status = ap (λ (r : Reply). r.status) same; line = ap (λ (r : Reply). r.text) same };
    }

-- one setting comes of a held signature
one_held_setting : (files : Files) (signature : Word) (s t : SettingValue) → IsHeldSetting files signature s → IsHeldSetting files signature t → s ≡ t
one_held_setting files signature s t a b =
    let text : a.bytes ≡ b.bytes = same_ok a.bytes b.bytes (read_determined files signature (Ok a.bytes) (Ok b.bytes) a.read b.read) in
    let P : List ℕ → Type 0 = λ bytes. SettingOf bytes (Ok s) in
    same_ok s t (setting_determined b.bytes (Ok s) (Ok t) (subst P text a.is_setting) b.is_setting)

pub lift_prints : (files : Files) (words : List Word) (signature file : Word) (reply : Reply) → AnswersLift files words signature file reply → PrintsHeldLift files signature file reply
lift_prints files words signature file reply is =
    let P : Job → Type 0 = λ job. JobAnswer (Some files) job (Ok reply) in
    let answer = is.answer in
    job_lifts files signature file reply (subst P (one_job words answer.0 (Over signature (Lift file)) answer.1 is.spelled) answer.2)

-- what it prints is of this setting
lifted_for : (files : Files) (words : List Word) (signature file : Word) (reply : Reply) (setting : SettingValue) → AnswersLift files words signature file reply → IsHeldSetting files signature setting → PrintsLifted files setting file reply
lifted_for files words signature file reply setting is held =
    let found = lift_prints files words signature file reply is in
    let Q : SettingValue → Type 0 = λ s. PrintsLifted files s file reply in
    subst Q (one_held_setting files signature found.setting setting found.held held) found.printed

-- ---- the table of a netlist, lifted

module _ (setting : SettingValue) (circuit : BoundNet) (job : Circuit) (behind : IsUnrolled setting circuit job) (table : List ℕ) (outputs : IsTableOf (taken_circuit setting circuit) table) where
  many : length (taken_circuit setting circuit).words ≡ table_words setting
  many = count setting circuit behind.taken

  table_long : length table ≡ 2 ^ (setting.k * table_words setting)
  table_long = outputs.long ∙ ap (λ n. 2 ^ (setting.k * n)) many

  -- what its text is read as is the table itself
  read_as : (bytes other : List ℕ) → bytes ≡ table_text table → TableOutcome setting.k (2 ^ (setting.k * table_words setting)) bytes (Ok other) → other ≡ table
  read_as bytes other same is =
      let whole = well setting circuit behind.taken in
      let P : List ℕ → Type 0 = λ text. TableOutcome setting.k (2 ^ (setting.k * table_words setting)) text (Ok other) in
      let Q : ℕ → Type 0 = λ n. TableOutcome setting.k n (table_text table) (Ok table) in
      let own = subst Q table_long (read_back setting.k table whole.ring.small (table_elements (taken_circuit setting circuit) whole table outputs)) in
      same_ok other table (determined setting.k (2 ^ (setting.k * table_words setting)) (lines (table_text table)) (Ok other) (Ok table) (subst P same is) own)

  -- its polynomial is one of the output
  lifted_output : (ts : Terms) → IsPolynomialOfTable setting.k setting.product (table_words setting) table ts → HasOutput setting job ts
  lifted_output ts of =
      let c : Circuit = taken_circuit setting circuit in
      let P : ℕ → Type 0 = λ n. IsPolynomialOfTable setting.k setting.product n table ts in
      output_to setting c job behind.one ts (output_at c table ts (well setting circuit behind.taken) outputs (subst P (sym many) of))

pub same_bytes : (files files' : Files) (words words' words'' : List Word) (signature signature' net file : Word) (cycles : ℕ) (reply tabled lifted : Reply) (setting : SettingValue) (job : Circuit) → AnswersAbstract files words signature net cycles reply → AnswersTable files words' signature net cycles tabled → AreHeld files signature net cycles setting job
    → AnswersLift files' words'' signature' file lifted → IsHeldSetting files' signature' setting → Read (Some files') file (Ok tabled.text) → lifted.text ≡ reply.text
same_bytes files files' words words' words'' signature signature' net file cycles reply tabled lifted setting job abstracts tables held lifts held' read =
    let p : Printed setting job reply = printed_of files words signature net cycles reply setting job abstracts held in
    let found = held_table files words' signature net cycles tabled tables in
    let same = one_setting files signature net net cycles found.setting setting found.job job found.held held in
    let H : SettingValue → Type 0 = λ s. AreHeld files signature net cycles s found.job in
    let job_same : found.job ≡ job = one_held files signature net cycles setting found.job job (subst H same found.held) held in
    let l : PrintsLifted files' setting file lifted = lifted_for files' words'' signature' file lifted setting lifts held' in
    let bytes : l.bytes ≡ tabled.text = same_ok l.bytes tabled.text (read_determined files' file (Ok l.bytes) (Ok tabled.text) l.read read) in
    let O : SettingValue → Type 0 = λ s. (c : Circuit) → found.job ≡ c → HasOutput s c l.polynomial in
    let T : SettingValue → Type 0 = λ s. TableOutcome s.k (2 ^ (s.k * table_words s)) l.bytes (Ok l.table) in
    let U : SettingValue → Type 0 = λ s. IsPolynomialOfTable s.k s.product (table_words s) l.table l.polynomial in
    let values : HasOutput setting job l.polynomial =
    subst O same
    (λ c e.
    let R : Circuit → Type 0 = λ d. HasOutput found.setting d l.polynomial in
    let V : List ℕ → Type 0 = λ t. IsPolynomialOfTable found.setting.k found.setting.product (table_words found.setting) t l.polynomial in
    let table_same = read_as found.setting found.circuit found.job found.behind found.table found.outputs l.bytes l.table (bytes ∙ found.text) (subst T (sym same) l.is_table) in
    subst R e (lifted_output found.setting found.circuit found.job found.behind found.table found.outputs l.polynomial (subst V table_same (subst U (sym same) l.of_table))))
    job job_same in
    let c : Circuit = taken_circuit setting p.circuit in
    let one = p.behind.one in
    l.line
    ∙ ap (λ ts. polynomial_line setting ts) (one_polynomial setting p.circuit p.behind.taken l.polynomial p.is.polynomial l.of_table.reduced p.is.in_words.reduced (output_from setting c job one l.polynomial values) p.is.values)
    ∙ sym p.is.line
