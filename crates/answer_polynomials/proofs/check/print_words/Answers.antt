use Rattle.std.proofs.Common.{◌≡◌, ◌≤◌, ◌∙◌, ◌++◌, ap, sym, subst, codes, length, arith}
use Rattle.outcome.specs.Outcome.{Exactly, Within}
use Rattle.poly_mixed.specs.Labels.{Labelling}
use Rattle.poly_mixed.specs.Polynomial.{Terms}
use Rattle.poly_mixed.specs.Text.{text, HasNames, HasWordNames}
use Rattle.circuit_model.specs.OfBinding.{output_basis}
use Rattle.stage_model.specs.Mix.{IsMix}
use Rattle.stage_model.specs.Stage.{IsOfStage}
use Rattle.stage_model.specs.WordListing.{word_listing}
use Rattle.stage_model.proofs.ListingLemmas.{both_within}
use Rattle.job_words.specs.declared.fault.Fault.TheVariants as faults
use Rattle.job_words.proofs.StepLemmas.{stops}
use Rattle.job_input.specs.Labelling.{labels_of}
use Rattle.job_input.specs.Setting.{setting_value}
use Rattle.job_input.specs.SettingValue.{SettingValue}
use Rattle.answer_core.specs.Reply.{polynomial_line}
use Rattle.answer_core.specs.Abstraction.{bits_stages, taken_circuit, IsInWords, AbstractOf}
use Rattle.answer_polynomials.specs.declared.check.Printed.{Printed}
use Rattle.answer_core.specs.StageStop.{IsStageStop}
use Rattle.answer_core.proofs.CheckLemmas.{labels_long}
use Rattle.answer_core.proofs.RefusalLemmas.{earlier_refused, later_refused, cuts_named, words_named}
use Rattle.answer_polynomials.proofs.check.print_words.Goals as goal

pub stage_stop-requires : goal.stage_stop-requires
stage_stop-requires g c =
    let degree = g.F.Ring.degree c.args.field.now in
    let mul = g.F.Ring.product c.args.field.now in
    let setting : SettingValue = setting_value degree mul c.args.setting.now in
    cuts_named degree mul c.args.circuit.now (output_basis c.args.circuit.now.binding.words setting.bases) (length c.args.labels.now.words) c.args.bound c.in-Err.fault c.in-Err.ensures.fault

pub returns-in-Err : goal.returns-in-Err
returns-in-Err g c =
    let degree = g.F.Ring.degree c.args.field.now in
    let mul = g.F.Ring.product c.args.field.now in
    let setting : SettingValue = setting_value degree mul c.args.setting.now in
    let circuit = c.args.circuit.now in
    let S : Labelling → Type 0 = λ l. IsStageStop l c.in-Err.fault c.args.bound c.stage_stop.result in
    let view : Terms → Terms = λ ts. ts in
    record {
      gives = stops {Y = Printed} view (λ printed. printed.line.items) c.stage_stop.result (Within faults.Stage (AbstractOf setting circuit c.args.bound)) (λ ts. Exactly (polynomial_line setting ts)) ⊥ ⊥ ⊥ ⊥ (λ m. m) (λ f. f)
          (earlier_refused degree mul view c.args.bound (IsInWords setting circuit) (bits_stages setting circuit) (word_listing (taken_circuit setting circuit)) (labels_of degree c.args.setting.now.signature.words) c.in-Err.fault c.stage_stop.result c.in-Err.ensures.fault (subst S c.requires.labels c.stage_stop.ensures));
      well = tt;
      output = tt;
    }

pub last_cut-requires : goal.last_cut-requires
last_cut-requires g c = record { ready = c.requires.ready; taken = c.requires.taken }

pub in_words-requires : goal.in_words-requires
in_words-requires g c =
    let degree = g.F.Ring.degree c.args.field.now in
    let mul = g.F.Ring.product c.args.field.now in
    let P : Terms → Type 0 = λ ts. IsOfStage degree mul (IsMix (taken_circuit (setting_value degree mul c.args.setting.now) c.args.circuit.now) 0) ts in
    let same : length c.in_ok-list.list.items ≡ length c.in-Ok.bits.terms = ap (λ (ts : Terms). length ts) c.in_ok-list.ensures in
    let small : length c.in-Ok.bits.terms ≤ c.args.bound = c.in-Ok.ensures.few in
    record {
      ready = c.requires.ready;
      taken = c.requires.taken;
      sound = c.last_cut.ensures.sound;
      is_bound = c.last_cut.ensures.is_bound;
      bits = subst P (sym c.in_ok-list.ensures) c.in-Ok.ensures.mix;
      few = omega (arith, same, small, c.ranges.bound.fits);
    }

pub stage_stop-requires-in-Err-in_words : goal.stage_stop-requires-in-Err-in_words
stage_stop-requires-in-Err-in_words g c =
    let degree = g.F.Ring.degree c.args.field.now in
    let mul = g.F.Ring.product c.args.field.now in
    let whole = taken_circuit (setting_value degree mul c.args.setting.now) c.args.circuit.now in
    let long = labels_long degree mul c.args.setting.now c.requires.ready c.args.circuit.now c.requires.taken c.args.labels.now c.requires.labels in
    words_named degree mul whole (length c.args.labels.now.words) c.args.bound c.in-Err-in_words.fault (sym long) c.in-Err-in_words.ensures.fault

pub returns-in-Err-in_words : goal.returns-in-Err-in_words
returns-in-Err-in_words g c =
    let degree = g.F.Ring.degree c.args.field.now in
    let mul = g.F.Ring.product c.args.field.now in
    let setting : SettingValue = setting_value degree mul c.args.setting.now in
    let circuit = c.args.circuit.now in
    let S : Labelling → Type 0 = λ l. IsStageStop l c.in-Err-in_words.fault c.args.bound c.stage_stop-in-Err-in_words.result in
    let view : Terms → Terms = λ ts. ts in
    record {
      gives = stops {Y = Printed} view (λ printed. printed.line.items) c.stage_stop-in-Err-in_words.result (Within faults.Stage (AbstractOf setting circuit c.args.bound)) (λ ts. Exactly (polynomial_line setting ts)) ⊥ ⊥ ⊥ ⊥ (λ m. m) (λ f. f)
          (later_refused degree mul view c.args.bound (IsInWords setting circuit) (bits_stages setting circuit) (word_listing (taken_circuit setting circuit)) (labels_of degree c.args.setting.now.signature.words) c.in-Err-in_words.fault c.stage_stop-in-Err-in_words.result c.in-Ok.ensures.within c.in-Err-in_words.ensures.fault
          (subst S c.requires.labels c.stage_stop-in-Err-in_words.ensures));
      well = tt;
      output = tt;
    }

pub polynomial_line-requires : goal.polynomial_line-requires
polynomial_line-requires g c =
    let P : Labelling → Type 0 = λ l. HasNames l c.in-Ok-in_words.poly.terms in
    let Q : Labelling → Type 0 = λ l. HasWordNames l c.in-Ok-in_words.poly.terms in
    record { named = subst P (sym c.requires.labels) c.in-Ok-in_words.ensures.named; words_named = subst Q (sym c.requires.labels) c.in-Ok-in_words.ensures.words_named }

pub returns : goal.returns
returns g c =
    let degree = g.F.Ring.degree c.args.field.now in
    let mul = g.F.Ring.product c.args.field.now in
    let setting : SettingValue = setting_value degree mul c.args.setting.now in
    let circuit = c.args.circuit.now in
    let ts = c.in-Ok-in_words.poly.terms in
    record {
      gives = (
        ts,
        (c.in-Ok-in_words.ensures.words, both_within degree mul (bits_stages setting circuit) (word_listing (taken_circuit setting circuit)) c.args.bound c.in-Ok.ensures.within c.in-Ok-in_words.ensures.within),
        c.in_ok-line.ensures ∙ ap (λ (l : Labelling). l.output ++ (codes " = " ++ (text l ts ++ codes "\n"))) c.requires.labels,
      );
      well = c.last_cut.ensures.well;
      output = c.in-Ok.ensures.output;
    }
