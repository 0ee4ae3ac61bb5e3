use Rattle.std.proofs.Common.{◌≡◌, drop, length, map, filter}
use Rattle.net_words.specs.Roles.{same_role}
use Rattle.net_words.specs.declared.word.Role.TheVariants.{Output}
use Rattle.circuit_model.specs.OfBinding.{output_basis}
use Rattle.gf_basis.specs.BasisParts.{elements_of}
use Rattle.circuit_model.proofs.output_word.output_basis.Given as goal

abbrev pub invariant-loop-w : goal.invariant-loop-w
invariant-loop-w l =
    record {
      basis : output_basis (drop l.w l.binding.words) (drop l.w (map elements_of l.bases)) ≡ output_basis l.binding.words (map elements_of l.bases);
      one : length (filter (λ word. same_role word.role Output) (drop l.w l.binding.words)) ≡ 1;
    }
