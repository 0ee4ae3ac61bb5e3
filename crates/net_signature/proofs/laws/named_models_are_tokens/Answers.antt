use Rattle.net_signature.proofs.ModelLemmas.{model_is_token}
use Rattle.net_signature.proofs.laws.named_models_are_tokens.Goals as goal

pub returns : goal.returns
returns c = model_is_token
