use Rattle.input_extension.proofs.PreorderLemmas.{extension-same, extension-trans}
use Rattle.input_extension.proofs.laws.extension_is_a_preorder.Goals as goal

pub returns : goal.returns
returns c = record { same = extension-same; transitive = extension-trans }
