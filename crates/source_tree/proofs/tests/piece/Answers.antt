use Rattle.std.proofs.Common.{◌≡◌, [], ◌∷◌, ◌∙◌, arith}
use Rattle.std.proofs.lemmas.Result.{IfOk-weaker}
use Rattle.std.proofs.lemmas.Str.{chars-IsAscii}
use Rattle.std.specs.Str.{chars}
use Rattle.source_tree.proofs.Small.{one_ascii}
use Rattle.source_tree.proofs.tests.piece.Goals as goal

pub returns : goal.returns
returns c = IfOk-weaker c.from_text.result (λ x. x ≡ chars (97 ∷ [])) (λ x. x ≡ 97 ∷ []) (λ _ e. e ∙ chars-IsAscii (97 ∷ []) (one_ascii 97 (omega arith))) c.from_text.ensures
