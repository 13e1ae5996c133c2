use Rattle.std.proofs.Common.{refl}
use Rattle.source_model.proofs.laws.worked_axes.Goals as goal

pub returns-clause-element : goal.returns-clause-element
returns-clause-element c = (refl, refl, refl, refl, refl, refl, refl, refl, refl, refl, refl, refl)

pub returns-clause-text : goal.returns-clause-text
returns-clause-text c = (refl, refl, refl, refl, refl, refl, refl, refl, refl, refl, refl, refl)

pub returns-clause-attribute : goal.returns-clause-attribute
returns-clause-attribute c = (refl, refl, refl, refl, refl, refl, refl, refl, refl, refl, refl, refl)

pub returns-clause-document : goal.returns-clause-document
returns-clause-document c = (refl, refl, refl, refl, refl, refl, refl, refl, refl, refl, refl, refl)

pub returns-clause-tests : goal.returns-clause-tests
unfolding lib.Utf8.encode
returns-clause-tests c = (refl, refl, refl, refl, refl, refl, refl, refl, refl, refl, refl)

pub returns-clause-strings : goal.returns-clause-strings
returns-clause-strings c = (refl, refl, refl, refl, refl)

pub returns-clause-log : goal.returns-clause-log
returns-clause-log c = (refl, refl, refl)
