use Rattle.std.proofs.Common.{List, ℕ, sym, subst}
use Rattle.content_model.specs.Grammar.{IsFirstFault}
use Rattle.content_model.proofs.Faults.{one_fault}
use Rattle.content_model.proofs.model.Model.read.Goals as goal

pub returns-in-Err-clause-refused : goal.returns-in-Err-clause-refused
returns-in-Err-clause-refused c = λ place first other e.
    one_fault c.as_bytes.result.now other place (c.in-Err.ensures.fault other e)
    (subst (λ (text : List ℕ). IsFirstFault text place) (sym c.as_bytes.ensures.value) first)

pub returns-in-Err-clause-fault : goal.returns-in-Err-clause-fault
returns-in-Err-clause-fault c = λ place e.
    subst (λ (text : List ℕ). IsFirstFault text place) c.as_bytes.ensures.value (c.in-Err.ensures.fault place e)
