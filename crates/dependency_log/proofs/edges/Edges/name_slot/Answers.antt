use Rattle.std.proofs.Common.{refl, sym, subst, nat_eq}
use Rattle.std.specs.Prelude.{Contains}
use Rattle.std.proofs.lemmas.Bool.{eqb-true}
use Rattle.indexmap.proofs.CallerLemmas.{Contains-insert_key}
use Rattle.dependency_log.proofs.StepLemmas.{slot_named}
use Rattle.dependency_log.proofs.edges.Edges.name_slot.Goals as goal

pub returns-clause-slot : goal.returns-clause-slot
returns-clause-slot c =
    subst (λ ks. Contains ks c.args.slot) (sym c.in_ok-insert.ensures.keys) (Contains-insert_key nat_eq (λ a b t. eqb-true a b t) c.args.self.now.slots.keys c.args.slot)

pub returns-clause-same : goal.returns-clause-same
returns-clause-same c =
    slot_named c.args.self.now (record c.args.self.now { slots = c.insert.new.self }) c.args.slot c.requires.sound refl refl c.in_ok-insert.ensures.keys
