use Rattle.std.proofs.Common.{◌∙◌, ◌<◌, ◌++◌, ◌∷◌, [], List, length, sym, ap, subst}
use Rattle.linked_tree.specs.Forest.{Node, alone}
use Rattle.linked_tree.proofs.Growth.{sound_kept, sound_pushed, forest_pushed}
use Rattle.linked_tree.proofs.LinkLemmas.{sound_forest, length-forest_of}
use Rattle.linked_tree.proofs.arena.Arena.make.Goals as goal

pub invariant_of-self : goal.invariant_of-self
invariant_of-self c = sound_kept c.self.inside.nodes (record { links = c.push.new.self }) c.self.invariant c.in_err-push.ensures.items

pub returns-in_err-push-clause-forest : goal.returns-in_err-push-clause-forest
returns-in_err-push-clause-forest c =
    sound_forest (record { links = c.push.new.self })
    (sound_kept c.self.inside.nodes (record { links = c.push.new.self }) c.self.invariant c.in_err-push.ensures.items)

pub invariant_of-self-2 : goal.invariant_of-self-2
invariant_of-self-2 c =
    sound_pushed c.self.inside.nodes (record { links = c.push.new.self }) c.self.invariant c.none.result c.none.ensures c.in_ok-push.ensures.items (subst (λ n. n < 4294967295) (ap length (sym c.self.view_is) ∙ length-forest_of c.self.inside.nodes) c.requires)

pub returns-clause-made : goal.returns-clause-made
returns-clause-made c =
    forest_pushed c.self.inside.nodes (record { links = c.push.new.self }) c.self.invariant c.none.result c.none.ensures c.in_ok-push.ensures.items (subst (λ n. n < 4294967295) (ap length (sym c.self.view_is) ∙ length-forest_of c.self.inside.nodes) c.requires)
    ∙ ap (λ (t : List Node). t ++ alone ∷ []) c.self.view_is

pub returns-clause-forest : goal.returns-clause-forest
returns-clause-forest c =
    sound_forest (record { links = c.push.new.self })
    (sound_pushed c.self.inside.nodes (record { links = c.push.new.self }) c.self.invariant c.none.result c.none.ensures c.in_ok-push.ensures.items (subst (λ n. n < 4294967295) (ap length (sym c.self.view_is) ∙ length-forest_of c.self.inside.nodes) c.requires))
