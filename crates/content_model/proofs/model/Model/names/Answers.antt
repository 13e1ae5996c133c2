use Rattle.std.proofs.Common.{sym, ◌∙◌, ap, subst}
use Rattle.std.specs.List.{filter_map}
use Rattle.content_model.specs.declared.model.Rule.{Rule}
use Rattle.content_model.specs.Particle.{content_names}
use Rattle.content_model.specs.Kept.{content_of, name_at, IsKept, AreNodes}
use Rattle.content_model.proofs.Naming.{kept_names}
use Rattle.content_model.proofs.model.Model.names.Goals as goal

pub returns-in_ok-names-in-Group : goal.returns-in_ok-names-in-Group
returns-in_ok-names-in-Group c =
    let kept : AreNodes c.in-Group.nodes.items c.in-Group.field-1 = (let P : Rule → Type 0 = IsKept in subst P c.in-Group.is c.self.invariant) in
    c.in_ok-names-in-Group.ensures
    ∙ ap (filter_map name_at) c.as_slice-in-Group.ensures.value
    ∙ kept_names c.in-Group.nodes.items kept.nodes_are
    ∙ ap content_names (ap content_of (sym c.in-Group.is) ∙ c.self.view_is)
