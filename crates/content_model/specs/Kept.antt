-- The model that a rule of the code stands for. No public clause speaks of it.
use Rattle.std.specs.Prelude.{◌≡◌, ℕ, Bool, List, [], ◌∷◌, reverse, Option, Some, None}
use Rattle.content_model.specs.declared.particle.Separator.TheVariants.{Sequence, Choice}
use Rattle.content_model.specs.declared.particle.Node.{Node}
use Rattle.content_model.specs.declared.particle.Node.TheVariants as node
use Rattle.content_model.specs.declared.model.Rule.{Rule}
use Rattle.content_model.specs.declared.model.Rule.TheVariants as rule
use Rattle.content_model.specs.Particle.{Particle, Content, Name, Repeated, Empty, Any, Mixed, Group}
use Rattle.content_model.specs.Passes.{nodes_of, is_nullable}
use Rattle.content_model.specs.Stored.{join_top, first_particle, rest_particles}

-- the stack after a node
abbrev pub put_node : Node → List (Particle ℕ) → List (Particle ℕ)
put_node (node.Name n) ps = Name n ∷ ps
put_node (node.Sequence left right) ps = join_top Sequence ps
put_node node.Choice ps = join_top Choice ps
put_node (node.Repeated o) ps = Repeated o (first_particle ps) ∷ rest_particles ps

-- the particles that nodes stand for, the root first
abbrev pub from_nodes : List Node → List (Particle ℕ)
from_nodes [] = []
from_nodes (n ∷ ns) = put_node n (from_nodes ns)

-- the particle of a list of nodes, the root last
abbrev pub particle_of : List Node → Particle ℕ
particle_of nodes = first_particle (from_nodes (reverse nodes))

-- what a rule stands for
abbrev pub content_of : Rule → Content ℕ
content_of rule.Empty = Empty
content_of rule.Any = Any
content_of (rule.Mixed names) = Mixed names.items
content_of (rule.Group nodes nullable) = Group (particle_of nodes.items)

-- the number of a name's node
abbrev pub name_at : Node → Option ℕ
name_at (node.Name n) = Some n
name_at (node.Sequence left right) = None
name_at node.Choice = None
name_at (node.Repeated o) = None

-- the nodes are those of a particle, and nullable says whether it allows no children
pub record AreNodes (nodes : List Node) (nullable : Bool) : Type 0 where
  pub nodes_are : reverse nodes ≡ nodes_of (λ n. n) (particle_of nodes)
  pub nullable_is : nullable ≡ is_nullable (particle_of nodes)

-- the nodes of a rule are those of its particle
abbrev pub IsKept : Rule → Type 0
IsKept rule.Empty = Unit {0}
IsKept rule.Any = Unit {0}
IsKept (rule.Mixed names) = Unit {0}
IsKept (rule.Group nodes nullable) = AreNodes nodes.items nullable
