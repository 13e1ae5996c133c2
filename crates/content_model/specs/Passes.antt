-- What the two passes over a group's nodes do to their stacks. No public clause speaks of it.
use Rattle.std.specs.Prelude.{ℕ, Bool, true, false, ◌&&◌, ◌||◌, ◌==◌, List, [], ◌∷◌, ◌++◌, fold, reverse}
use Rattle.content_model.specs.declared.particle.Separator.TheVariants.{Sequence, Choice}
use Rattle.content_model.specs.declared.particle.Occurrence.TheVariants.{Optional, ZeroOrMore, OneOrMore}
use Rattle.content_model.specs.declared.particle.Node.{Node}
use Rattle.content_model.specs.declared.particle.Node.TheVariants as node
use Rattle.content_model.specs.declared.stack.Stacks.{Stacks}
use Rattle.content_model.specs.Particle.{Particle, Name, Joined, Repeated}
use Rattle.content_model.specs.Stack.{top, below}

-- whether the particle allows no children at all
abbrev pub is_nullable : {A : Type 0} → Particle A → Bool
is_nullable (Name a) = false
is_nullable (Joined Sequence p q) = is_nullable p && is_nullable q
is_nullable (Joined Choice p q) = is_nullable p || is_nullable q
is_nullable (Repeated Optional p) = true
is_nullable (Repeated ZeroOrMore p) = true
is_nullable (Repeated OneOrMore p) = is_nullable p

-- the nodes of a particle, the root first and the left part last, each name by its number
abbrev pub nodes_of : {A : Type 0} → (A → ℕ) → Particle A → List Node
nodes_of f (Name a) = node.Name (f a) ∷ []
nodes_of f (Joined Sequence p q) = node.Sequence (is_nullable p) (is_nullable q) ∷ (nodes_of f q ++ nodes_of f p)
nodes_of f (Joined Choice p q) = node.Choice ∷ (nodes_of f q ++ nodes_of f p)
nodes_of f (Repeated o p) = node.Repeated o ∷ nodes_of f p

-- for each part of a node, the right one first, whether it can begin where the node can (begins) and has kept this
abbrev pub part_begins : Node → Bool → Bool → List Bool
part_begins (node.Name n) kept begins = []
part_begins (node.Sequence left right) kept begins = (begins && left || kept) ∷ begins ∷ []
part_begins node.Choice kept begins = begins ∷ begins ∷ []
part_begins (node.Repeated Optional) kept begins = begins ∷ []
part_begins (node.Repeated ZeroOrMore) kept begins = (begins || kept) ∷ []
part_begins (node.Repeated OneOrMore) kept begins = (begins || kept) ∷ []

-- whether the symbol reaches the node
abbrev pub reaches : ℕ → Node → Bool → Bool
reaches symbol (node.Name n) begins = begins && (n == symbol)
reaches symbol (node.Sequence left right) begins = false
reaches symbol node.Choice begins = false
reaches symbol (node.Repeated o) begins = false

-- one node of the first pass
abbrev pub reach_node : ℕ → Stacks → Node → Stacks
reach_node symbol s n = record {
  kept = below s.kept;
  reached = reaches symbol n (top s.ends) ∷ s.reached;
  ends = part_begins n (top s.kept) (top s.ends) ++ below s.ends;
}

-- what a node of the second pass keeps, by its mark and the ends of its parts, the right one first
abbrev pub keeps : Node → Bool → List Bool → Bool
keeps (node.Name n) mark ends = mark
keeps (node.Sequence left right) mark ends = top (below ends)
keeps node.Choice mark ends = top (below ends)
keeps (node.Repeated o) mark ends = top ends

-- the ends behind a node, in the place of those of its parts
abbrev pub ends_after : Node → Bool → List Bool → List Bool
ends_after (node.Name n) mark ends = mark ∷ ends
ends_after (node.Sequence left right) mark ends = (top ends || top (below ends) && right) ∷ below (below ends)
ends_after node.Choice mark ends = (top (below ends) || top ends) ∷ below (below ends)
ends_after (node.Repeated o) mark ends = top ends ∷ below ends

-- one node of the second pass
abbrev pub settle_node : Stacks → Node → Stacks
settle_node s n = record {
  kept = keeps n (top s.reached) s.ends ∷ s.kept;
  reached = below s.reached;
  ends = ends_after n (top s.reached) s.ends;
}

-- three empty stacks
abbrev pub no_stacks : Stacks
no_stacks = record { kept = []; reached = []; ends = [] }

-- the stacks without the last end
abbrev pub without_end : Stacks → Stacks
without_end s = record { kept = s.kept; reached = s.reached; ends = below s.ends }

-- the stacks after both passes for one child, with which the particle can begin if begins says so
abbrev pub after_child : ℕ → Bool → List Node → Stacks → Stacks
after_child symbol begins nodes s =
    fold settle_node (fold (reach_node symbol) (record { kept = s.kept; reached = s.reached; ends = begins ∷ s.ends }) (reverse nodes)) nodes
