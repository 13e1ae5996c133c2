-- The names of a model stand among its nodes in their order.
use Rattle.std.proofs.Common.{◌≡◌, ℕ, List, [], ◌∷◌, ◌++◌, reverse, None, refl, sym, ap, ◌∙◌}
use Rattle.std.specs.List.{filter_map, cons_option}
use Rattle.std.proofs.lemmas.List.Elements.{filter_map-append}
use Rattle.std.proofs.lemmas.List.{append-nil, reverse-append, reverse-reverse}
use Rattle.content_model.specs.declared.particle.Separator.TheVariants.{Sequence, Choice}
use Rattle.content_model.specs.declared.particle.Node.{Node}
use Rattle.content_model.specs.declared.particle.Node.TheVariants as node
use Rattle.content_model.specs.Particle.{Particle, Name, Joined, Repeated, particle_names}
use Rattle.content_model.specs.Passes.{nodes_of, is_nullable}
use Rattle.content_model.specs.Kept.{name_at, particle_of}

-- the nodes of a particle, the root last
abbrev in_order : Particle ℕ → List Node
in_order p = reverse (nodes_of (λ n. n) p)

-- the names of two parts, and then of the node that joins them
names_joined : (n : Node) (p q : Particle ℕ) → name_at n ≡ None → filter_map name_at (reverse (n ∷ (nodes_of (λ m. m) q ++ nodes_of (λ m. m) p))) ≡ filter_map name_at (in_order p) ++ filter_map name_at (in_order q)
names_joined n p q none =
    let right = nodes_of (λ (m : ℕ). m) q in
    let left = nodes_of (λ (m : ℕ). m) p in
    ap (filter_map name_at) (reverse-append (n ∷ []) (right ++ left) ∙ ap (λ l. l ++ n ∷ []) (reverse-append right left))
    ∙ filter_map-append name_at (reverse left ++ reverse right) (n ∷ [])
    ∙ ap (λ l. filter_map name_at (reverse left ++ reverse right) ++ l) (ap (λ o. cons_option o []) none)
    ∙ append-nil (filter_map name_at (reverse left ++ reverse right))
    ∙ filter_map-append name_at (reverse left) (reverse right)

names_in_order : (p : Particle ℕ) → filter_map name_at (in_order p) ≡ particle_names p
names_in_order (Name n) = refl
names_in_order (Joined Sequence p q) =
    names_joined (node.Sequence (is_nullable p) (is_nullable q)) p q refl
    ∙ ap (λ l. l ++ filter_map name_at (in_order q)) (names_in_order p)
    ∙ ap (λ l. particle_names p ++ l) (names_in_order q)
names_in_order (Joined Choice p q) =
    names_joined node.Choice p q refl
    ∙ ap (λ l. l ++ filter_map name_at (in_order q)) (names_in_order p)
    ∙ ap (λ l. particle_names p ++ l) (names_in_order q)
names_in_order (Repeated o p) =
    ap (filter_map name_at) (reverse-append (node.Repeated o ∷ []) (nodes_of (λ (m : ℕ). m) p))
    ∙ filter_map-append name_at (in_order p) (node.Repeated o ∷ [])
    ∙ append-nil (filter_map name_at (in_order p))
    ∙ names_in_order p

-- the names among nodes that are kept for a particle
pub kept_names : (nodes : List Node) → reverse nodes ≡ nodes_of (λ n. n) (particle_of nodes) → filter_map name_at nodes ≡ particle_names (particle_of nodes)
kept_names nodes are =
    ap (filter_map name_at) (sym (reverse-reverse nodes) ∙ ap reverse are) ∙ names_in_order (particle_of nodes)
