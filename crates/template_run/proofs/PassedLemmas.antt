-- Nodes that are asked for or passed, one by one.
use Rattle.std.proofs.Common.{◌≡◌, ℕ, zero, suc, ◌+◌, ◌<◌, ◌++◌, ◌&&◌, Bool, true, false, List, [], ◌∷◌, Option, length, take, drop, get_or, sym, ap, ◌∙◌, subst, arith, append_assoc}
use Rattle.std.specs.List.{flat_map, list_all}
use Rattle.std.proofs.lemmas.List.{drop_more, take_more, length-take-le}
use Rattle.std.proofs.lemmas.Grind.{flat_map-append}
use Rattle.std.proofs.lemmas.List.Folds.{list_all-append}
use Rattle.serna_kinds.specs.declared.cells.Cell.{Cell}
use Rattle.serna_kinds.specs.declared.cells.NameId.{NameId}
use Rattle.serna_kinds.specs.declared.cells.NodeName.{NodeName}
use Rattle.serna_kinds.specs.declared.cells.NodeRef.{NodeRef}
use Rattle.serna_kinds.specs.declared.cells.NodeRef.TheVariants as ref
use Rattle.serna_kinds.specs.Tape.{Within}
use Rattle.result_origin.specs.Parts.{ResultPart, Hole}
use Rattle.instance_store.specs.declared.request.Asked.{Asked}
use Rattle.instance_store.specs.declared.request.Request.{Request}
use Rattle.instance_store.specs.Requests.{apply_to, place_at, asked_at}
use Rattle.xpath_values.specs.declared.value.Binding.{Binding}
use Rattle.template_run.specs.Requests.{holes_for}
use Rattle.template_run.specs.Batch.{nodes_in, passed_nodes}
use Rattle.template_run.proofs.LogLemmas.{front, back}

abbrev hole_at : Option NameId → NodeName → ℕ → ℕ → ResultPart Asked
hole_at mode n position size = Hole (asked_at (apply_to mode (ref.Node n)) (place_at position size))

holes_more : (mode : Option NameId) (p size : ℕ) (xs : List NodeName) (x : NodeName) → holes_for mode p size (xs ++ x ∷ []) ≡ holes_for mode p size xs ++ hole_at mode x (p + length xs) size ∷ []
holes_more mode p size [] x = ap (λ n. hole_at mode x n size ∷ []) (omega arith)
holes_more mode p size (y ∷ xs) x =
    ap (λ ps. hole_at mode y p size ∷ ps)
    (holes_more mode (p + 1) size xs x ∙ ap (λ n. holes_for mode (p + 1) size xs ++ hole_at mode x n size ∷ []) (omega arith))

-- nodes by one more
pub apply_more : (mode : Option NameId) (nodes : List NodeName) (i : ℕ) (d : NodeName) (old self new : List (ResultPart Asked)) (request : Request) → i < length nodes →
    request ≡ apply_to mode (ref.Node (get_or nodes i d)) → self ≡ old ++ holes_for mode 1 (length nodes) (take i nodes) →
    new ≡ self ++ Hole (asked_at request (place_at (i + 1) (length nodes))) ∷ [] → new ≡ old ++ holes_for mode 1 (length nodes) (take (i + 1) nodes)
apply_more mode nodes i d old self new request within asks so_far grown =
    let long : length (take i nodes) ≡ i = length-take-le i nodes (omega (arith, within)) in
    let there : 1 + length (take i nodes) ≡ i + 1 = omega (arith, long) in
    grown
    ∙ ap (λ ps. ps ++ Hole (asked_at request (place_at (i + 1) (length nodes))) ∷ []) so_far
    ∙ ap (λ (r : Request). (old ++ holes_for mode 1 (length nodes) (take i nodes)) ++ Hole (asked_at r (place_at (i + 1) (length nodes))) ∷ []) asks
    ∙ append_assoc old (holes_for mode 1 (length nodes) (take i nodes)) (hole_at mode (get_or nodes i d) (i + 1) (length nodes) ∷ [])
    ∙ ap (λ ps. old ++ ps)
    (ap (λ n. holes_for mode 1 (length nodes) (take i nodes) ++ hole_at mode (get_or nodes i d) n (length nodes) ∷ []) (sym there)
    ∙ sym (holes_more mode 1 (length nodes) (take i nodes) (get_or nodes i d)) ∙ sym (ap (holes_for mode 1 (length nodes)) (take_more nodes i d within)))

-- what is passed, from one parameter on

left : (p : NodeRef → Bool) (bindings : List Binding) (i : ℕ) (one : Binding) → i < length bindings → one ≡ get_or bindings i one →
    list_all p (passed_nodes (drop i bindings)) ≡ (list_all p (nodes_in one.value) && list_all p (passed_nodes (drop (i + 1) bindings)))
left p bindings i one within is =
    ap (λ (bs : List Binding). list_all p (passed_nodes bs)) (drop_more bindings i one within)
    ∙ list_all-append p (nodes_in (get_or bindings i one).value) (passed_nodes (drop (i + 1) bindings))
    ∙ ap (λ (b : Binding). list_all p (nodes_in b.value) && list_all p (passed_nodes (drop (i + 1) bindings))) (sym is)

pub passed_more : (p : NodeRef → Bool) (bindings : List Binding) (i : ℕ) (one : Binding) (whole : Bool) → i < length bindings → one ≡ get_or bindings i one →
    list_all p (nodes_in one.value) ≡ true → list_all p (passed_nodes (drop i bindings)) ≡ whole → list_all p (passed_nodes (drop (i + 1) bindings)) ≡ whole
passed_more p bindings i one whole within is passes h =
    sym (ap (λ b. b && list_all p (passed_nodes (drop (i + 1) bindings))) passes) ∙ sym (left p bindings i one within is) ∙ h

pub passed_failed : (p : NodeRef → Bool) (bindings : List Binding) (i : ℕ) (one : Binding) (whole : Bool) → i < length bindings → one ≡ get_or bindings i one →
    list_all p (nodes_in one.value) ≡ false → list_all p (passed_nodes (drop i bindings)) ≡ whole → false ≡ whole
passed_failed p bindings i one whole within is fails h =
    sym (ap (λ b. b && list_all p (passed_nodes (drop (i + 1) bindings))) fails) ∙ sym (left p bindings i one within is) ∙ h

pub passed_cells : (allowed : Cell → Bool) (f : NodeRef → List Cell) (bindings : List Binding) (i : ℕ) (d : Binding) → i < length bindings →
    Within allowed (flat_map f (passed_nodes bindings)) → Within allowed (flat_map f (nodes_in (get_or bindings i d).value))
passed_cells allowed f [] i d within h = absurd (omega (arith, within))
passed_cells allowed f (b ∷ bindings) zero d within h =
    front allowed (flat_map f (nodes_in b.value)) (flat_map f (passed_nodes bindings))
    (subst (Within allowed) (flat_map-append f (nodes_in b.value) (passed_nodes bindings)) h)
passed_cells allowed f (b ∷ bindings) (suc i) d within h =
    passed_cells allowed f bindings i d (omega (arith, within))
    (back allowed (flat_map f (nodes_in b.value)) (flat_map f (passed_nodes bindings))
    (subst (Within allowed) (flat_map-append f (nodes_in b.value) (passed_nodes bindings)) h))

pub passed_cells_of : (allowed : Cell → Bool) (f : NodeRef → List Cell) (bindings : List Binding) (i : ℕ) (one : Binding) (nodes : List NodeRef) → i < length bindings →
    one ≡ get_or bindings i one → nodes ≡ nodes_in one.value → Within allowed (flat_map f (passed_nodes bindings)) → Within allowed (flat_map f nodes)
passed_cells_of allowed f bindings i one nodes within is are h =
    subst (λ ns. Within allowed (flat_map f ns)) (sym (are ∙ ap (λ (b : Binding). nodes_in b.value) is)) (passed_cells allowed f bindings i one within h)
