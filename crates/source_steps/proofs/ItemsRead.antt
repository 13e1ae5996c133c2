-- The items of nodes, read off their cells.
use Rattle.std.proofs.Common.{◌≡◌, ℕ, ◌+◌, ◌-◌, ◌≤◌, List, [], ◌∷◌, ◌++◌, map, drop, length, Option, Some, None, refl, sym, ap, ◌∙◌, subst, arith, append-nil, append_assoc}
use Rattle.std.proofs.lemmas.List.{drop_all}
use Rattle.std.proofs.lemmas.Option.{none-some, same_Some}
use Rattle.serna_kinds.specs.declared.cells.Cell.{Cell}
use Rattle.serna_kinds.specs.declared.cells.Facet.TheVariants as facet
use Rattle.serna_kinds.specs.declared.cells.NameId.{NameId}
use Rattle.serna_kinds.specs.declared.cells.AttrPair.{AttrPair}
use Rattle.serna_kinds.specs.declared.cells.NodeName.{NodeName}
use Rattle.serna_kinds.specs.Content.{Content}
use Rattle.source_model.specs.Source.{Body, Root, Element, Text, Comment, Forest, none, node, numbers}
use Rattle.source_model.specs.Cells.{named}
use Rattle.source_model.specs.Consistent.{AreLeaves}
use Rattle.source_model.specs.Told.{told_kids, kids_at}
use Rattle.source_primitives.specs.declared.primitive.SubItem.{SubItem}
use Rattle.source_primitives.specs.declared.primitive.SubItem.TheVariants as item
use Rattle.source_primitives.specs.Primitives.{items_of}
use Rattle.source_steps.specs.Said.{HasBody, Says}
use Rattle.source_steps.specs.Taking.{AreWithin, ReadsAll, ReadsNode, ReadsElement, StillToRead}

pub rest_within : (view : Cell → Option Content) (up : Option ℕ) (left n : ℕ) (body : Body) (kids rest : Forest) → AreWithin view up left (node n body kids rest) → AreWithin view up left rest
rest_within view up left n Root kids rest w = absurd w.leaves
rest_within view up left n (Element name attributes) kids rest w = record { told = w.told.2; leaves = w.leaves.1; shallow = let d = w.shallow in omega (arith, d) }
rest_within view up left n (Text text) kids rest w = record { told = w.told.2; leaves = w.leaves.1; shallow = let d = w.shallow in omega (arith, d) }
rest_within view up left n (Comment text) kids rest w = record { told = w.told.2; leaves = w.leaves.1; shallow = let d = w.shallow in omega (arith, d) }

-- one more is read
then_node : (view : Cell → Option Content) (up : Option ℕ) (left : ℕ) (kids : List NodeName) (at : ℕ) (kid : NodeName) (old now new : List SubItem) (forest rest : Forest) →
    drop at kids ≡ kid ∷ drop (at + 1) kids → AreWithin view up left rest → drop at kids ≡ map named (numbers rest) → now ++ items_of rest ≡ old ++ items_of forest →
    ReadsNode view kid left now new → StillToRead view up left kids (at + 1) old new forest
then_node view up left kids at kid old now new forest none one w next read reads = cc
then_node view up left kids at kid old now new forest (node n body below rest) one w next read reads =
    let first : kid ∷ drop (at + 1) kids ≡ named n ∷ map named (numbers rest) = sym one ∙ next in
    let same : kid ≡ named n = cc in
    let number : kid.0 ≡ n = ap (λ (k : NodeName). k.0) same in
    let there : AreWithin view up left (node kid.0 body below rest) = subst (λ k. AreWithin view up left (node k body below rest)) (sym number) w in
    record {
      rest = rest;
      within = rest_within view up left n body below rest w;
      next = cc;
      read = reads up body below rest there ∙ ap (λ k. now ++ items_of (node k body below rest)) number ∙ read;
    }

pub one_more : (view : Cell → Option Content) (up : Option ℕ) (left : ℕ) (kids : List NodeName) (at : ℕ) (kid : NodeName) (old now new : List SubItem) (forest : Forest) →
    drop at kids ≡ kid ∷ drop (at + 1) kids → StillToRead view up left kids at old now forest → ReadsNode view kid left now new → StillToRead view up left kids (at + 1) old new forest
one_more view up left kids at kid old now new forest one still reads = then_node view up left kids at kid old now new forest still.rest one still.within still.next still.read reads

-- all are read
none_left : (forest : Forest) → map named (numbers forest) ≡ [] → forest ≡ none
none_left none e = refl
none_left (node n body kids rest) e = cc

pub all_read : (view : Cell → Option Content) (up : Option ℕ) (left : ℕ) (kids : List NodeName) (at : ℕ) (old new : List SubItem) (forest : Forest) → length kids ≤ at →
    StillToRead view up left kids at old new forest → new ≡ old ++ items_of forest
all_read view up left kids at old new forest past still =
    let nothing : still.rest ≡ none = none_left still.rest (sym still.next ∙ drop_all at kids past) in
    sym (append-nil new) ∙ ap (λ f. new ++ items_of f) (sym nothing) ∙ still.read

-- what a node's own cells say
own_body : (view : Cell → Option Content) (up : Option ℕ) (left : ℕ) (number : NodeName) (body : Body) (kids rest : Forest) → AreWithin view up left (node number.0 body kids rest) → HasBody view number body
own_body view up left number body kids rest w = record { label = w.told.0 facet.Label; attributes = w.told.0 facet.Attrs; text = w.told.0 facet.Text }

-- where the node's cells are found to say of no node, or of a document node, there is no such node
pub no_node : (view : Cell → Option Content) (number : NodeName) (left : ℕ) (old : List SubItem) → Says view number None → ReadsNode view number left old old
no_node view number left old says = λ up body kids rest w. absurd (none-some body (says body (own_body view up left number body kids rest w)))

no_document : (n : ℕ) (body : Body) (kids rest : Forest) → Some Root ≡ Some body → AreLeaves (node n body kids rest) → ⊥
no_document n body kids rest e leaves = subst (λ b. AreLeaves (node n b kids rest)) (sym (same_Some Root body e)) leaves

pub no_document_node : (view : Cell → Option Content) (number : NodeName) (left : ℕ) (old : List SubItem) → Says view number (Some Root) → ReadsNode view number left old old
no_document_node view number left old says = λ up body kids rest w. absurd (no_document number.0 body kids rest (says body (own_body view up left number body kids rest w)) w.leaves)

pub text_node : (view : Cell → Option Content) (number : NodeName) (left : ℕ) (old new : List SubItem) (text : List ℕ) → Says view number (Some (Text text)) →
    new ≡ old ++ item.Text number text ∷ [] → ReadsNode view number left old new
text_node view number left old new text says e = λ up body kids rest w.
    let is : Text text ≡ body = same_Some (Text text) body (says body (own_body view up left number body kids rest w)) in
    ap (λ t. t ++ items_of rest) e ∙ append_assoc old (item.Text number text ∷ []) (items_of rest) ∙ ap (λ b. old ++ items_of (node number.0 b kids rest)) is

pub comment_node : (view : Cell → Option Content) (number : NodeName) (left : ℕ) (old new : List SubItem) (text : List ℕ) → Says view number (Some (Comment text)) →
    new ≡ old ++ item.Comment number text ∷ [] → ReadsNode view number left old new
comment_node view number left old new text says e = λ up body kids rest w.
    let is : Comment text ≡ body = same_Some (Comment text) body (says body (own_body view up left number body kids rest w)) in
    ap (λ t. t ++ items_of rest) e ∙ append_assoc old (item.Comment number text ∷ []) (items_of rest) ∙ ap (λ b. old ++ items_of (node number.0 b kids rest)) is

pub element_node : (view : Cell → Option Content) (number : NodeName) (left : ℕ) (old new : List SubItem) (name : NameId) (pairs : List AttrPair) →
    Says view number (Some (Element name pairs)) → ReadsElement view number name pairs left old new → ReadsNode view number left old new
element_node view number left old new name pairs says reads = λ up body kids rest w.
    let is : Element name pairs ≡ body = same_Some (Element name pairs) body (says body (own_body view up left number body kids rest w)) in
    reads up kids rest (subst (λ b. AreWithin view up left (node number.0 b kids rest)) (sym is) w) ∙ ap (λ b. old ++ items_of (node number.0 b kids rest)) is

-- no element stands where none may be
pub too_deep : (view : Cell → Option Content) (number : NodeName) (name : NameId) (pairs : List AttrPair) (left : ℕ) (old : List SubItem) → left ≡ 0 → ReadsElement view number name pairs left old old
too_deep view number name pairs left old e = λ up kids rest w. (let d = w.shallow in absurd (omega (arith, d, e)))

-- an element: its beginning, what stands below it, and its end
pub element_read : (view : Cell → Option Content) (number : NodeName) (name : NameId) (pairs own : List AttrPair) (left less : ℕ) (kids : List NodeName) (old begun inner new : List SubItem) →
    less ≡ left - 1 → kids ≡ kids_at view number → own ≡ pairs → begun ≡ old ++ item.Begin number name own ∷ [] → ReadsAll view kids less begun inner → new ≡ inner ++ item.Finish ∷ [] →
    ReadsElement view number name pairs left old new
element_read view number name pairs own left less kids old begun inner new is-less is-kids is-own is-begun reads is-new = λ up below rest w.
    let d = w.shallow in
    let read : inner ≡ begun ++ items_of below =
    reads (Some number.0) below (record { told = w.told.1; leaves = w.leaves.0; shallow = omega (arith, d, is-less) }) (is-kids ∙ ap told_kids (w.told.0 facet.Kids)) in
    let first : SubItem = item.Begin number name pairs in
    let opened : begun ≡ old ++ first ∷ [] = is-begun ∙ ap (λ ps. old ++ item.Begin number name ps ∷ []) is-own in
    ap (λ t. t ++ items_of rest) is-new
    ∙ append_assoc inner (item.Finish ∷ []) (items_of rest)
    ∙ ap (λ t. t ++ (item.Finish ∷ items_of rest)) read
    ∙ append_assoc begun (items_of below) (item.Finish ∷ items_of rest)
    ∙ ap (λ t. t ++ (items_of below ++ (item.Finish ∷ items_of rest))) opened
    ∙ append_assoc old (first ∷ []) (items_of below ++ (item.Finish ∷ items_of rest))
