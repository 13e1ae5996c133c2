-- The canonical text is written along the cells of a source.
use Rattle.std.proofs.Common.{◌≡◌, ℕ, ◌+◌, ◌-◌, ◌<◌, ◌≤◌, Bool, false, true, List, [], ◌∷◌, ◌++◌, map, drop, length, Option, Some, None, refl, sym, ap, ◌∙◌, subst, arith, append-nil, append_assoc}
use Rattle.std.proofs.lemmas.List.{drop_all}
use Rattle.std.proofs.lemmas.Option.{none-some, same_Some}
use Rattle.std.proofs.lemmas.Grind.{flat_map-append}
use Rattle.serna_kinds.specs.Limits.{depth_limit}
use Rattle.serna_kinds.specs.declared.cells.NodeName.{NodeName}
use Rattle.serna_kinds.specs.declared.cells.NameId.{NameId}
use Rattle.serna_kinds.specs.declared.cells.AttrPair.{AttrPair}
use Rattle.serna_kinds.specs.declared.cells.Cell.{Cell}
use Rattle.serna_kinds.specs.declared.cells.Facet.TheVariants as facet
use Rattle.serna_kinds.specs.Content.{Content}
use Rattle.serna_kinds.specs.Names.{NameParts, Space}
use Rattle.tree_lines.specs.Given.{Given, count_of, without_lines}
use Rattle.tree_lines.specs.Given as given
use Rattle.tree_lines.specs.Canonical.{line_text, text_of_lines, text_line, comment_line, canonical_text}
use Rattle.source_model.specs.Source.{Body, Root, Element, Text, Comment, Forest, none, node, Source, numbers}
use Rattle.source_model.specs.Cells.{named}
use Rattle.source_model.specs.Consistent.{AreLeaves, IsLinked}
use Rattle.source_model.specs.Told.{told_kids, kids_at, AreTold}
use Rattle.source_model.specs.Proper.{depth_of}
use Rattle.source_model.proofs.ToldBack.{part_told}
use Rattle.source_tree.specs.Begun.{begun, numbered}
use Rattle.source_tree.specs.Unnumbered.{unnumbered, below_document, document_of}
use Rattle.source_steps.specs.Taking.{AreWithin}
use Rattle.source_tree.specs.Lines.{forest_text, document_text, Writes, WritesNode, WritesElement, WritesFirst, WritesOutermost, WritesTop, StillToWrite, StillAtTop}
use Rattle.source_steps.specs.Said.{HasBody, Says}
use Rattle.source_tree.specs.Kept.{source_told, IsKept}

-- a tree that is numbered and loses its numbers is as before, but for the numbers of its lines
unnumbered-numbered : (k : ℕ) (g : Given) → unnumbered (numbered k g) ≡ without_lines g
unnumbered-numbered k given.end = refl
unnumbered-numbered k (given.text t rest) = ap (given.text t) (unnumbered-numbered (k + 1) rest)
unnumbered-numbered k (given.comment t rest) = ap (given.comment t) (unnumbered-numbered (k + 1) rest)
unnumbered-numbered k (given.element name attributes line content rest) =
    ap (λ g. given.element name attributes 0 g (unnumbered (numbered (k + 1 + count_of content) rest))) (unnumbered-numbered (k + 1) content)
    ∙ ap (given.element name attributes 0 (without_lines content)) (unnumbered-numbered (k + 1 + count_of content) rest)

pub document_begun : (spaces : List Space) (g : Given) → document_of (begun spaces g) ≡ without_lines g
unfolding begun
document_begun spaces g = unnumbered-numbered 1 g

-- an element's beginning is written, and then what stands behind it
pub begun_then : (beginning content : List (List ℕ)) (old now new rest : List ℕ) → now ≡ old ++ text_of_lines beginning → new ++ rest ≡ now ++ text_of_lines content →
    new ++ rest ≡ old ++ text_of_lines (beginning ++ content)
begun_then beginning content old now new rest begins follows =
    follows ∙ ap (λ t. t ++ text_of_lines content) begins ∙ append_assoc old (text_of_lines beginning) (text_of_lines content)
    ∙ ap (λ t. old ++ t) (sym (flat_map-append line_text beginning content))

-- what stands behind a node
rest_within : (view : Cell → Option Content) (up : Option ℕ) (left n : ℕ) (body : Body) (kids rest : Forest) → AreWithin view up left (node n body kids rest) → AreWithin view up left rest
rest_within view up left n Root kids rest w = absurd w.leaves
rest_within view up left n (Element name attributes) kids rest w =
    let d = w.shallow in
    record { told = w.told.2; leaves = w.leaves.1; shallow = omega (arith, d) }
rest_within view up left n (Text t) kids rest w =
    let d = w.shallow in
    record { told = w.told.2; leaves = w.leaves.1; shallow = omega (arith, d) }
rest_within view up left n (Comment t) kids rest w =
    let d = w.shallow in
    record { told = w.told.2; leaves = w.leaves.1; shallow = omega (arith, d) }

-- one more is written
then_node : (view : Cell → Option Content) (up : Option ℕ) (left : ℕ) (kids : List NodeName) (at : ℕ) (kid : NodeName) (names : List NameParts) (old now new : List ℕ) (forest rest : Forest) →
    drop at kids ≡ kid ∷ drop (at + 1) kids → AreWithin view up left rest → drop at kids ≡ map named (numbers rest) → now ++ forest_text names rest ≡ old ++ forest_text names forest →
    WritesNode view kid left names now new → StillToWrite view up left kids (at + 1) names old new forest
then_node view up left kids at kid names old now new forest none one w next written writes = cc
then_node view up left kids at kid names old now new forest (node n body below rest) one w next written writes =
    let first : kid ∷ drop (at + 1) kids ≡ named n ∷ map named (numbers rest) = sym one ∙ next in
    let same : kid ≡ named n = cc in
    let number : kid.0 ≡ n = ap (λ (k : NodeName). k.0) same in
    let there : AreWithin view up left (node kid.0 body below rest) = subst (λ k. AreWithin view up left (node k body below rest)) (sym number) w in
    record {
      rest = rest;
      within = rest_within view up left n body below rest w;
      next = cc;
      written = writes up body below rest there ∙ ap (λ k. now ++ forest_text names (node k body below rest)) number ∙ written;
    }

pub one_more : (view : Cell → Option Content) (up : Option ℕ) (left : ℕ) (kids : List NodeName) (at : ℕ) (kid : NodeName) (names : List NameParts) (old now new : List ℕ) (forest : Forest) →
    drop at kids ≡ kid ∷ drop (at + 1) kids → StillToWrite view up left kids at names old now forest → WritesNode view kid left names now new →
    StillToWrite view up left kids (at + 1) names old new forest
one_more view up left kids at kid names old now new forest one still writes =
    then_node view up left kids at kid names old now new forest still.rest one still.within still.next still.written writes

-- all are written
none_left : (forest : Forest) → map named (numbers forest) ≡ [] → forest ≡ none
none_left none e = refl
none_left (node n body kids rest) e = cc

pub all_written : (view : Cell → Option Content) (up : Option ℕ) (left : ℕ) (kids : List NodeName) (at : ℕ) (names : List NameParts) (old new : List ℕ) (forest : Forest) → length kids ≤ at →
    StillToWrite view up left kids at names old new forest → new ≡ old ++ forest_text names forest
all_written view up left kids at names old new forest past still =
    let nothing : still.rest ≡ none = none_left still.rest (sym still.next ∙ drop_all at kids past) in
    sym (append-nil new) ∙ ap (λ f. new ++ forest_text names f) (sym nothing) ∙ still.written

-- at the top: one more is written, up to the first element
then_first : (view : Cell → Option Content) (up : Option ℕ) (kids : List NodeName) (at : ℕ) (kid : NodeName) (names : List NameParts) (spaces : List Space) (old now new : List ℕ) (declared : Bool)
    (forest rest : Forest) → drop at kids ≡ kid ∷ drop (at + 1) kids → AreWithin view up depth_limit rest → drop at kids ≡ map named (numbers rest) →
    now ++ document_text names spaces rest ≡ old ++ document_text names spaces forest → WritesFirst view kid names spaces now declared new →
    StillAtTop view up kids (at + 1) names spaces old declared new forest
then_first view up kids at kid names spaces old now new declared forest none one w next written writes = cc
then_first view up kids at kid names spaces old now new declared forest (node n body below rest) one w next written writes =
    let first : kid ∷ drop (at + 1) kids ≡ named n ∷ map named (numbers rest) = sym one ∙ next in
    let same : kid ≡ named n = cc in
    let number : kid.0 ≡ n = ap (λ (k : NodeName). k.0) same in
    let there : AreWithin view up depth_limit (node kid.0 body below rest) = subst (λ k. AreWithin view up depth_limit (node k body below rest)) (sym number) w in
    record {
      rest = rest;
      within = rest_within view up depth_limit n body below rest w;
      next = cc;
      written = writes up body below rest there ∙ ap (λ k. now ++ document_text names spaces (node k body below rest)) number ∙ written;
    }

pub one_more_at_top : (view : Cell → Option Content) (up : Option ℕ) (kids : List NodeName) (at : ℕ) (kid : NodeName) (names : List NameParts) (spaces : List Space) (old now new : List ℕ)
    (declared answer : Bool) (forest : Forest) → answer ≡ declared → drop at kids ≡ kid ∷ drop (at + 1) kids → StillAtTop view up kids at names spaces old false now forest →
    WritesFirst view kid names spaces now answer new → StillAtTop view up kids (at + 1) names spaces old declared new forest
one_more_at_top view up kids at kid names spaces old now new declared answer forest is one still writes =
    subst (λ d. StillAtTop view up kids (at + 1) names spaces old d new forest) is
    (then_first view up kids at kid names spaces old now new answer forest still.rest one still.within still.next still.written writes)

-- all are written, and no element was among them
pub all_before : (view : Cell → Option Content) (up : Option ℕ) (kids : List NodeName) (at : ℕ) (names : List NameParts) (spaces : List Space) (old new : List ℕ) (forest : Forest) → length kids ≤ at →
    StillAtTop view up kids at names spaces old false new forest → new ≡ old ++ document_text names spaces forest
all_before view up kids at names spaces old new forest past still =
    let nothing : still.rest ≡ none = none_left still.rest (sym still.next ∙ drop_all at kids past) in
    sym (append-nil new) ∙ ap (λ f. new ++ document_text names spaces f) (sym nothing) ∙ still.written

-- the first element is written, and then all behind it
pub all_behind : (view : Cell → Option Content) (up : Option ℕ) (kids : List NodeName) (at : ℕ) (names : List NameParts) (spaces : List Space) (old now new : List ℕ) (forest : Forest) →
    StillAtTop view up kids at names spaces old true now forest → Writes view (drop at kids) depth_limit names now new → new ≡ old ++ document_text names spaces forest
all_behind view up kids at names spaces old now new forest still writes = writes up still.rest still.within still.next ∙ still.written

-- what a node's own cells say
own_body : (view : Cell → Option Content) (up : Option ℕ) (left : ℕ) (number : NodeName) (body : Body) (kids rest : Forest) → AreWithin view up left (node number.0 body kids rest) → HasBody view number body
own_body view up left number body kids rest w = record { label = w.told.0 facet.Label; attributes = w.told.0 facet.Attrs; text = w.told.0 facet.Text }

-- where the node's cells are found to say of no node, or of a document node, there is no such node
pub no_node : (view : Cell → Option Content) (number : NodeName) (left : ℕ) (names : List NameParts) (old : List ℕ) → Says view number None → WritesNode view number left names old old
no_node view number left names old says = λ up body kids rest w. absurd (none-some body (says body (own_body view up left number body kids rest w)))

pub no_first : (view : Cell → Option Content) (number : NodeName) (names : List NameParts) (spaces : List Space) (old : List ℕ) → Says view number None → WritesFirst view number names spaces old false old
no_first view number names spaces old says = λ up body kids rest w. absurd (none-some body (says body (own_body view up depth_limit number body kids rest w)))

no_document : (n : ℕ) (body : Body) (kids rest : Forest) → Some Root ≡ Some body → AreLeaves (node n body kids rest) → ⊥
no_document n body kids rest e leaves = subst (λ b. AreLeaves (node n b kids rest)) (sym (same_Some Root body e)) leaves

pub no_document_node : (view : Cell → Option Content) (number : NodeName) (left : ℕ) (names : List NameParts) (old : List ℕ) → Says view number (Some Root) → WritesNode view number left names old old
no_document_node view number left names old says = λ up body kids rest w. absurd (no_document number.0 body kids rest (says body (own_body view up left number body kids rest w)) w.leaves)

pub no_document_first : (view : Cell → Option Content) (number : NodeName) (names : List NameParts) (spaces : List Space) (old : List ℕ) → Says view number (Some Root) →
    WritesFirst view number names spaces old false old
no_document_first view number names spaces old says = λ up body kids rest w. absurd (no_document number.0 body kids rest (says body (own_body view up depth_limit number body kids rest w)) w.leaves)

-- a line, and what follows it
line_then : (line old new rest : List ℕ) → new ≡ old ++ line_text line → new ++ rest ≡ old ++ (line_text line ++ rest)
line_then line old new rest e = ap (λ t. t ++ rest) e ∙ append_assoc old (line_text line) rest

pub text_node : (view : Cell → Option Content) (number : NodeName) (left : ℕ) (names : List NameParts) (old new text : List ℕ) → Says view number (Some (Text text)) →
    new ≡ old ++ line_text (text_line text) → WritesNode view number left names old new
text_node view number left names old new text says e = λ up body kids rest w.
    let is : Text text ≡ body = same_Some (Text text) body (says body (own_body view up left number body kids rest w)) in
    line_then (text_line text) old new (forest_text names rest) e ∙ ap (λ b. old ++ forest_text names (node number.0 b kids rest)) is

pub comment_node : (view : Cell → Option Content) (number : NodeName) (left : ℕ) (names : List NameParts) (old new text : List ℕ) → Says view number (Some (Comment text)) →
    new ≡ old ++ line_text (comment_line text) → WritesNode view number left names old new
comment_node view number left names old new text says e = λ up body kids rest w.
    let is : Comment text ≡ body = same_Some (Comment text) body (says body (own_body view up left number body kids rest w)) in
    line_then (comment_line text) old new (forest_text names rest) e ∙ ap (λ b. old ++ forest_text names (node number.0 b kids rest)) is

pub text_first : (view : Cell → Option Content) (number : NodeName) (names : List NameParts) (spaces : List Space) (old new text : List ℕ) → Says view number (Some (Text text)) →
    new ≡ old ++ line_text (text_line text) → WritesFirst view number names spaces old false new
text_first view number names spaces old new text says e = λ up body kids rest w.
    let is : Text text ≡ body = same_Some (Text text) body (says body (own_body view up depth_limit number body kids rest w)) in
    line_then (text_line text) old new (document_text names spaces rest) e ∙ ap (λ b. old ++ document_text names spaces (node number.0 b kids rest)) is

pub comment_first : (view : Cell → Option Content) (number : NodeName) (names : List NameParts) (spaces : List Space) (old new text : List ℕ) → Says view number (Some (Comment text)) →
    new ≡ old ++ line_text (comment_line text) → WritesFirst view number names spaces old false new
comment_first view number names spaces old new text says e = λ up body kids rest w.
    let is : Comment text ≡ body = same_Some (Comment text) body (says body (own_body view up depth_limit number body kids rest w)) in
    line_then (comment_line text) old new (document_text names spaces rest) e ∙ ap (λ b. old ++ document_text names spaces (node number.0 b kids rest)) is

-- an element stands in front of what stands below it
pub record IsOpened (view : Cell → Option Content) (number : NodeName) (left : ℕ) (kids : List NodeName) (below : Forest) : Type 0 where
  pub some : 0 < left
  pub within : AreWithin view (Some number.0) (left - 1) below
  pub next : kids ≡ map named (numbers below)

opened : (view : Cell → Option Content) (up : Option ℕ) (left : ℕ) (number : NodeName) (name : NameId) (attributes : List AttrPair) (kids : List NodeName) (below rest : Forest) →
    kids ≡ kids_at view number → AreWithin view up left (node number.0 (Element name attributes) below rest) → IsOpened view number left kids below
opened view up left number name attributes kids below rest e w =
    let d = w.shallow in
    record {
      some = omega (arith, d);
      within = record { told = w.told.1; leaves = w.leaves.0; shallow = omega (arith, d) };
      next = e ∙ ap told_kids (w.told.0 facet.Kids);
    }

pub element_node : (view : Cell → Option Content) (number : NodeName) (left : ℕ) (names : List NameParts) (old new : List ℕ) (name : NameId) (attributes : List AttrPair) (kids : List NodeName) →
    Says view number (Some (Element name attributes)) → kids ≡ kids_at view number → WritesElement view name attributes kids left names old new → WritesNode view number left names old new
element_node view number left names old new name attributes kids says e writes = λ up body below rest w.
    let is : Element name attributes ≡ body = same_Some (Element name attributes) body (says body (own_body view up left number body below rest w)) in
    let o : IsOpened view number left kids below = opened view up left number name attributes kids below rest e (subst (λ b. AreWithin view up left (node number.0 b below rest)) (sym is) w) in
    writes (Some number.0) below (unnumbered rest) o.some o.within o.next ∙ ap (λ b. old ++ forest_text names (node number.0 b below rest)) is

pub element_first : (view : Cell → Option Content) (number : NodeName) (names : List NameParts) (spaces : List Space) (old new : List ℕ) (name : NameId) (attributes : List AttrPair) (kids : List NodeName) →
    Says view number (Some (Element name attributes)) → kids ≡ kids_at view number → WritesOutermost view name attributes kids names spaces old new → WritesFirst view number names spaces old true new
element_first view number names spaces old new name attributes kids says e writes = λ up body below rest w.
    let is : Element name attributes ≡ body = same_Some (Element name attributes) body (says body (own_body view up depth_limit number body below rest w)) in
    let o : IsOpened view number depth_limit kids below =
    opened view up depth_limit number name attributes kids below rest e (subst (λ b. AreWithin view up depth_limit (node number.0 b below rest)) (sym is) w) in
    writes (Some number.0) below (unnumbered rest) o.within o.next ∙ ap (λ b. old ++ document_text names spaces (node number.0 b below rest)) is

-- the whole source is written along the cells that tell it
pub source_written : (view : Cell → Option Content) (made : ℕ) (spaces : List Space) (names : List NameParts) (kids : List NodeName) (new : List ℕ) → IsKept view made → kids ≡ kids_at view (named 0) →
    WritesTop view kids names spaces [] new → new ≡ canonical_text names spaces (document_of (source_told view made spaces))
source_written view made spaces names kids new kept is writes =
    let s : Source = source_told view made [] in
    let linked : IsLinked s = kept.linked in
    let whole : AreTold view None s.tree =
    subst (λ (v : Cell → Option Content). AreTold v None s.tree) (λ i cell. sym (kept.cells cell) i) (part_told s None s.tree linked.distinct (λ m spot e. e)) in
    let told : AreTold view None (node 0 Root linked.top none) = subst (AreTold view None) linked.rooted whole in
    let deep = ap depth_of linked.rooted in
    let shallow = linked.shallow in
    writes (Some 0) linked.top (record { told = told.1; leaves = linked.leaves; shallow = omega (arith, deep, shallow) }) (is ∙ ap told_kids (told.0 facet.Kids))
    ∙ ap (λ t. canonical_text names spaces (below_document t)) (sym linked.rooted)
