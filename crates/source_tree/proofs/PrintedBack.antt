-- What is printed of a source reads back, and stays so when a prim is applied.
use Rattle.std.proofs.Common.{◌≡◌, ℕ, List, [], ◌∷◌, length, Some, encode_utf8_all, refl, sym, ap, ◌∙◌, subst}
use Rattle.serna_kinds.specs.Names.{NameParts, Space, Grows}
use Rattle.serna_kinds.specs.Texts.{inserted}
use Rattle.serna_kinds.specs.declared.cells.NodeName.{NodeName}
use Rattle.tree_lines.specs.Written.{Written, written_lines}
use Rattle.tree_lines.specs.Documents.{IsDocument}
use Rattle.tree_lines.specs.Tokens.{names_with}
use Rattle.tree_lines.specs.Given as given
use Rattle.tree_lines.specs.Given.{Given, without_lines, IsWhole, spaces_of, given_of}
use Rattle.tree_lines.specs.Writable.{IsText, AreNodes, AreSpaces, IsWritable, ReadsBack}
use Rattle.source_model.specs.Source.{Body, Root, Element, Text, Comment, Forest, none, node, Source}
use Rattle.source_model.specs.Cells.{Spot}
use Rattle.source_model.specs.Changes.{with_characters, with_text, with_kids, inserted_at}
use Rattle.source_model.specs.Proper.{IsProper}
use Rattle.source_primitives.specs.declared.primitive.Primitive.{Primitive}
use Rattle.source_primitives.specs.declared.primitive.Primitive.TheVariants.{InsertText, RemoveText, InsertChild, RemoveChild, SetAttr, RemoveAttr, PutAttr}
use Rattle.source_primitives.specs.declared.primitive.SubItem.{SubItem}
use Rattle.source_primitives.specs.declared.primitive.SubItem.TheVariants as item
use Rattle.source_primitives.specs.Primitives.{applied, MayType, KeepsProper, HasRoom, HasPlace, IsNewLeaf}
use Rattle.source_tree.specs.Begun.{begun}
use Rattle.source_tree.specs.Unnumbered.{unnumbered, below_document, document_of}
use Rattle.source_tree.specs.Printing.{IsPrintable, PutsWritable, PrintsBack}
use Rattle.source_primitives.proofs.Around.{Around, plug, with_body-root, with_kids-root}
use Rattle.source_primitives.proofs.Inside.{Below, spot_text, element_body}
use Rattle.source_primitives.proofs.ProperKept.{below_top, some_items, proper_kept}
use Rattle.source_tree.proofs.WholeDocument.{whole_document}
use Rattle.source_tree.proofs.Printable.{IsText-inserted, writable-plug, IsWritableLeaf, writable-inserted_at}
use Rattle.source_tree.proofs.TextWritten.{document_begun}
use Rattle.source_tree.proofs.BegunSource.{IsProper-begun}
use Rattle.tree_lines.proofs.Limits.{document_whole}
use Rattle.tree_lines.proofs.Said.{document_named}
use Rattle.tree_lines.proofs.Writability.{document_writable}

text_printed : (names : List NameParts) (spaces : List Space) (s : Source) (n place : ℕ) (piece : List ℕ) → IsProper names s → HasRoom s n place (length (encode_utf8_all piece)) →
    IsText piece → AreNodes names spaces (document_of s) → AreNodes names spaces (below_document (with_text n (inserted place piece) s.tree))
text_printed names spaces s n place piece p room more h =
    let text : List ℕ = room.0 in
    let at = spot_text s n text room.1 in
    let b : Below s p.top n (record { up = at.0; body = Text text; kids = at.1 }) = below_top names s p n (record { up = at.0; body = Text text; kids = at.1 }) at.2 (λ bad. cc) in
    let a : Around = b.found.around in
    let f : Forest = node n (Text text) at.1 b.found.rest in
    let g : Forest = node n (Text (inserted place piece text)) at.1 b.found.rest in
    let was : s.tree ≡ node 0 Root (plug a f) none = p.rooted ∙ ap (λ t. node 0 Root t none) b.found.whole in
    let is : with_text n (inserted place piece) s.tree ≡ node 0 Root (plug a g) none =
    ap (with_text n (inserted place piece)) p.rooted ∙ with_body-root n (with_characters (inserted place piece)) p.top b.other ∙ ap (λ u. node 0 Root u none) (b.found.body (with_characters (inserted place piece))) in
    subst (λ t. AreNodes names spaces (below_document t)) (sym is)
    (writable-plug names spaces a f g (λ own. (IsText-inserted text piece place room.2 own.0 more, own.1)) (subst (λ t. AreNodes names spaces (below_document t)) was h))

leaf_printed : (names : List NameParts) (spaces : List Space) (s : Source) (n place m : ℕ) (body : Body) → IsProper names s → HasPlace s n place → IsWritableLeaf body →
    AreNodes names spaces (document_of s) → AreNodes names spaces (below_document (with_kids n (inserted_at place (node m body none none)) s.tree))
leaf_printed names spaces s n place m body p has leaf h =
    let e = element_body has.0.body has.2 in
    let kids : Forest = has.0.kids in
    let spot : Spot = record { up = has.0.up; body = Element e.0 e.1; kids = kids } in
    let b : Below s p.top n spot = below_top names s p n spot (has.1 ∙ ap (λ x. Some (record { up = has.0.up; body = x; kids = kids })) e.2) (λ bad. cc) in
    let a : Around = b.found.around in
    let f : Forest = node n (Element e.0 e.1) kids b.found.rest in
    let g : Forest = node n (Element e.0 e.1) (inserted_at place (node m body none none) kids) b.found.rest in
    let was : s.tree ≡ node 0 Root (plug a f) none = p.rooted ∙ ap (λ t. node 0 Root t none) b.found.whole in
    let is : with_kids n (inserted_at place (node m body none none)) s.tree ≡ node 0 Root (plug a g) none =
    ap (with_kids n (inserted_at place (node m body none none))) p.rooted ∙ with_kids-root n (inserted_at place (node m body none none)) p.top b.other
    ∙ ap (λ u. node 0 Root u none) (b.found.kids (inserted_at place (node m body none none))) in
    subst (λ t. AreNodes names spaces (below_document t)) (sym is)
    (writable-plug names spaces a f g (λ own. (own.0, own.1, own.2, writable-inserted_at names spaces place m body kids leaf own.3, own.4))
    (subst (λ t. AreNodes names spaces (below_document t)) was h))

child_printed : (names : List NameParts) (spaces : List Space) (s : Source) (n : NodeName) (place : ℕ) (items : List SubItem) → IsProper names s → HasPlace s n.0 place → IsNewLeaf s.made items →
    PutsWritable names spaces (InsertChild n place items) → AreNodes names spaces (document_of s) → AreNodes names spaces (document_of (applied (InsertChild n place items) s))
child_printed names spaces s n place [] p has new puts h = absurd new
child_printed names spaces s n place (item.Begin number name attributes ∷ items) p has new puts h = absurd new
child_printed names spaces s n place (item.Text number t ∷ []) p has new puts h = leaf_printed names spaces s n.0 place number.0 (Text t) p has puts.0 h
child_printed names spaces s n place (item.Text number t ∷ x ∷ items) p has new puts h = absurd (some_items x items new.2)
child_printed names spaces s n place (item.Comment number t ∷ []) p has new puts h = leaf_printed names spaces s n.0 place number.0 (Comment t) p has puts.0 h
child_printed names spaces s n place (item.Comment number t ∷ x ∷ items) p has new puts h = absurd (some_items x items new.1)
child_printed names spaces s n place (item.Finish ∷ items) p has new puts h = absurd new

nodes_printed : (names : List NameParts) (spaces : List Space) (s : Source) (prim : Primitive) → IsProper names s → MayType prim s → PutsWritable names spaces prim →
    AreNodes names spaces (document_of s) → AreNodes names spaces (document_of (applied prim s))
nodes_printed names spaces s (InsertText n place piece) p may puts h = text_printed names spaces s n.0 place piece p may puts h
nodes_printed names spaces s (RemoveText n from to) p may puts h = absurd may
nodes_printed names spaces s (InsertChild n place items) p may puts h = child_printed names spaces s n place items p may.0 may.1 puts h
nodes_printed names spaces s (RemoveChild n place) p may puts h = absurd may
nodes_printed names spaces s (SetAttr n name value) p may puts h = absurd may
nodes_printed names spaces s (RemoveAttr n name) p may puts h = absurd may
nodes_printed names spaces s (PutAttr n place name value) p may puts h = absurd may

same_spaces : (s : Source) (prim : Primitive) → (applied prim s).spaces ≡ s.spaces
same_spaces s (InsertText n place piece) = refl
same_spaces s (RemoveText n from to) = refl
same_spaces s (InsertChild n place items) = refl
same_spaces s (RemoveChild n place) = refl
same_spaces s (SetAttr n name value) = refl
same_spaces s (RemoveAttr n name) = refl
same_spaces s (PutAttr n place name value) = refl

pub stays_printable : (names : List NameParts) (s : Source) (prim : Primitive) → IsProper names s → MayType prim s → KeepsProper names prim s → PutsWritable names s.spaces prim → IsPrintable names s →
    IsPrintable names (applied prim s)
stays_printable names s prim p may keeps puts is =
    let same : s.spaces ≡ (applied prim s).spaces = sym (same_spaces s prim) in record {
      whole = whole_document names (applied prim s) (proper_kept names s prim p may keeps);
      nodes = subst (λ spaces. AreNodes names spaces (document_of (applied prim s))) same (nodes_printed names s.spaces s prim p may puts is.nodes);
      declared = subst AreSpaces same is.declared;
    }

-- the lines of a source's document have no numbers
unnumbered_without_lines : (f : Forest) → without_lines (unnumbered f) ≡ unnumbered f
unnumbered_without_lines none = refl
unnumbered_without_lines (node n Root kids rest) = unnumbered_without_lines rest
unnumbered_without_lines (node n (Element name attributes) kids rest) =
    ap (λ g. given.element name attributes 0 g (without_lines (unnumbered rest))) (unnumbered_without_lines kids)
    ∙ ap (given.element name attributes 0 (unnumbered kids)) (unnumbered_without_lines rest)
unnumbered_without_lines (node n (Text text) kids rest) = ap (given.text text) (unnumbered_without_lines rest)
unnumbered_without_lines (node n (Comment text) kids rest) = ap (given.comment text) (unnumbered_without_lines rest)

below_without_lines : (tree : Forest) → without_lines (below_document tree) ≡ below_document tree
below_without_lines none = refl
below_without_lines (node n body kids rest) = unnumbered_without_lines kids

-- what reads back begins a source with the same document
pub prints_back : (names : List NameParts) (s : Source) → ReadsBack names s.spaces (document_of s) → PrintsBack names s
prints_back names s back = record {
  document = back.document;
  built = back.built;
  lines = back.lines;
  declared = back.declared;
  same = λ table grows numbers. document_begun (spaces_of back.document) (given_of table numbers back.document) ∙ back.same table grows numbers ∙ below_without_lines s.tree;
}

-- the numbers of lines have nothing to do with what is written
nodes_without_lines : (names : List NameParts) (spaces : List Space) (g : Given) → AreNodes names spaces g → AreNodes names spaces (without_lines g)
nodes_without_lines names spaces given.end h = tt
nodes_without_lines names spaces (given.text t rest) h = (h.0, nodes_without_lines names spaces rest h.1)
nodes_without_lines names spaces (given.comment t rest) h = (h.0, nodes_without_lines names spaces rest h.1)
nodes_without_lines names spaces (given.element name attributes line content rest) h =
    (h.0, h.1, h.2, nodes_without_lines names spaces content h.3, nodes_without_lines names spaces rest h.4)

-- the source that a document begins
pub begun_printable : (names table : List NameParts) (numbers : List ℕ) (document : Written) → IsDocument document → Grows (names_with names (written_lines document)) table →
    IsPrintable table (begun (spaces_of document) (given_of table numbers document))
unfolding begun
begun_printable names table numbers document is grown =
    let spaces : List Space = spaces_of document in
    let g : Given = given_of table numbers document in
    let whole : IsWhole g = document_whole table numbers document is in
    let read : IsWritable table spaces g = document_writable names table numbers document is grown whole in
    record {
      whole = whole_document table (begun spaces g) (IsProper-begun table spaces g whole (document_named names table numbers document is grown));
      nodes = subst (AreNodes table spaces) (sym (document_begun spaces g)) (nodes_without_lines table spaces g read.nodes);
      declared = read.declared;
    }
