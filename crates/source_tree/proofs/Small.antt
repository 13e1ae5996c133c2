-- The document of the tests, its source, and what may be applied to it.
use Rattle.std.proofs.Common.{◌≡◌, ℕ, zero, suc, ◌<◌, slice_index, List, [], ◌∷◌, length, Some, encode_utf8_all, codes, refl, sym, subst, arith}
use Rattle.std.specs.Str.{chars, is_utf8}
use Rattle.serna_kinds.specs.Limits.{node_limit}
use Rattle.serna_kinds.specs.Names.{NameParts, Space, id_of}
use Rattle.serna_kinds.specs.Qualified.{element_name}
use Rattle.tree_lines.specs.Written.{Written, Attribute}
use Rattle.tree_lines.specs.Written as written
use Rattle.tree_lines.specs.Documents.{IsDocument}
use Rattle.tree_lines.specs.Given.{spaces_of, given_of}
use Rattle.source_model.specs.Source.{Source, Element, none}
use Rattle.source_model.specs.Changes.{text_at}
use Rattle.source_tree.specs.Begun.{begun}
use Rattle.source_primitives.specs.declared.primitive.SubItem.{SubItem}
use Rattle.source_primitives.specs.declared.primitive.SubItem.TheVariants as item
use Rattle.source_primitives.specs.Primitives.{HasPlace, HasRoom, IsNewLeaf}

-- one letter is ASCII
pub one_ascii : (c : ℕ) → c < 128 → (i : ℕ) → slice_index (c ∷ []) i < 128
one_ascii c low zero = low
one_ascii c low (suc i) = omega arith

abbrev attribute : List ℕ → List ℕ → Attribute
attribute name value = record { name = name; value = value }

abbrev pub document : Written
document =
    written.comment (codes "x")
    (written.element (codes "p:e") (attribute (codes "a") (codes "b") ∷ attribute (codes "xmlns:p") (codes "u") ∷ attribute (codes "p:c") (codes "d") ∷ [])
    (written.text (codes "t") (written.element (codes "f") [] written.end written.end)) (written.comment (codes "y") written.end))

pub is_document : IsDocument document
unfolding chars is_utf8 lib.Utf8.encode
is_document = record { top = tt; parted = ((refl, (refl, (refl, tt))), (tt, tt, tt), tt); faultless = refl }

pub begun_text : (table : List NameParts) (spaces : List Space) (numbers : List ℕ) → text_at (begun spaces (given_of table numbers document)) 3 ≡ Some (codes "t")
unfolding begun chars is_utf8 lib.Utf8.encode
begun_text table spaces numbers = refl

pub begun_inner : (table : List NameParts) (spaces : List Space) (numbers : List ℕ) → HasPlace (begun spaces (given_of table numbers document)) 4 0
unfolding begun chars is_utf8 lib.Utf8.encode
begun_inner table spaces numbers = (record { up = Some 2; body = Element (id_of table (element_name (spaces_of document) (codes "f"))) []; kids = none }, refl, tt, omega arith)

pub begun_made : (table : List NameParts) (spaces : List Space) (numbers : List ℕ) → (begun spaces (given_of table numbers document)).made ≡ 5
unfolding begun chars is_utf8 lib.Utf8.encode
begun_made table spaces numbers = refl

room : (source : Source) → text_at source 3 ≡ Some (codes "t") → HasRoom source 3 1 (length (encode_utf8_all (codes "a")))
unfolding lib.Utf8.encode
room source there = (codes "t", there, record { before = codes "t"; behind = []; whole = refl; place = refl }, omega arith)

pub has_room : (source : Source) (piece : List ℕ) → text_at source 3 ≡ Some (codes "t") → piece ≡ codes "a" → HasRoom source 3 1 (length (encode_utf8_all piece))
has_room source piece there is = subst (λ p. HasRoom source 3 1 (length (encode_utf8_all p))) (sym is) (room source there)

pub may_add : (source : Source) (piece : List ℕ) (items : List SubItem) → HasPlace source 4 0 → source.made ≡ 5 → items ≡ item.Comment (record { 0 = 6 }) piece ∷ [] →
    HasPlace source 4 0 × IsNewLeaf source.made items × (source.made < node_limit)
may_add source piece items place made is =
    (place, subst (λ more. IsNewLeaf source.made more) (sym is) (omega (arith, made), refl), omega (arith, made))
