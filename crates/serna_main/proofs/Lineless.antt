-- The numbers of lines show neither in what a stylesheet says nor in a document's source.
use Rattle.std.proofs.Common.{◌≡◌, ℕ, List, [], sym, ap, ◌∙◌}
use Rattle.serna_kinds.specs.Names.{NameParts, Space}
use Rattle.tree_lines.specs.Written.{Written}
use Rattle.tree_lines.specs.Given.{given_of}
use Rattle.tree_lines.proofs.Lineless.{lineless-given_of}
use Rattle.source_tree.specs.Begun.{begun}
use Rattle.source_tree.proofs.Lineless.{begun-lineless}
use Rattle.style_sheet.specs.Styles.{style_of, matched_names}
use Rattle.style_sheet.specs.Built.{is_built}
use Rattle.style_sheet.proofs.Lineless.{is_built-lineless, style_of-lineless, matched_names-lineless}

pub built_lineless : (names : List NameParts) (spaces : List Space) (numbers others : List ℕ) (d : Written)
    → is_built names spaces (given_of names numbers d) ≡ is_built names spaces (given_of names others d)
built_lineless names spaces numbers others d =
    sym (is_built-lineless names spaces (given_of names numbers d)) ∙ ap (is_built names spaces) (lineless-given_of names numbers others d)
    ∙ is_built-lineless names spaces (given_of names others d)

pub style_lineless : (names : List NameParts) (spaces : List Space) (numbers others : List ℕ) (d : Written)
    → style_of names spaces (given_of names numbers d) ≡ style_of names spaces (given_of names others d)
style_lineless names spaces numbers others d =
    sym (style_of-lineless names spaces (given_of names numbers d)) ∙ ap (style_of names spaces) (lineless-given_of names numbers others d)
    ∙ style_of-lineless names spaces (given_of names others d)

pub matched_lineless : (names : List NameParts) (spaces : List Space) (numbers others : List ℕ) (d : Written)
    → matched_names spaces (given_of names numbers d) ≡ matched_names spaces (given_of names others d)
matched_lineless names spaces numbers others d =
    sym (matched_names-lineless spaces (given_of names numbers d)) ∙ ap (matched_names spaces) (lineless-given_of names numbers others d)
    ∙ matched_names-lineless spaces (given_of names others d)

pub begun_lineless : (names : List NameParts) (spaces : List Space) (numbers : List ℕ) (d : Written)
    → begun spaces (given_of names numbers d) ≡ begun spaces (given_of names [] d)
begun_lineless names spaces numbers d =
    sym (begun-lineless spaces (given_of names numbers d)) ∙ ap (begun spaces) (lineless-given_of names numbers [] d)
    ∙ begun-lineless spaces (given_of names [] d)
