use Rattle.std.proofs.Common.{◌≡◌, IfOk, encode_utf8_all, ap, ◌∙◌, subst}
use Rattle.std.specs.Arc.{arc_value}
use Rattle.tree_lines.specs.Canonical.{canonical_text}
use Rattle.frozen_tree.specs.Frozen.{cells_of}
use Rattle.source_tree.specs.Seen.{SeenTree}
use Rattle.source_tree.specs.Unnumbered.{document_of}
use Rattle.source_tree.specs.Lines.{WritesTop}
use Rattle.source_tree.proofs.TextWritten.{source_written}
use Rattle.source_tree.proofs.tree.SourceTree.lines.Goals as goal

pub returns : goal.returns
returns c =
    let all = subst (λ old. WritesTop (cells_of c.self.inside.cells) c.kids_in-top.result.now c.args.names.now (arc_value c.self.inside.spaces) old c.write_top.new.writer) c.new-writer.ensures
    (subst (λ spaces. WritesTop (cells_of c.self.inside.cells) c.kids_in-top.result.now c.args.names.now spaces c.new-writer.result c.write_top.new.writer) c.deref.ensures c.in_ok-write_top.ensures) in
    let written : c.write_top.new.writer ≡ canonical_text c.args.names.now c.args.self.now.source.spaces (document_of c.args.self.now.source) =
    source_written (cells_of c.self.inside.cells) c.self.inside.made (arc_value c.self.inside.spaces) c.args.names.now c.kids_in-top.result.now c.write_top.new.writer c.self.invariant c.kids_in-top.ensures all
    ∙ ap (λ (t : SeenTree). canonical_text c.args.names.now t.source.spaces (document_of t.source)) c.self.view_is in
    subst (λ text. IfOk c.into_chars.result (λ made. encode_utf8_all made ≡ text)) written c.into_chars.ensures.bytes
