-- What a line says, as the code hands it on.
use Rattle.tree_lines.specs.declared.tags.LineTag.{LineTag}
use Rattle.tree_lines.specs.declared.tags.LineTag.TheVariants as line
use Rattle.tree_lines.specs.Tags.{Tag}
use Rattle.tree_lines.specs.Tags as tag

abbrev pub said : LineTag → Tag
said (line.Begin name) = tag.Begin name.now
said (line.Attribute name value) = tag.Attribute name.now value.now
said (line.Text t) = tag.Text t.now
said (line.Comment t) = tag.Comment t.now
said (line.Finish name) = tag.Finish name.now
