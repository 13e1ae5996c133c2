use Rattle.std.proofs.lemmas.Str.{IsUtf8-string_bytes}
use Rattle.tree_lines.proofs.Characters.{shown_written, shown_kept}
use Rattle.tree_lines.proofs.draft.Draft.push_text.Goals as goal

pub returns-clause-ok : goal.returns-clause-ok
returns-clause-ok c = shown_written c.push_str.result _ _ _ _ _ (IsUtf8-string_bytes c.self.inside.text) c.self.view_is c.as_text.ensures.characters c.push_str.ensures.bytes

pub returns-clause-err : goal.returns-clause-err
returns-clause-err c = shown_kept c.push_str.result _ _ _ _ c.self.view_is c.push_str.ensures.bytes
