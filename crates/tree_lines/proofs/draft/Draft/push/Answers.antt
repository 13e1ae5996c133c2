use Rattle.std.proofs.lemmas.Str.{IsUtf8-string_bytes}
use Rattle.tree_lines.proofs.Characters.{chars-encode, shown_written}
use Rattle.tree_lines.proofs.draft.Draft.push.Goals as goal

pub returns : goal.returns
returns c =
    shown_written c.push.result _ _ _ _ _ (IsUtf8-string_bytes c.self.inside.text)
    c.self.view_is (chars-encode c.args.character c.ranges.character.0) c.push.ensures.bytes
