-- What an accepted input is answered (this project's own): the replies to its script, from the source that its document begins and
-- under its stylesheet.
use Rattle.std.specs.Prelude.{ℕ, List}
use Rattle.plain_editor.specs.Sections.{Sections}
use Rattle.plain_editor.specs.Editor.{opened, replies}

abbrev pub answers : Sections → List ℕ
answers sections = replies sections.style (opened sections.names sections.source) sections.script
