use Rattle.std.proofs.Common.{◌≡◌, ◌++◌}
use Rattle.std.specs.Str.{chars, IsUtf8}
use Rattle.xpath_values.specs.Texts.{translated}
use Rattle.xpath_values.proofs.texts.translate.Given as goal

abbrev pub invariant-loop-character : goal.invariant-loop-character
invariant-loop-character l =
    IsUtf8 l.character-iterator.rest.now
    × (l.outcome ++ translated (chars l.character-iterator.rest.now) (chars l.from) (chars l.to) ≡ translated (chars l.text) (chars l.from) (chars l.to))
